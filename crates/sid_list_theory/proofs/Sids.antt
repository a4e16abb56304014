-- SIDs of a flat network in containers.
use Rattle.std.proofs.Common.{◌≡◌, inl, inr, ℕ, ◌+◌, ◌-◌, ◌/◌, ◌^◌, ◌<◌, ◌≤◌, List, [], ◌∷◌, ◌++◌, length, map, All, Option, Some, None, refl, sym, ◌∙◌, ap, subst, arith}
use Rattle.std.proofs.lemmas.List.{length-map}
use Rattle.std.proofs.lemmas.List.Elements.{All-head, All-tail, All-map}
use Rattle.v6_addr.specs.Address.{Holds}
use Rattle.v6_addr.proofs.PublicLaws.{Holds_own_value}
use Rattle.srv6_rules.specs.declared.sid.Csid.{Csid}
use Rattle.srv6_rules.specs.declared.sid.Csid.TheVariants.{Plain, Next, Replace}
use Rattle.srv6_rules.specs.Compressed.{csid_of, csid_count, container_of, packed_entry}
use Rattle.srv6_rules.specs.CompressedTerms.{IsReplaceSid, FitIn, IsContainer, IsCsidLen}
use Rattle.srv6_rules.specs.CompressedStepsTerms.{IsEntryOf}
use Rattle.srv6_rules.proofs.PublicLaws.{container_holds, container_address, container_one}
use Rattle.sid_list_spec.specs.SegmentLists.{SidBlock, ListSid, block_len, csid_len, csid_bits, prefix_of, full_value, packed_value, IsFull, IsPacked}
use Rattle.sid_list_theory.specs.SegmentListsTerms.{compression, IsInBlock, SuitsBlock, IsFlatSid}

-- ---- lists

pub all_right : {X : Type 0} (P : X → Type 0) (xs ys : List X) → All P (xs ++ ys) → All P ys
all_right P [] ys all = all
all_right P (x ∷ xs) ys all = all_right P xs ys (All-tail P x (xs ++ ys) all)

pub all_each : {X : Type 0} (P Q : X → Type 0) (xs : List X) → ((x : X) → P x → Q x) → All P xs → All Q xs
all_each P Q xs each all = λ k d below. each _ (all k d below)

-- ---- one SID

-- a SID of a block is in it
pub in_block : (s : ListSid) (b : SidBlock) → IsFlatSid s → s.block ≡ Some b → IsInBlock b s
in_block s b flat e =
    let P : Option SidBlock → Type 0 = λ o. SuitsBlock o s in
    subst P e flat.block

pub len_in : (s : ListSid) (b : SidBlock) → s.block ≡ Some b → block_len s.block ≡ b.prefix.len
len_in s b e = ap block_len e

-- a compressed SID lies in a block of its kind
pub block_of : (s : ListSid) (kind : Csid) → (kind ≡ Plain → ⊥) → IsFlatSid s → s.csid ≡ kind
    → (b : SidBlock) × (s.block ≡ Some b) × (b.kind ≡ kind)
block_of s kind some flat is = by s.block flat.block
  where
    by : (o : Option SidBlock) → SuitsBlock o s → (b : SidBlock) × (o ≡ Some b) × (b.kind ≡ kind)
    by None plain = absurd (some (sym is ∙ plain))
    by (Some b) inside = elim inside.kind [
      | inl plain ↦ absurd (some (sym is ∙ plain))
      | inr same ↦ (b, refl, sym same ∙ is)
    ]

-- ---- full containers

pub fit_in : (b : SidBlock) (room : ℕ) (ss : List ListSid) → All (λ (t : ListSid). t.block ≡ Some b) ss → All IsFlatSid ss
    → csid_bits ss ≤ room → FitIn b.prefix room (map prefix_of ss)
fit_in b room [] one flat fits = tt
fit_in b room (t ∷ ts) one flat fits =
    let e = All-head (λ (t : ListSid). t.block ≡ Some b) t ts one in
    let len = len_in t b e in
    let inside = in_block t b (All-head IsFlatSid t ts flat) e in (
      inside.sid_of,
      omega arith,
      fit_in b (room - (t.prefix.len - b.prefix.len)) ts (All-tail (λ (t : ListSid). t.block ≡ Some b) t ts one)
          (All-tail IsFlatSid t ts flat) (omega arith),
    )

pub full_container : (b : SidBlock) (s : ListSid) (ss : List ListSid) → s.block ≡ Some b → IsFull s ss → All IsFlatSid (s ∷ ss)
    → IsContainer b.prefix (map prefix_of (s ∷ ss))
full_container b s ss e is flat =
    let inside = in_block s b (All-head IsFlatSid s ss flat) e in
    let longer : b.prefix.len < s.prefix.len = inside.sid_of.inside.0 in
    let fits : s.prefix.len + csid_bits ss ≤ 128 = is.fits in
    let P : Option SidBlock → Type 0 = λ o. All (λ (t : ListSid). t.block ≡ o) ss in (
      inside.sid_of,
      omega arith,
      fit_in b (128 - b.prefix.len - (s.prefix.len - b.prefix.len)) ss (subst P e is.one_block)
          (All-tail IsFlatSid s ss flat) (omega arith),
    )

pub full_first : (s t : ListSid) (ts : List ListSid) → IsFull s (t ∷ ts) → s.csid ≡ Next
full_first s t ts is = is.next.0

-- the block of a full container of more than one SID
pub full_block : (s t : ListSid) (ts : List ListSid) → IsFull s (t ∷ ts) → All IsFlatSid (s ∷ t ∷ ts)
    → (b : SidBlock) × (s.block ≡ Some b) × (b.kind ≡ Next)
full_block s t ts is flat = block_of s Next (λ e. cc) (All-head IsFlatSid s (t ∷ ts) flat) (full_first s t ts is)

-- what is left after its first SID
pub full_rest : (s t : ListSid) (ts : List ListSid) → IsFull s (t ∷ ts) → All IsFlatSid (s ∷ t ∷ ts) → IsFull t ts
full_rest s t ts is flat =
    let (b, e, kind) = full_block s t ts is flat in
    let P : ListSid → Type 0 = λ u. u.block ≡ s.block in
    let Q : ListSid → Type 0 = λ u. u.block ≡ t.block in
    let same : t.block ≡ s.block = All-head P t ts is.one_block in
    let from = in_block s b (All-head IsFlatSid s (t ∷ ts) flat) e in
    let longer : b.prefix.len < s.prefix.len = from.sid_of.inside.0 in
    let len = len_in t b (same ∙ e) in
    let fits : s.prefix.len + (csid_len t + csid_bits ts) ≤ 128 = is.fits in
    record {
      one_block = all_each P Q ts (λ u h. h ∙ sym same) (All-tail P t ts is.one_block);
      next = is.next.1;
      fits = omega arith;
    }

pub full_value_law : (b : SidBlock) (s : ListSid) (ss : List ListSid) → s.block ≡ Some b
    → full_value s ss ≡ container_of b.prefix.len (map prefix_of (s ∷ ss))
full_value_law b s ss e = ap (λ n. container_of n (map prefix_of (s ∷ ss))) (len_in s b e)

pub full_one : (s : ListSid) → full_value s [] ≡ s.prefix.value
full_one s = container_one (block_len s.block) s.prefix

-- its value lies in its first SID's prefix, and is an address
pub full_holds : (s : ListSid) (ss : List ListSid) → IsFull s ss → All IsFlatSid (s ∷ ss) → Holds s.prefix (full_value s ss)
full_holds s [] is flat =
    let P : ℕ → Type 0 = λ n. Holds s.prefix n in
    subst P (sym (full_one s)) (Holds_own_value s.prefix)
full_holds s (t ∷ ts) is flat =
    let (b, e, kind) = full_block s t ts is flat in
    let P : ℕ → Type 0 = λ n. Holds s.prefix n in
    subst P (sym (full_value_law b s (t ∷ ts) e))
    (container_holds b.prefix s.prefix (map prefix_of (t ∷ ts)) (full_container b s (t ∷ ts) e is flat))

pub full_address : (s : ListSid) (ss : List ListSid) → IsFull s ss → All IsFlatSid (s ∷ ss) → full_value s ss < 2 ^ 128
full_address s [] is flat =
    let P : ℕ → Type 0 = λ n. n < 2 ^ 128 in
    let prefix = (All-head IsFlatSid s [] flat).prefix in
    subst P (sym (full_one s)) prefix.1
full_address s (t ∷ ts) is flat =
    let (b, e, kind) = full_block s t ts is flat in
    let P : ℕ → Type 0 = λ n. n < 2 ^ 128 in
    subst P (sym (full_value_law b s (t ∷ ts) e))
    (container_address b.prefix s.prefix (map prefix_of (t ∷ ts)) (full_container b s (t ∷ ts) e is flat))

-- ---- REPLACE containers

pub replace_sid : (s : ListSid) (b : SidBlock) → IsFlatSid s → s.block ≡ Some b → b.kind ≡ Replace
    → IsReplaceSid b.prefix b.csid_len s.prefix
replace_sid s b flat e kind = (in_block s b flat e).packed kind

replace_sids : (b : SidBlock) (ss : List ListSid) → All (λ (t : ListSid). t.block ≡ Some b) ss → All IsFlatSid ss → b.kind ≡ Replace
    → All (λ (t : ListSid). IsReplaceSid b.prefix b.csid_len t.prefix) ss
replace_sids b ss one flat kind = λ k d below. replace_sid _ b (flat k d below) (one k d below) kind

-- as long CSIDs as the block's
pub width_in : (s : ListSid) (b : SidBlock) → IsFlatSid s → s.block ≡ Some b → b.kind ≡ Replace → csid_len s ≡ b.csid_len
width_in s b flat e kind =
    let len : s.prefix.len ≡ b.prefix.len + b.csid_len = (replace_sid s b flat e kind).len in
    let own = len_in s b e in
    omega arith

-- the entry that holds the CSIDs of a container, at one of its SIDs
pub packed_entry_law : (b : SidBlock) (s : ListSid) (sids : List ListSid) → IsFlatSid s → s.block ≡ Some b → b.kind ≡ Replace
    → IsPacked (Some b) sids → All IsFlatSid sids
    → IsEntryOf (compression s) b.prefix (map prefix_of sids) (packed_value (Some b) sids)
packed_entry_law b s sids flat e kind is all =
    let width = width_in s b flat e kind in
    let each = replace_sids b sids is.one_block all kind in
    let few : length sids ≤ csid_count b.csid_len = is.few in
    let P : ℕ → Type 0 = λ n. All (λ p. IsReplaceSid b.prefix n p) (map prefix_of sids) in
    let Q : ℕ → Type 0 = λ n. length (map prefix_of sids) ≤ csid_count n in
    let csids : List ℕ = map (csid_of b.prefix.len) (map prefix_of sids) in
    record {
      block_len = len_in s b e;
      each = subst P (sym width) (All-map (λ p. IsReplaceSid b.prefix b.csid_len p) prefix_of sids each);
      few = subst Q (sym width) (subst (λ (n : ℕ). n ≤ csid_count b.csid_len) (sym (length-map sids prefix_of)) few);
      packed = ap (λ n. packed_entry n csids) (sym width);
    }

-- an entry has room for CSIDs
pub count_positive : (w : ℕ) → IsCsidLen w → 0 < csid_count w
count_positive w (inl e) = let is : csid_count w ≡ 8 = ap (λ n. 128 / n) e in omega arith
count_positive w (inr e) = let is : csid_count w ≡ 4 = ap (λ n. 128 / n) e in omega arith
