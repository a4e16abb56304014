-- REPLACE containers read back from their values: at each place stands the CSID of the SID there.
use Rattle.std.proofs.Common.{◌≡◌, ℕ, zero, suc, ◌+◌, ◌-◌, ◌*◌, ◌/◌, ◌^◌, ◌<◌, ◌≤◌, List, [], ◌∷◌, length, map, get_or, All, Some, slice_get, refl, sym, ◌∙◌, ap, subst, arith}
use Rattle.std.specs.Prelude.{◌≢◌}
use Rattle.std.proofs.lemmas.Nat.{mod_below, pow_pos}
use Rattle.std.proofs.lemmas.List.{length-map}
use Rattle.std.proofs.lemmas.List.Elements.{All-nil, All-cons, All-head, All-tail}
use Rattle.v6_addr.specs.Address.{PrefixValue, field_of}
use Rattle.v6_addr.specs.AddressTerms.{IsPrefix}
use Rattle.v6_addr.proofs.PublicLaws.{Holds_longer, Holds_own_value, same_value}
use Rattle.srv6_rules.specs.Compressed.{csid_at, csid_count, csid_of, packed_entry}
use Rattle.srv6_rules.specs.CompressedTerms.{IsCsidLen, IsReplaceSid}
use Rattle.srv6_rules.proofs.PublicLaws.{entry_csid}
use Rattle.net_model.specs.Network.{Network}
use Rattle.sid_list_spec.specs.SegmentLists.{ListSid, SidBlock, prefix_of}
use Rattle.sid_list_theory.specs.SegmentListsTerms.{IsFlatSid}
use Rattle.sid_list_theory.proofs.Sids.{replace_sid}
use Rattle.list_pack.specs.SidLists.{list_sid}
use Rattle.segment_reading.specs.Readings.{HasCsid, IsPackedAt}
use Rattle.segment_reading.proofs.ReadingFull.{prefix_same}

-- ---- a prefix by its CSID

pub csid_same : (block : PrefixValue) (width csid : ℕ) (p q : PrefixValue) → IsPrefix p → IsPrefix q → HasCsid block width csid p
    → HasCsid block width csid q → p ≡ q
csid_same block width csid p q prefix_p prefix_q has also =
    let long : p.len ≡ block.len + width = has.len in
    let wide : p.len - block.len ≡ width = let e = has.len in omega (arith, e) in
    let other : q.len - block.len ≡ width = let e = also.len in omega (arith, e) in
    let same : csid_of block.len q ≡ csid_of block.len p = also.value ∙ sym has.value in
    let fields : field_of q.value block.len width ≡ field_of p.value block.len width
    = ap (field_of q.value block.len) (sym other) ∙ same ∙ ap (field_of p.value block.len) wide in
    let held = Holds_longer block p q.value width (sym long) prefix_p.0 also.inside.1 has.inside.1 fields in
    let len : p.len ≡ q.len = has.len ∙ sym also.len in
    prefix_same p q (same_value p q q.value prefix_p prefix_q len held (Holds_own_value q)) len

-- a CSID is as long as its block says
csid_fits : (block : PrefixValue) (width : ℕ) (p : PrefixValue) → IsReplaceSid block width p → csid_of block.len p < 2 ^ width
unfolding field_of
csid_fits block width p is =
    let wide : p.len - block.len ≡ width = let e = is.len in omega (arith, e) in
    subst (λ (n : ℕ). csid_of block.len p < 2 ^ n) wide
    (mod_below (p.value / 2 ^ (128 - block.len - (p.len - block.len))) (2 ^ (p.len - block.len)) (pow_pos (p.len - block.len)))

csids_fit : (block : PrefixValue) (width : ℕ) (ps : List PrefixValue) → All (λ (p : PrefixValue). IsReplaceSid block width p) ps
    → All (λ (c : ℕ). c < 2 ^ width) (map (csid_of block.len) ps)
csids_fit block width [] all = All-nil (λ (c : ℕ). c < 2 ^ width)
csids_fit block width (p ∷ ps) all =
    All-cons (λ (c : ℕ). c < 2 ^ width) (csid_of block.len p) (map (csid_of block.len) ps)
    (csid_fits block width p (All-head (λ (p : PrefixValue). IsReplaceSid block width p) p ps all))
    (csids_fit block width ps (All-tail (λ (p : PrefixValue). IsReplaceSid block width p) p ps all))

-- ---- lists of SIDs and of prefixes

pub prefixes_back : (net : Network) (ps : List PrefixValue) → map prefix_of (map (list_sid net) ps) ≡ ps
prefixes_back net [] = refl
prefixes_back net (p ∷ ps) = ap (λ (qs : List PrefixValue). p ∷ qs) (prefixes_back net ps)

module _ (net : Network) (b : SidBlock) (sids : List PrefixValue) (entry : ℕ) (is : IsPackedAt net b sids entry) where
  abbrev csids : List ℕ
  csids = map (csid_of b.prefix.len) sids

  -- each is a SID of the block
  pub packed_sids : All (λ (p : PrefixValue). IsReplaceSid b.prefix b.csid_len p) sids
  packed_sids = by sids is.packed.one_block is.flat
    where
      by : (ps : List PrefixValue) → All (λ (t : ListSid). t.block ≡ Some b) (map (list_sid net) ps)
          → All IsFlatSid (map (list_sid net) ps) → All (λ (p : PrefixValue). IsReplaceSid b.prefix b.csid_len p) ps
      by [] one flat = All-nil (λ (p : PrefixValue). IsReplaceSid b.prefix b.csid_len p)
      by (p ∷ ps) one flat =
          All-cons (λ (p : PrefixValue). IsReplaceSid b.prefix b.csid_len p) p ps
          (replace_sid (list_sid net p) b (All-head IsFlatSid (list_sid net p) (map (list_sid net) ps) flat)
          (All-head (λ (t : ListSid). t.block ≡ Some b) (list_sid net p) (map (list_sid net) ps) one) is.kind)
          (by ps (All-tail (λ (t : ListSid). t.block ≡ Some b) (list_sid net p) (map (list_sid net) ps) one)
          (All-tail IsFlatSid (list_sid net p) (map (list_sid net) ps) flat))

  pub packed_few : length sids ≤ csid_count b.csid_len
  packed_few = let few = is.packed.few in let count = length-map sids (list_sid net) in omega (arith, few, count)

  packed_is : entry ≡ packed_entry b.csid_len csids
  packed_is =
      sym is.value ∙ ap (λ (ps : List PrefixValue). packed_entry b.csid_len (map (csid_of b.prefix.len) ps)) (prefixes_back net sids)

  -- the CSID at a place
  pub packed_csid : (place : ℕ) → IsCsidLen b.csid_len → place < csid_count b.csid_len
      → field_of entry ((csid_count b.csid_len - 1 - place) * b.csid_len) b.csid_len ≡ get_or csids place 0
  unfolding csid_at
  packed_csid place len below =
      let few : length csids ≤ csid_count b.csid_len =
      let f = packed_few in let count = length-map sids (csid_of b.prefix.len) in omega (arith, f, count) in
      ap (λ (e : ℕ). field_of e ((csid_count b.csid_len - 1 - place) * b.csid_len) b.csid_len) packed_is
      ∙ entry_csid b.csid_len csids place len (csids_fit b.prefix b.csid_len sids packed_sids) few below

-- at a place of a SID its CSID, and 0 at the others
pub csid_there : (f : PrefixValue → ℕ) (sids : List PrefixValue) (place : ℕ) (p : PrefixValue) → slice_get sids place ≡ Some p
    → get_or (map f sids) place 0 ≡ f p
csid_there f [] place p e = absurd (cc)
csid_there f (q ∷ sids) zero p e = let same : q ≡ p = cc in ap f same
csid_there f (q ∷ sids) (suc place) p e = csid_there f sids place p e

pub csid_past : (f : PrefixValue → ℕ) (sids : List PrefixValue) (place : ℕ) → length sids ≤ place → get_or (map f sids) place 0 ≡ 0
csid_past f [] place h = refl
csid_past f (q ∷ sids) zero h = absurd (omega (arith, h))
csid_past f (q ∷ sids) (suc place) h = csid_past f sids place (omega (arith, h))

-- ---- one container of a value

abbrev IsOf : PrefixValue → ℕ → PrefixValue → Type 0
IsOf block width p = IsPrefix p × HasCsid block width (csid_of block.len p) p × (csid_of block.len p ≢ 0)

sids_same : (block : PrefixValue) (width count : ℕ) (ps qs : List PrefixValue) → All (IsOf block width) ps → All (IsOf block width) qs
    → length ps ≤ count → length qs ≤ count
    → ((place : ℕ) → place < count → get_or (map (csid_of block.len) ps) place 0 ≡ get_or (map (csid_of block.len) qs) place 0)
    → ps ≡ qs
sids_same block width count [] [] of also few less same = refl
sids_same block width count [] (q ∷ qs) of also few less same =
    absurd ((All-head (IsOf block width) q qs also).2 (sym (same 0 (omega (arith, less)))))
sids_same block width count (p ∷ ps) [] of also few less same =
    absurd ((All-head (IsOf block width) p ps of).2 (same 0 (omega (arith, few))))
sids_same block width count (p ∷ ps) (q ∷ qs) of also few less same =
    let one = All-head (IsOf block width) p ps of in
    let two = All-head (IsOf block width) q qs also in
    let csid : csid_of block.len p ≡ csid_of block.len q = same 0 (omega (arith, few)) in
    let e = csid_same block width (csid_of block.len p) p q one.0 two.0 one.1
    (subst (λ (n : ℕ). HasCsid block width n q) (sym csid) two.1) in
    let rest = sids_same block width (count - 1) ps qs (All-tail (IsOf block width) p ps of) (All-tail (IsOf block width) q qs also)
    (omega (arith, few)) (omega (arith, less))
    (λ place h. same (suc place) (omega (arith, h))) in
    ap (λ (x : PrefixValue). x ∷ ps) e ∙ ap (λ (xs : List PrefixValue). q ∷ xs) rest

-- what a SID of a REPLACE block is
pub has_own : (block : PrefixValue) (width : ℕ) (p : PrefixValue) → IsReplaceSid block width p
    → HasCsid block width (csid_of block.len p) p
has_own block width p is = record { inside = is.sid_of.inside; len = is.len; value = refl }

are_of : (block : PrefixValue) (width : ℕ) (ps : List PrefixValue) → All (λ (p : PrefixValue). IsReplaceSid block width p) ps
    → All (IsOf block width) ps
are_of block width [] all = All-nil (IsOf block width)
are_of block width (p ∷ ps) all =
    let is = All-head (λ (p : PrefixValue). IsReplaceSid block width p) p ps all in
    All-cons (IsOf block width) p ps (is.sid_of.prefix, has_own block width p is, is.sid_of.some)
    (are_of block width ps (All-tail (λ (p : PrefixValue). IsReplaceSid block width p) p ps all))

module _ (net : Network) (b : SidBlock) where
  pub packed_same : (ps qs : List PrefixValue) (entry : ℕ) → IsCsidLen b.csid_len → IsPackedAt net b ps entry → IsPackedAt net b qs entry
      → ps ≡ qs
  packed_same ps qs entry len is also =
      sids_same b.prefix b.csid_len (csid_count b.csid_len) ps qs (are_of b.prefix b.csid_len ps (packed_sids net b ps entry is))
      (are_of b.prefix b.csid_len qs (packed_sids net b qs entry also)) (packed_few net b ps entry is) (packed_few net b qs entry also)
      (λ place h. sym (packed_csid net b ps entry is place len h) ∙ packed_csid net b qs entry also place len h)

  pub packed_width : (p : PrefixValue) (ps : List PrefixValue) (entry : ℕ) → IsPackedAt net b (p ∷ ps) entry → IsCsidLen b.csid_len
  packed_width p ps entry is =
      (All-head (λ (p : PrefixValue). IsReplaceSid b.prefix b.csid_len p) p ps (packed_sids net b (p ∷ ps) entry is)).csid
