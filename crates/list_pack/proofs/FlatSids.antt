-- The SIDs of a flat network as lists know them.
use Rattle.std.proofs.Common.{◌≡◌, ◌⊎◌, inl, inr, ℕ, zero, suc, ◌+◌, ◌<◌, ◌≤◌, Bool, true, false, ◌==◌, ◌&&◌, if◌then◌else◌, List, [], ◌∷◌, length, Option, Some, None, refl, sym, ◌∙◌, ap, subst, arith}
use Rattle.std.specs.List.{filter, slice_get}
use Rattle.std.specs.Option.{option_map}
use Rattle.std.proofs.lemmas.Bool.{and_parts, and_from, eqb-true, eq-eqb, ne_eqb}
use Rattle.std.proofs.lemmas.Option.{slice_get-get_or}
use Rattle.v6_addr.specs.Address.{PrefixValue, IsInside}
use Rattle.srv6_rules.specs.declared.sid.Csid.{Csid}
use Rattle.srv6_rules.specs.declared.sid.Csid.TheVariants.{Plain, Next, Replace}
use Rattle.srv6_rules.specs.declared.sid.SidEntry.{SidEntry}
use Rattle.srv6_rules.specs.Behaviours.{goes_on}
use Rattle.srv6_rules.specs.CompressedTerms.{IsSidOf, IsCsidLen}
use Rattle.net_model.specs.declared.limits.TheConstants.{SHORT_CSID, LONG_CSID, MAX_BLOCK_LEN}
use Rattle.net_model.specs.declared.parts.Block.{Block}
use Rattle.net_model.specs.declared.parts.BlockKind.{BlockKind}
use Rattle.net_model.specs.declared.parts.BlockKind.TheVariants as kinds
use Rattle.net_model.specs.Network.{Network}
use Rattle.net_model.specs.NetworkRules.{same_prefix, block_of, block_len_of}
use Rattle.net_model.specs.NetworkRulesTerms.{IsNetwork}
use Rattle.net_model.specs.NetworkKeeps as keeps
use Rattle.net_model.specs.NetworkKeeps.{Keeps, KeepsBlock, IsBlockOf}
use Rattle.net_flatness.specs.Flat.{IsFlat}
use Rattle.net_model.proofs.PublicLaws.{keeps_from_network, block_of_is, sid_not_next}
use Rattle.net_flatness.proofs.PublicLaws.{sid_replace_len, sid_some_csid, one_flavour}
use Rattle.sid_list_spec.specs.SegmentLists.{SidBlock, block_len}
use Rattle.sid_list_theory.specs.SegmentListsTerms.{IsInBlock, SuitsBlock, IsFlatSid}
use Rattle.sid_list_theory.specs.ListPlaces.{StandsOn}
use Rattle.list_pack.specs.SidLists.{kind_csid, sid_block, either_csid, csid_among, on_prefix, going_on, csid_on, prefix_csid, list_sid}
use Rattle.list_pack.specs.SidListsTerms.{AreListSids}
use Rattle.list_pack.proofs.SidLoops.{going_skip, going_take}

-- ---- one prefix

pub same_self : (p : PrefixValue) → same_prefix p p ≡ true
same_self p = and_from (p.value == p.value) (p.len == p.len) (eq-eqb p.value p.value refl) (eq-eqb p.len p.len refl)

pub same_is : (p q : PrefixValue) → same_prefix p q ≡ true → p ≡ q
same_is p q e =
    let both = and_parts (p.value == q.value) (p.len == q.len) e in
    ap (λ (v : ℕ). record { value = v; len = p.len }) (eqb-true p.value q.value both.0)
    ∙ ap (λ (l : ℕ). record { value = q.value; len = l }) (eqb-true p.len q.len both.1)

-- ---- the SIDs on a prefix

Each : (SidEntry → Type 0) → List SidEntry → Type 0
Each P [] = Unit {0}
Each P (x ∷ xs) = P x × Each P xs

each_filter : (P Q : SidEntry → Type 0) (test : SidEntry → Bool) (xs : List SidEntry) → ((x : SidEntry) → P x → test x ≡ true → Q x)
    → Each P xs → Each Q (filter test xs)
unfolding Each
each_filter P Q test [] step all = tt
each_filter P Q test (x ∷ xs) step all = by (each_filter P Q test xs step all.1) (test x) refl
  where
    by : Each Q (filter test xs) → (b : Bool) → test x ≡ b → Each Q (if b then x ∷ filter test xs else filter test xs)
    by rest true e = (step x all.0 e, rest)
    by rest false e = rest

each_number : (P : SidEntry → Type 0) (xs : List SidEntry) → ((n : ℕ) (x : SidEntry) → slice_get xs n ≡ Some x → P x) → Each P xs
unfolding Each
each_number P [] all = tt
each_number P (x ∷ xs) all = (all 0 x refl, each_number P xs (λ n y e. all (suc n) y e))

-- a flavour among SIDs is that of one of them, or they have none
among_has : (P : Csid → Type 0) (xs : List SidEntry) → P Plain → Each (λ x. P x.csid) xs → P (csid_among xs)
unfolding Each
among_has P [] none all = none
among_has P (x ∷ xs) none all = by (among_has P xs none all.1) x.csid all.0
  where
    by : P (csid_among xs) → (c : Csid) → P c → P (either_csid c (csid_among xs))
    by rest Plain one = rest
    by rest Next one = one
    by rest Replace one = one

on_has : (P : Csid → Type 0) (xs : List SidEntry) → P Plain → Each (λ x. P x.csid) xs → P (csid_on xs)
on_has P xs none all =
    let going : Each (λ x. P x.csid) (going_on xs) = each_filter (λ x. P x.csid) (λ x. P x.csid) goes_on xs (λ x p e. p) all in
    by (length (going_on xs) == 0) (among_has P xs none all) (among_has P (going_on xs) none going)
  where
    by : (b : Bool) → P (csid_among xs) → P (csid_among (going_on xs)) → P (if b then csid_among xs else csid_among (going_on xs))
    by true one other = one
    by false one other = other

-- all SIDs of one flavour
among_one : (c : Csid) (x : SidEntry) (xs : List SidEntry) → Each (λ y. y.csid ≡ c) (x ∷ xs) → csid_among (x ∷ xs) ≡ c
unfolding Each
among_one c x xs all = ap (λ (k : Csid). either_csid k (csid_among xs)) all.0 ∙ by c all.1
  where
    by : (k : Csid) → Each (λ y. y.csid ≡ k) xs → either_csid k (csid_among xs) ≡ k
    by Plain same = among_has (λ k. k ≡ Plain) xs refl same
    by Next same = refl
    by Replace same = refl

among_some : (c : Csid) (xs : List SidEntry) → 0 < length xs → Each (λ y. y.csid ≡ c) xs → csid_among xs ≡ c
among_some c [] some all = absurd (omega (arith, some))
among_some c (x ∷ xs) some all = among_one c x xs all

-- a SID on the prefix from which packets go on is there
some_goer : (p : PrefixValue) (xs : List SidEntry) (n : ℕ) (s : SidEntry) → slice_get xs n ≡ Some s
    → (same_prefix s.prefix p && goes_on s) ≡ true → 0 < length (going_on (on_prefix xs p))
some_goer p [] n s at e = absurd (cc)
some_goer p (x ∷ xs) zero s at e =
    let same : x ≡ s = cc in
    let own : (same_prefix x.prefix p && goes_on x) ≡ true = ap (λ (y : SidEntry). same_prefix y.prefix p && goes_on y) same ∙ e in
    subst (λ (ys : List SidEntry). 0 < length ys) (sym (going_take p x xs own)) (omega arith)
some_goer p (x ∷ xs) (suc n) s at e = by (some_goer p xs n s at e) (same_prefix x.prefix p && goes_on x) refl
  where
    by : 0 < length (going_on (on_prefix xs p)) → (b : Bool) → (same_prefix x.prefix p && goes_on x) ≡ b
        → 0 < length (going_on (on_prefix (x ∷ xs) p))
    by rest true own = subst (λ (ys : List SidEntry). 0 < length ys) (sym (going_take p x xs own)) (omega arith)
    by rest false own = subst (λ (ys : List SidEntry). 0 < length ys) (sym (going_skip p x xs own)) rest

goers_flavour : (ss : List SidEntry) (c : Csid) → 0 < length (going_on ss) → csid_among (going_on ss) ≡ c → csid_on ss ≡ c
goers_flavour ss c some e =
    ap (λ (b : Bool). if b then csid_among ss else csid_among (going_on ss))
    (ne_eqb (length (going_on ss)) 0 (λ z. omega (arith, some, z))) ∙ e

-- what holds of the flavours of all SIDs on a prefix holds of the prefix's
pub prefix_has : (net : Network) (p : PrefixValue) (P : Csid → Type 0) → P Plain
    → ((n : ℕ) (t : SidEntry) → slice_get net.sids n ≡ Some t → t.prefix ≡ p → P t.csid) → P (prefix_csid net p)
prefix_has net p P none all =
    on_has P (on_prefix net.sids p) none
    (each_filter (λ t. (t.prefix ≡ p) → P t.csid) (λ t. P t.csid) (λ t. same_prefix t.prefix p) net.sids
    (λ t holds e. holds (same_is t.prefix p e)) (each_number (λ t. (t.prefix ≡ p) → P t.csid) net.sids all))

-- ---- in a flat network

-- a block of the network keeps the rules
block_kept : (net : Network) (p : PrefixValue) (b : Block) → Keeps net → block_of net.blocks p ≡ Some b
    → KeepsBlock b × IsInside p b.prefix
block_kept net p b kept e =
    let is : IsBlockOf net.blocks p (Some b) = subst (λ (o : Option Block). IsBlockOf net.blocks p o) e (block_of_is net.blocks p) in
    let there = is.0 in
    (kept.block there.0 b (slice_get-get_or net.blocks there.0 b there.1 ∙ ap (λ (x : Block). Some x) there.2), is.1)

csid_len : (n : ℕ) → (n ≡ SHORT_CSID) ⊎ (n ≡ LONG_CSID) → IsCsidLen n
csid_len n (inl e) = inl e
csid_len n (inr e) = inr e

csid_short : (n : ℕ) → (n ≡ SHORT_CSID) ⊎ (n ≡ LONG_CSID) → n ≤ 32
csid_short n (inl e) = omega (arith, e)
csid_short n (inr e) = omega (arith, e)

-- the flavour of a SID is that of its block, if it has one
abbrev IsOf : Option Block → Csid → Type 0
IsOf None c = c ≡ Plain
IsOf (Some b) c = (c ≡ Plain) ⊎ (c ≡ kind_csid b.kind)

some_block : (b d : Block) → Some b ≡ Some d → b ≡ d
some_block b d e = cc

flavour_of : (s : SidEntry) (o : Option Block) (c : Csid) → keeps.SuitsBlock c s o → IsOf o c
flavour_of s None Plain h = refl
flavour_of s (Some b) Plain h = inl refl
flavour_of s None Next h = absurd (let e : None ≡ Some h.0 = h.1 in cc)
flavour_of s (Some b) Next h =
    inr (sym (ap (λ (d : Block). kind_csid d.kind) (some_block b h.0 h.1) ∙ ap kind_csid h.2))
flavour_of s None Replace h = absurd (let e : None ≡ Some h.0 = h.1 in cc)
flavour_of s (Some b) Replace h =
    inr (sym (ap (λ (d : Block). kind_csid d.kind) (some_block b h.0 h.1) ∙ ap kind_csid h.2))

prefix_of : (net : Network) (p : PrefixValue) → IsNetwork net → IsOf (block_of net.blocks p) (prefix_csid net p)
prefix_of net p rules =
    let kept = keeps_from_network net rules in
    prefix_has net p (IsOf (block_of net.blocks p)) (none (block_of net.blocks p))
    (λ n t at same. subst (λ (q : PrefixValue). IsOf (block_of net.blocks q) t.csid) same
    (flavour_of t (block_of net.blocks t.prefix) t.csid (kept.sid n t at).csid))
  where
    none : (o : Option Block) → IsOf o Plain
    none None = refl
    none (Some b) = inl refl

kind_replace : (k : BlockKind) → kind_csid k ≡ Replace → k ≡ kinds.Replace
kind_replace kinds.Next e = absurd (cc)
kind_replace kinds.Replace e = refl

in_block_law : (net : Network) (n : ℕ) (s : SidEntry) (b : Block) → IsNetwork net → IsFlat net → slice_get net.sids n ≡ Some s
    → block_of net.blocks s.prefix ≡ Some b → IsInBlock (sid_block b) (list_sid net s.prefix)
in_block_law net n s b rules flat at own =
    let kept = keeps_from_network net rules in
    let block = block_kept net s.prefix b kept own in
    let sid : IsSidOf b.prefix s.prefix =
    record { prefix = (kept.sid n s at).prefix; inside = block.1; some = sid_some_csid net n s b flat at own } in
    let most : b.prefix.len ≤ MAX_BLOCK_LEN = block.0.at_most in
    record {
      sid_of = sid;
      kind = subst (λ (o : Option Block). IsOf o (prefix_csid net s.prefix)) own (prefix_of net s.prefix rules);
      packed = λ e.
          let len : s.prefix.len ≡ b.prefix.len + b.csid = sid_replace_len net n s b flat at own (kind_replace b.kind e) in
          let few = csid_short b.csid block.0.csid in
          record { sid_of = sid; len = len; csid = csid_len b.csid block.0.csid; behind = omega (arith, len, few, most) };
    }

flat_sid : (net : Network) (n : ℕ) (s : SidEntry) → IsNetwork net → IsFlat net → slice_get net.sids n ≡ Some s
    → IsFlatSid (list_sid net s.prefix)
flat_sid net n s rules flat at =
    record { prefix = ((keeps_from_network net rules).sid n s at).prefix; block = by (block_of net.blocks s.prefix) refl }
  where
    by : (o : Option Block) → block_of net.blocks s.prefix ≡ o → SuitsBlock (option_map sid_block o) (list_sid net s.prefix)
    by None own = subst (λ (o : Option Block). IsOf o (prefix_csid net s.prefix)) own (prefix_of net s.prefix rules)
    by (Some b) own = in_block_law net n s b rules flat at own

stands_on : (net : Network) (n : ℕ) (s : SidEntry) → IsNetwork net → IsFlat net → slice_get net.sids n ≡ Some s
    → StandsOn s (list_sid net s.prefix)
stands_on net n s rules flat at =
    record {
      prefix = refl;
      block_len = kept.block_len ∙ lens (block_of net.blocks s.prefix);
      kind = by (block_of net.blocks s.prefix) refl (flavour_of s (block_of net.blocks s.prefix) s.csid kept.csid);
      flavour = λ goes.
          let p = s.prefix in
          let own = and_from (same_prefix s.prefix p) (goes_on s) (same_self p) goes in
          let some = some_goer p net.sids n s at own in
          let all = each_filter (λ t. (t.prefix ≡ p) × ((goes_on t ≡ true) → t.csid ≡ s.csid)) (λ t. t.csid ≡ s.csid) goes_on
          (on_prefix net.sids p) (λ t h e. h.1 e) (on_same goes) in
          sym (goers_flavour (on_prefix net.sids p) s.csid some (among_some s.csid (going_on (on_prefix net.sids p)) some all));
      next = next_goes (goes_on s) refl;
    }
  where
    kept : keeps.KeepsSid net s
    kept = (keeps_from_network net rules).sid n s at

    lens : (o : Option Block) → block_len_of o ≡ block_len (option_map sid_block o)
    lens None = refl
    lens (Some b) = refl

    by : (o : Option Block) → block_of net.blocks s.prefix ≡ o → IsOf o s.csid
        → (s.csid ≡ Plain) ⊎ ((b : SidBlock) × (option_map sid_block (block_of net.blocks s.prefix) ≡ Some b) × (s.csid ≡ b.kind))
    by None own plain = inl plain
    by (Some b) own (inl plain) = inl plain
    by (Some b) own (inr kind) = inr (sid_block b, ap (λ (o : Option Block). option_map sid_block o) own, kind)

    next_goes : (b : Bool) → goes_on s ≡ b → s.csid ≡ Next → b ≡ true
    next_goes true e next = refl
    next_goes false e next = absurd (sid_not_next net n s (keeps_from_network net rules) at e next)

    one : (m : ℕ) (t : SidEntry) → slice_get net.sids m ≡ Some t → goes_on s ≡ true → t.prefix ≡ s.prefix → goes_on t ≡ true
        → t.csid ≡ s.csid
    one m t there goes same t_goes = one_flavour net m n t s rules flat there at same t_goes goes

    on_same : goes_on s ≡ true → Each (λ t. (t.prefix ≡ s.prefix) × ((goes_on t ≡ true) → t.csid ≡ s.csid)) (on_prefix net.sids s.prefix)
    on_same goes =
        each_filter (λ t. (t.prefix ≡ s.prefix) → (goes_on t ≡ true) → t.csid ≡ s.csid)
        (λ t. (t.prefix ≡ s.prefix) × ((goes_on t ≡ true) → t.csid ≡ s.csid)) (λ t. same_prefix t.prefix s.prefix) net.sids
        (λ t h e. (same_is t.prefix s.prefix e, h (same_is t.prefix s.prefix e)))
        (each_number (λ t. (t.prefix ≡ s.prefix) → (goes_on t ≡ true) → t.csid ≡ s.csid) net.sids (λ m t there. one m t there goes))

pub flat_lists : (net : Network) → IsNetwork net → IsFlat net → AreListSids net
flat_lists net rules flat = record { flat = λ n s at. flat_sid net n s rules flat at; stands = λ n s at. stands_on net n s rules flat at }
