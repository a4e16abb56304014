-- The units of the SIDs nested in a SID, as they are gathered.
use Rattle.std.proofs.Common.{◌≡◌, ◌⊎◌, ℕ, ◌+◌, ◌<◌, ◌≤◌, length, List, [], ◌∷◌, ◌++◌, Some, refl, sym, ap, ◌∙◌, subst, arith, inl, inr}
use Rattle.std.specs.List.{slice_get, Contains}
use Rattle.std.proofs.lemmas.Bool.{cases_lt}
use Rattle.std.proofs.lemmas.Option.{same_Some, slice_get_within}
use Rattle.std.proofs.lemmas.List.Elements.{Contains-append_left, Contains-push, Contains-push_cases}
use Rattle.v6_addr.specs.Address.{PrefixValue, IsInside}
use Rattle.srv6_rules.specs.declared.sid.SidEntry.{SidEntry}
use Rattle.net_model.specs.Network.{Network}
use Rattle.net_model.specs.NetworkRulesTerms.{IsNetwork}
use Rattle.net_model.proofs.PublicLaws.{keeps_from_network, contains_none, get_from_contains, contains_from_get}
use Rattle.net_flatness.specs.Nests.{unit_at, IsNest, MayFollow}
use Rattle.net_flatness.specs.Flat.{IsFlat}
use Rattle.net_flatness.specs.Units.{IsNestedUnit, AreNestedUnits, IsUnitIn, GetsUnit, AreFirstUnits}
use Rattle.net_flatness.proofs.NestLaws.{inside_is_nested, nest_block}

-- ---- one SID more

pub gets_none : (old : List ℕ) (s inner : SidEntry) → ¬ IsInside inner.prefix s.prefix → GetsUnit old old s inner
gets_none old s inner outside unit = (λ c. inl c, from)
  where
    from : Contains old unit ⊎ IsUnitIn s inner unit → Contains old unit
    from (inl c) = c
    from (inr here) = absurd (outside here.0)

pub gets_one : (old new : List ℕ) (s inner : SidEntry) (u : ℕ) → IsInside inner.prefix s.prefix → u ≡ unit_at inner.prefix s.prefix.len
    → new ≡ old ++ u ∷ [] → GetsUnit old new s inner
gets_one old new s inner u inside is pushed unit = (to, from)
  where
    to : Contains new unit → Contains old unit ⊎ IsUnitIn s inner unit
    to c = elim (Contains-push_cases old u unit (subst (λ (us : List ℕ). Contains us unit) pushed c)) [
      | inl before ↦ inl before
      | inr same ↦ inr (inside, sym same ∙ is)
    ]

    from : Contains old unit ⊎ IsUnitIn s inner unit → Contains new unit
    from (inl c) = subst (λ (us : List ℕ). Contains us unit) (sym pushed) (Contains-append_left old (u ∷ []) unit c)
    from (inr here) =
        subst (λ (us : List ℕ). Contains us unit) (sym pushed)
        (subst (Contains (old ++ u ∷ [])) (is ∙ sym here.1) (Contains-push old u))

pub first_none : (sids : List SidEntry) (s : SidEntry) → AreFirstUnits sids s 0 []
first_none sids s unit = (λ c. absurd (contains_none unit c), λ among. absurd (omega (arith, among.2)))

pub first_units_more : (sids : List SidEntry) (s inner : SidEntry) (count : ℕ) (old new : List ℕ) → slice_get sids count ≡ Some inner
    → AreFirstUnits sids s count old → GetsUnit old new s inner → AreFirstUnits sids s (count + 1) new
first_units_more sids s inner count old new at before more unit = (to, from)
  where
    to : Contains new unit → (k : ℕ) × (t : SidEntry) × (k < count + 1) × (slice_get sids k ≡ Some t) × IsUnitIn s t unit
    to c = elim ((more unit).0 c) [
      | inl early ↦ let (k, t, less, at_k, here) = (before unit).0 early in (k, t, omega arith, at_k, here)
      | inr here ↦ (count, inner, omega arith, at, here)
    ]

    from : (k : ℕ) × (t : SidEntry) × (k < count + 1) × (slice_get sids k ≡ Some t) × IsUnitIn s t unit → Contains new unit
    from (k, t, less, at_k, here) = elim (cases_lt k count) [
      | inl low ↦ (more unit).1 (inl ((before unit).1 (k, t, low, at_k, here)))
      | inr high ↦
          let place : k ≡ count = omega arith in
          let same : t ≡ inner = same_Some t inner (sym at_k ∙ (ap (slice_get sids) place ∙ at)) in
          (more unit).1 (inr (subst (λ (x : SidEntry). IsUnitIn s x unit) same here))
    ]

-- ---- all of them

module _ (net : Network) (n : ℕ) (s : SidEntry) (rules : IsNetwork net) (flat : IsFlat net) (at : slice_get net.sids n ≡ Some s) where
  in_sids : Contains net.sids s
  in_sids = contains_from_get net.sids n s at

  -- the SID has 16 bits after its block's, where one is nested in it
  outer_len : (t : SidEntry) → IsNest net s t → s.prefix.len ≡ s.block_len + 16
  outer_len t nest = let block = nest_block net n s t rules at nest in omega (arith, nest.outer_len, block)

  -- 16 bits more have room in an address
  unit_fits : (m : ℕ) (t : SidEntry) → slice_get net.sids m ≡ Some t → IsInside t.prefix s.prefix → s.prefix.len + 16 ≤ 128
  unit_fits m t at_m inside =
      let nest = inside_is_nested net n m s t flat at at_m inside in
      let short = ((keeps_from_network net rules).sid m t at_m).prefix.0 in
      omega (arith, nest.outer_len, nest.inner_len, short)

  module _ (units : List ℕ) (count : ℕ) (whole : length net.sids ≤ count) (first : AreFirstUnits net.sids s count units) where
    unit_of : (unit : ℕ) → Contains units unit → IsNestedUnit net s unit
    unit_of unit c =
        let (k, t, less, at_k, (inside, is)) = (first unit).0 c in
        let nest = inside_is_nested net n k s t flat at at_k inside in
        (t, contains_from_get net.sids k t at_k, nest, is ∙ ap (unit_at t.prefix) (outer_len t nest))

    has_unit : (unit : ℕ) → IsNestedUnit net s unit → Contains units unit
    has_unit unit (t, there, nest, is) =
        let (k, at_k) = get_from_contains net.sids t there in
        let within = slice_get_within net.sids k t at_k in
        (first unit).1 (k, t, omega (arith, within, whole), at_k, (nest.inside, is ∙ ap (unit_at t.prefix) (sym (outer_len t nest))))

    may_from : (next : PrefixValue) → ¬ Contains units (unit_at next s.block_len) → MayFollow net s.prefix next
    may_from next none outer inner in_outer in_inner same nest is =
        let (k, at_k) = get_from_contains net.sids outer in_outer in
        let place = nest.outer_alone k n outer s at_k at refl (sym same) in
        let one : outer ≡ s = same_Some outer s (sym at_k ∙ (ap (slice_get net.sids) place ∙ at)) in
        let mine : IsNest net s inner = subst (λ (x : SidEntry). IsNest net x inner) one nest in
        let block : s.block_len ≡ nest.block.prefix.len =
        ap (λ (x : SidEntry). x.block_len) (sym one) ∙ nest_block net k outer inner rules at_k nest in
        none (has_unit (unit_at next s.block_len)
        (inner, in_inner, mine, subst (λ (m : ℕ). unit_at next m ≡ unit_at inner.prefix (m + 16)) (sym block) is))

    may_to : (next : PrefixValue) → MayFollow net s.prefix next → ¬ Contains units (unit_at next s.block_len)
    may_to next may c =
        let (inner, there, nest, is) = unit_of (unit_at next s.block_len) c in
        may s inner in_sids there refl nest
        (subst (λ (m : ℕ). unit_at next m ≡ unit_at inner.prefix (m + 16)) (nest_block net n s inner rules at nest) is)

    all_units : AreNestedUnits net s units
    all_units = record {
      all = λ unit. (unit_of unit, has_unit unit);
      follow = λ next. (may_to next, may_from next);
    }

-- ---- over a list that is the network's

pub unit_fits_in : (net : Network) (n m : ℕ) (s t : SidEntry) (sids : List SidEntry) → IsNetwork net → IsFlat net
    → slice_get net.sids n ≡ Some s → sids ≡ net.sids → slice_get sids m ≡ Some t → IsInside t.prefix s.prefix → s.prefix.len + 16 ≤ 128
unit_fits_in net n m s t sids rules flat at same at_m inside =
    unit_fits net n s rules flat at m t (subst (λ (xs : List SidEntry). slice_get xs m ≡ Some t) same at_m) inside

pub units_are_all : (net : Network) (n : ℕ) (s t : SidEntry) (sids : List SidEntry) (units : List ℕ) (count : ℕ) → IsNetwork net
    → IsFlat net → slice_get net.sids n ≡ Some s → sids ≡ net.sids → length sids ≤ count → AreFirstUnits sids s count units
    → slice_get net.sids n ≡ Some t → AreNestedUnits net t units
units_are_all net n s t sids units count rules flat at same whole first also =
    subst (λ (x : SidEntry). AreNestedUnits net x units) (same_Some s t (sym at ∙ also))
    (all_units net n s rules flat at units count (subst (λ (xs : List SidEntry). length xs ≤ count) same whole)
    (subst (λ (xs : List SidEntry). AreFirstUnits xs s count units) same first))
