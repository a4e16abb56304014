-- Whether a SID stays directly after another in its container is whether it may follow that one, as the units of the nested SIDs tell.
use Rattle.std.proofs.Common.{◌≡◌, ◌⊎◌, inl, inr, ℕ, zero, suc, ◌+◌, ◌<◌, ◌≤◌, Bool, true, false, ◌==◌, List, [], ◌∷◌, ◌++◌, length, Option, Some, slice_get, Contains, refl, sym, ◌∙◌, ap, subst, arith, eqb-true, length-append}
use Rattle.std.specs.Prelude.{◌↔◌, IsTrue, not}
use Rattle.std.specs.List.{list_any}
use Rattle.std.proofs.lemmas.Bool.{cases_lt, false≢true, and_parts, and_from, eq-eqb}
use Rattle.std.proofs.lemmas.Option.{slice_get_within}
use Rattle.std.proofs.lemmas.List.Folds.{Any-from_list_any, list_any_at}
use Rattle.srv6_rules.specs.declared.sid.SidEntry.{SidEntry}
use Rattle.net_model.specs.Network.{Network}
use Rattle.net_model.specs.NetworkRulesTerms.{IsNetwork}
use Rattle.net_model.proofs.PublicLaws.{keeps_from_network, get_from_contains, contains_from_get}
use Rattle.net_flatness.specs.Nests.{IsNest, MayFollow, unit_at}
use Rattle.net_flatness.specs.NestTests.{is_nest}
use Rattle.net_flatness.specs.Units.{AreNestedUnits}
use Rattle.net_flatness.proofs.NestLemmas.{nest_is}
use Rattle.net_flatness.proofs.PublicLaws.{nest_block}
use Rattle.leg_table.specs.NestLegs.{spells, stays_by, stays_of}
use Rattle.leg_table.specs.NestLegsTerms.{AreNested}
use Rattle.leg_table.specs.StrictTable.{shape_by, shape_of}
use Rattle.leg_table.proofs.StrictOptions.{some_same, get_pushed, get_before}
use Rattle.leg_table.proofs.OwnPlaces.{sid_prefix}

module _ (net : Network) (network : IsNetwork net) (n : ℕ) (s : SidEntry) (at : slice_get net.sids n ≡ Some s) where
  -- the SID on the prefix of a nest's outer SID is that outer SID
  one_outer : (outer inner : SidEntry) → Contains net.sids outer → outer.prefix ≡ s.prefix → IsNest net outer inner → outer ≡ s
  one_outer outer inner there same nest =
      let o = get_from_contains net.sids outer there in
      let number : o.0 ≡ n = nest.outer_alone o.0 n outer s o.1 at refl (sym same) in
      some_same outer s (sym o.1 ∙ ap (slice_get net.sids) number ∙ at)

  -- units that are equal after the SID's own block are so after the nest's, which is that block
  own_block : (t inner : SidEntry) → (nest : IsNest net s inner) → unit_at t.prefix s.block_len ≡ unit_at inner.prefix (s.block_len + 16)
      → unit_at t.prefix nest.block.prefix.len ≡ unit_at inner.prefix (nest.block.prefix.len + 16)
  own_block t inner nest =
      subst (λ (l : ℕ). unit_at t.prefix l ≡ unit_at inner.prefix (l + 16)) (nest_block net n s inner network at nest)

  -- no nested SID is spelt exactly where the other may follow
  may_when : (t : SidEntry) (found : Bool) → list_any (spells net s t) net.sids ≡ found → not found ≡ true → MayFollow net s.prefix t.prefix
  may_when t true e none = absurd (false≢true none)
  may_when t false e none = λ outer inner there inner_there same nest equal.
      let is = one_outer outer inner there same nest in
      let own : IsNest net s inner = subst (λ (u : SidEntry). IsNest net u inner) is nest in
      let spelt : spells net s t inner ≡ true
      = and_from (is_nest net s inner) _ ((nest_is net s inner).1 own)
      (eq-eqb (unit_at t.prefix s.block_len) (unit_at inner.prefix (s.block_len + 16)) (by outer inner is nest equal)) in
      absurd (false≢true (sym e ∙ list_any_at (spells net s t) net.sids inner_there.0 inner inner_there.1
      (subst (λ (u : SidEntry). spells net s t u ≡ true) (sym inner_there.2) spelt)))
    where
      by : (outer inner : SidEntry) → outer ≡ s → (nest : IsNest net outer inner)
          → unit_at t.prefix nest.block.prefix.len ≡ unit_at inner.prefix (nest.block.prefix.len + 16)
          → unit_at t.prefix s.block_len ≡ unit_at inner.prefix (s.block_len + 16)
      by outer inner is nest equal =
          let lbl : outer.block_len ≡ nest.block.prefix.len = nest_block net n outer inner network (at ∙ ap Some (sym is)) nest in
          subst (λ (l : ℕ). unit_at t.prefix l ≡ unit_at inner.prefix (l + 16)) (sym lbl ∙ ap (λ (u : SidEntry). u.block_len) is) equal

  stays_when : (t : SidEntry) (found : Bool) → list_any (spells net s t) net.sids ≡ found → MayFollow net s.prefix t.prefix
      → not found ≡ true
  stays_when t false e may = refl
  stays_when t true e may =
      let got = Any-from_list_any (spells net s t) net.sids e in
      let inner = got.1 in
      let both = and_parts (is_nest net s inner) (unit_at t.prefix s.block_len == unit_at inner.prefix (s.block_len + 16)) got.4 in
      let nest = (nest_is net s inner).0 both.0 in
      absurd (may s inner (contains_from_get net.sids n s at) (got.0, got.2, got.3) refl nest
      (own_block t inner nest (eqb-true (unit_at t.prefix s.block_len) (unit_at inner.prefix (s.block_len + 16)) both.1)))

  pub stays_means : (t : SidEntry) → IsTrue (stays_by net (Some s) (Some t)) ↔ MayFollow net s.prefix t.prefix
  stays_means t = (may_when t (list_any (spells net s t) net.sids) refl, stays_when t (list_any (spells net s t) net.sids) refl)

-- and so it is of the shapes of two SIDs
pub stays_follow : (net : Network) → IsNetwork net → (n m : ℕ) (s t : SidEntry) → slice_get net.sids n ≡ Some s
    → slice_get net.sids m ≡ Some t → IsTrue (stays_of net n m) ↔ MayFollow net (shape_of net n).prefix (shape_of net m).prefix
stays_follow net network n m s t at also =
    let Means : Option SidEntry → Option SidEntry → Type 0
    = λ o q. IsTrue (stays_by net o q) ↔ MayFollow net (shape_by net.blocks o).prefix (shape_by net.blocks q).prefix in
    subst (λ (o : Option SidEntry). Means o (slice_get net.sids m)) (sym at)
    (subst (Means (Some s)) (sym also) (stays_means net network n s at t))

-- ---- by the units of the nested SIDs

-- two tests of one fact are equal
same_tests : (P : Type 0) (a b : Bool) → IsTrue a ↔ P → IsTrue b ↔ P → a ≡ b
same_tests P true true one other = refl
same_tests P false false one other = refl
same_tests P true false one other = sym (other.1 (one.0 refl))
same_tests P false true one other = one.1 (other.0 refl)

-- a unit is none of some exactly where the search finds none
not_found : (units : List ℕ) (unit : ℕ) (found : Bool) → list_any (λ (u : ℕ). u == unit) units ≡ found
    → IsTrue (not found) ↔ (¬ Contains units unit)
not_found units unit false e = (
  λ h at. absurd (false≢true (sym e ∙ list_any_at (λ (u : ℕ). u == unit) units at.0 unit at.1 (eq-eqb _ unit at.2))),
  λ none. refl,
)
not_found units unit true e = (
  λ h. absurd (false≢true h),
  λ none.
      let got = Any-from_list_any (λ (u : ℕ). u == unit) units e in
      let same : got.1 ≡ unit = eqb-true got.1 unit got.4 in
      absurd (none (subst (Contains units) same (got.0, got.2, got.3))),
)

module _ (net : Network) (network : IsNetwork net) (n : ℕ) (s : SidEntry) (at : slice_get net.sids n ≡ Some s) (units : List ℕ)
    (are : AreNestedUnits net s units) where
  -- a SID with nested ones has room for a unit after its block's bits
  pub unit_fits : (length units == 0) ≡ false → s.block_len + 16 ≤ 128
  unit_fits some = by units are some
    where
      by : (us : List ℕ) → AreNestedUnits net s us → (length us == 0) ≡ false → s.block_len + 16 ≤ 128
      by [] are some = absurd (false≢true (sym some))
      by (u ∷ us) are some =
          let inner = (are.all u).0 (0, omega arith, refl) in
          let fits = (sid_prefix net (keeps_from_network net network) inner.0 inner.1).0 in
          let long = inner.2.inner_len in
          let lbl = nest_block net n s inner.0 network at inner.2 in
          omega (arith, fits, long, lbl)

  -- the search among the units tells whether another may follow
  pub units_tell : (m : ℕ) (t : SidEntry) → slice_get net.sids m ≡ Some t
      → not (list_any (λ (u : ℕ). u == unit_at t.prefix s.block_len) units) ≡ stays_of net n m
  units_tell m t also =
      let none = not_found units (unit_at t.prefix s.block_len) (list_any (λ (u : ℕ). u == unit_at t.prefix s.block_len) units) refl in
      let follow = are.follow t.prefix in
      same_tests (MayFollow net s.prefix t.prefix) (not (list_any (λ (u : ℕ). u == unit_at t.prefix s.block_len) units))
      (stays_by net (Some s) (Some t)) (λ h. follow.1 (none.0 h), λ may. none.1 (follow.0 may)) (stays_means net network n s at t)
      ∙ ap (λ (o : Option SidEntry). stays_by net o (Some t)) (sym at)
      ∙ ap (stays_by net (slice_get net.sids n)) (sym also)

  -- after a SID with none nested in it any may come
  pub none_tell : (m : ℕ) (t : SidEntry) → slice_get net.sids m ≡ Some t → (length units == 0) ≡ true → true ≡ stays_of net n m
  none_tell m t also none = by units none ∙ units_tell m t also
    where
      by : (us : List ℕ) → (length us == 0) ≡ true → true ≡ not (list_any (λ (u : ℕ). u == unit_at t.prefix s.block_len) us)
      by [] e = refl
      by (u ∷ us) e = let none = eqb-true (length (u ∷ us)) 0 e in absurd (omega arith)

-- ---- the units of all SIDs

pub sid_there : (sids : List SidEntry) (n : ℕ) → n < length sids → (s : SidEntry) × (slice_get sids n ≡ Some s)
sid_there [] n within = absurd (omega arith)
sid_there (s ∷ sids) zero within = (s, refl)
sid_there (s ∷ sids) (suc n) within = sid_there sids n (omega arith)

pub nested_more : (net : Network) (count : ℕ) (nested more : List (List ℕ)) (units : List ℕ) → AreNested net count nested
    → ((s : SidEntry) → slice_get net.sids count ≡ Some s → AreNestedUnits net s units) → more ≡ nested ++ units ∷ []
    → AreNested net (count + 1) more
nested_more net count nested more units are last pushed = subst (AreNested net (count + 1)) (sym pushed) (record {
  long = let long = are.long in let one = length-append nested (units ∷ []) in omega (arith, long, one);
  units = λ n s us at got. by_place n s us at got (cases_lt n (length nested));
})
  where
    by_place : (n : ℕ) (s : SidEntry) (us : List ℕ) → slice_get net.sids n ≡ Some s → slice_get (nested ++ units ∷ []) n ≡ Some us
        → (n < length nested) ⊎ (length nested ≤ n) → AreNestedUnits net s us
    by_place n s us at got (inl before) = are.units n s us at (sym (get_before nested units n before) ∙ got)
    by_place n s us at got (inr after) =
        let within = slice_get_within (nested ++ units ∷ []) n us got in
        let one = length-append nested (units ∷ []) in
        let here : n ≡ length nested = omega (arith, within, one, after) in
        let same : units ≡ us = some_same units us (sym (get_pushed nested units n here) ∙ got) in
        subst (AreNestedUnits net s) same (last s (subst (λ (k : ℕ). slice_get net.sids k ≡ Some s) (here ∙ are.long) at))
