-- The SID that a course comes to next: at most one on a prefix.
use Rattle.std.proofs.Common.{◌≡◌, inl, inr, ℕ, ◌+◌, ◌<◌, Bool, true, false, ◌||◌, length, Option, Some, None, is_some, slice_get, refl, sym, ◌∙◌, ap, subst, arith}
use Rattle.std.proofs.lemmas.Bool.{cases_lt, false≢true}
use Rattle.std.proofs.lemmas.Option.{slice_get_within}
use Rattle.v6_addr.specs.Address.{PrefixValue}
use Rattle.srv6_rules.specs.declared.sid.SidEntry.{SidEntry}
use Rattle.net_model.specs.Network.{Network}
use Rattle.net_model.specs.NetworkRules.{same_prefix}
use Rattle.list_pack.specs.declared.types.Leg.{Leg}
use Rattle.list_pack.specs.LegsValue.{LegsValue}
use Rattle.list_pack.specs.LegsValueTerms.{IsSid, KeepsLaws, comes_to}
use Rattle.list_pack.specs.Meaning.{AreSidsOf}
use Rattle.list_pack.proofs.PublicLaws.{same_is, same_self}
use Rattle.leg_table.specs.PositionSids.{prefix_at, prefix_by}
use Rattle.list_judge_theory.specs.ListCourses.{Ends, NextOn, may_end}
use Rattle.list_judge.specs.CourseTurns.{EndsNot, GoesOn, StopsAt}

-- ---- SIDs one after the other

-- none of the first SIDs, so many, is the next on a prefix
abbrev pub NoneOn : LegsValue → Network → ℕ → Option ℕ → PrefixValue → ℕ → Type 0
NoneOn v net position via q count = (n : ℕ) → n < count → prefix_at net n ≡ q → comes_to v position via n ≡ false

pub prefix_there : (net : Network) (n : ℕ) (s : SidEntry) → slice_get net.sids n ≡ Some s → prefix_at net n ≡ s.prefix
prefix_there net n s at = ap prefix_by at

-- by the test whether a SID stands on a prefix
pub on_there : (net : Network) (n : ℕ) (s : SidEntry) (q : PrefixValue) → slice_get net.sids n ≡ Some s → same_prefix s.prefix q ≡ true
    → prefix_at net n ≡ q
on_there net n s q at e = prefix_there net n s at ∙ same_is s.prefix q e

pub off_there : (net : Network) (n : ℕ) (s : SidEntry) (q : PrefixValue) → slice_get net.sids n ≡ Some s → same_prefix s.prefix q ≡ false
    → prefix_at net n ≡ q → ⊥
off_there net n s q at e on =
    let same : s.prefix ≡ q = sym (prefix_there net n s at) ∙ on in
    false≢true (sym e ∙ ap (λ (p : PrefixValue). same_prefix p q) same ∙ same_self q)

pub none_more : (v : LegsValue) (net : Network) (position : ℕ) (via : Option ℕ) (q : PrefixValue) (count : ℕ)
    → NoneOn v net position via q count → (prefix_at net count ≡ q → comes_to v position via count ≡ false)
    → NoneOn v net position via q (count + 1)
none_more v net position via q count none here = λ n below at. elim (cases_lt n count) [
  | inl less ↦ none n less at
  | inr most ↦
      let same : n ≡ count = omega (arith, below, most) in
      subst (λ (m : ℕ). prefix_at net m ≡ q → comes_to v position via m ≡ false) (sym same) here at
]

-- ---- what comes of a course at the next SID

by_leg : (o : Option Leg) (b : Bool) (leg : Leg) → o ≡ Some leg → (is_some o || b) ≡ true
by_leg None b leg e = absurd (cc)
by_leg (Some l) b leg e = refl

by_finish : (b : Bool) (o : Option ℕ) (hops : ℕ) → o ≡ Some hops → (b || is_some o) ≡ true
by_finish true o hops e = refl
by_finish false None hops e = absurd (cc)
by_finish false (Some n) hops e = refl

module _ (v : LegsValue) (net : Network) (laws : KeepsLaws v) (sids : AreSidsOf v net) where
  leg_sid : (position : ℕ) (via : Option ℕ) (n : ℕ) (leg : Leg) → v.leg position via n ≡ Some leg → IsSid v n
  leg_sid position via n leg e = let is = laws.leg position via n leg e in (leg.to, is.within, is.is_next)

  finish_sid : (position : ℕ) (via : Option ℕ) (n hops : ℕ) → v.finish position via n ≡ Some hops → IsSid v n
  finish_sid position via n hops e = let is = laws.finish position via n hops e in (v.steps, omega arith, is.is_next)

  shape_prefix : (n : ℕ) → IsSid v n → (v.shape n).prefix ≡ prefix_at net n
  shape_prefix n is = let s = sids n is in s.2.prefix ∙ sym (prefix_there net n s.0 s.1)

  within : (n : ℕ) → IsSid v n → n < length net.sids
  within n is = let s = sids n is in slice_get_within net.sids n s.0 s.1

  module _ (position : ℕ) (via : Option ℕ) (q : PrefixValue) where
    leg_comes : (n : ℕ) (leg : Leg) → v.leg position via n ≡ Some leg → comes_to v position via n ≡ true
    leg_comes n leg e = by_leg (v.leg position via n) (is_some (v.finish position via n)) leg e

    finish_comes : (n hops : ℕ) → v.finish position via n ≡ Some hops → comes_to v position via n ≡ true
    finish_comes n hops e = by_finish (is_some (v.leg position via n)) (v.finish position via n) hops e

    one_on : (n m : ℕ) → IsSid v n → IsSid v m → prefix_at net n ≡ q → prefix_at net m ≡ q → comes_to v position via n ≡ true
        → comes_to v position via m ≡ true → n ≡ m
    one_on n m is also at_n at_m comes comes_also =
        laws.one_of_prefix position via n m comes comes_also (shape_prefix n is ∙ at_n ∙ sym (shape_prefix m also ∙ at_m))

    -- where none is next
    pub none_stops : (tail left : ℕ) → NextOn v net position via q None → StopsAt v net tail position via q left
    none_stops tail left none =
        record {
          goes_not = λ n leg at e.
              let comes = leg_comes n leg e in
              let no = none n (within n (leg_sid position via n leg e)) at in
              false≢true (sym no ∙ comes);
          ends_not = λ need ends.
              let comes = finish_comes ends.sid need ends.finish in
              let no = none ends.sid (within ends.sid (finish_sid position via ends.sid need ends.finish)) ends.prefix in
              false≢true (sym no ∙ comes);
        }

    module _ (tail left sid : ℕ) (next : NextOn v net position via q (Some sid)) where
      comes_sid : (o : Option Leg) (f : Option ℕ) → v.leg position via sid ≡ o → v.finish position via sid ≡ f → (is_some o || is_some f) ≡ true
          → IsSid v sid
      comes_sid (Some leg) f leg_is finish_is e = leg_sid position via sid leg leg_is
      comes_sid None (Some hops) leg_is finish_is e = finish_sid position via sid hops finish_is
      comes_sid None None leg_is finish_is e = absurd (false≢true e)

      is_sid : IsSid v sid
      is_sid = comes_sid (v.leg position via sid) (v.finish position via sid) refl refl next.2

      same_leg : (n : ℕ) (leg : Leg) → prefix_at net n ≡ q → v.leg position via n ≡ Some leg → n ≡ sid
      same_leg n leg at e = one_on n sid (leg_sid position via n leg e) is_sid at next.1 (leg_comes n leg e) next.2

      same_end : (need : ℕ) (ends : Ends v net tail position via q left need) → ends.sid ≡ sid
      same_end need ends =
          one_on ends.sid sid (finish_sid position via ends.sid need ends.finish) is_sid ends.prefix next.1
          (finish_comes ends.sid need ends.finish) next.2

      -- no finish, where a course may end there
      pub ends_there : (hops : ℕ) → may_end net tail sid left ≡ true → v.finish position via sid ≡ Some hops
          → Ends v net tail position via q left hops
      ends_there hops may finish = record { sid = sid; prefix = next.1; may = may; finish = finish }

      pub ends_nowhere : (may_end net tail sid left ≡ true → v.finish position via sid ≡ None) → EndsNot v net tail position via q left
      ends_nowhere none = λ need ends.
          let same = same_end need ends in
          let may : may_end net tail sid left ≡ true = subst (λ (n : ℕ). may_end net tail n left ≡ true) same ends.may in
          let finish : v.finish position via sid ≡ Some need = subst (λ (n : ℕ). v.finish position via n ≡ Some need) same ends.finish in
          let no = none may in
          absurd (cc)

      pub goes_on : (leg : Leg) → EndsNot v net tail position via q left → v.leg position via sid ≡ Some leg
          → GoesOn v net tail position via q left sid leg
      goes_on leg ends_not is_leg =
          record { prefix = next.1; is_leg = is_leg; one = λ n other at e. same_leg n other at e; ends_not = ends_not }

      pub stops_at : EndsNot v net tail position via q left → v.leg position via sid ≡ None → StopsAt v net tail position via q left
      stops_at ends_not no_leg =
          record {
            ends_not = ends_not;
            goes_not = λ n leg at e.
                let same = same_leg n leg at e in
                let is : v.leg position via sid ≡ Some leg = subst (λ (m : ℕ). v.leg position via m ≡ Some leg) same e in
                absurd (cc);
          }
