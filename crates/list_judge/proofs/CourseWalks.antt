-- Courses along prefixes, one prefix after the other.
use Rattle.std.proofs.Common.{◌≡◌, ◌⊎◌, inl, inr, ℕ, ◌+◌, ◌-◌, ◌≤◌, List, ◌∷◌, length, drop, Option, Some, None, slice_get, refl, sym, ◌∙◌, ap, subst, arith, length-drop}
use Rattle.v6_addr.specs.Address.{PrefixValue}
use Rattle.net_model.specs.Network.{Network}
use Rattle.list_pack.specs.declared.types.Leg.{Leg}
use Rattle.list_pack.specs.LegsValue.{LegsValue}
use Rattle.list_pack.proofs.SidLoops.{drop_item, drop_past}
use Rattle.list_judge_theory.specs.ListCourses.{Course, Ends, Goes}
use Rattle.list_judge.specs.CourseTurns.{GoesOn, StopsAt}

-- a course along all prefixes is one along those that are left, behind so many lowerings, and the other way round
pub record Walked (v : LegsValue) (net : Network) (tail : ℕ) (prefixes : List PrefixValue) (i position : ℕ) (via : Option ℕ) (hops : ℕ)
    : Type 0 where
  pub up : (rest : ℕ) → Course v net tail position via (drop i prefixes) rest → Course v net tail 0 None prefixes (hops + rest)
  pub down : (need : ℕ) → Course v net tail 0 None prefixes need
      → (rest : ℕ) × (hops + rest ≡ need) × Course v net tail position via (drop i prefixes) rest

pub walked_first : (v : LegsValue) (net : Network) (tail : ℕ) (prefixes : List PrefixValue) → Walked v net tail prefixes 0 0 None 0
walked_first v net tail prefixes =
    record {
      up = λ rest course. subst (Course v net tail 0 None prefixes) (omega arith) course;
      down = λ need course. (need, omega arith, course);
    }

-- no course is left without prefixes
pub walked_past : (v : LegsValue) (net : Network) (tail : ℕ) (prefixes : List PrefixValue) (i position : ℕ) (via : Option ℕ) (hops : ℕ)
    → length prefixes ≤ i → Walked v net tail prefixes i position via hops → (need : ℕ) → ¬ Course v net tail 0 None prefixes need
walked_past v net tail prefixes i position via hops past walked need course =
    let left = walked.down need course in
    subst (λ (qs : List PrefixValue). Course v net tail position via qs left.0) (drop_past prefixes i past) left.2

module _ (v : LegsValue) (net : Network) (tail : ℕ) (prefixes : List PrefixValue) (i position : ℕ) (via : Option ℕ) (hops : ℕ)
    (q : PrefixValue) (at : slice_get prefixes i ≡ Some q) (walked : Walked v net tail prefixes i position via hops) where
  abbrev left : ℕ
  left = length prefixes - i

  abbrev behind : List PrefixValue
  behind = drop (i + 1) prefixes

  split : drop i prefixes ≡ q ∷ behind
  split = drop_item prefixes i q at

  count : length (q ∷ behind) ≡ length prefixes - i
  count = ap length (sym split) ∙ length-drop i prefixes

  abbrev Rest : ℕ → ℕ → ℕ → Type 0
  Rest to n rest = Course v net tail to (Some n) behind rest

  -- it ends at the next prefix
  pub walked_end : (need : ℕ) → Ends v net tail position via q left need → Course v net tail 0 None prefixes (hops + need)
  walked_end need ends =
      walked.up need (subst (λ (qs : List PrefixValue). Course v net tail position via qs need) (sym split)
      (inl (subst (λ (n : ℕ). Ends v net tail position via q n need) (sym count) ends)))

  -- or goes on there
  parts : (need : ℕ) → Course v net tail 0 None prefixes need
      → (rest : ℕ) × (hops + rest ≡ need) × (Ends v net tail position via q left rest ⊎ Goes v net position via q rest Rest)
  parts need course =
      let down = walked.down need course in
      let here = subst (λ (qs : List PrefixValue). Course v net tail position via qs down.0) split down.2 in
      (down.0, down.1, by down.0 here)
    where
      by : (rest : ℕ) → Course v net tail position via (q ∷ behind) rest
          → Ends v net tail position via q left rest ⊎ Goes v net position via q rest Rest
      by rest (inl ends) = inl (subst (λ (n : ℕ). Ends v net tail position via q n rest) count ends)
      by rest (inr goes) = inr goes

  pub walked_stop : StopsAt v net tail position via q left → (need : ℕ) → ¬ Course v net tail 0 None prefixes need
  walked_stop stops need course =
      let here = parts need course in
      elim here.2 [
        | inl ends ↦ stops.ends_not here.0 ends
        | inr goes ↦ stops.goes_not goes.sid goes.leg goes.prefix goes.is_leg
      ]

  pub walked_on : (sid : ℕ) (leg : Leg) (sum : ℕ) → GoesOn v net tail position via q left sid leg → sum ≡ hops + leg.hops
      → Walked v net tail prefixes (i + 1) leg.to (Some sid) sum
  walked_on sid leg sum on is_sum =
      record {
        up = λ rest course.
            let goes : Goes v net position via q (leg.hops + rest) Rest
            = record { sid = sid; leg = leg; prefix = on.prefix; is_leg = on.is_leg; rest = rest; sum = refl; behind = course } in
            let whole = walked.up (leg.hops + rest)
            (subst (λ (qs : List PrefixValue). Course v net tail position via qs (leg.hops + rest)) (sym split) (inr goes)) in
            subst (Course v net tail 0 None prefixes) (omega (arith, is_sum)) whole;
        down = λ need course.
            let here = parts need course in
            by need here.0 here.1 here.2;
      }
    where
      by : (need rest : ℕ) → hops + rest ≡ need → (Ends v net tail position via q left rest ⊎ Goes v net position via q rest Rest)
          → (later : ℕ) × (sum + later ≡ need) × Course v net tail leg.to (Some sid) behind later
      by need rest e (inl ends) = absurd (on.ends_not rest ends)
      by need rest e (inr goes) =
          let same : goes.sid ≡ sid = on.one goes.sid goes.leg goes.prefix goes.is_leg in
          let leg_at : v.leg position via sid ≡ Some goes.leg
          = subst (λ (n : ℕ). v.leg position via n ≡ Some goes.leg) same goes.is_leg in
          let is_leg = on.is_leg in
          let one : goes.leg ≡ leg = cc in
          let goes_sum = goes.sum in
          let less : goes.leg.hops ≡ leg.hops = ap (λ (l : Leg). l.hops) one in (
            goes.rest,
            omega (arith, is_sum, e, goes_sum, less),
            subst (λ (n : ℕ). Course v net tail leg.to (Some n) behind goes.rest) same
                (subst (λ (l : Leg). Course v net tail l.to (Some goes.sid) behind goes.rest) one goes.behind),
          )
