-- Need not be believed: helps proofs and other laws.
-- Courses along the SIDs of a list, SID by SID.
use Rattle.std.specs.Prelude.{◌≡◌, ℕ, true, List, Option, Some, None}
use Rattle.v6_addr.specs.Address.{PrefixValue}
use Rattle.net_model.specs.Network.{Network}
use Rattle.list_pack.specs.declared.types.Leg.{Leg}
use Rattle.list_pack.specs.LegsValue.{LegsValue}
use Rattle.leg_table.specs.PositionSids.{prefix_at}
use Rattle.list_judge_theory.specs.ListCourses.{Course, Ends, may_end}
use Rattle.list_judge.specs.declared.course.Turn.{Turn}
use Rattle.list_judge.specs.declared.course.Turn.TheVariants as turns

-- no course ends at the next SID, which stands on a prefix, where so many are left
abbrev pub EndsNot : LegsValue → Network → ℕ → ℕ → Option ℕ → PrefixValue → ℕ → Type 0
EndsNot v net tail position via q left = (need : ℕ) → ¬ Ends v net tail position via q left need

-- the finish at a SID where the list may end there, or that there is none
abbrev pub FinishesAt : LegsValue → Network → ℕ → ℕ → Option ℕ → ℕ → ℕ → Option ℕ → Type 0
FinishesAt v net tail position via left sid None = may_end net tail sid left ≡ true → v.finish position via sid ≡ None
FinishesAt v net tail position via left sid (Some hops) = (may_end net tail sid left ≡ true) × (v.finish position via sid ≡ Some hops)

-- a course doesn't end there, and if it goes on it is so
pub record GoesOn (v : LegsValue) (net : Network) (tail position : ℕ) (via : Option ℕ) (q : PrefixValue) (left sid : ℕ) (leg : Leg)
    : Type 0 where
  pub prefix : prefix_at net sid ≡ q
  pub is_leg : v.leg position via sid ≡ Some leg
  pub one : (n : ℕ) (other : Leg) → prefix_at net n ≡ q → v.leg position via n ≡ Some other → n ≡ sid
  pub ends_not : EndsNot v net tail position via q left

-- a course neither ends there nor goes on
pub record StopsAt (v : LegsValue) (net : Network) (tail position : ℕ) (via : Option ℕ) (q : PrefixValue) (left : ℕ) : Type 0 where
  pub goes_not : (n : ℕ) (leg : Leg) → prefix_at net n ≡ q → ¬ (v.leg position via n ≡ Some leg)
  pub ends_not : EndsNot v net tail position via q left

-- what comes of a course at the next SID
abbrev pub TurnsOn : LegsValue → Network → ℕ → ℕ → Option ℕ → PrefixValue → ℕ → Turn → Type 0
TurnsOn v net tail position via q left (turns.Ends hops) = Ends v net tail position via q left hops
TurnsOn v net tail position via q left (turns.Goes sid leg) = GoesOn v net tail position via q left sid leg
TurnsOn v net tail position via q left turns.Stops = StopsAt v net tail position via q left

-- how often the hop limit is lowered on the course along prefixes, or that there is none
abbrev pub CourseNeeds : LegsValue → Network → ℕ → List PrefixValue → Option ℕ → Type 0
CourseNeeds v net tail prefixes (Some need) = Course v net tail 0 None prefixes need
CourseNeeds v net tail prefixes None = (need : ℕ) → ¬ Course v net tail 0 None prefixes need
