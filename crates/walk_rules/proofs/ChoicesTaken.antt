-- A walk depends on the choices of the decisions that it may take alone, so each is a walk of some list of choices.
use Rattle.std.proofs.Common.{◌≡◌, ℕ, zero, suc, ◌+◌, ◌%◌, ◌<◌, ◌≤◌, Bool, true, false, if◌then◌else◌, List, [], ◌∷◌, length, slice_index, Option, Some, None, refl, sym, ◌∙◌, ap, arith, mod-eq_of_lt, add-zero, le_refl}
use Rattle.srv6_rules.specs.Packet.{Content}
use Rattle.net_model.specs.Network.{Network}
use Rattle.walk_rules.specs.declared.place.Outcome.{Outcome}
use Rattle.walk_rules.specs.declared.place.Outcome.TheVariants as outcomes
use Rattle.walk_rules.specs.declared.place.Place.{Place}
use Rattle.walk_rules.specs.Walk.{Stage, stage_of, next_place, takes_member, decisions, walk_by, walk_of, choice_at}
use Rattle.walk_rules.specs.WalkTerms.{walk_on}

-- an outcome takes one decision at most
pub decisions_few : (outcome : Outcome) → decisions outcome ≤ 1
decisions_few (outcomes.Send link) = omega arith
decisions_few (outcomes.Again n how) = omega arith
decisions_few (outcomes.Hand n how family) = omega arith
decisions_few outcomes.Local = omega arith
decisions_few (outcomes.Drop reason error) = few (takes_member reason)
  where
    few : (b : Bool) → (if b then 1 else 0) ≤ 1
    few true = omega arith
    few false = omega arith

-- the choices of the decisions from one on, so many of them, are the same
abbrev pub SamePicks : (ℕ → ℕ) → (ℕ → ℕ) → ℕ → ℕ → Type 0
SamePicks pick other taken fuel = (d : ℕ) → taken ≤ d → d < taken + fuel → pick d ≡ other d

later_picks : (pick other : ℕ → ℕ) (taken more few : ℕ) → few ≤ 1 → SamePicks pick other taken (suc more)
    → SamePicks pick other (taken + few) more
later_picks pick other taken more few low same = λ d from to. same d (omega arith) (omega arith)

pub walk_of_picks : (fuel : ℕ) (net : Network) (place : Option Place) (content : Content) (pick other : ℕ → ℕ) (taken : ℕ)
    → SamePicks pick other taken fuel → walk_of fuel net place content pick taken ≡ walk_of fuel net place content other taken
unfolding walk_by
walk_of_picks zero net place content pick other taken same = refl
walk_of_picks (suc more) net None content pick other taken same = refl
walk_of_picks (suc more) net (Some place) content pick other taken same =
    let s : Stage = stage_of net place content (pick taken) in
    let here : pick taken ≡ other taken = same taken (le_refl taken) (omega arith) in
    let rest : walk_on more net s pick taken ≡ walk_on more net s other taken =
    walk_of_picks more net (next_place net place s.gave.outcome) s.gave.after pick other (taken + decisions s.gave.outcome)
    (later_picks pick other taken more (decisions s.gave.outcome) (decisions_few s.gave.outcome) same) in
    ap (λ (w : List Stage). s ∷ w) rest
    ∙ ap (λ (choice : ℕ). stage_of net place content choice ∷ walk_on more net (stage_of net place content choice) other taken) here

-- the choices of the decisions from one on, as a list
abbrev picks_from : (ℕ → ℕ) → ℕ → ℕ → List ℕ
picks_from pick from zero = []
picks_from pick from (suc more) = pick from ∷ picks_from pick (suc from) more

length_picks_from : (pick : ℕ → ℕ) (from n : ℕ) → length (picks_from pick from n) ≡ n
length_picks_from pick from zero = refl
length_picks_from pick from (suc more) = ap suc (length_picks_from pick (suc from) more)

picks_from_at : (pick : ℕ → ℕ) (from n d : ℕ) → d < n → slice_index (picks_from pick from n) d ≡ pick (from + d)
picks_from_at pick from zero d low = absurd (omega (arith, low))
picks_from_at pick from (suc more) zero low = rw (add-zero from)
picks_from_at pick from (suc more) (suc d) low =
    let e : from + suc d ≡ suc from + d = omega arith in
    rw e (picks_from_at pick (suc from) more d (omega (arith, low)))

picks_same : (pick : ℕ → ℕ) (fuel d : ℕ) → d < 0 + fuel → pick d ≡ choice_at (picks_from pick 0 (suc fuel)) d
picks_same pick fuel d low =
    let choices : List ℕ = picks_from pick 0 (suc fuel) in
    let inside : d < suc fuel = omega arith in
    let long : length choices ≡ suc fuel = length_picks_from pick 0 (suc fuel) in
    let place : d % length choices ≡ d = rw long (mod-eq_of_lt inside) in
    let whole : 0 + d ≡ d = omega arith in
    sym (ap (slice_index choices) place ∙ picks_from_at pick 0 (suc fuel) d inside ∙ ap pick whole)

pub walk_of_list : (fuel : ℕ) (net : Network) (place : Option Place) (content : Content) (pick : ℕ → ℕ)
    → (choices : List ℕ) × (0 < length choices)
    × (walk_of fuel net place content pick 0 ≡ walk_of fuel net place content (choice_at choices) 0)
walk_of_list fuel net place content pick =
    let choices : List ℕ = picks_from pick 0 (suc fuel) in
    let long : length choices ≡ suc fuel = length_picks_from pick 0 (suc fuel) in
    let same = walk_of_picks fuel net place content pick (choice_at choices) 0 (λ d from to. picks_same pick fuel d to) in
    (choices, omega (arith, long), same)
