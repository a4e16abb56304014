-- The stages of a walk at a network's places, and how a walk ended.
use Rattle.std.proofs.Common.{◌≡◌, ◌≢◌, ℕ, zero, suc, ◌+◌, ◌<◌, ◌↔◌, List, [], ◌∷◌, length, Option, Some, None, IsSome, slice_get, refl}
use Rattle.srv6_rules.specs.Packet.{Content}
use Rattle.net_model.specs.NetworkKeeps.{Keeps}
use Rattle.net_model.specs.Network.{Network}
use Rattle.walk_rules.specs.declared.place.Ended.{Ended}
use Rattle.walk_rules.specs.declared.place.Ended.TheVariants as ends
use Rattle.walk_rules.specs.declared.place.Outcome.{Outcome}
use Rattle.walk_rules.specs.declared.place.Outcome.TheVariants as outcomes
use Rattle.walk_rules.specs.declared.place.Place.{Place}
use Rattle.walk_rules.specs.Treatment.{step_of}
use Rattle.walk_rules.specs.Relation.{IsPlace}
use Rattle.walk_rules.specs.Walk.{Stage, stage_of, far_end, arrival, next_place, decisions, walk_by, walk_of, place_after, left_or_stages, end_by, end_of}
use Rattle.walk_rules.specs.WalkLawsTerms.{AreStages}
use Rattle.walk_rules.proofs.WalkWalks.{walk_of_short}
use Rattle.walk_rules.proofs.WalkPlaces.{stage_step, step_place}

-- a walk from a place has stages of the network
abbrev IfPlace : Network → Option Place → Type 0
IfPlace net None = Unit {0}
IfPlace net (Some place) = IsPlace net place

next_place_law : (net : Network) (place : Place) (content : Content) (choice : ℕ) (next : Option Place) → Keeps net
    → IsPlace net place → next_place net place (step_of net place content choice).outcome ≡ next → IfPlace net next
next_place_law net place content choice None keeps is e = tt
next_place_law net place content choice (Some next) keeps is e = step_place net place content choice next keeps is e

stages_from : (fuel : ℕ) (net : Network) (place : Option Place) (content : Content) (pick : ℕ → ℕ) (taken : ℕ) → Keeps net
    → IfPlace net place → AreStages net (walk_of fuel net place content pick taken)
unfolding walk_by
stages_from zero net place content pick taken keeps is = tt
stages_from (suc more) net None content pick taken keeps is = tt
stages_from (suc more) net (Some place) content pick taken keeps is =
    let s : Stage = stage_of net place content (pick taken) in (
      is,
      stage_step net place content (pick taken) keeps is,
      stages_from more net (next_place net place s.gave.outcome) s.gave.after pick (taken + decisions s.gave.outcome) keeps
          (next_place_law net place content (pick taken) (next_place net place s.gave.outcome) keeps is refl),
    )

pub walk_of_stages : (fuel : ℕ) (net : Network) (place : Place) (content : Content) (pick : ℕ → ℕ) (taken : ℕ) → Keeps net
    → IsPlace net place → AreStages net (walk_of fuel net (Some place) content pick taken)
walk_of_stages fuel net place content pick taken keeps is =
    stages_from fuel net (Some place) content pick taken keeps is

-- the last stage goes on exactly where the end is that the stages were used
abbrev EndsOrGoesOn : Ended → Option Place → Type 0
EndsOrGoesOn end place = (end ≡ ends.Stages) ↔ IsSome place

link_ends : (link : ℕ) (place : Place) (to : Option ℕ) → EndsOrGoesOn (left_or_stages link to) (arrival to place)
link_ends link place None = (λ e. cc, λ some. cc)
link_ends link place (Some node) = (λ e. refl, λ some. refl)

outcome_ends : (net : Network) (place : Place) (outcome : Outcome) → EndsOrGoesOn (end_by net place outcome) (next_place net place outcome)
outcome_ends net place (outcomes.Again n how) = (λ e. refl, λ some. refl)
outcome_ends net place (outcomes.Hand n how family) = (λ e. refl, λ some. refl)
outcome_ends net place (outcomes.Send link) = link_ends link place (far_end (slice_get net.links link))
outcome_ends net place outcomes.Local = (λ e. cc, λ some. cc)
outcome_ends net place (outcomes.Drop reason error) = (λ e. cc, λ some. cc)

pub end_of_goes_on : (net : Network) (place : Option Place) (s : Stage) (more : List Stage)
    → (end_of net (s ∷ more) ≡ ends.Stages) ↔ IsSome (place_after net place (s ∷ more))
end_of_goes_on net place s [] = outcome_ends net s.place s.gave.outcome
end_of_goes_on net place s (t ∷ more) = end_of_goes_on net (next_place net s.place s.gave.outcome) t more

-- stages that begin at a place and ended have another end
ended_end : (net : Network) (place : Place) (steps : List Stage) → place_after net (Some place) steps ≡ None
    → end_of net steps ≢ ends.Stages
ended_end net place [] none e = cc
ended_end net place (s ∷ more) none e =
    no_some (place_after net (Some place) (s ∷ more)) none ((end_of_goes_on net (Some place) s more).0 e)
  where
    no_some : (o : Option Place) → o ≡ None → IsSome o → ⊥
    no_some None same some = cc
    no_some (Some p) same some = cc

pub walk_of_short_end : (fuel : ℕ) (net : Network) (place : Place) (content : Content) (pick : ℕ → ℕ) (taken : ℕ)
    → let w = walk_of fuel net (Some place) content pick taken in length w < fuel → end_of net w ≢ ends.Stages
walk_of_short_end fuel net place content pick taken short =
    ended_end net place (walk_of fuel net (Some place) content pick taken)
    (walk_of_short fuel net (Some place) content pick taken short)
