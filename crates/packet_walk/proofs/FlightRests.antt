-- The rest of a packet's walk: the next stage, and then the rest of the walk of the packet after it.
use Rattle.std.proofs.Common.{◌≡◌, ℕ, suc, ◌+◌, ◌-◌, ◌<◌, ◌≤◌, Bool, true, false, if◌then◌else◌, nat_lt, List, [], ◌∷◌, length, Option, Some, None, slice_get, refl, sym, ap, ◌∙◌, arith}
use Rattle.std.proofs.lemmas.Bool.{ltb-true, ltb-false}
use Rattle.srv6_rules.specs.Packet.{Content}
use Rattle.net_model.specs.Network.{Network}
use Rattle.walk_rules.specs.declared.place.Ended.{Ended}
use Rattle.walk_rules.specs.declared.place.Ended.TheVariants as ends
use Rattle.walk_rules.specs.declared.place.Outcome.{Outcome}
use Rattle.walk_rules.specs.declared.place.Outcome.TheVariants as outcomes
use Rattle.walk_rules.specs.declared.place.Place.{Place}
use Rattle.walk_rules.specs.Walk.{Stage, walk_of, choice_at, far_end, arrival, next_place, decisions, left_or_stages, end_by, end_of}
use Rattle.walk_rules.proofs.PublicLaws.{decisions_few, walk_of_suc, walk_of_zero, walk_of_none}
use Rattle.walk_rules.specs.declared.limits.TheConstants.{MAX_STAGES}
use Rattle.packet_walk.specs.Flight.{InFlight, entering, left_by, stage_in, place_from, ended_after, advanced, staged}
use Rattle.packet_walk.specs.FlightTerms.{IsCounted}
use Rattle.node_stage.specs.Fronted.{FrontedContent}
use Rattle.packet_walk.specs.Rest.{place_where, rest_of, end_where, end_from}

-- a packet that goes on walks on from there, if it has stages left
module _ (net : Network) (used : ℕ) (end : Ended) (content : Content) (pick : ℕ → ℕ) (taken : ℕ) where
  abbrev from : Option Place → List Stage
  from place = walk_of (MAX_STAGES - used) net place content pick taken

  used_up : (one other : Option Place) → MAX_STAGES ≤ used → from one ≡ from other
  used_up one other all =
      let none : MAX_STAGES - used ≡ 0 = omega (arith, all) in
      ap (λ (n : ℕ). walk_of n net one content pick taken) none
      ∙ (walk_of_zero net one content pick taken ∙ sym (walk_of_zero net other content pick taken))
      ∙ ap (λ (n : ℕ). walk_of n net other content pick taken) (sym none)

  from_test : (next : Place) (b : Bool) → nat_lt used MAX_STAGES ≡ b
      → from (Some next) ≡ from (place_where next (if b then None else Some ends.Stages))
  from_test next true is = refl
  from_test next false is = used_up (Some next) None (ltb-false used MAX_STAGES is)

  from_next : (place : Place) (next : Option Place) → from next ≡ from (place_where (place_from place next) (ended_after used end next))
  from_next place None = refl
  from_next place (Some next) = from_test next (nat_lt used MAX_STAGES) refl

pub rest_going : (net : Network) (p : InFlight) → p.ended ≡ None → p.stages < MAX_STAGES
    → rest_of net p ≡ stage_in net p ∷ rest_of net (staged net p)
rest_going net p going left =
    let s : Stage = stage_in net p in
    let pick : ℕ → ℕ = choice_at p.choices in
    let next : Option Place = next_place net p.place s.gave.outcome in
    let taken : ℕ = p.decisions + decisions s.gave.outcome in
    let one_more : MAX_STAGES - p.stages ≡ suc (MAX_STAGES - (p.stages + 1)) = omega (arith, left) in
    ap (λ (e : Option Ended). walk_of (MAX_STAGES - p.stages) net (place_where p.place e) p.content pick p.decisions) going
    ∙ (ap (λ (n : ℕ). walk_of n net (Some p.place) p.content pick p.decisions) one_more
    ∙ (walk_of_suc (MAX_STAGES - (p.stages + 1)) net p.place p.content pick p.decisions
    ∙ ap (λ (rest : List Stage). s ∷ rest)
    (from_next net (p.stages + 1) (end_by net p.place s.gave.outcome) s.gave.after pick taken p.place next)))

pub rest_ended : (net : Network) (p : InFlight) (end : Ended) → p.ended ≡ Some end → rest_of net p ≡ []
rest_ended net p end is =
    ap (λ (e : Option Ended). walk_of (MAX_STAGES - p.stages) net (place_where p.place e) p.content (choice_at p.choices) p.decisions) is
    ∙ walk_of_none (MAX_STAGES - p.stages) net p.content (choice_at p.choices) p.decisions

-- a link with a far end goes on
arrives : (end : Option ℕ) (place next : Place) (link : ℕ) → arrival end place ≡ Some next → left_or_stages link end ≡ ends.Stages
arrives None place next link h = cc
arrives (Some node) place next link h = refl

-- a packet that goes on hasn't ended
pub goes_on : (net : Network) (place next : Place) (outcome : Outcome) → next_place net place outcome ≡ Some next
    → end_by net place outcome ≡ ends.Stages
goes_on net place next (outcomes.Again sid how) h = refl
goes_on net place next (outcomes.Hand sid how family) h = refl
goes_on net place next (outcomes.Send link) h = arrives (far_end (slice_get net.links link)) place next link h
goes_on net place next outcomes.Local h = cc
goes_on net place next (outcomes.Drop reason told) h = cc

-- the end of a walk that goes on after its first stage is that of the rest
pub end_of_cons : (net : Network) (s : Stage) (rest : List Stage) → end_by net s.place s.gave.outcome ≡ ends.Stages
    → end_of net (s ∷ rest) ≡ end_of net rest
end_of_cons net s [] h = h
end_of_cons net s (t ∷ rest) h = refl

-- how a packet ends after a stage is how the stage and the rest after it end

module _ (net : Network) (s : Stage) (rest : List Stage) (used : ℕ) where
  ends_test : (b : Bool) → nat_lt used MAX_STAGES ≡ b → end_by net s.place s.gave.outcome ≡ ends.Stages
      → (nat_lt used MAX_STAGES ≡ false → rest ≡ [])
      → end_where (end_of net rest) (if b then None else Some ends.Stages) ≡ end_of net (s ∷ rest)
  ends_test true is goes over = sym (end_of_cons net s rest goes)
  ends_test false is goes over =
      sym (end_of_cons net s rest goes ∙ ap (end_of net) (over is))

  ends_next : (next : Option Place) → next_place net s.place s.gave.outcome ≡ next → (next ≡ None → rest ≡ [])
      → (nat_lt used MAX_STAGES ≡ false → rest ≡ [])
      → end_where (end_of net rest) (ended_after used (end_by net s.place s.gave.outcome) next) ≡ end_of net (s ∷ rest)
  ends_next None is stops over = sym (ap (λ (more : List Stage). end_of net (s ∷ more)) (stops refl))
  ends_next (Some next) is stops over = ends_test (nat_lt used MAX_STAGES) refl (goes_on net s.place next s.gave.outcome is) over

pub end_going : (net : Network) (p : InFlight) → p.ended ≡ None → p.stages < MAX_STAGES → end_from net (staged net p) ≡ end_from net p
end_going net p going left =
    let s : Stage = stage_in net p in
    let rest : List Stage = rest_of net (staged net p) in
    let pick : ℕ → ℕ = choice_at p.choices in
    let taken : ℕ = p.decisions + decisions s.gave.outcome in
    let next : Option Place = next_place net p.place s.gave.outcome in
    let end : Ended = end_by net p.place s.gave.outcome in
    let used : ℕ = p.stages + 1 in
    let stops : next ≡ None → rest ≡ [] = λ none.
    sym (from_next net used end s.gave.after pick taken p.place next)
    ∙ (ap (λ (o : Option Place). walk_of (MAX_STAGES - used) net o s.gave.after pick taken) none
    ∙ walk_of_none (MAX_STAGES - used) net s.gave.after pick taken) in
    let over : nat_lt used MAX_STAGES ≡ false → rest ≡ [] = λ is.
    used_up net used end s.gave.after pick taken (place_where (place_from p.place next) (ended_after used end next)) None
    (ltb-false used MAX_STAGES is)
    ∙ walk_of_none (MAX_STAGES - used) net s.gave.after pick taken in
    ends_next net s rest used next refl stops over
    ∙ (ap (end_of net) (sym (rest_going net p going left))
    ∙ ap (end_where (end_of net (rest_of net p))) (sym going))

pub end_ended : (net : Network) (p : InFlight) (end : Ended) → p.ended ≡ Some end → end_from net p ≡ end
end_ended net p end is = ap (end_where (end_of net (rest_of net p))) is

-- counts after a stage

left_test : (used : ℕ) (b : Bool) → nat_lt used MAX_STAGES ≡ b → (if b then None else Some ends.Stages) ≡ None → used < MAX_STAGES
left_test used true is going = ltb-true used MAX_STAGES is
left_test used false is going = cc

left_next : (used : ℕ) (end : Ended) (next : Option Place) → ended_after used end next ≡ None → used < MAX_STAGES
left_next used end None going = cc
left_next used end (Some next) going = left_test used (nat_lt used MAX_STAGES) refl going

pub advanced_counted : (net : Network) (outcome : Outcome) (after : FrontedContent) (p : InFlight) → p.ended ≡ None → IsCounted p
    → IsCounted (advanced net outcome after p)
advanced_counted net outcome after p going counted =
    let few : decisions outcome ≤ 1 = decisions_few outcome in
    let left : p.stages < MAX_STAGES = counted.left going in
    record {
      choices = counted.choices;
      decisions = omega (arith, few, counted.decisions);
      stages = omega (arith, left);
      left = left_next (p.stages + 1) (end_by net p.place outcome) (next_place net p.place outcome);
    }

pub staged_counted : (net : Network) (p : InFlight) → p.ended ≡ None → IsCounted p → IsCounted (staged net p)
staged_counted net p going counted =
    let s : Stage = stage_in net p in advanced_counted net s.gave.outcome (left_by net p s) p going counted

pub entering_counted : (content : FrontedContent) (place : Place) (choices : List ℕ) → 0 < length choices
    → IsCounted (entering content place choices)
entering_counted content place choices some =
    record { choices = some; decisions = omega arith; stages = omega arith; left = λ going. omega arith }
