-- Where a packet stands after the line of a stage.
use Rattle.std.proofs.Common.{◌≡◌, ℕ, zero, suc, List, Option, Some, None, Ok, refl, sym, ap, ◌∙◌, subst}
use Rattle.srv6_rules.specs.Packet.{Content}
use Rattle.net_model.specs.Network.{Network}
use Rattle.net_model.specs.NetworkKeeps.{Keeps}
use Rattle.walk_rules.specs.declared.place.Outcome.{Outcome}
use Rattle.walk_rules.specs.declared.place.Place.{Place}
use Rattle.walk_rules.specs.Relation.{IsPlace}
use Rattle.walk_rules.specs.Treatment.{step_of}
use Rattle.walk_rules.specs.Walk.{next_place}
use Rattle.walk_rules.proofs.PublicLaws.{step_place}
use Rattle.trace_replay.specs.declared.state.ReplayState.{ReplayState}
use Rattle.trace_replay.specs.ReplayJudging.{IsState}
use Rattle.trace_replay.specs.Replays.{by_choice, choice_given, going}
use Rattle.trace_replay.specs.JudgedLines.{IsRight}

pub going_state : (net : Network) (place : Option Place) (content : Content) (left : ℕ)
    → ((next : Place) → place ≡ Some next → IsPlace net next) → IsState net (going place content left)
going_state net None content left is = tt
going_state net (Some next) content zero is = tt
going_state net (Some next) content (suc left) is = is next refl

pub going_right : (net : Network) (place : Place) (before : Content) (left : ℕ) (line : List ℕ) (outcome : Outcome) (after : Content)
    → Keeps net → IsPlace net place → IsRight net place before line outcome after → (next : Option Place) (state : ReplayState)
    → next ≡ next_place net place outcome → state ≡ going next after left
    → (by_choice net place before left (choice_given net place before line) ≡ Ok state) × IsState net state
going_right net place before left line outcome after keeps is right next state next_is state_is =
    let gave = step_of net place before right.choice in
    let there : next_place net place gave.outcome ≡ next = ap (next_place net place) right.gives ∙ sym next_is in
    let goes : going (next_place net place gave.outcome) gave.after left ≡ state =
    ap (λ (o : Option Place). going o gave.after left) there
    ∙ (ap (λ (c : Content). going next c left) right.leaves ∙ sym state_is) in (
      ap (by_choice net place before left) right.given ∙ ap Ok goes,
      subst (IsState net) (sym state_is)
          (going_state net next after left (λ p e. step_place net place before right.choice p keeps is (there ∙ e))),
    )
