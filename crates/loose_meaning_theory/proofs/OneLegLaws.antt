-- The lemmas that crates above may cite: those that prove the laws of public functions.
use Rattle.std.proofs.Common.{◌≡◌, List}
use Rattle.net_model.specs.Network.{Network}
use Rattle.net_model.specs.NetworkKeeps.{Keeps}
use Rattle.net_model.specs.NetworkRulesTerms.{IsNetwork}
use Rattle.net_model.proofs.PublicLaws.{keeps_from_network}
use Rattle.net_flatness.specs.Flat.{IsFlat}
use Rattle.intent_reader.specs.declared.intent.Intent.{Intent}
use Rattle.sid_list_theory.specs.ListPlaces.{Tunnel}
use Rattle.intent_traces.specs.declared.trace_steps.TraceStep.{TraceStep}
use Rattle.leg_table.specs.OneLegLaws.{LegLaws}
use Rattle.leg_table.proofs.FlatNets.{FlatFacts, flat_facts}
use Rattle.loose_legs_theory.specs.LooseStepsTerms.{AreSteps}
use Rattle.loose_meaning_theory.specs.LooseKind.{loose_kind}
use Rattle.loose_meaning_theory.specs.LongestWays.{Longest}
use Rattle.loose_meaning_theory.proofs.KindLaws.{loose_finish_over, loose_leg_over, some_longest_law}
pub use Rattle.loose_meaning_theory.proofs.KindLaws.{loose_kind_laws}
use Rattle.loose_meaning_theory.proofs.OneLegDown.{leg_down}
use Rattle.loose_meaning_theory.proofs.First.{Setting}
use Rattle.loose_meaning_theory.proofs.LongestWays.{are_tight}
use Rattle.loose_meaning_theory.proofs.OneLegUp.{finish_up_law, leg_up_law}

-- loose legs keep the laws of one leg and one finish
pub loose_leg_laws : (net : Network) (intent : Intent) (steps : List TraceStep) → IsNetwork net → IsFlat net → AreSteps net intent steps
    → (t : Tunnel) → t.inner ≡ intent.inner → LegLaws (loose_kind net intent steps) (Longest net intent) t
loose_leg_laws net intent steps network flat are t family =
    record {
      leg_up = λ x y position via next leg hop p pick taken is on to high.
          leg_up_law net keeps facts intent steps are t x y position via next leg hop p pick taken is on to high;
      finish_up = λ x position via next lowered hop p pick taken is on end high.
          finish_up_law net keeps facts intent steps are t x position via next lowered hop p pick taken family is on end high;
      leg_over = λ x y position via next leg hop p pick taken h is on to over.
          loose_leg_over net intent steps network flat are t x y position via next leg hop p pick taken h is on to over;
      finish_over = λ x position via next lowered hop p pick taken h is on end over.
          loose_finish_over net intent steps network flat are t family x position via next lowered hop p pick taken h is on end over;
      down = λ x q position via hop p within at along nests to named positive hands.
          leg_down net intent steps t setting (are_tight net keeps intent steps) x q position via hop p within at along nests to
          named positive hands;
      some_longest = some_longest_law net intent;
    }
  where
    keeps : Keeps net
    keeps = keeps_from_network net network

    facts : FlatFacts net
    facts = flat_facts net network flat

    setting : Setting net intent steps t
    setting = record { network = network; flat = flat; facts = facts; keeps = keeps; are = are; family = family }
