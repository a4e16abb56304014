-- What longest ways have to be for the laws of one leg: each leg of theirs lowers the hop limit by its greatest number.
use Rattle.std.proofs.Common.{◌≡◌, ℕ, ◌+◌, ◌-◌, ◌<◌, ◌≤◌, List, drop, length, Option, Some}
use Rattle.srv6_rules.specs.Packet.{Packet, V6}
use Rattle.net_model.specs.Network.{Network}
use Rattle.walk_rules.specs.declared.place.How.{How}
use Rattle.walk_rules.specs.declared.place.Outcome.TheVariants as outcomes
use Rattle.walk_rules.specs.declared.place.Place.{Place}
use Rattle.walk_rules.specs.Treatment.{goes, free_step_of as step_of}
use Rattle.walk_rules.specs.Walk.{next_place}
use Rattle.walk_rules.specs.Way.{Into, way_of}
use Rattle.intent_reader.specs.declared.intent.Intent.{Intent}
use Rattle.intent_traces.specs.declared.trace_steps.TraceStep.{TraceStep}
use Rattle.choice_graph.specs.declared.vertices.Found.{Found}
use Rattle.loose_walks.specs.WayGraphs.{found_in}
use Rattle.loose_walks.specs.WalkStopsTerms.{Stop}
use Rattle.leg_table.specs.StrictLegs.{place_from}
use Rattle.leg_table.specs.TransitsTerms.{with_hop_limit}
use Rattle.loose_meaning_theory.specs.LongestWays.{Longest}
use Rattle.loose_meaning_theory.proofs.StopWalks.{StopWalk}

pub record AreTight (net : Network) (intent : Intent) (steps : List TraceStep) : Type 0 where
  -- each packet has a longest way
  pub some : (via : Option ℕ) (p : Packet) → (pick : ℕ → ℕ) × Longest net intent via p pick 0
  -- it comes to the first SID with as little as may be left of its hop limit
  pub most : (position : ℕ) (via : Option ℕ) (place : Place) (f : Found) (p : Packet) (pick : ℕ → ℕ) (taken n : ℕ) (stop : Stop)
      → position ≤ length steps → place_from net intent via ≡ Some place
      → found_in net p.destination steps (length steps - position) place ≡ Some f → f.most + 1 < p.hop_limit
      → (w : StopWalk net (drop position steps) place p pick taken stop) → way_of net stop.stage.place p.destination ≡ Into n
      → Longest net intent via p pick taken → w.hop ≡ p.hop_limit - f.most
  -- and it is longest from there on
  pub on : (via : Option ℕ) (place next : Place) (ts : List TraceStep) (p r : Packet) (pick : ℕ → ℕ) (taken n : ℕ) (how : How) (stop : Stop)
      → place_from net intent via ≡ Some place → place_from net intent (Some n) ≡ Some next
      → (w : StopWalk net ts place p pick taken stop)
      → step_of net stop.stage.place (V6 (with_hop_limit w.hop p)) (pick (taken + length w.links)) ≡ goes (outcomes.Again n how) (V6 r)
      → next_place net stop.stage.place (outcomes.Again n how) ≡ Some next → 1 < w.hop → r.hop_limit ≡ w.hop - 1
      → Longest net intent via p pick taken → Longest net intent (Some n) r pick (taken + length w.links + 0)
