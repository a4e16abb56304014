-- Need not be believed: helps proofs and other laws.
-- The first execution on a packet in a walk under headers: the first stage that executes a SID with nothing below.
use Rattle.std.specs.Prelude.{◌≡◌, ℕ, ◌+◌, ◌<◌, nat_le, if◌then◌else◌, List, [], ◌∷◌, ◌++◌, length, Option, Some, None}
use Rattle.std.specs.Option.{option_map}
use Rattle.srv6_rules.specs.Packet.{Packet, Content, V6}
use Rattle.net_model.specs.Network.{Network}
use Rattle.walk_rules.specs.declared.place.Outcome.{Outcome}
use Rattle.walk_rules.specs.declared.place.Outcome.TheVariants as outcomes
use Rattle.walk_rules.specs.declared.place.Place.{Place}
use Rattle.walk_rules.specs.Walk.{choice_at, next_place}
use Rattle.intent_reader.specs.declared.intent.Step.{Step}
use Rattle.leg_table.specs.WalkTrace.{TraceEvent, Crossed, executed}
use Rattle.leg_table.specs.StepMatchingTerms.{left_by}
use Rattle.binding_spec.specs.TunnelStages.{TunnelGave}
use Rattle.binding_spec.specs.TunnelWalks.{TunnelStage, tunnel_walk}
use Rattle.binding_spec.specs.OwnHands.{behind_push, most_stages}
use Rattle.binding_spec.specs.Machines.{End}
use Rattle.tunnel_walks_theory.specs.MachinesTerms.{Got}
use Rattle.tunnel_walks_theory.specs.TunnelPacketsTerms.{Met, Onward, Under, Bare}

-- up to and with the first execution on a packet: the trace, the SID, and where what goes on, over which packets
pub record MetOwn : Type 0 where
  pub trace : List TraceEvent
  pub sids : List ℕ
  pub place : Option Place
  pub content : Content
  pub below : List Packet

abbrev pub met_after : List TraceEvent → MetOwn → MetOwn
met_after events m = record m { trace = events ++ m.trace }

abbrev pub met_here : Network → Place → TunnelGave → ℕ → MetOwn
met_here net place gave sid =
    record {
      trace = executed net sid;
      sids = sid ∷ [];
      place = next_place net place gave.outcome;
      content = gave.after;
      below = gave.below;
    }

-- what is met from a stage on, by its outcome and the packets below, and what its later stages meet
abbrev pub met_by_stage : Network → Place → TunnelGave → List Packet → Outcome → Option MetOwn → Option MetOwn
met_by_stage net place gave [] (outcomes.Hand n how family) later = Some (met_here net place gave n)
met_by_stage net place gave [] (outcomes.Again n how) later = Some (met_here net place gave n)
met_by_stage net place gave (q ∷ under) (outcomes.Hand n how family) later = option_map (met_after (executed net n)) later
met_by_stage net place gave (q ∷ under) (outcomes.Again n how) later = option_map (met_after (executed net n)) later
met_by_stage net place gave under (outcomes.Send link) later = option_map (met_after (Crossed link ∷ [])) later
met_by_stage net place gave under outcomes.Local later = None
met_by_stage net place gave under (outcomes.Drop reason error) later = None

-- what the stages meet first, where so many stages were behind the binding SID before
abbrev pub first_met : Network → ℕ → List TunnelStage → Option MetOwn
first_met net n [] = None
first_met net n (s ∷ ss) =
    if nat_le (behind_push n s.under + 1) most_stages
    then met_by_stage net s.place s.gave s.under s.gave.outcome (first_met net (behind_push n s.under) ss)
    else None

-- the same of a walk of the machine
abbrev pub met_place : Met Place Packet Content → Place
met_place (Onward place own) = place
met_place (Under place new own) = place
met_place (Bare place inside) = place

abbrev pub met_content : Met Place Packet Content → Content
met_content (Onward place own) = V6 own
met_content (Under place new own) = V6 new
met_content (Bare place inside) = inside

abbrev pub met_below : Met Place Packet Content → List Packet
met_below (Onward place own) = []
met_below (Under place new own) = own ∷ []
met_below (Bare place inside) = []

abbrev pub met_of : Got TraceEvent ℕ (Met Place Packet Content) → MetOwn
met_of g =
    record {
      trace = g.trace;
      sids = g.sids;
      place = Some (met_place g.result);
      content = met_content g.result;
      below = met_below g.result;
    }

-- under a list of choices a packet, with these below, comes to its first execution along a beginning of the steps
pub record MeetsFrom (net : Network) (ts : List Step) (place : Place) (p : Packet) (below : List Packet) (choices : List ℕ) : Type 0 where
  pub fuel : ℕ
  pub met : MetOwn
  pub left : List Step
  pub own : first_met net 0 (tunnel_walk fuel net (Some place) (V6 p) below (choice_at choices) 0) ≡ Some met
  pub along : left_by ts met.trace ≡ Some left

-- and so under every list of choices
abbrev pub AlwaysMeets : Network → List Step → Place → Packet → List Packet → Type 0
AlwaysMeets net ts place p below = (choices : List ℕ) → 0 < length choices → MeetsFrom net ts place p below choices

-- what was met is what an end of a walk of the machine tells
pub record MetAs {net : Network} {ts : List Step} {at : Place} {p : Packet} {under : List Packet} {choices : List ℕ}
    (e : End Step ℕ (Met Place Packet Content)) (h : MeetsFrom net ts at p under choices) : Type 0 where
  pub sids : h.met.sids ≡ e.sids
  pub place : h.met.place ≡ Some (met_place e.result)
  pub content : h.met.content ≡ met_content e.result
  pub below : h.met.below ≡ met_below e.result
  pub left : h.left ≡ e.left
