-- Legs and finishes along steps of which some may be loose, by what is found in the graphs of the next SIDs: by look-ups alone.
use Rattle.std.specs.Prelude.{ℕ, ◌-◌, ◌/◌, ◌%◌, ◌==◌, if◌then◌else◌, List, length, Option, Some, None}
use Rattle.std.specs.Option.{option_map, option_and_then}
use Rattle.net_model.specs.Network.{Network}
use Rattle.intent_reader.specs.declared.intent.Intent.{Intent}
use Rattle.list_pack.specs.declared.types.Leg.{Leg}
use Rattle.intent_traces.specs.declared.trace_steps.TraceStep.{TraceStep}
use Rattle.intent_traces.specs.Traces.{Executed, count_left, left_behind}
use Rattle.choice_graph.specs.declared.vertices.Found.{Found}
use Rattle.loose_walks.specs.WayGraphs.{found_in}
use Rattle.loose_walks.specs.WalkStops.{ends_in}
use Rattle.leg_table.specs.StrictLegs.{if_none_left, leg_with}
use Rattle.leg_table.specs.PositionSids.{is_last, is_middle, sid_address}
use Rattle.leg_table.specs.WalkTrace.{is_titled}
use Rattle.loose_spec.specs.LooseSids.{origin_of}
use Rattle.loose_spec.specs.LooseSteps.{steps_left}

-- how many steps are left once SID n was executed: one with a title has to be the first step's function
abbrev pub left_after : Network → ℕ → List TraceStep → Option ℕ
left_after net n ts = if is_titled net n then count_left (left_behind (ends_in net) ts (Executed n)) else Some (length ts)

-- to which SID all choices lead first on the way to a destination, with how many steps left there, and the greatest number of lowerings
abbrev pub way_found : Network → Intent → List TraceStep → ℕ → Option ℕ → ℕ → Option Found
way_found net intent steps position via destination =
    option_and_then (found_in net destination steps (length steps - position)) (origin_of net intent steps position via)

-- the steps left behind the execution, where that SID is the next one
abbrev pub left_found : Network → List TraceStep → ℕ → Found → Option ℕ
left_found net steps next f = if f.answer / 64 == next then left_after net next (steps_left steps (f.answer % 64)) else None

abbrev pub leg_found : Network → List TraceStep → ℕ → Found → Option Leg
leg_found net steps next f = option_map (leg_with (length steps) f.most) (left_found net steps next f)

-- the leg to the next SID
abbrev pub leg_of : Network → Intent → List TraceStep → ℕ → Option ℕ → ℕ → Option Leg
leg_of net intent steps position via next =
    if is_middle net next
    then option_and_then (leg_found net steps next) (way_found net intent steps position via (sid_address net next))
    else None

abbrev pub finish_found : Network → List TraceStep → ℕ → Found → Option ℕ
finish_found net steps next f = option_and_then (if_none_left f.most) (left_found net steps next f)

-- how often the hop limit is lowered on the way to the last SID
abbrev pub finish_of : Network → Intent → List TraceStep → ℕ → Option ℕ → ℕ → Option ℕ
finish_of net intent steps position via next =
    if is_last net intent.inner next
    then option_and_then (finish_found net steps next) (way_found net intent steps position via (sid_address net next))
    else None
