-- The SIDs that may be executed last at a position: after so many of steps of which some may be loose.
use Rattle.std.specs.Prelude.{ℕ, zero, suc, Bool, true, false, ◌==◌, ◌&&◌, not, nat_le, if◌then◌else◌, List, length, slice_get, Option, Some, None}
use Rattle.srv6_rules.specs.declared.sid.SidEntry.{SidEntry}
use Rattle.net_model.specs.Network.{Network}
use Rattle.intent_reader.specs.IntentRules.{is_at}
use Rattle.intent_reader.specs.declared.intent.Intent.{Intent}
use Rattle.walk_rules.specs.declared.place.Place.{Place}
use Rattle.intent_traces.specs.declared.trace_steps.TraceStep.{TraceStep}
use Rattle.intent_traces.specs.declared.trace_steps.TraceStep.TheVariants.{Links, Function, Reach}
use Rattle.leg_table.specs.StrictLegs.{place_from}
use Rattle.leg_table.specs.PositionSids.{is_middle}
use Rattle.loose_spec.specs.LooseSteps.{node_at}

-- where a packet may be before the next step: where the walk stands; before a node is to be reached, at any node but that
abbrev pub may_be : Option TraceStep → Option ℕ → ℕ → Bool
may_be None stands node = is_at node stands
may_be (Some (Links set)) stands node = is_at node stands
may_be (Some (Function sid)) stands node = is_at node stands
may_be (Some (Reach reached)) stands node = not (node == reached)

-- the step that ends at a position, if one does
abbrev pub step_before : List TraceStep → ℕ → Option TraceStep
step_before steps zero = None
step_before steps (suc i) = slice_get steps i

abbrev pub is_function_of : ℕ → Option TraceStep → Bool
is_function_of n None = false
is_function_of n (Some (Links set)) = false
is_function_of n (Some (Function sid)) = sid == n
is_function_of n (Some (Reach reached)) = false

-- a SID without a title, or one that is the function of the step
abbrev pub title_suits : ℕ → Option TraceStep → Option ℕ → Bool
title_suits n step None = true
title_suits n step (Some title) = is_function_of n step

abbrev pub sid_suits : ℕ → Option TraceStep → Option ℕ → Option TraceStep → Option SidEntry → Bool
sid_suits n next stands before None = false
sid_suits n next stands before (Some s) = may_be next stands s.node && title_suits n before s.title

-- SID n stands where a packet may be after so many steps, and has no title or is the function of the last of them
abbrev pub is_sid_at : Network → Intent → List TraceStep → ℕ → ℕ → Bool
is_sid_at net intent steps position n =
    sid_suits n (slice_get steps position) (node_at net intent steps position) (step_before steps position) (slice_get net.sids n)

-- a SID may have been executed last at a position: none at the start alone, else one of that position that is middle
abbrev pub is_via : Network → Intent → List TraceStep → ℕ → Option ℕ → Bool
is_via net intent steps position None = position == 0
is_via net intent steps position (Some v) = is_sid_at net intent steps position v && is_middle net v

abbrev pub is_origin : Network → Intent → List TraceStep → ℕ → Option ℕ → Bool
is_origin net intent steps position via = nat_le position (length steps) && is_via net intent steps position via

-- the place from which a packet goes on to the next SID, where it may start so
abbrev pub origin_of : Network → Intent → List TraceStep → ℕ → Option ℕ → Option Place
origin_of net intent steps position via = if is_origin net intent steps position via then place_from net intent via else None
