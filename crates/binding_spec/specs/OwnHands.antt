-- A packet's own hand_over in a walk through binding SIDs: the first without a header in front, with what was crossed and executed up to
-- there (RFC 8986 sections 4.13, 4.14 and 4.16.3; the limit of stages is an own rule).
use Rattle.std.specs.Prelude.{ℕ, ◌+◌, nat_le, if◌then◌else◌, List, [], ◌∷◌, Option, Some, None}
use Rattle.std.specs.Option.{option_map}
use Rattle.srv6_rules.specs.Packet.{Packet, Content}
use Rattle.net_model.specs.Network.{Network}
use Rattle.walk_rules.specs.declared.place.Outcome.{Outcome}
use Rattle.walk_rules.specs.declared.place.Outcome.TheVariants as outcomes
use Rattle.leg_table.specs.WalkTrace.{Crossed, executed, Handed, after_events, after_execution}
use Rattle.binding_spec.specs.TunnelWalks.{TunnelStage}

-- the most stages from a binding SID that the packet executes to the hand_over that takes off the last header in front of it, both counted
abbrev pub most_stages : ℕ
most_stages = 1000

-- how many stages there were behind that binding SID, with a stage that has these packets below
abbrev pub behind_push : ℕ → List Packet → ℕ
behind_push n [] = 0
behind_push n (q ∷ under) = n + 1

-- what is handed over from a stage on, by its outcome and the packets below, and what its later stages hand over. What a header in front
-- executes is a function of the trace as any other, but not one of the packet's own SIDs, and its hand_over is not the packet's own
abbrev pub handed_by : Network → Content → List Packet → Outcome → Option Handed → Option Handed
handed_by net after [] (outcomes.Hand n how family) later = Some (record { trace = executed net n; sids = n ∷ []; content = after })
handed_by net after [] (outcomes.Again n how) later = option_map (after_execution net n) later
handed_by net after (q ∷ under) (outcomes.Hand n how family) later = option_map (after_events (executed net n)) later
handed_by net after (q ∷ under) (outcomes.Again n how) later = option_map (after_events (executed net n)) later
handed_by net after under (outcomes.Send link) later = option_map (after_events (Crossed link ∷ [])) later
handed_by net after under outcomes.Local later = None
handed_by net after under (outcomes.Drop reason error) later = None

-- what the stages hand over of the packet, where so many stages were behind the binding SID before
abbrev pub handed_own : Network → ℕ → List TunnelStage → Option Handed
handed_own net n [] = None
handed_own net n (s ∷ ss) =
    if nat_le (behind_push n s.under + 1) most_stages
    then handed_by net s.gave.after s.under s.gave.outcome (handed_own net (behind_push n s.under) ss)
    else None
