-- A packet's own hand_over in a walk over bytes, where the depth is counted by outcomes: it is 0 at first, rises by one with each binding
-- SID that is executed, and falls by one with each hand_over at a depth above 0. The own hand_over is the first at depth 0 (RFC 8986
-- sections 4.13, 4.14 and 4.16.3).
use Rattle.std.specs.Prelude.{ℕ, zero, suc, List, [], ◌∷◌, Option, Some, None}
use Rattle.std.specs.Option.{option_map}
use Rattle.srv6_rules.specs.Packet.{Content}
use Rattle.net_model.specs.Network.{Network}
use Rattle.walk_rules.specs.declared.place.Outcome.{Outcome}
use Rattle.walk_rules.specs.declared.place.Outcome.TheVariants as outcomes
use Rattle.walk_rules.specs.Walk.{Stage}
use Rattle.leg_table.specs.WalkTrace.{Crossed, executed, Handed, after_events, after_execution}
use Rattle.binding_spec.specs.TunnelWalks.{depth_after}

-- what is handed over from a stage at a depth on, and what its later stages hand over
abbrev pub counted_by : Network → Content → ℕ → Outcome → Option Handed → Option Handed
counted_by net after zero (outcomes.Hand n how family) later = Some (record { trace = executed net n; sids = n ∷ []; content = after })
counted_by net after zero (outcomes.Again n how) later = option_map (after_execution net n) later
counted_by net after (suc depth) (outcomes.Hand n how family) later = option_map (after_events (executed net n)) later
counted_by net after (suc depth) (outcomes.Again n how) later = option_map (after_events (executed net n)) later
counted_by net after depth (outcomes.Send link) later = option_map (after_events (Crossed link ∷ [])) later
counted_by net after depth outcomes.Local later = None
counted_by net after depth (outcomes.Drop reason error) later = None

abbrev pub handed_at_depth : Network → ℕ → List Stage → Option Handed
handed_at_depth net depth [] = None
handed_at_depth net depth (s ∷ ss) =
    counted_by net s.gave.after depth s.gave.outcome (handed_at_depth net (depth_after net depth s.gave.outcome) ss)
