-- Need not be believed: helps proofs and other laws.
-- Transits of a packet by look-ups alone, and what the SID at their end does with it.
use Rattle.std.specs.Prelude.{ℕ, ◌-◌, nat_lt, if◌then◌else◌, List, slice_get, Option, None}
use Rattle.srv6_rules.specs.Packet.{Packet, Content}
use Rattle.net_model.specs.Network.{Network}
use Rattle.walk_rules.specs.declared.place.Place.{Place}
use Rattle.intent_reader.specs.declared.intent.Step.{Step}
use Rattle.leg_table.specs.WalkTrace.{TraceEvent}
use Rattle.leg_table.specs.Transits.{Transit}
use Rattle.leg_table.specs.TransitsTerms.{with_hop_limit}
use Rattle.binding_spec.specs.Machines.{Move, End, end_by}
use Rattle.tunnel_walks_theory.specs.TunnelPacketsTerms.{Tunnelled, Met, met_by}
use Rattle.binding_spec.specs.NetworkWorld.{look_in, step_events, world}

-- the end of a move behind which nothing follows
abbrev pub ended_at : List Step → Move ℕ TraceEvent ℕ (Tunnelled Place Packet) (Met Place Packet Content)
    → Option (End Step ℕ (Met Place Packet Content))
ended_at left move = end_by step_events (λ us d. None) move left

-- at the end of a transit: where the packet's hop limit is above the lowerings of the transit, what the SID does with it, with the hop limit that
-- is left
abbrev pub met_there : Network → ℕ → Packet → Transit → Option (End Step ℕ (Met Place Packet Content))
met_there net limit p r =
    if nat_lt r.lowered p.hop_limit
    then ended_at r.left
    (met_by (world net limit) (look_in net r.place r.sid (slice_get net.sids r.sid) (with_hop_limit (p.hop_limit - r.lowered) p)))
    else None
