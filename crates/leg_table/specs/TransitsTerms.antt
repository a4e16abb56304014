-- Need not be believed: helps proofs and other laws.
-- Terms beside those of `specs/Transits.antt`.
use Rattle.std.specs.Prelude.{ℕ, ◌-◌, ◌<◌, Bool, List, Option, Some, None, IsTrue}
use Rattle.srv6_rules.specs.Packet.{Packet, V6}
use Rattle.net_model.specs.Network.{Network}
use Rattle.walk_rules.specs.Treatment.{free_step_of as step_of}
use Rattle.walk_rules.specs.Walk as walks
use Rattle.intent_reader.specs.declared.intent.Step.{Step}
use Rattle.leg_table.specs.AllChoices.{Ends, seen_at}
use Rattle.leg_table.specs.Transits.{Transit}

abbrev pub with_hop_limit : ℕ → Packet → Packet
with_hop_limit n p = record p { hop_limit = n }

-- a packet can make a transit, and the transit ends at an execution that a test of the steps left and of the stage accepts
abbrev pub TransitEnds : Network → (List Step → walks.Stage → Bool) → Packet → Option Transit → Type 0
TransitEnds net end p None = ⊥
TransitEnds net end p (Some r) =
    let before = V6 (with_hop_limit (p.hop_limit - r.lowered) p) in let gave = step_of net r.place before 0 in
    (r.lowered < p.hop_limit) × Ends gave.outcome (IsTrue (end r.left (seen_at r.place before gave)))
