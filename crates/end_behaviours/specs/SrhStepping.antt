-- Need not be believed: helps proofs and other laws.
-- Steps judged and written, and what is left of a packet (RFC 8986 section 4.1).
use Rattle.std.specs.Prelude.{◌≡◌, ℕ, ◌+◌, ◌<◌, ◌≤◌, ◌==◌, List, length}
use Rattle.srv6_rules.specs.Packet.{Packet}
use Rattle.srv6_rules.specs.Srh.{Srh}
use Rattle.srv6_rules.specs.CompressedSteps.{Move, moved}
use Rattle.srv6_rules.specs.Endpoint.{Onward, Refused, next_segment}
use Rattle.srv6_rules.specs.declared.numbers.TheConstants.{MAX_PACKET_LEN}
use Rattle.endpoint_chain.specs.Outcomes.{HoldsAlone}
use Rattle.endpoint_chain.specs.declared.outcome.EndOutcome.{EndOutcome}
use Rattle.endpoint_chain.specs.declared.outcome.EndOutcome.TheVariants.{On, Hand, Local, Drop}
use Rattle.end_behaviours.specs.declared.stepping.SegmentStep.{SegmentStep}
use Rattle.end_behaviours.specs.declared.stepping.SegmentStep.TheVariants as judgements

-- a step to a destination with so many segments left
abbrev pub move_to : ℕ → ℕ → Move
move_to left destination = record { segments_left = left; destination = destination; ended = left == 0 }

-- what is judged is what comes of the header at a place, and a step can be written
abbrev pub IsSegmentStep : Packet → ℕ → Srh → SegmentStep → Type 0
IsSegmentStep p at srh (judgements.Advance left destination) =
    (next_segment p at srh ≡ Onward (moved p at (move_to left destination.value))) × ((srh.segments_left ≡ left + 1) × (1 < p.hop_limit))
IsSegmentStep p at srh (judgements.Refuse fault) = (next_segment p at srh ≡ Refused fault.reason fault.at) × (fault.at ≤ MAX_PACKET_LEN)

-- what is left of a packet that goes on or is delivered reaches to a place
abbrev pub Reaches : ℕ → List ℕ → EndOutcome → Type 0
Reaches at bytes On = at ≤ length bytes
Reaches at bytes (Hand family) = Unit {0}
Reaches at bytes Local = at ≤ length bytes
Reaches at bytes (Drop reason place) = Unit {0}

-- and it stands alone in the bytes
abbrev pub Remains : ℕ → List ℕ → EndOutcome → Type 0
Remains at bytes On = HoldsAlone bytes × (at ≤ length bytes)
Remains at bytes (Hand family) = Unit {0}
Remains at bytes Local = HoldsAlone bytes × (at ≤ length bytes)
Remains at bytes (Drop reason place) = Unit {0}
