-- Need not be believed: helps proofs and other laws.
-- A packet's bytes before and after the step over its segment routing header (RFC 9800 section 4.2).
use Rattle.std.specs.Prelude.{◌≡◌, ◌≢◌, ℕ, ◌+◌, ◌-◌, Bool, List, slice_set, Option, Some, None}
use Rattle.srv6_rules.specs.declared.compression.Compression.{Compression}
use Rattle.srv6_rules.specs.Packet.{Packet, V6, content_of, packet_at}
use Rattle.srv6_rules.specs.Srh.{srh_of, segments_left_at}
use Rattle.srv6_rules.specs.Chain.{from_place}
use Rattle.srv6_rules.specs.CompressedSteps.{Move, ReplaceStep, Moved, AtEnd, Dropped, moved, replace_step}
use Rattle.srv6_rules.specs.CompressedStepsTerms.{with_hop_and_destination}
use Rattle.replace_csid.specs.declared.replace_step.ReplaceOutcome.{ReplaceOutcome}
use Rattle.replace_csid.specs.declared.replace_step.ReplaceOutcome.TheVariants as outcomes

-- what comes of the segment routing header at a place of the packet in these bytes
abbrev pub step_at : Compression → List ℕ → ℕ → ReplaceStep
step_at c bytes at = replace_step c (packet_at bytes) at (srh_of (from_place (packet_at bytes) at))

-- bytes with Segments Left of the header at a place, a hop limit one lower and another destination; each other byte is as it was
abbrev pub with_move : List ℕ → ℕ → Move → List ℕ
with_move bytes at m =
    with_hop_and_destination (slice_set bytes (at + segments_left_at) m.segments_left) ((packet_at bytes).hop_limit - 1) m.destination

-- the header was moved on in: the packet is the one after the move, and the bytes are those with the move written
pub record IsMoved (c : Compression) (at : ℕ) (old new : List ℕ) (end : Bool) : Type 0 where
  pub move : Move
  pub step : step_at c old at ≡ Moved (moved (packet_at old) at move) end
  pub packet : content_of new ≡ V6 (moved (packet_at old) at move)
  pub bytes : new ≡ with_move old at move

abbrev pub IsReplaced : Compression → ℕ → List ℕ → List ℕ → ReplaceOutcome → Type 0
IsReplaced c at old new (outcomes.Moved end) = IsMoved c at old new end
IsReplaced c at old new outcomes.End = (step_at c old at ≡ AtEnd) × (new ≡ old)
IsReplaced c at old new (outcomes.Drop reason place) =
    (step_at c old at ≡ Dropped (record { reason = reason; at = place })) × (new ≡ old)

-- whether no segment is left after the step, where the packet is moved on; none where it is not
abbrev pub WouldMove : Packet → ℕ → ReplaceStep → Option Bool → Type 0
WouldMove p at step (Some end) = (m : Move) × (step ≡ Moved (moved p at m) end)
WouldMove p at step None = (q : Packet) (end : Bool) → step ≢ Moved q end
