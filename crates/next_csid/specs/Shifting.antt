-- Need not be believed: helps proofs and other laws.
-- A packet's bytes before and after a shift (RFC 9800 section 4.1).
use Rattle.std.specs.Prelude.{◌≡◌, ℕ, List, Some, None}
use Rattle.srv6_rules.specs.declared.compression.Compression.{Compression}
use Rattle.srv6_rules.specs.declared.reason.Reason.TheVariants as reasons
use Rattle.srv6_rules.specs.Packet.{V6, content_of, packet_at}
use Rattle.srv6_rules.specs.CompressedSteps.{hop_limit_fault, shifted}
use Rattle.srv6_rules.specs.CompressedStepsTerms.{with_hop_and_destination}
use Rattle.next_csid.specs.declared.next_step.ShiftOutcome.{ShiftOutcome}
use Rattle.next_csid.specs.declared.next_step.ShiftOutcome.TheVariants as outcomes

-- the hop limit could be lowered: the packet is the one that the shift gives, and the bytes are those with its hop limit and destination
pub record IsShifted (c : Compression) (old new : List ℕ) : Type 0 where
  pub hop_limit : hop_limit_fault (packet_at old) ≡ None
  pub packet : content_of new ≡ V6 (shifted c (packet_at old))
  pub bytes : new
      ≡ with_hop_and_destination old (shifted c (packet_at old)).hop_limit (shifted c (packet_at old)).destination

-- it could not: nothing changed
pub record IsDropped (old new : List ℕ) : Type 0 where
  pub hop_limit : hop_limit_fault (packet_at old) ≡ Some (record { reason = reasons.HopLimit; at = 0 })
  pub bytes : new ≡ old

abbrev pub IsShift : Compression → List ℕ → List ℕ → ShiftOutcome → Type 0
IsShift c old new outcomes.Shifted = IsShifted c old new
IsShift c old new outcomes.Drop = IsDropped old new
