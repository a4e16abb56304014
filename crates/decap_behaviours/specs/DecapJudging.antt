-- Need not be believed: helps proofs and other laws.
-- What is judged of a packet at a SID that decapsulates.
use Rattle.std.specs.Prelude.{◌≡◌, ℕ, ◌+◌, ◌≤◌, ◌==◌, Bool, if◌then◌else◌, length}
use Rattle.srv6_rules.specs.declared.sid.SidEntry.{SidEntry}
use Rattle.srv6_rules.specs.Packet.{Packet, header_len}
use Rattle.srv6_rules.specs.Srh.{srh_of}
use Rattle.srv6_rules.specs.Chain.{Header, from_place, segments_left}
use Rattle.srv6_rules.specs.CompressedSteps.{compression_of, is_at_end, is_replace}
use Rattle.srv6_rules.specs.Endpoint.{Endpoint, Exposed, Delivered, Refused}
use Rattle.decap_behaviours.specs.declared.decap_judge.Exposure.{Exposure}
use Rattle.decap_behaviours.specs.declared.decap_judge.Exposure.TheVariants.{Expose, Deliver, Refuse}

-- no segment is left in a segment routing header (RFC 8986 sections 4.4 to 4.8, RFC 9800 section 4.2)
abbrev pub has_ended : SidEntry → Packet → Header → Bool
has_ended s p h =
    if is_replace s.csid then is_at_end (compression_of s) (srh_of h.bytes) p.destination else segments_left h == 0

-- a place after the packet's IPv6 header, in the packet or at its end
pub record IsWithin (p : Packet) (at : ℕ) : Type 0 where
  pub behind : header_len ≤ at
  pub within : at ≤ header_len + length p.payload

-- what is judged of a packet is what comes of it, and what is exposed stands in the packet
abbrev pub IsExposure : Packet → Endpoint → Exposure → Type 0
IsExposure p e (Expose family at) = (e ≡ Exposed family (from_place p at)) × IsWithin p at
IsExposure p e Deliver = e ≡ Delivered p
IsExposure p e (Refuse fault) = e ≡ Refused fault.reason fault.at
