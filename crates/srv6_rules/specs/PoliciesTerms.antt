-- Need not be believed: helps proofs and other laws.
-- Terms beside those of `specs/Policies.antt`.
use Rattle.std.specs.Prelude.{ℕ, ◌-◌, ◌^◌, ◌<◌, ◌≤◌, List, length}
use Rattle.srv6_rules.specs.declared.numbers.TheConstants.{MAX_SEGMENTS}
use Rattle.srv6_rules.specs.declared.policy.Policy.{Policy}
use Rattle.srv6_rules.specs.declared.family.Family.{Family}
use Rattle.srv6_rules.specs.declared.family.Family.TheVariants.{V6, V4}
use Rattle.srv6_rules.specs.Packet.{packet_at, spelling}
use Rattle.srv6_rules.specs.Packet4.{packet4_at, spelling4, ttl, lowered4}
use Rattle.srv6_rules.specs.Encapsulation.{inner_lowered}
use Rattle.srv6_rules.specs.Policies.{Encapsulating, headend_by}

-- the policies that headers are made of: at least one segment and at most 127, and a flow label of 20 bits
pub record IsPolicy (policy : Policy) : Type 0 where
  pub some : 0 < length policy.segments
  pub most : length policy.segments ≤ MAX_SEGMENTS
  pub flow_label : policy.flow_label < 2 ^ 20

-- the hop limit or the TTL of the packet of a family that bytes hold
abbrev pub inner_hop : Family → List ℕ → ℕ
inner_hop V6 bytes = (packet_at bytes).hop_limit
inner_hop V4 bytes = ttl (packet4_at bytes)

-- the bytes of that packet, lowered by one: the hop limit, or the TTL and the checksum that follows it
abbrev pub inner_lowered_bytes : Family → List ℕ → List ℕ
inner_lowered_bytes V6 bytes = spelling (inner_lowered (packet_at bytes))
inner_lowered_bytes V4 bytes = spelling4 (lowered4 (packet4_at bytes))

-- H.Encaps of the packet of a family that bytes hold
abbrev pub encapsulated_by : Policy → Family → List ℕ → Encapsulating
encapsulated_by policy inner bytes = headend_by policy inner (inner_hop inner bytes) (inner_lowered_bytes inner bytes)
