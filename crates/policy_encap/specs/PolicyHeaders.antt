-- Need not be believed: helps proofs and other laws.
-- The headers that a policy puts in front of a packet (RFC 8986 section 5).
use Rattle.std.specs.Prelude.{ℕ, Bool, ◌+◌, ◌*◌, ◌^◌, ◌<◌, ◌==◌, if◌then◌else◌, List, length, drop, map, slice_index}
use Rattle.v6_addr.specs.declared.address.Addr.{Addr}
use Rattle.srv6_rules.specs.declared.numbers.TheConstants.{SEGMENT_LIST_AT, SEGMENT_LEN}
use Rattle.srv6_rules.specs.declared.policy.Policy.{Policy}
use Rattle.srv6_rules.specs.Packet.{Packet}

-- the segments that the segment list has, in the order in which they are visited: in the reduced form all but the first
abbrev pub listed : Policy → Bool → List Addr
listed policy reduced = if reduced then drop 1 policy.segments else policy.segments

-- the length in bytes of the segment routing header over the segments that are listed; there is none over none
abbrev pub routing_bytes : List Addr → ℕ
routing_bytes list = if length list == 0 then 0 else SEGMENT_LIST_AT + SEGMENT_LEN * length list

-- the packet of the policy's outer header with a next header, and a payload
abbrev pub framed : Policy → ℕ → List ℕ → Packet
framed policy next_header payload =
    record {
      traffic_class = policy.traffic_class;
      flow_label = policy.flow_label;
      next_header = next_header;
      hop_limit = policy.hop_limit;
      source = policy.source.value;
      destination = slice_index (map (λ (a : Addr). a.value) policy.segments) 0;
      payload = payload;
    }

-- the fields of the policy's outer header that a type bounds fit their widths
pub record FitsOuter (policy : Policy) : Type 0 where
  pub traffic_class : policy.traffic_class < 2 ^ 8
  pub hop_limit : policy.hop_limit < 2 ^ 8
  pub source : policy.source.value < 2 ^ 128
  pub destination : slice_index (map (λ (a : Addr). a.value) policy.segments) 0 < 2 ^ 128
