-- Packets with spare bytes in front of them, and what is spare after a stage.
use Rattle.std.specs.Prelude.{ℕ, ◌+◌, ◌-◌, max, List, length, slice_get, Option, Some, None}
use Rattle.srv6_rules.specs.declared.sid.Behaviour.{Behaviour}
use Rattle.srv6_rules.specs.declared.sid.SidEntry.{SidEntry}
use Rattle.srv6_rules.specs.Behaviours.{behaviour_policy, behaviour_reduces}
use Rattle.srv6_rules.specs.Encapsulation.{header_bytes}
use Rattle.srv6_rules.specs.Endpoint.{Endpoint, Onward, Exposed, Delivered, Refused, at_sid}
use Rattle.srv6_rules.specs.Packet.{Content, Packet, V6, V4, Unreadable, spelling}
use Rattle.policy_encap.specs.declared.policy_headers.TheConstants.{MAX_FRONT}
use Rattle.net_model.specs.Network.{Network}
use Rattle.net_model.specs.declared.parts.NamedPolicy.{NamedPolicy}
use Rattle.walk_rules.specs.Treatment.{allow_of}
use Rattle.walk_rules.specs.declared.place.Outcome.{Outcome}
use Rattle.walk_rules.specs.declared.place.Outcome.TheVariants.{Send, Again, Hand, Local, Drop}

-- a packet of either family, or bytes that do not read as one, and how many bytes are spare in front
pub record FrontedContent : Type 0 where
  pub content : Content
  pub front : ℕ

abbrev pub fronted : Content → ℕ → FrontedContent
fronted content front = record { content = content; front = front }

-- as many bytes as the longest header of a policy has
abbrev pub most_front : ℕ
most_front = MAX_FRONT

-- what is spare after a packet went on from a SID: as many as before; where it is a binding SID, first at least as many as the longest
-- header has, and then less by the policy's header

abbrev pub front_pushed : Behaviour → Option NamedPolicy → ℕ → ℕ
front_pushed b None front = front
front_pushed b (Some named) front = max MAX_FRONT front - header_bytes (behaviour_reduces b) (length named.policy.segments)

abbrev pub front_bound : Network → Behaviour → Option ℕ → ℕ → ℕ
front_bound net b None front = front
front_bound net b (Some number) front = front_pushed b (slice_get net.policies number) front

abbrev pub front_behind : Network → Option SidEntry → ℕ → ℕ
front_behind net None front = front
front_behind net (Some s) front = front_bound net s.behaviour (behaviour_policy s.behaviour) front

-- how many bytes stand in front of what a SID exposes of a packet
abbrev pub taken_off : Packet → Endpoint → ℕ
taken_off p (Exposed family bytes) = length (spelling p) - length bytes
taken_off p (Onward q) = 0
taken_off p (Delivered q) = 0
taken_off p (Refused reason at) = 0

abbrev pub taken_at : List ℕ → Option SidEntry → Content → ℕ
taken_at allow (Some s) (V6 p) = taken_off p (at_sid s allow p)
taken_at allow None content = 0
taken_at allow (Some s) (V4 p) = 0
taken_at allow (Some s) (Unreadable bytes reason) = 0

-- what is spare after a stage of an outcome at a node
abbrev pub front_after : Network → ℕ → FrontedContent → Outcome → ℕ
front_after net node before (Send link) = before.front
front_after net node before (Again sid how) = front_behind net (slice_get net.sids sid) before.front
front_after net node before (Hand sid how family) =
    before.front + taken_at (allow_of (slice_get net.nodes node)) (slice_get net.sids sid) before.content
front_after net node before Local = before.front
front_after net node before (Drop reason error) = before.front
