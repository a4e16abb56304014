-- One node's treatment of one packet where the packets that pushed headers carry are values (RFC 8986 sections 4.13 and 4.14).
--
-- Behind a binding SID a packet has a header in front. What stands at the node is then that header, in front of no bytes, and the
-- packet that it carries is the first of those below; that packet may be such a header itself, whose packet is the next below. The
-- node looks at the header alone (RFC 8200 section 4), so nothing that is below is read, spelled or measured: a header of any size is
-- pushed, in front of a packet that no bytes need to spell. No link has an MTU.
use Rattle.std.specs.Prelude.{ℕ, Bool, is_some, List, [], ◌∷◌, slice_get, Option, Some, None}
use Rattle.srv6_rules.specs.declared.sid.Behaviour.{Behaviour}
use Rattle.srv6_rules.specs.declared.family.Family.TheVariants as families
use Rattle.srv6_rules.specs.declared.reason.Reason.TheVariants as reasons
use Rattle.srv6_rules.specs.declared.sid.SidEntry.{SidEntry}
use Rattle.srv6_rules.specs.Behaviours.{behaviour_policy, behaviour_reduces}
use Rattle.srv6_rules.specs.Packet.{Packet, Content, V6, V4, Unreadable, read_as}
use Rattle.srv6_rules.specs.Policies.{outer_by}
use Rattle.srv6_rules.specs.Endpoint.{Endpoint, Onward, Exposed, Delivered, Refused, at_sid}
use Rattle.net_model.specs.declared.parts.NamedPolicy.{NamedPolicy}
use Rattle.net_model.specs.Network.{Network}
use Rattle.walk_rules.specs.declared.place.Place.{Place}
use Rattle.walk_rules.specs.declared.place.Outcome.{Outcome}
use Rattle.walk_rules.specs.declared.place.Outcome.TheVariants as outcomes
use Rattle.walk_rules.specs.Way.{Way, NoWay, Over, Own, Into, way_of}
use Rattle.walk_rules.specs.Treatment.{Gave, allow_of, dropped, goes, onward_from, exposed_from, treated, free_step_of}

-- what a stage gives: its outcome, what stands there after it, and the packets below that, the one that it carries first
pub record TunnelGave : Type 0 where
  pub outcome : Outcome
  pub after : Content
  pub below : List Packet

-- an outcome that leaves the packets below as they are
abbrev pub over : List Packet → Gave → TunnelGave
over below gave = record { outcome = gave.outcome; after = gave.after; below = below }

-- a packet goes on from SID n after the header of a policy: that header stands there, in the form of the behaviour, and carries the
-- packet (RFC 8986 sections 4.13 and 4.14); a SID binds no policy that is not there
abbrev pub tunnel_bound : Network → ℕ → ℕ → Behaviour → Packet → Packet → List Packet → Option NamedPolicy → TunnelGave
tunnel_bound net node n b p q below None = over below (dropped net node reasons.NoRoute 0 (V6 p))
tunnel_bound net node n b p q below (Some named) =
    record {
      outcome = outcomes.Again n (onward_from n b);
      after = V6 (outer_by named.policy (behaviour_reduces b) families.V6 []);
      below = q ∷ below;
    }

-- a packet goes on from SID n as another, after the header of the policy that the SID binds, if it binds one
abbrev pub tunnel_onward : Network → ℕ → ℕ → Behaviour → Packet → Packet → List Packet → Option ℕ → TunnelGave
tunnel_onward net node n b p q below None = over below (goes (outcomes.Again n (onward_from n b)) (V6 q))
tunnel_onward net node n b p q below (Some number) = tunnel_bound net node n b p q below (slice_get net.policies number)

-- what comes of a packet at SID n. Where it carries a packet, that one is exposed as the value that it is; else its own bytes are read as
-- a packet of their family
abbrev pub tunnel_at_sid : Network → ℕ → ℕ → Behaviour → Packet → List Packet → Endpoint → TunnelGave
tunnel_at_sid net node n b p below (Onward q) = tunnel_onward net node n b p q below (behaviour_policy b)
tunnel_at_sid net node n b p [] (Exposed family bytes) = over [] (goes (outcomes.Hand n (exposed_from n b) family) (read_as family bytes))
tunnel_at_sid net node n b p (q ∷ below) (Exposed family bytes) = over below (goes (outcomes.Hand n (exposed_from n b) family) (V6 q))
tunnel_at_sid net node n b p below (Delivered q) = over below (goes outcomes.Local (V6 q))
tunnel_at_sid net node n b p below (Refused reason at) = over below (dropped net node reason at (V6 p))

abbrev pub tunnel_in : Network → ℕ → ℕ → Option SidEntry → Packet → List Packet → TunnelGave
tunnel_in net node n None p below = over below (dropped net node reasons.NoRoute 0 (V6 p))
tunnel_in net node n (Some s) p below =
    tunnel_at_sid net node n s.behaviour p below (at_sid s (allow_of (slice_get net.nodes node)) p)

-- only at a SID do the packets below count
abbrev pub tunnel_treated : Network → ℕ → Way → Packet → List Packet → ℕ → TunnelGave
tunnel_treated net node (NoWay reason) p below choice = over below (treated net node (NoWay reason) p choice)
tunnel_treated net node (Over set lower) p below choice = over below (treated net node (Over set lower) p choice)
tunnel_treated net node Own p below choice = over below (treated net node Own p choice)
tunnel_treated net node (Into n) p below choice = tunnel_in net node n (slice_get net.sids n) p below

-- the stage: what one node does with what stands at a place and carries packets, under a choice among equal next hops. IPv4 packets and
-- bytes that do not read carry none
abbrev pub tunnel_step : Network → Place → Content → List Packet → ℕ → TunnelGave
tunnel_step net place (V6 p) below choice = tunnel_treated net place.node (way_of net place p.destination) p below choice
tunnel_step net place (V4 p) below choice = over below (free_step_of net place (V4 p) choice)
tunnel_step net place (Unreadable bytes reason) below choice = over below (free_step_of net place (Unreadable bytes reason) choice)

-- ---- binding SIDs

abbrev pub policy_at : Option SidEntry → Option ℕ
policy_at None = None
policy_at (Some s) = behaviour_policy s.behaviour

-- SID n binds a policy
abbrev pub is_binding : Network → ℕ → Bool
is_binding net n = is_some (policy_at (slice_get net.sids n))
