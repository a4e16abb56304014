-- Need not be believed: helps proofs and other laws.
-- What a node does with packets that differ in their hop limit alone.
use Rattle.std.specs.Prelude.{ℕ, Bool, true, List, [], ◌∷◌, slice_get, Option, Some, None}
use Rattle.srv6_rules.specs.declared.sid.Behaviour.{Behaviour}
use Rattle.srv6_rules.specs.declared.family.Family.TheVariants as families
use Rattle.srv6_rules.specs.declared.sid.SidEntry.{SidEntry}
use Rattle.srv6_rules.specs.Behaviours.{behaviour_policy, behaviour_reduces}
use Rattle.srv6_rules.specs.Packet.{Packet, Content, read_as}
use Rattle.srv6_rules.specs.Policies.{outer_by}
use Rattle.srv6_rules.specs.Endpoint.{Endpoint, Onward, Exposed, Delivered, Refused, at_sid}
use Rattle.net_model.specs.declared.parts.NamedPolicy.{NamedPolicy}
use Rattle.net_model.specs.Network.{Network}
use Rattle.walk_rules.specs.declared.place.Place.{Place}
use Rattle.walk_rules.specs.Way.{Way, NoWay, Over, Own, Into, way_of}
use Rattle.walk_rules.specs.Treatment.{allow_of, onward_from, exposed_from}
use Rattle.leg_table.specs.TransitsTerms.{with_hop_limit}
use Rattle.tunnel_walks_theory.specs.HopNeeds.{Kind, Crossing, Executing, Pushing, Exposing, Losing}
use Rattle.binding_spec.specs.NetworkWorld.{at_how, leads}

-- the packet of a form, told as any of the packets, with a hop limit
abbrev pub of_hop_limit : Packet → ℕ → Packet
of_hop_limit form hop = with_hop_limit hop form

abbrev pub NetKind : Type 0
NetKind = Kind ℕ ℕ Place Packet Packet Content

abbrev pub kind_links : Network → Place → List ℕ → Bool → Packet → NetKind
kind_links net place [] lower form = Crossing lower 0 [] (leads net place) form
kind_links net place (link ∷ links) lower form = Crossing lower link links (leads net place) form

abbrev pub kind_bound : Network → Place → ℕ → Behaviour → Packet → Option NamedPolicy → NetKind
kind_bound net place n b q None = Losing
kind_bound net place n b q (Some named) =
    Pushing true n (at_how place (onward_from n b)) (outer_by named.policy (behaviour_reduces b) families.V6 []) q

abbrev pub kind_onward : Network → Place → ℕ → Behaviour → Packet → Option ℕ → NetKind
kind_onward net place n b q None = Executing true n (at_how place (onward_from n b)) q
kind_onward net place n b q (Some number) = kind_bound net place n b q (slice_get net.policies number)

-- a SID lowers the hop limit of what goes on, and refuses it where it is at most 1 (RFC 8986 section 4.1)
abbrev pub kind_at_sid : Network → Place → ℕ → Behaviour → Endpoint → NetKind
kind_at_sid net place n b (Onward q) = kind_onward net place n b q (behaviour_policy b)
kind_at_sid net place n b (Exposed family bytes) =
    Exposing n (record { node = place.node; how = exposed_from n b; family = family }) (read_as family bytes)
kind_at_sid net place n b (Delivered q) = Losing
kind_at_sid net place n b (Refused reason at) = Losing

abbrev pub kind_in : Network → Place → ℕ → Option SidEntry → Packet → NetKind
kind_in net place n None form = Losing
kind_in net place n (Some s) form =
    kind_at_sid net place n s.behaviour (at_sid s (allow_of (slice_get net.nodes place.node)) (with_hop_limit 2 form))

abbrev pub kind_by : Network → Place → Way → Packet → NetKind
kind_by net place (NoWay reason) form = Losing
kind_by net place (Over set lower) form = kind_links net place set lower form
kind_by net place Own form = Losing
kind_by net place (Into n) form = kind_in net place n (slice_get net.sids n) form

-- what the node does at a place with the packets of a form
abbrev pub kind_at : Network → Place → Packet → NetKind
kind_at net place form = kind_by net place (way_of net place form.destination) form
