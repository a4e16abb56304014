-- A network as a world of headers: what a node does with the packet on top, whatever it carries.
use Rattle.std.specs.Prelude.{ℕ, ◌&&◌, nat_le, if◌then◌else◌, List, [], ◌∷◌, slice_get, Option, Some, None}
use Rattle.srv6_rules.specs.declared.sid.Behaviour.{Behaviour}
use Rattle.srv6_rules.specs.declared.family.Family.TheVariants as families
use Rattle.srv6_rules.specs.declared.sid.SidEntry.{SidEntry}
use Rattle.srv6_rules.specs.Behaviours.{behaviour_policy, behaviour_reduces}
use Rattle.srv6_rules.specs.Packet.{Packet, Content, read_as}
use Rattle.srv6_rules.specs.Policies.{outer_by}
use Rattle.srv6_rules.specs.Endpoint.{Endpoint, Onward, Exposed, Delivered, Refused, at_sid}
use Rattle.net_model.specs.declared.parts.NamedPolicy.{NamedPolicy}
use Rattle.net_model.specs.Network.{Network}
use Rattle.walk_rules.specs.declared.place.How.{How}
use Rattle.walk_rules.specs.declared.place.Place.{Place}
use Rattle.walk_rules.specs.Way.{Way, NoWay, Over, Own, Into, way_of}
use Rattle.walk_rules.specs.Treatment.{allow_of, lowered, onward_from, exposed_from}
use Rattle.walk_rules.specs.Walk.{far_end, arrival}
use Rattle.intent_reader.specs.declared.intent.Step.{Step}
use Rattle.leg_table.specs.WalkTrace.{TraceEvent, Crossed, executed}
use Rattle.leg_table.specs.StepMatching.{meets}
use Rattle.binding_spec.specs.Machines.{Events}
use Rattle.binding_spec.specs.TunnelPackets.{World, Look, Crosses, Executes, Pushes, Exposes, Loses}

-- the same node, from which a packet goes on so
abbrev pub at_how : Place → How → Place
at_how place how = record { node = place.node; how = how; family = place.family }

-- where a link leads from a place, if it ends in the network
abbrev pub leads : Network → Place → ℕ → Option Place
leads net place link = arrival (far_end (slice_get net.links link)) place

-- over a set of links; of an empty one, which no network has, walks take link 0
abbrev pub look_links : Network → Place → List ℕ → Packet → Look ℕ ℕ Place Packet Content
look_links net place [] p = Crosses 0 [] (leads net place) p
look_links net place (link ∷ links) p = Crosses link links (leads net place) p

-- a header of the policy that a SID binds is pushed on what goes on from it, round no bytes (RFC 8986 sections 4.13 and 4.14)
abbrev pub look_bound : Network → Place → ℕ → Behaviour → Packet → Option NamedPolicy → Look ℕ ℕ Place Packet Content
look_bound net place n b q None = Loses
look_bound net place n b q (Some named) =
    Pushes n (at_how place (onward_from n b)) (outer_by named.policy (behaviour_reduces b) families.V6 []) q

abbrev pub look_onward : Network → Place → ℕ → Behaviour → Packet → Option ℕ → Look ℕ ℕ Place Packet Content
look_onward net place n b q None = Executes n (at_how place (onward_from n b)) q
look_onward net place n b q (Some number) = look_bound net place n b q (slice_get net.policies number)

abbrev pub look_at_sid : Network → Place → ℕ → Behaviour → Endpoint → Look ℕ ℕ Place Packet Content
look_at_sid net place n b (Onward q) = look_onward net place n b q (behaviour_policy b)
look_at_sid net place n b (Exposed family bytes) =
    Exposes n (record { node = place.node; how = exposed_from n b; family = family }) (read_as family bytes)
look_at_sid net place n b (Delivered q) = Loses
look_at_sid net place n b (Refused reason at) = Loses

abbrev pub look_in : Network → Place → ℕ → Option SidEntry → Packet → Look ℕ ℕ Place Packet Content
look_in net place n None p = Loses
look_in net place n (Some s) p = look_at_sid net place n s.behaviour (at_sid s (allow_of (slice_get net.nodes place.node)) p)

abbrev pub look_by : Network → Place → Way → Packet → Look ℕ ℕ Place Packet Content
look_by net place (NoWay reason) p = Loses
look_by net place (Over set lower) p = if lower && nat_le p.hop_limit 1 then Loses else look_links net place set (lowered lower p)
look_by net place Own p = Loses
look_by net place (Into n) p = look_in net place n (slice_get net.sids n) p

-- what the node does with the packet on top
abbrev pub look_at : Network → Place → Packet → Look ℕ ℕ Place Packet Content
look_at net place p = look_by net place (way_of net place p.destination) p

-- a link that is crossed meets a step of links that has it, and an executed function the step of its SID
abbrev pub step_events : Events ℕ TraceEvent Step
step_events = record { crossed = Crossed; meets = meets }

-- the network, where a header has to be taken off again within so many stages
abbrev pub world : Network → ℕ → World ℕ TraceEvent Step ℕ Place Packet Content
world net limit = record { events = step_events; executed = executed net; look = look_at net; limit = limit }
