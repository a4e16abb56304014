-- Packets that enter at a node as they come.
use Rattle.std.specs.Prelude.{ℕ, List}
use Rattle.pcap_io.specs.declared.frame.Body.{Body}
use Rattle.pcap_io.specs.declared.frame.Body.TheVariants as bodies
use Rattle.srv6_rules.specs.declared.family.Family.{Family}
use Rattle.srv6_rules.specs.declared.family.Family.TheVariants.{V6, V4}
use Rattle.srv6_rules.specs.Packet.{entered}
use Rattle.walk_rules.specs.declared.place.How.TheVariants.{Arrived}
use Rattle.walk_rules.specs.declared.place.Place.{Place}
use Rattle.command_output.specs.declared.unread.Unread.TheVariants as unreads
use Rattle.run_commands.specs.declared.enters.EarlyEnd.TheVariants.{NotRead}
use Rattle.run_commands.specs.Admission.{Admission, EndsEarly, Admitted}

-- where what enters at a node as a packet of a family stands
abbrev pub admission_place : ℕ → Family → Place
admission_place node family = record { node = node; how = Arrived 0; family = family }

-- bytes as a packet of a family
abbrev pub admission_as : ℕ → Family → List ℕ → Admission
admission_as node family packet = Admitted (record { place = admission_place node family; content = entered family packet })

-- what a frame holds enters there, if it is read
abbrev pub admission_at_node : ℕ → Body → Admission
admission_at_node node (bodies.V6 packet) = admission_as node V6 packet
admission_at_node node (bodies.V4 packet) = admission_as node V4 packet
admission_at_node node bodies.ShortFrame = EndsEarly (NotRead unreads.ShortFrame)
admission_at_node node bodies.NotIp = EndsEarly (NotRead unreads.NotIp)
