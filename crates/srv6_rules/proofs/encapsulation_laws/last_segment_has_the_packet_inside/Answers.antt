use Rattle.srv6_rules.proofs.PacketPackets.{content_of_spelling_alone}
use Rattle.srv6_rules.proofs.EncapsulatedSteps.{at_segment_exposed, at_segment_upper_layer, at_segment_usp, bare_exposed, bare_upper_layer}
use Rattle.srv6_rules.proofs.encapsulation_laws.last_segment_has_the_packet_inside.Goals as goal

pub returns-clause-upper_layer : goal.returns-clause-upper_layer
returns-clause-upper_layer c = at_segment_upper_layer

pub returns-clause-exposed : goal.returns-clause-exposed
returns-clause-exposed c = at_segment_exposed

pub returns-clause-packet : goal.returns-clause-packet
returns-clause-packet c = content_of_spelling_alone

pub returns-clause-usp : goal.returns-clause-usp
returns-clause-usp c = at_segment_usp

pub returns-clause-bare_upper_layer : goal.returns-clause-bare_upper_layer
returns-clause-bare_upper_layer c = bare_upper_layer

pub returns-clause-bare_exposed : goal.returns-clause-bare_exposed
returns-clause-bare_exposed c = bare_exposed
