use Rattle.srv6_rules.proofs.EncapsulationForms.{at_segment_spellable}
use Rattle.srv6_rules.proofs.encapsulation_laws.outer_packet_can_be_spelled.Goals as goal

pub returns : goal.returns
returns c = at_segment_spellable
