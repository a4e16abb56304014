use Rattle.srv6_rules.proofs.PacketPackets.{spells_value}
use Rattle.srv6_rules.proofs.packet_laws.spelling_is_the_one.Goals as goal

pub returns-clause-value : goal.returns-clause-value
returns-clause-value c = spells_value
