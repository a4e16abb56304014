use Rattle.srv6_rules.proofs.PacketPackets.{content_of_spelling, content_of_spelling_alone}
use Rattle.srv6_rules.proofs.packet_laws.reading_gives_the_value_back.Goals as goal

pub returns-clause-front : goal.returns-clause-front
returns-clause-front c = content_of_spelling

pub returns-clause-alone : goal.returns-clause-alone
returns-clause-alone c = content_of_spelling_alone
