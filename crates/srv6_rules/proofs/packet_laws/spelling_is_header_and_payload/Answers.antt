use Rattle.srv6_rules.proofs.PacketPackets.{length_spelling, all_spelling}
use Rattle.srv6_rules.proofs.packet_laws.spelling_is_header_and_payload.Goals as goal

pub returns-clause-length : goal.returns-clause-length
returns-clause-length c = length_spelling

pub returns-clause-bytes : goal.returns-clause-bytes
returns-clause-bytes c = all_spelling
