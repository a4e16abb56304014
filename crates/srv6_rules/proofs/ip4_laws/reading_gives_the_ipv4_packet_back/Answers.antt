use Rattle.srv6_rules.proofs.Packets4.{read4_alone, read4_spelling}
use Rattle.srv6_rules.proofs.ip4_laws.reading_gives_the_ipv4_packet_back.Goals as goal

pub returns-clause-front : goal.returns-clause-front
returns-clause-front c = read4_spelling

pub returns-clause-alone : goal.returns-clause-alone
returns-clause-alone c = read4_alone
