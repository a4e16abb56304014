use Rattle.srv6_rules.proofs.Headers.{srh_of_spelling}
use Rattle.srv6_rules.proofs.packet_laws.srh_reading_gives_the_value_back.Goals as goal

pub returns : goal.returns
returns c = srh_of_spelling
