use Rattle.srv6_rules.proofs.PacketEdits.{spelling_word, spelling_stated, spelling_next_header, spelling_source, spelling_destination, spelling_behind}
use Rattle.srv6_rules.proofs.PacketPackets.{spelling_hop_limit}
use Rattle.srv6_rules.proofs.packet_laws.fields_stand_in_the_spelling.Goals as goal

pub returns-clause-word : goal.returns-clause-word
returns-clause-word c = spelling_word

pub returns-clause-payload_len : goal.returns-clause-payload_len
returns-clause-payload_len c = spelling_stated

pub returns-clause-next_header : goal.returns-clause-next_header
returns-clause-next_header c = spelling_next_header

pub returns-clause-hop_limit : goal.returns-clause-hop_limit
returns-clause-hop_limit c = spelling_hop_limit

pub returns-clause-source : goal.returns-clause-source
returns-clause-source c = spelling_source

pub returns-clause-destination : goal.returns-clause-destination
returns-clause-destination c = spelling_destination

pub returns-clause-payload : goal.returns-clause-payload
returns-clause-payload c = spelling_behind
