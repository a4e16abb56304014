use Rattle.srv6_rules.proofs.Bytes.{two_bytes_number, four_bytes_number, address_bytes_number}
use Rattle.srv6_rules.proofs.packet_laws.number_read_has_the_bytes.Goals as goal

pub returns-clause-two : goal.returns-clause-two
returns-clause-two c = two_bytes_number

pub returns-clause-four : goal.returns-clause-four
returns-clause-four c = four_bytes_number

pub returns-clause-address : goal.returns-clause-address
returns-clause-address c = address_bytes_number
