use Rattle.srv6_rules.proofs.Bytes.{two_number_bytes, four_number_bytes, address_number_bytes}
use Rattle.srv6_rules.proofs.packet_laws.bytes_read_as_the_number.Goals as goal

pub returns-clause-two : goal.returns-clause-two
returns-clause-two c = two_number_bytes

pub returns-clause-four : goal.returns-clause-four
returns-clause-four c = four_number_bytes

pub returns-clause-address : goal.returns-clause-address
returns-clause-address c = address_number_bytes
