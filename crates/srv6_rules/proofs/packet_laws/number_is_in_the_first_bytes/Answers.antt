use Rattle.srv6_rules.proofs.Bytes.{two_number_append, four_number_append, address_number_append}
use Rattle.srv6_rules.proofs.packet_laws.number_is_in_the_first_bytes.Goals as goal

pub returns-clause-two : goal.returns-clause-two
returns-clause-two c = two_number_append

pub returns-clause-four : goal.returns-clause-four
returns-clause-four c = four_number_append

pub returns-clause-address : goal.returns-clause-address
returns-clause-address c = address_number_append
