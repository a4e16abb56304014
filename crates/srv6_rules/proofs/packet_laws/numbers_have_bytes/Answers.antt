use Rattle.srv6_rules.proofs.Bytes.{length_two_bytes, all_two_bytes, length_four_bytes, all_four_bytes, length_address_bytes, all_address_bytes}
use Rattle.srv6_rules.proofs.packet_laws.numbers_have_bytes.Goals as goal

pub returns-clause-two : goal.returns-clause-two
returns-clause-two c = λ n. (length_two_bytes n, all_two_bytes n)

pub returns-clause-four : goal.returns-clause-four
returns-clause-four c = λ n. (length_four_bytes n, all_four_bytes n)

pub returns-clause-address : goal.returns-clause-address
returns-clause-address c = λ a. (length_address_bytes a, all_address_bytes a)
