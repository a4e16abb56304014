use Rattle.srv6_rules.proofs.ErrorLaws.{error_checksum_parts}
use Rattle.srv6_rules.proofs.icmp.error_checksum_is_of_its_parts.Goals as goal

pub returns : goal.returns
returns c = error_checksum_parts
