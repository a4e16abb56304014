use Rattle.srv6_rules.proofs.EncapsulationForms.{header_bytes_law, outer_with_header, outer_without_header}
use Rattle.srv6_rules.proofs.encapsulation_laws.outer_packet_has_its_parts.Goals as goal

pub returns-clause-with_header : goal.returns-clause-with_header
returns-clause-with_header c = outer_with_header

pub returns-clause-without_header : goal.returns-clause-without_header
returns-clause-without_header c = outer_without_header

pub returns-clause-header : goal.returns-clause-header
returns-clause-header c = header_bytes_law
