use Rattle.srv6_rules.proofs.Headers.{entry_at, length_entries, left_set}
use Rattle.srv6_rules.proofs.packet_laws.srh_holds_its_list.Goals as goal

pub returns-clause-entry : goal.returns-clause-entry
returns-clause-entry c = entry_at

pub returns-clause-length : goal.returns-clause-length
returns-clause-length c = length_entries

pub returns-clause-left : goal.returns-clause-left
returns-clause-left c = left_set
