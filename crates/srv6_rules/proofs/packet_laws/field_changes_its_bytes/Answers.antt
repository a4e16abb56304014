use Rattle.srv6_rules.proofs.PacketEdits.{edit_hop_limit, edit_destination, edit_payload}
use Rattle.srv6_rules.proofs.packet_laws.field_changes_its_bytes.Goals as goal

pub returns-clause-hop_limit : goal.returns-clause-hop_limit
returns-clause-hop_limit c = edit_hop_limit

pub returns-clause-destination : goal.returns-clause-destination
returns-clause-destination c = edit_destination

pub returns-clause-payload : goal.returns-clause-payload
returns-clause-payload c = edit_payload
