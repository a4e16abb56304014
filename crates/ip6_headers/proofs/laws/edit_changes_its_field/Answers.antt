use Rattle.ip6_headers.proofs.HeaderEditLemmas.{read_next_header, read_hop_limit, read_destination, read_payload_len, read_payload_cut}
use Rattle.ip6_headers.proofs.laws.edit_changes_its_field.Goals as goal

pub returns-clause-next_header : goal.returns-clause-next_header
returns-clause-next_header c = λ bytes p v reads. read_next_header bytes p reads v

pub returns-clause-hop_limit : goal.returns-clause-hop_limit
returns-clause-hop_limit c = λ bytes p v reads. read_hop_limit bytes p reads v

pub returns-clause-destination : goal.returns-clause-destination
returns-clause-destination c = λ bytes p a reads below. read_destination bytes p reads a below

pub returns-clause-payload_len : goal.returns-clause-payload_len
returns-clause-payload_len c = λ bytes p n reads below room. read_payload_len bytes p reads n below room

pub returns-clause-truncated : goal.returns-clause-truncated
returns-clause-truncated c = λ bytes p n reads below short. read_payload_cut bytes p reads n below short
