use Rattle.pcap_io.proofs.HeadLemmas.{head_spelled}
use Rattle.pcap_io.proofs.laws.heads_are_spelled.Goals as goal

pub returns : goal.returns
returns c = head_spelled
