use Rattle.pcap_io.proofs.HeadLemmas.{head_read}
use Rattle.pcap_io.proofs.laws.spelled_heads_are_read.Goals as goal

pub returns : goal.returns
returns c = head_read
