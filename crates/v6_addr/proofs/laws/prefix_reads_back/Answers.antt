use Rattle.v6_addr.proofs.RoundTrip.{prefix_read_back, prefix_text_length}
use Rattle.v6_addr.proofs.laws.prefix_reads_back.Goals as goal

pub returns : goal.returns
returns c = record { read_back = prefix_read_back; len = prefix_text_length }
