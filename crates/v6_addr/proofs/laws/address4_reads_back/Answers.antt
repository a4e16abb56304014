use Rattle.v6_addr.proofs.Texts4.{address4_read_back, address4_text_length}
use Rattle.v6_addr.proofs.laws.address4_reads_back.Goals as goal

pub returns : goal.returns
returns c = record { read_back = address4_read_back; len = address4_text_length }
