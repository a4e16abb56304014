use Rattle.v6_addr.proofs.RoundTrip.{address_read_back, address_text_length}
use Rattle.v6_addr.proofs.laws.address_reads_back.Goals as goal

pub returns : goal.returns
returns c = record { read_back = address_read_back; len = address_text_length }
