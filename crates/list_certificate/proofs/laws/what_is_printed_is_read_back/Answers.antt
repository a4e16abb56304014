use Rattle.list_certificate.proofs.PrintedRead.{what_is_read}
use Rattle.list_certificate.proofs.laws.what_is_printed_is_read_back.Goals as goal

pub returns : goal.returns
returns c = what_is_read
