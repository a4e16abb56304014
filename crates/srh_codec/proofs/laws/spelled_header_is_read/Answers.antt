use Rattle.srh_codec.proofs.ViewLemmas.{spelled_read}
use Rattle.srh_codec.proofs.laws.spelled_header_is_read.Goals as goal

pub returns : goal.returns
returns c = spelled_read
