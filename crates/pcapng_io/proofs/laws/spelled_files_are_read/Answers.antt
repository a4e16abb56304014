use Rattle.pcapng_io.proofs.SpelledLemmas.{spelled_read}
use Rattle.pcapng_io.proofs.laws.spelled_files_are_read.Goals as goal

pub returns : goal.returns
returns c = spelled_read
