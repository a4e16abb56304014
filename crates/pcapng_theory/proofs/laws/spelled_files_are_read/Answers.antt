use Rattle.pcapng_theory.proofs.FilesReadBack.{file_read}
use Rattle.pcapng_theory.proofs.laws.spelled_files_are_read.Goals as goal

pub returns : goal.returns
returns c = file_read
