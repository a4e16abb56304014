use Rattle.pcapng_io.proofs.NgSteps.{start_ended}
use Rattle.pcapng_io.proofs.laws.first_block_decides.Goals as goal

pub returns : goal.returns
returns c = start_ended
