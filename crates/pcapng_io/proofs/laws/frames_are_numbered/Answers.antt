use Rattle.pcapng_io.proofs.FrameNumbers.{numbered_file}
use Rattle.pcapng_io.proofs.laws.frames_are_numbered.Goals as goal

pub returns : goal.returns
returns c = numbered_file
