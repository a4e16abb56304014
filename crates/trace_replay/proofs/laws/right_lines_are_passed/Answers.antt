use Rattle.trace_replay.proofs.ReplayPrinting.{lines_passed}
use Rattle.trace_replay.proofs.laws.right_lines_are_passed.Goals as goal

pub returns : goal.returns
returns c = lines_passed
