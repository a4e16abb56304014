use Rattle.walk_commands.proofs.WalkOneOutput.{walk_one}
use Rattle.walk_commands.proofs.laws.walk_has_one_output.Goals as goal

pub returns : goal.returns
returns c = walk_one
