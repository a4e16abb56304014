use Rattle.update_commands.proofs.WholeOneOutput.{update_one}
use Rattle.update_commands.proofs.laws.update_has_one_output.Goals as goal

pub returns : goal.returns
returns c = update_one
