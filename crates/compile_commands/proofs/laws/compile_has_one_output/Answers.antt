use Rattle.compile_commands.proofs.CommandOneOutput.{compile_one}
use Rattle.compile_commands.proofs.laws.compile_has_one_output.Goals as goal

pub returns : goal.returns
returns c = compile_one
