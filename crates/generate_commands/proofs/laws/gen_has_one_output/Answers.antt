use Rattle.generate_commands.proofs.GenerateOneOutput.{gen_one}
use Rattle.generate_commands.proofs.laws.gen_has_one_output.Goals as goal

pub returns : goal.returns
returns c n made held input = gen_one n made
