use Rattle.compile_commands.proofs.PublicLaws.{compile_one}
use Rattle.walk_commands.proofs.PublicLaws.{walk_one}
use Rattle.update_commands.proofs.PublicLaws.{update_one}
use Rattle.generate_commands.proofs.PublicLaws.{gen_one}
use Rattle.srv6_cli.proofs.laws.each_compiling_command_has_one_output.Goals as goal

pub returns-clause-compile : goal.returns-clause-compile
returns-clause-compile c = λ file intent held input a b. compile_one file intent held input input a b

pub returns-clause-walk : goal.returns-clause-walk
returns-clause-walk c = λ file intent choices schedule held input a b. walk_one file intent choices schedule held input a b

pub returns-clause-update : goal.returns-clause-update
returns-clause-update c = λ old new intent events held input a b. update_one old new intent events held input a b

pub returns-clause-generates : goal.returns-clause-generates
returns-clause-generates c = λ n made held input a b. gen_one n made a b
