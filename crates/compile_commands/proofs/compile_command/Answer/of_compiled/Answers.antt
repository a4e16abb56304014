use Rattle.std.proofs.Common.{rules}
use Rattle.compile_commands.proofs.Compiling.{knows_none_in}
use Rattle.compile_commands.proofs.compile_command.Answer.of_compiled.Goals as goal

pub of_none-requires : goal.of_none-requires
of_none-requires c =
    knows_none_in c.args.net.now c.args.intent.now c.args.compiled.now c.in-Err-NoList.solution
    c.requires.network c.requires.intent
    c.requires.answers (search rules)
