use Rattle.std.proofs.Common.{rules}
use Rattle.intent_compiler.proofs.PublicLaws.{sids_for}
use Rattle.compile_commands.proofs.check_command.legs_of_flat.Goals as goal

pub returns-clause-known : goal.returns-clause-known
returns-clause-known c =
    sids_for c.args.net.now c.args.intent.now c.keeps_rules.ensures.network (search rules) c.requires.intent
