use Rattle.compile_commands.proofs.CommandPrinting.{check_confirms}
use Rattle.compile_commands.proofs.laws.check_confirms_what_compile_prints.Goals as goal

pub returns : goal.returns
returns c = check_confirms (λ text net is. ((c.networks_keep_the_rules.ensures text net).0 is).3)
