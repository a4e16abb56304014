use Rattle.command_output.proofs.Gathering.{groups_whole}
use Rattle.command_output.proofs.OutputStanding.{groups_stand}
use Rattle.command_output.proofs.laws.a_line_stands_after_what_comes_before_it.Goals as goal

pub returns-clause-order : goal.returns-clause-order
returns-clause-order c = groups_stand

pub returns-clause-whole : goal.returns-clause-whole
returns-clause-whole c = groups_whole
