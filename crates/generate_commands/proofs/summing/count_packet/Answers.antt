use Rattle.std.proofs.Common.{sym, ◌∙◌}
use Rattle.walk_commands.specs.WalkCommand.{admission_at_headend}
use Rattle.generate_commands.proofs.WalksCounted.{comes_placed}
use Rattle.generate_commands.proofs.summing.count_packet.Goals as goal

pub count_walk-requires-clause-place : goal.count_walk-requires-clause-place
count_walk-requires-clause-place c =
    comes_placed c.args.net.now (admission_at_headend c.args.headend.now c.new-frame.result.body) c.in-Some.comes
    (c.requires.within c.new-frame.result.body) (sym c.in-Some.is ∙ c.in_ok-comes.ensures)
