use Rattle.std.proofs.Common.{ap, arith, length}
use Rattle.trace_replay.proofs.ReplayJudging.{hops_few}
use Rattle.trace_replay.proofs.line_judge.judge_stage.Goals as goal

pub overflow_cast-choices : goal.overflow_cast-choices
overflow_cast-choices c =
    let few = hops_few c.args.net.now c.args.place.now c.args.content.now c.keeps_rules.ensures.facts c.requires in
    let same = ap length c.next_hops-hops.ensures in
    omega (arith, few, same)
