use Rattle.std.proofs.Common.{subst}
use Rattle.trace_replay.specs.declared.line_judge.LineVerdict.{LineVerdict}
use Rattle.trace_replay.specs.JudgedLines.{IsRight, JudgesStage}
use Rattle.trace_replay.proofs.ReplayGoing.{going_right}
use Rattle.trace_replay.proofs.replay_flight.judge_going.Goals as goal

pub returns-in-Right : goal.returns-in-Right
returns-in-Right c =
    let right : IsRight c.args.net.now c.args.place c.args.content c.args.line.now c.in-Right.outcome c.judge_stage.new.content =
    subst (λ (j : LineVerdict). JudgesStage c.args.net.now c.args.place c.args.content c.args.line.now j c.judge_stage.new.content)
    c.in-Right.is c.in_ok-outcome.ensures in
    going_right c.args.net.now c.args.place c.args.content c.args.left c.args.line.now c.in-Right.outcome c.judge_stage.new.content
    c.keeps_rules.ensures.facts c.requires right _ _ c.next_place.ensures c.going.ensures
