use Rattle.std.proofs.Common.{◌∙◌}
use Rattle.trace_replay.proofs.ReplayJudging.{gives_line, one_right, one_wrong}
use Rattle.trace_replay.proofs.line_judge.judge_one.Goals as goal

pub returns-then-eq : goal.returns-then-eq
returns-then-eq c =
    one_right c.args.net.now c.args.place.now c.args.content.now c.args.line.now c.in_ok-given.given c.given_line.new.content c.requires.one
    c.in_ok-given.ensures
    (gives_line c.args.net.now c.args.place.now c.args.content.now c.args.line.now 0 c.in_ok-given.given c.given_line.new.content
    c.as_bytes.result.now c.eq.result c.in_ok-given.ensures c.as_bytes.ensures.value c.eq.ensures ∙ c.if-eq.true)

pub returns : goal.returns
returns c =
    one_wrong c.args.net.now c.args.place.now c.args.content.now c.args.line.now c.in_ok-given.given c.given_line.new.content c.requires.one
    c.in_ok-given.ensures
    (gives_line c.args.net.now c.args.place.now c.args.content.now c.args.line.now 0 c.in_ok-given.given c.given_line.new.content
    c.as_bytes.result.now c.eq.result c.in_ok-given.ensures c.as_bytes.ensures.value c.eq.ensures ∙ c.if-eq.false)
