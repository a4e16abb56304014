use Rattle.std.proofs.Common.{◌≡◌, ◌≤◌, false, true, ◌∙◌, arith}
use Rattle.trace_replay.specs.Replays.{is_given}
use Rattle.trace_replay.proofs.ReplayChoosing.{find_on}
use Rattle.trace_replay.proofs.ReplayJudging.{given_same, gives_line, found_here, found_none}
use Rattle.trace_replay.proofs.line_judge.given_among.Goals as goal

pub loop-choice-preserved : goal.loop-choice-preserved
loop-choice-preserved c =
    let here = given_same c.args.net.now c.args.place.now c.in_ok-copy.copy c.args.content.now c.loop-choice.choice c.in_ok-given.given
    c.given_line.new.content c.in_ok-copy.ensures c.in_ok-given.ensures in
    let fails : is_given c.args.net.now c.args.place.now c.args.content.now c.args.line.now c.loop-choice.choice ≡ false =
    gives_line c.args.net.now c.args.place.now c.args.content.now c.args.line.now c.loop-choice.choice c.in_ok-given.given
    c.given_line.new.content c.as_bytes.result.now c.eq.result here c.as_bytes.ensures.value c.eq.ensures ∙ c.if-eq.false in
    find_on _ c.loop-choice.choice c.args.choices _ c.loop-choice-test.true fails c.loop-choice.invariant

pub returns-then-eq : goal.returns-then-eq
returns-then-eq c =
    let here = given_same c.args.net.now c.args.place.now c.in_ok-copy.copy c.args.content.now c.loop-choice.choice c.in_ok-given.given
    c.given_line.new.content c.in_ok-copy.ensures c.in_ok-given.ensures in
    let passes : is_given c.args.net.now c.args.place.now c.args.content.now c.args.line.now c.loop-choice.choice ≡ true =
    gives_line c.args.net.now c.args.place.now c.args.content.now c.args.line.now c.loop-choice.choice c.in_ok-given.given
    c.given_line.new.content c.as_bytes.result.now c.eq.result here c.as_bytes.ensures.value c.eq.ensures ∙ c.if-eq.true in
    record {
      choice = c.loop-choice.choice;
      given = found_here c.args.net.now c.args.place.now c.args.content.now c.args.line.now c.loop-choice.choice c.args.choices
          c.requires.all c.loop-choice-test.true c.loop-choice.invariant passes;
      gives = here.gives;
      leaves = here.leaves;
    }

pub returns : goal.returns
returns c =
    let over : c.args.choices ≤ c.loop-choice.choice = omega arith in
    found_none c.args.net.now c.args.place.now c.args.content.now c.args.line.now c.loop-choice.choice c.args.choices c.requires.all over
    c.loop-choice.invariant
