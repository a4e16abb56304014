use Rattle.std.proofs.Common.{◌-◌, arith}
use Rattle.policy_walks.proofs.HeaderWalkRuns.{walked_off, walked_lost, walked_on, walking_out}
use Rattle.policy_walks.proofs.header_walk.walked.Goals as goal

pub returns-in-Off-clause-value : goal.returns-in-Off-clause-value
returns-in-Off-clause-value c =
    walked_off c.args.net.now c.args.steps.now c.loop.done c.loop.headers (c.loop.counter - 1) c.args.done c.args.headers c.loop.invariant
    (omega arith) c.in_ok-next.field-0 c.in_ok-next.ensures.value c.in-Off.place c.in-Off.done c.in-Off.is

pub returns-in-Lost-clause-value : goal.returns-in-Lost-clause-value
returns-in-Lost-clause-value c =
    walked_lost c.args.net.now c.args.steps.now c.loop.done c.loop.headers (c.loop.counter - 1) c.args.done c.args.headers c.loop.invariant
    (omega arith) c.in_ok-next.field-0 c.in_ok-next.ensures.value c.in-Lost.is

pub loop-preserved : goal.loop-preserved
loop-preserved c =
    walked_on c.args.net.now c.args.steps.now c.loop.done c.loop.headers (c.loop.counter - 1) c.args.done c.args.headers c.loop.invariant
    (omega arith) c.in_ok-next.field-0 c.in_ok-next.ensures.value c.in-On.next c.in-On.more _ c.in-On.is c.in_ok-next.ensures.there
    (omega arith)

pub returns-clause-value : goal.returns-clause-value
returns-clause-value c =
    walking_out c.args.net.now c.args.steps.now c.loop.done c.loop.headers (c.loop.counter - 1) c.args.done c.args.headers c.loop.invariant
    (omega arith)
