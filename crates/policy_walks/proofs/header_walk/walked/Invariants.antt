use Rattle.std.specs.Prelude.{◌-◌}
use Rattle.policy_walks.proofs.HeaderWalkRuns.{IsWalking}
use Rattle.policy_walks.proofs.header_walk.walked.Given as goal

abbrev pub invariant-loop : goal.invariant-loop
invariant-loop l = IsWalking l.net l.steps l.done l.headers (l.counter - l.initial.counter) l.initial.done l.initial.headers
