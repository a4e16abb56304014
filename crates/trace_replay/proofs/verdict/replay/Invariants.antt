use Rattle.std.proofs.Common.{◌≡◌, ◌+◌, drop}
use Rattle.trace_replay.specs.ReplayJudging.{IsState}
use Rattle.trace_replay.specs.Replays.{first_wrong, wrong_from}
use Rattle.trace_replay.proofs.verdict.replay.Given as goal

abbrev pub invariant-loop-n : goal.invariant-loop-n
invariant-loop-n l = record {
  stands : IsState l.net l.state;
  rest : wrong_from l.net l.state (l.n + 1) (drop l.n l.lines) ≡ first_wrong l.net l.lines;
}
