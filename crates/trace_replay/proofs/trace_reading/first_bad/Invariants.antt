use Rattle.std.proofs.Common.{◌≡◌, ◌+◌, drop, map}
use Rattle.trace_replay.specs.declared.trace_reading.Phase.TheVariants as phases
use Rattle.trace_replay.specs.TraceReading.{bad_from}
use Rattle.trace_replay.proofs.trace_reading.first_bad.Given as goal

abbrev pub invariant-loop-n : goal.invariant-loop-n
invariant-loop-n l =
    bad_from l.net l.phase (l.n + 1) l.rest (map (λ line. line.now) (drop l.n l.lines))
    ≡ bad_from l.net phases.Begins 1 l.rest (map (λ line. line.now) l.lines)
