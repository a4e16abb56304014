use Rattle.std.proofs.Common.{◌∙◌, ap, sym}
use Rattle.trace_replay.specs.declared.trace_reading.Phase.{Phase}
use Rattle.trace_replay.specs.TraceReading.{phase_behind}
use Rattle.trace_replay.proofs.trace_reading.phase_behind.Goals as goal

-- src/reading.rt:115:1
pub returns-in-Begins : goal.returns-in-Begins
returns-in-Begins c =
    c.behind_first.ensures c.args.net.now
    ∙ ap (λ (p : Phase). phase_behind c.args.net.now p c.args.line.now) (sym c.in-Begins.is)
