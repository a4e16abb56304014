use Rattle.list_certificate.specs.Tests.{LinesPass}
use Rattle.list_certificate.proofs.firsts.first_bad_line.Given as goal

abbrev pub invariant-loop-line : goal.invariant-loop-line
invariant-loop-line g l = LinesPass (g.L.Legs.seen l.legs) l.lines l.line-index
