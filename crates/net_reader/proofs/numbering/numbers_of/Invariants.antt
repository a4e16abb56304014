use Rattle.std.proofs.Common.{map, take}
use Rattle.net_reader.specs.NumberingTerms.{HasNumbers}
use Rattle.net_reader.proofs.numbering.numbers_of.Given as goal

abbrev pub invariant-loop-i : goal.invariant-loop-i
invariant-loop-i l = HasNumbers l.numbers (map (λ s. s.now) (take l.i l.names))
