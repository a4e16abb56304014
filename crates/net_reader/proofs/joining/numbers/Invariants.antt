use Rattle.std.proofs.Common.{◌≡◌, map, take}
use Rattle.net_reader.specs.Numbering.{number_of}
use Rattle.net_reader.proofs.joining.numbers.Given as goal

abbrev pub invariant-loop-name : goal.invariant-loop-name
invariant-loop-name l = l.all.items ≡ map (number_of l.names) (take l.name-index l.list)
