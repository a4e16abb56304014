use Rattle.std.proofs.Common.{◌≡◌, map, take}
use Rattle.net_reader.proofs.numbering.names_of.Given as goal

abbrev pub invariant-loop-item : goal.invariant-loop-item
invariant-loop-item g l = map (λ s. s.now) l.names.items ≡ map g.X.Named.name (take l.item-index l.items)
