use Rattle.std.proofs.Common.{◌≡◌, map, take}
use Rattle.net_reader.proofs.joining.each.Given as goal

abbrev pub invariant-loop-item : goal.invariant-loop-item
invariant-loop-item g l = l.parts.items ≡ map (g.J.Joins.of l.by) (take l.item-index l.items)
