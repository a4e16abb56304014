use Rattle.net_model.specs.declared.parts.Node.{Node}
use Rattle.prefix_table.specs.PrefixTable.{HasAround}
use Rattle.net_flatness.specs.Flat.{address_prefix}
use Rattle.net_flatness.specs.Search.{FirstAre}
use Rattle.net_flatness.proofs.nested.has_address_inside.Given as goal

abbrev pub invariant-loop-n : goal.invariant-loop-n
invariant-loop-n l = FirstAre (λ (n : Node). ¬ HasAround l.table (address_prefix n)) l.nodes l.n-index
