use Rattle.list_pack.specs.SidLists.{KeepsNests}
use Rattle.list_pack.proofs.Neighbours.{EachOf}
use Rattle.list_pack.proofs.nest_units.all_keep_nests.Given as goal

abbrev pub invariant-loop-container : goal.invariant-loop-container
invariant-loop-container l = EachOf (KeepsNests l.net) l.list l.container-index
