use Rattle.std.proofs.Common.{All, take}
use Rattle.update_joined.specs.PrefixKeys.{IsIndexed}
use Rattle.update_joined.proofs.prefix_index.index_entries.Given as goal

-- the entries so far are in the index
abbrev pub invariant-loop-e : goal.invariant-loop-e
invariant-loop-e l = All (IsIndexed l.index) (take l.e-index l.entries)
