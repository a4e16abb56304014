use Rattle.prefix_table.proofs.IndexLemmas.{HasNoneBefore}
use Rattle.prefix_table.proofs.index.Index.longest.Given as goal

-- the keys of the lengths so far have no places
abbrev pub invariant-loop-len : goal.invariant-loop-len
invariant-loop-len l = HasNoneBefore l.fn.self l.a.value l.len-index
