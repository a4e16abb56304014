use Rattle.prefix_table.proofs.IndexLemmas.{HasNoneShorter}
use Rattle.prefix_table.proofs.index.Index.has_shorter.Given as goal

-- the lengths so far give no shorter key
abbrev pub invariant-loop-other : goal.invariant-loop-other
invariant-loop-other l = HasNoneShorter l.fn.self l.a.value l.len l.other-index
