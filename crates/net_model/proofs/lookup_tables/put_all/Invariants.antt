use Rattle.std.proofs.Common.{◌++◌, take, List}
use Rattle.net_model.specs.declared.lookup_tables.TableEntry.{TableEntry}
use Rattle.net_model.specs.NetworkTerms.{hidden_hits}
use Rattle.net_model.specs.LookupTables.{entries_from, shown_of, AnswerFor, AreTaken}
use Rattle.net_model.proofs.lookup_tables.put_all.Given as goal

-- the items so far are in their tables
abbrev pub invariant-loop-i : goal.invariant-loop-i
invariant-loop-i g l = record {
  taken : AreTaken l.taken l.tables;
  answers : (before : List TableEntry) → AnswerFor before l.fn.tables
      → AnswerFor (before ++ shown_of (hidden_hits l.hidden) (entries_from g.X.Listed.entry 0 (take l.i l.items))) l.tables;
}
