use Rattle.std.proofs.Common.{◌≡◌, drop}
use Rattle.net_model.specs.NetworkTerms.{hidden_hits}
use Rattle.net_model.specs.LookupTables.{entries_from, first_at}
use Rattle.net_model.proofs.hidden.first_of.Given as goal

-- the first of the items is the first of those that are left
abbrev pub invariant-loop-i : goal.invariant-loop-i
invariant-loop-i g l =
    first_at (hidden_hits l.hidden) l.at (entries_from g.X.Listed.entry 0 l.items)
    ≡ first_at (hidden_hits l.hidden) l.at (entries_from g.X.Listed.entry l.i (drop l.i l.items))
