use Rattle.srv6_rules.specs.declared.sid.SidEntry.{SidEntry}
use Rattle.prefix_table.specs.PrefixTable.{HasPrefix}
use Rattle.net_flatness.specs.Search.{FirstAre}
use Rattle.net_flatness.proofs.nested.table_of.Given as goal

abbrev pub invariant-loop-s : goal.invariant-loop-s
invariant-loop-s l = FirstAre (λ (s : SidEntry). HasPrefix l.table s.prefix) l.sids l.s-index
