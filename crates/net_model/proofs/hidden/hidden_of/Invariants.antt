use Rattle.std.proofs.Common.{take}
use Rattle.net_model.specs.NetworkTerms.{hidden_hits, HasFlags, HidesThese}
use Rattle.net_model.proofs.hidden.hidden_of.Given as goal

-- the entries so far are hidden, and no others
abbrev pub invariant-loop-entry : goal.invariant-loop-entry
invariant-loop-entry l = record {
  flags : HasFlags l.parts l.hidden;
  these : HidesThese (hidden_hits l.hidden) (take l.entry-index l.entries);
}
