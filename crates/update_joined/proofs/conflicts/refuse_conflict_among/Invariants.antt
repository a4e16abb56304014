use Rattle.std.proofs.Common.{◌≡◌, find, map, length}
use Rattle.update_spec.specs.Planning.{conflict}
use Rattle.update_joined.specs.JoinedEntries.{item_of}
use Rattle.update_joined.proofs.conflicts.refuse_conflict_among.Given as goal

-- what the rest answers is the answer
abbrev pub invariant-loop-rest : goal.invariant-loop-rest
invariant-loop-rest l =
    find (conflict (item_of l.titles.before.now l.a)) (map (item_of l.titles.after.now) l.rest)
    ≡ find (conflict (item_of l.titles.before.now l.a)) (map (item_of l.titles.after.now) l.news)

abbrev pub decreases-loop-rest : goal.decreases-loop-rest
decreases-loop-rest l = length l.rest
