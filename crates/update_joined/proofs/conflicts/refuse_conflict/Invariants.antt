use Rattle.std.proofs.Common.{◌≡◌, map, length}
use Rattle.update_spec.specs.Planning.{conflicting}
use Rattle.update_joined.specs.JoinedEntries.{item_of}
use Rattle.update_joined.proofs.conflicts.refuse_conflict.Given as goal

-- what the rest answers is the answer
abbrev pub invariant-loop-rest : goal.invariant-loop-rest
invariant-loop-rest l =
    conflicting (map (item_of l.titles.after.now) l.news.entries.items) (map (item_of l.titles.before.now) l.rest)
    ≡ conflicting (map (item_of l.titles.after.now) l.news.entries.items) (map (item_of l.titles.before.now) l.olds)

abbrev pub decreases-loop-rest : goal.decreases-loop-rest
decreases-loop-rest l = length l.rest
