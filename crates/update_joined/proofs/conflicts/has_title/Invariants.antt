use Rattle.std.proofs.Common.{◌≡◌, length}
use Rattle.std.specs.List.{list_any}
use Rattle.update_joined.specs.JoinedEntries.{have_one_title}
use Rattle.update_joined.proofs.conflicts.has_title.Given as goal

-- what the rest answers is the answer
abbrev pub invariant-loop-rest : goal.invariant-loop-rest
invariant-loop-rest l =
    list_any (have_one_title l.titles.before.now l.titles.after.now l.a) l.rest
    ≡ list_any (have_one_title l.titles.before.now l.titles.after.now l.a) l.titled

abbrev pub decreases-loop-rest : goal.decreases-loop-rest
decreases-loop-rest l = length l.rest
