use Rattle.std.proofs.Common.{◌≡◌, ◌++◌, drop}
use Rattle.list_pack.specs.SidLists.{prefixes_in}
use Rattle.list_judge.proofs.judging.prefixes_in.Given as goal

-- the prefixes so far and those of the containers that are left are those of the list
abbrev pub invariant-loop-container : goal.invariant-loop-container
invariant-loop-container l = l.prefixes.items ++ prefixes_in (drop l.container-index l.list) ≡ prefixes_in l.list
