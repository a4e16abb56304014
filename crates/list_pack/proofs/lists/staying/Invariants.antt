use Rattle.std.proofs.Common.{◌≡◌, ◌++◌, drop}
use Rattle.list_pack.specs.PathLists.{staying}
use Rattle.list_pack.proofs.lists.staying.Given as goal

abbrev pub invariant-loop-step : goal.invariant-loop-step
invariant-loop-step l = l.prefixes.items ++ staying (drop l.step-index l.path) ≡ staying l.path
