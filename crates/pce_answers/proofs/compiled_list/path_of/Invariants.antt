use Rattle.std.proofs.Common.{◌≡◌, ◌++◌, drop, map}
use Rattle.pce_answers.specs.NetAnswers.{path_sid}
use Rattle.pce_answers.proofs.compiled_list.path_of.Given as goal

abbrev pub invariant-loop-step : goal.invariant-loop-step
invariant-loop-step l = l.path.items ++ map path_sid (drop l.step-index l.steps) ≡ map path_sid l.steps
