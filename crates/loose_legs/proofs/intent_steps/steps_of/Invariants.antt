use Rattle.std.proofs.Common.{◌≡◌, map, take}
use Rattle.loose_legs.specs.IntentSteps.{trace_step}
use Rattle.loose_legs.proofs.intent_steps.steps_of.Given as goal

abbrev pub invariant-loop-one : goal.invariant-loop-one
invariant-loop-one l = l.steps.items ≡ map trace_step (take l.one-index l.own)
