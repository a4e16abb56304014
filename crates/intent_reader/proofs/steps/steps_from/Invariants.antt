use Rattle.intent_reader.proofs.IntentListReading.{HasTaken}
use Rattle.intent_reader.proofs.steps.steps_from.Given as goal

abbrev pub invariant-loop-i : goal.invariant-loop-i
invariant-loop-i l = HasTaken l.net l.headend l.described l.i l.node l.steps.items
