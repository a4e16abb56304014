use Rattle.std.proofs.Common.{◌≡◌, length}
use Rattle.intent_reader.specs.IntentRules.{stand_after}
use Rattle.intent_reader.proofs.intent_rules.stand_after.Given as goal

-- the walk that is left ends where the whole walk ends
abbrev pub invariant-loop-rest : goal.invariant-loop-rest
invariant-loop-rest l = stand_after l.net l.at l.rest ≡ stand_after l.net l.node l.steps

abbrev pub decreases-loop-rest : goal.decreases-loop-rest
decreases-loop-rest l = length l.rest
