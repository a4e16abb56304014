use Rattle.intent_reader.specs.Functions.{has_title}
use Rattle.intent_reader.proofs.IntentSearches.{FailsBefore}
use Rattle.intent_reader.proofs.names.first_function.Given as goal

abbrev pub invariant-loop-n : goal.invariant-loop-n
invariant-loop-n l = FailsBefore (has_title l.net.titles l.title) l.net.sids l.n
