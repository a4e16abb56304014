use Rattle.std.proofs.Common.{◌≡◌, length}
use Rattle.net_model.specs.NetworkRules.{are_distinct, same_number}
use Rattle.intent_reader.proofs.names.are_distinct.Given as goal

-- what the rest answers is what the whole list answers
abbrev pub invariant-loop-rest : goal.invariant-loop-rest
invariant-loop-rest l = are_distinct same_number l.rest ≡ are_distinct same_number l.links

abbrev pub decreases-loop-rest : goal.decreases-loop-rest
decreases-loop-rest l = length l.rest
