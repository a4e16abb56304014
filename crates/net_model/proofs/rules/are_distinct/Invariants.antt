use Rattle.std.proofs.Common.{◌≡◌, length}
use Rattle.net_model.specs.NetworkRules.{are_distinct}
use Rattle.net_model.proofs.rules.are_distinct.Given as goal

-- what the rest answers is what the whole list answers
abbrev pub invariant-loop-rest : goal.invariant-loop-rest
invariant-loop-rest g l = are_distinct g.S.Sameness.same l.rest ≡ are_distinct g.S.Sameness.same l.items

abbrev pub decreases-loop-rest : goal.decreases-loop-rest
decreases-loop-rest g l = length l.rest
