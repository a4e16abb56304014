use Rattle.std.proofs.Common.{◌≡◌, length}
use Rattle.net_model.specs.NetworkTerms.{network_of}
use Rattle.net_flatness.specs.Search.{first_refused}
use Rattle.net_flatness.proofs.nested.refuse_nested.Given as goal

-- what the rest answers is the answer
abbrev pub invariant-loop-rest : goal.invariant-loop-rest
invariant-loop-rest l = first_refused (network_of l.parts) l.rest ≡ first_refused (network_of l.parts) l.sids

abbrev pub decreases-loop-rest : goal.decreases-loop-rest
decreases-loop-rest l = length l.rest
