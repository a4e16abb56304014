use Rattle.net_model.specs.NetworkTerms.{network_of}
use Rattle.net_flatness.specs.Search.{NestsWell, FirstAre}
use Rattle.net_flatness.proofs.nested.has_sid_inside.Given as goal

abbrev pub invariant-loop-s : goal.invariant-loop-s
invariant-loop-s l = FirstAre (NestsWell (network_of l.parts)) l.sids l.s-index
