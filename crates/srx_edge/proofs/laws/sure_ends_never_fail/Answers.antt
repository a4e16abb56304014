use Rattle.std.proofs.Common.{◌≡◌, ap, arith}
use Rattle.srx_edge.specs.Sources.{SourceSeen}
use Rattle.srx_edge.specs.Sinks.{SinkSeen}
use Rattle.srx_edge.proofs.laws.sure_ends_never_fail.Goals as goal

pub returns-clause-source : goal.returns-clause-source
returns-clause-source c = λ into filled fault old new h.
    let risen : 0 ≡ 1 = ap (λ (s : SourceSeen). s.faults) h.2 in omega (arith, risen)

pub returns-clause-sink : goal.returns-clause-sink
returns-clause-sink c = λ piece old new h.
    let risen : 0 ≡ 1 = ap (λ (s : SinkSeen). s.faults) h.1 in omega (arith, risen)
