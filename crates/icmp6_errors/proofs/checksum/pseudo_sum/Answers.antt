use Rattle.std.proofs.Common.{arith}
use Rattle.icmp6_errors.proofs.SumLemmas.{pseudo_sum_law}
use Rattle.icmp6_errors.proofs.checksum.pseudo_sum.Goals as goal

pub returns-clause-sum : goal.returns-clause-sum
returns-clause-sum c =
    let sum = pseudo_sum_law c.args.source.value c.args.destination.value c.args.len 58 (omega arith) in
    omega arith
