use Rattle.std.proofs.Common.{◌<◌, arith}
use Rattle.std.proofs.lemmas.Nat.{one_shl, and_mask}
use Rattle.v6_addr.proofs.bits.low_bits.Goals as goal

pub returns-else-k-eq128 : goal.returns-else-k-eq128
returns-else-k-eq128 c =
    let small : c.args.k < 128 = omega arith in
    rw (one_shl c.args.k 128 small) (and_mask c.args.a c.args.k)
