use Rattle.std.proofs.Common.{◌+◌, ◌-◌, ◌/◌, ◌%◌, ◌^◌, ◌<◌, ℕ, refl, sym, ap, arith}
use Rattle.srv6_rules.specs.Checksum.{all_ones}
use Rattle.icmp6_errors.proofs.SumLemmas.{carried_twice}
use Rattle.icmp6_errors.proofs.checksum.complement.Goals as goal

pub returns : goal.returns
returns c =
    let sum : ℕ = c.args.sum in
    let once : ℕ = sum / 2 ^ 16 + sum % 2 ^ 16 in
    let below : sum < 2 ^ 32 = omega arith in
    ap (λ n. all_ones - n) (sym (carried_twice sum once (once / 2 ^ 16 + once % 2 ^ 16) below refl refl).0)
