use Rattle.std.proofs.Common.{◌≤◌, lit<, arith}
use Rattle.std.proofs.Math.Nat.{pow-le-pow_right}
use Rattle.v6_addr.proofs.AddressReading.{more_fits, more_digits, number_stops, number_ends}
use Rattle.v6_addr.proofs.parse.parse_number.Goals as goal

pub returns-in_err-digit-clause-value : goal.returns-in_err-digit-clause-value
returns-in_err-digit-clause-value c = number_stops _ _ c.loop-b.b-index _ _
    (omega arith) c.from.ensures c.in_err-digit.ensures.value c.from_residual.ensures

pub overflow_mul-value : goal.overflow_mul-value
overflow_mul-value c =
    omega (
      arith,
      more_fits c.args.radix c.loop-b.value c.loop-b.b-index c.in_ok-digit.digit c.requires.below c.loop-b.invariant.bound
          (omega (arith, c.in_ok-digit.ensures.value)) (omega arith),
    )

pub overflow_add-value : goal.overflow_add-value
overflow_add-value c =
    omega (
      arith,
      more_fits c.args.radix c.loop-b.value c.loop-b.b-index c.in_ok-digit.digit c.requires.below c.loop-b.invariant.bound
          (omega (arith, c.in_ok-digit.ensures.value)) (omega arith),
    )

pub loop-b-preserved : goal.loop-b-preserved
loop-b-preserved c = more_digits _ _ _ _ _ _ c.requires.below (omega arith) c.loop-b.invariant c.from.ensures c.in_ok-digit.ensures.value

pub returns-clause-value : goal.returns-clause-value
returns-clause-value c = number_ends _ _ _ c.loop-b.b-index (omega arith) c.loop-b.invariant

pub returns-clause-bound : goal.returns-clause-bound
returns-clause-bound c =
    let short : c.loop-b.b-index ≤ 4 = omega arith in
    omega (arith, c.loop-b.invariant.bound, pow-le-pow_right {n = 16} (lit< tt) short)
