use Rattle.std.proofs.Common.{subst, arith, ◌≤◌}
use Rattle.std.specs.Prelude.{IfSome}
use Rattle.v6_addr.proofs.Places4.{value_fits}
use Rattle.v6_addr.proofs.scan4.behind_dot.Goals as goal

pub overflow_mul-result : goal.overflow_mul-result
overflow_mul-result c =
    omega (arith, value_fits c.args.place.value c.args.place.done 0 c.requires.fits (omega arith) c.if-place-lt3.true)

pub overflow_add-result-then-place-lt3 : goal.overflow_add-result-then-place-lt3
overflow_add-result-then-place-lt3 c =
    let small = subst (λ o. IfSome o (λ n. n ≤ 255)) c.in-Some.is c.requires.small in
    omega (arith, value_fits c.args.place.value c.args.place.done c.in-Some.n c.requires.fits small c.if-place-lt3.true)
