use Rattle.std.proofs.Common.{arith}
use Rattle.list_certificate.specs.Tests.{state_in}
use Rattle.list_certificate.proofs.MovesPassing.{below_all}
use Rattle.list_certificate.proofs.all_pass.pass_legs.Goals as goal

pub returns : goal.returns
returns g c =
    λ room few.
    below_all (g.L.Legs.seen c.args.legs.now) c.args.lines.now (state_in c.args.cell.now room) c.steps-steps.ensures.laws c.loop-to.to
    (omega (arith, c.steps-steps.ensures.value, c.loop-to-test.false)) (c.loop-to.invariant room few)
