use Rattle.std.proofs.Common.{arith}
use Rattle.list_certificate.proofs.MovesPassing.{below_all}
use Rattle.list_certificate.proofs.good.passes_legs.Goals as goal

pub returns : goal.returns
returns g c =
    below_all (g.L.Legs.seen c.args.legs.now) c.args.lines.now c.args.costed_state.now.state c.steps-steps.ensures.laws c.loop-to.to
    (omega (arith, c.steps-steps.ensures.value, c.loop-to-test.false)) c.loop-to.invariant
