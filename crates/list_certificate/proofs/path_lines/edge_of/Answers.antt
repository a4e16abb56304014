use Rattle.std.proofs.Common.{arith}
use Rattle.list_certificate.proofs.CertificatePathing.{below_first, below_last}
use Rattle.list_certificate.proofs.path_lines.edge_of.Goals as goal

pub loop-to-init : goal.loop-to-init
loop-to-init g c = below_first (g.L.Legs.seen c.args.legs.now) c.args.state c.args.step.now c.steps-steps.ensures.laws

pub returns : goal.returns
returns g c =
    below_last (g.L.Legs.seen c.args.legs.now) c.args.state c.args.step.now c.steps-steps.ensures.laws c.loop-to.to
    (omega (arith, c.steps-steps.ensures.value, c.loop-to-test.false)) c.loop-to.invariant
