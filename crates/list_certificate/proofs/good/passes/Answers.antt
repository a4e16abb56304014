use Rattle.std.proofs.Common.{subst}
use Rattle.list_certificate.specs.Tests.{ShowsLegs}
use Rattle.list_certificate.proofs.MovesPassing.{good_legs}
use Rattle.list_certificate.proofs.good.passes.Goals as goal

pub returns-then-not-passes_legs : goal.returns-then-not-passes_legs
returns-then-not-passes_legs g c =
    let v = g.L.Legs.seen c.args.legs.now in
    let lines = c.args.lines.now in
    let s = c.args.costed_state.now.state in
    λ good. subst (ShowsLegs v lines s) c.if-not-passes_legs.true c.passes_legs.ensures (good_legs v lines s good)
