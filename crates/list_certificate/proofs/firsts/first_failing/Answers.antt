use Rattle.std.proofs.Common.{subst}
use Rattle.list_pack.specs.Costs.{start}
use Rattle.list_certificate.specs.Tests.{ShowsFailure, FirstFailure, OfPosition}
use Rattle.list_certificate.proofs.Ranges.{position_found}
use Rattle.list_certificate.proofs.firsts.first_failing.Goals as goal

pub returns-in-Some : goal.returns-in-Some
returns-in-Some g c =
    let v = g.L.Legs.seen c.args.legs.now in
    position_found v c.steps-steps.ensures.laws c.args.lines.now c.loop-position.position c.in-Some.state
    (subst (ShowsFailure v c.args.lines.now start) c.if-fails.false c.fails.ensures)
    (subst (FirstFailure v c.args.lines.now (OfPosition c.loop-position.position)) c.in-Some.is c.first_of_position.ensures)
    c.loop-position.invariant
