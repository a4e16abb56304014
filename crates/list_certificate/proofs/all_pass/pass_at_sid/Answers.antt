use Rattle.std.proofs.Common.{◌∙◌, ap, subst}
use Rattle.list_certificate.specs.Tests.{Assures, CellPassesLegs}
use Rattle.list_certificate.proofs.CertificateCelling.{sid_assured}
use Rattle.list_certificate.proofs.all_pass.pass_at_sid.Goals as goal

pub returns : goal.returns
returns g c =
    let v = g.L.Legs.seen c.args.legs.now in
    let lines = c.args.lines.now in
    let cell = c.cell_of-cell.result in
    let is = c.cell_of-cell.ensures in
    sid_assured v lines cell c.args.position c.args.n is.position is.sid (is.cell.shape_is ∙ ap v.shape is.sid)
    (subst (Assures (CellPassesLegs v lines cell)) c.if-not-pass_legs.false c.pass_legs.ensures) c.pass_ends.result c.pass_ends.ensures
