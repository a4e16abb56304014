use Rattle.std.proofs.Common.{subst}
use Rattle.list_certificate.specs.Tests.{Assures, PassAmong, OfAll}
use Rattle.list_certificate.proofs.CertificateJudging.{all_pass_law, all_assured}
use Rattle.list_certificate.proofs.certificate_judge.first_fault.Goals as goal

pub returns-then-all_pass : goal.returns-then-all_pass
returns-then-all_pass g c =
    let v = g.L.Legs.seen c.args.legs.now in
    all_assured v c.args.cert.now c.as_slice-lines.result.now c.as_slice-lines.ensures
    (subst (Assures (PassAmong v c.as_slice-lines.result.now OfAll)) c.if-all_pass.true c.all_pass.ensures)

pub returns-in-None : goal.returns-in-None
returns-in-None g c =
    all_pass_law (g.L.Legs.seen c.args.legs.now) c.args.cert.now c.as_slice-lines.result.now c.first_bad_line.result c.first_failing.result
    c.as_slice-lines.ensures
    c.first_bad_line.ensures c.in_default.is c.first_failing.ensures c.in-None.is
