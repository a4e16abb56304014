use Rattle.std.proofs.Common.{get_or, subst}
use Rattle.std.proofs.lemmas.Option.{slice_get-get_or}
use Rattle.list_certificate.specs.Tests.{IsLastBy}
use Rattle.list_certificate.proofs.CertificatePathing.{no_last_more, no_last_all}
use Rattle.list_certificate.proofs.path_lines.last_of.Goals as goal

pub loop-n-preserved : goal.loop-n-preserved
loop-n-preserved g c =
    let v = g.L.Legs.seen c.args.legs.now in
    let sids = c.sids_at-n-items.result.now in
    let n = get_or sids c.loop-n.n-index 0 in
    no_last_more v c.args.state c.args.step.now sids c.loop-n.n-index n (slice_get-get_or sids c.loop-n.n-index 0 c.loop-n-test.true)
    (subst (IsLastBy v c.args.state c.args.step.now n) c.in_default.is c.last_by.ensures) c.loop-n.invariant

pub returns : goal.returns
returns g c =
    no_last_all (g.L.Legs.seen c.args.legs.now) c.args.state c.args.step.now c.steps.ensures.laws c.sids_at-n-items.result.now
    c.steps.result c.loop-n.n-index c.steps.ensures.value c.sids_at-n-items.ensures c.loop-n-test.false c.loop-n.invariant
