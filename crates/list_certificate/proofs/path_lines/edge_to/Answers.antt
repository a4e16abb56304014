use Rattle.std.proofs.Common.{get_or, subst}
use Rattle.std.proofs.lemmas.Option.{slice_get-get_or}
use Rattle.list_certificate.specs.Tests.{IsEdgeBy}
use Rattle.list_certificate.proofs.CertificatePathing.{no_edge_more, no_edge_all}
use Rattle.list_certificate.proofs.path_lines.edge_to.Goals as goal

pub loop-n-preserved : goal.loop-n-preserved
loop-n-preserved g c =
    let v = g.L.Legs.seen c.args.legs.now in
    let sids = c.sids_at-n-items.result.now in
    let n = get_or sids c.loop-n.n-index 0 in
    no_edge_more v c.args.state c.args.step.now c.args.to sids c.loop-n.n-index n
    (slice_get-get_or sids c.loop-n.n-index 0 c.loop-n-test.true)
    (subst (IsEdgeBy v c.args.state c.args.step.now c.args.to n) c.in_default.is c.edge_by.ensures) c.loop-n.invariant

pub returns : goal.returns
returns g c =
    no_edge_all (g.L.Legs.seen c.args.legs.now) c.args.state c.args.step.now c.steps.ensures.laws c.args.to c.sids_at-n-items.result.now
    c.loop-n.n-index c.sids_at-n-items.ensures c.loop-n-test.false c.loop-n.invariant
