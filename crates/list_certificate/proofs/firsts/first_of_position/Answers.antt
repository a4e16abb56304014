use Rattle.std.proofs.Common.{get_or, subst}
use Rattle.std.proofs.lemmas.Option.{slice_get-get_or}
use Rattle.list_certificate.specs.Tests.{FirstFailure, OfSid}
use Rattle.list_certificate.proofs.Ranges.{sids_more, sid_found, sids_all}
use Rattle.list_certificate.proofs.firsts.first_of_position.Goals as goal

pub returns-in-Some : goal.returns-in-Some
returns-in-Some g c =
    let v = g.L.Legs.seen c.args.legs.now in
    let sids = c.sids_at-n-items.result.now in
    let n = get_or sids c.loop-n.n-index 0 in
    sid_found v c.steps.ensures.laws c.args.lines.now c.args.position sids c.loop-n.n-index n c.in-Some.state c.requires.within
    c.sids_at-n-items.ensures
    (slice_get-get_or sids c.loop-n.n-index 0 c.loop-n-test.true)
    (subst (FirstFailure v c.args.lines.now (OfSid c.args.position n)) c.in-Some.is c.first_of_sid.ensures) c.loop-n.invariant

pub loop-n-preserved : goal.loop-n-preserved
loop-n-preserved g c =
    let v = g.L.Legs.seen c.args.legs.now in
    let sids = c.sids_at-n-items.result.now in
    let n = get_or sids c.loop-n.n-index 0 in
    sids_more v c.steps.ensures.laws c.args.lines.now c.args.position sids c.loop-n.n-index n
    (slice_get-get_or sids c.loop-n.n-index 0 c.loop-n-test.true)
    (subst (FirstFailure v c.args.lines.now (OfSid c.args.position n)) c.in_default.is c.first_of_sid.ensures) c.loop-n.invariant

pub returns : goal.returns
returns g c =
    sids_all (g.L.Legs.seen c.args.legs.now) c.steps.ensures.laws c.args.lines.now c.args.position c.sids_at-n-items.result.now
    c.loop-n.n-index c.sids_at-n-items.ensures c.loop-n-test.false c.loop-n.invariant
