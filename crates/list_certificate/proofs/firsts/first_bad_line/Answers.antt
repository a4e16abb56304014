use Rattle.std.proofs.Common.{subst}
use Rattle.std.proofs.lemmas.Option.{slice_get-get_or}
use Rattle.list_pack.specs.Least.{IsGoodAt}
use Rattle.list_pack.specs.declared.types.State.{State}
use Rattle.list_certificate.specs.Certs.{potential_at}
use Rattle.list_certificate.proofs.Ranges.{line_more}
use Rattle.list_certificate.proofs.firsts.first_bad_line.Goals as goal

pub loop-line-preserved : goal.loop-line-preserved
loop-line-preserved g c =
    let v = g.L.Legs.seen c.args.legs.now in
    let lines = c.args.lines.now in
    line_more v lines c.loop-line.line-index _ (slice_get-get_or lines c.loop-line.line-index _ c.loop-line-test.true)
    (subst (λ (s : State). IsGoodAt v (potential_at lines) s) c.costed_state_of-costed_state.ensures.state c.if-not-passes.ensures)
    c.loop-line.invariant
