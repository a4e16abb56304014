use Rattle.std.proofs.Common.{◌≡◌, ℕ, ◌+◌, ◌-◌, ◌<◌, None, length, get_or, sym, ◌∙◌, subst, arith}
use Rattle.std.proofs.lemmas.Option.{slice_get-get_or, same_Some}
use Rattle.list_certificate.specs.declared.certificate_types.PathLine.{PathLine}
use Rattle.list_certificate.specs.Tests.{IsEdgeOf, IsLastOf}
use Rattle.list_certificate.proofs.CertificatePathing.{Walking, walking_more, breaks_inner, breaks_last, walked_all}
use Rattle.list_certificate.proofs.path_lines.walked.Goals as goal

pub returns-in-None : goal.returns-in-None
returns-in-None g c =
    let v = g.L.Legs.seen c.args.legs.now in
    let lines = c.args.lines.now in
    let within : c.loop-k.k < length lines = omega (arith, c.loop-k-test.true) in
    let more : c.loop-k.k + 1 < length lines = omega (arith, c.loop-k-test.true) in
    let l = get_or lines c.loop-k.k c.index-lines-k.result in
    let here = slice_get-get_or lines c.loop-k.k c.index-lines-k.result within in
    let d = c.index-lines-k-in-None.result in
    let also = slice_get-get_or lines c.loop-k.k d within in
    let same : l ≡ get_or lines c.loop-k.k d = same_Some l (get_or lines c.loop-k.k d) (sym here ∙ also) in
    breaks_inner v lines c.loop-k.k (get_or lines c.loop-k.k d) c.loop-k.state c.loop-k.spent also more c.loop-k.invariant
    (subst (λ (x : PathLine). IsEdgeOf v c.loop-k.state x.step None) same
    (subst (IsEdgeOf v c.loop-k.state l.step) c.in-None.is c.edge_of.ensures))

pub loop-k-preserved : goal.loop-k-preserved
loop-k-preserved g c =
    let v = g.L.Legs.seen c.args.legs.now in
    let lines = c.args.lines.now in
    let within : c.loop-k.k < length lines = omega (arith, c.loop-k-test.true) in
    let l = get_or lines c.loop-k.k c.index-lines-k.result in
    let here = slice_get-get_or lines c.loop-k.k c.index-lines-k.result within in
    walking_more v lines c.loop-k.k l c.loop-k.state c.loop-k.spent c.add-spent.result c.in-Some.reached here c.loop-k.invariant
    (subst (IsEdgeOf v c.loop-k.state l.step) c.in-Some.is c.edge_of.ensures) c.add-spent.ensures

pub returns-in-None-last_of : goal.returns-in-None-last_of
returns-in-None-last_of g c =
    let v = g.L.Legs.seen c.args.legs.now in
    let lines = c.args.lines.now in
    let last = length lines - 1 in
    let end : c.loop-k.k ≡ last = omega (arith, c.loop-k-test.false, c.loop-k.auto.k-end) in
    let walking = subst (λ (n : ℕ). Walking v lines n c.loop-k.state c.loop-k.spent) end c.loop-k.invariant in
    let within : last < length lines = omega (arith, c.requires) in
    let l = get_or lines last c.index-lines-last.result in
    let here = slice_get-get_or lines last c.index-lines-last.result within in
    let d = c.index-lines-last-in-None-last_of.result in
    let also = slice_get-get_or lines last d within in
    let same : l ≡ get_or lines last d = same_Some l (get_or lines last d) (sym here ∙ also) in
    breaks_last v lines last (get_or lines last d) c.loop-k.state c.loop-k.spent also (omega (arith, c.requires)) walking
    (subst (λ (x : PathLine). IsLastOf v c.loop-k.state x.step None) same
    (subst (IsLastOf v c.loop-k.state l.step) c.in-None-last_of.is c.last_of.ensures))

pub returns-in-Some-last_of : goal.returns-in-Some-last_of
returns-in-Some-last_of g c =
    let v = g.L.Legs.seen c.args.legs.now in
    let lines = c.args.lines.now in
    let last = length lines - 1 in
    let end : c.loop-k.k ≡ last = omega (arith, c.loop-k-test.false, c.loop-k.auto.k-end) in
    let walking = subst (λ (n : ℕ). Walking v lines n c.loop-k.state c.loop-k.spent) end c.loop-k.invariant in
    let within : last < length lines = omega (arith, c.requires) in
    let l = get_or lines last c.index-lines-last.result in
    let here = slice_get-get_or lines last c.index-lines-last.result within in
    walked_all v lines last l c.loop-k.state c.loop-k.spent c.add.result c.in-Some-last_of.cost here (omega (arith, c.requires)) walking
    (subst (IsLastOf v c.loop-k.state l.step) c.in-Some-last_of.is c.last_of.ensures) c.add.ensures
