use Rattle.std.proofs.Common.{ℕ, List, sym, subst}
use Rattle.std.proofs.lemmas.Result.{err_from_is_err_and}
use Rattle.line_talk.specs.TalkTerms.{Keeps}
use Rattle.line_talk.proofs.PiecesFed.{fed_none, fed_more, fed_stops, fed_all, fed_last, fed_wanting}
use Rattle.line_talk.proofs.desk.Desk.feed.Goals as goal

pub loop-at-init : goal.loop-at-init
loop-at-init g c line keeps =
    fed_none g.E.Engine.rules line c.args.piece.now c.args.self.now.line (g.E.Engine.seen c.args.engine.now) c.args.self.now.waiting (g.C.Client.talk c.args.client.now) keeps

pub returns-in_err-end_line-clause-steps : goal.returns-in_err-end_line-clause-steps
returns-in_err-end_line-clause-steps g c line keeps =
    let p = err_from_is_err_and c.from_residual.result c.from_residual.ensures.1 in
    let f = c.loop-at.invariant line keeps in
    rw (p.1, p.2)
    (fed_stops g.E.Engine.rules c.in_err-end_line.field-0.0 line c.args.piece.now c.loop-at.rest.now c.in-Some.at c.loop-at.self.line
    (g.E.Engine.seen c.args.engine.now) (g.E.Engine.seen c.loop-at.engine) (g.E.Engine.seen c.end_line.new.engine) c.args.self.now.waiting c.loop-at.self.waiting
    (g.C.Client.talk c.args.client.now) (g.C.Client.talk c.loop-at.client) (g.C.Client.talk c.end_line.new.client) c.in-Some.ensures f
    (rw c.split_at.ensures.front at (c.in_err-end_line.ensures.steps f.here f.keeps)))

pub loop-at-preserved : goal.loop-at-preserved
loop-at-preserved g c line keeps =
    let f = c.loop-at.invariant line keeps in
    fed_more g.E.Engine.rules line c.args.piece.now c.loop-at.rest.now c.behind-rest.result.now c.in-Some.at c.loop-at.self.line c.end_line.new.self.line
    (g.E.Engine.seen c.args.engine.now) (g.E.Engine.seen c.loop-at.engine) (g.E.Engine.seen c.end_line.new.engine) c.args.self.now.waiting c.loop-at.self.waiting c.end_line.new.self.waiting
    (g.C.Client.talk c.args.client.now) (g.C.Client.talk c.loop-at.client) (g.C.Client.talk c.end_line.new.client) c.in-Some.ensures f
    (rw c.split_at.ensures.front at (c.in_ok-end_line.ensures.steps f.here f.keeps)) c.in_ok-end_line.ensures.line c.behind-rest.ensures

pub returns-in_err-keep-clause-steps : goal.returns-in_err-keep-clause-steps
returns-in_err-keep-clause-steps g c line keeps =
    let p = err_from_is_err_and c.from_residual-in_err-keep.result c.from_residual-in_err-keep.ensures.1 in
    rw (p.1, p.2)
    (fed_wanting g.E.Engine.rules line c.args.piece.now c.loop-at.rest.now c.loop-at.self.line (g.E.Engine.seen c.args.engine.now) (g.E.Engine.seen c.loop-at.engine)
    c.args.self.now.waiting c.loop-at.self.waiting (g.C.Client.talk c.args.client.now) (g.C.Client.talk c.loop-at.client) c.in_default.ensures (c.loop-at.invariant line keeps))

pub returns-clause-steps : goal.returns-clause-steps
returns-clause-steps g c line keeps =
    fed_all g.E.Engine.rules line c.args.piece.now c.loop-at.rest.now c.loop-at.self.line (g.E.Engine.seen c.args.engine.now) (g.E.Engine.seen c.loop-at.engine)
    c.args.self.now.waiting c.loop-at.self.waiting (g.C.Client.talk c.args.client.now) (g.C.Client.talk c.loop-at.client) c.in_default.ensures (c.loop-at.invariant line keeps)

pub returns-clause-line : goal.returns-clause-line
returns-clause-line g c line keeps =
    let f = c.loop-at.invariant line keeps in
    let e = fed_last g.E.Engine.rules line c.args.piece.now c.loop-at.rest.now c.loop-at.self.line (g.E.Engine.seen c.args.engine.now) (g.E.Engine.seen c.loop-at.engine)
    c.args.self.now.waiting c.loop-at.self.waiting (g.C.Client.talk c.args.client.now) (g.C.Client.talk c.loop-at.client) c.in_default.ensures f in
    subst (λ (l : List ℕ). Keeps l c.keep.new.self) (sym e) (c.in_ok-keep.ensures f.here f.keeps)
