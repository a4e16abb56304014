use Rattle.std.proofs.Common.{[], ◌∷◌}
use Rattle.std.proofs.lemmas.Result.{err_from_is_err_and}
use Rattle.line_talk.specs.Lines.{line_feed}
use Rattle.line_talk.proofs.Steps.{stops_wanting, stops_line, goes_line, says_within, says_stopped, says_both}
use Rattle.line_talk.proofs.desk.Desk.answer.Goals as goal

pub returns-in_err-reply-clause-steps : goal.returns-in_err-reply-clause-steps
returns-in_err-reply-clause-steps g c line keeps =
    let p = err_from_is_err_and c.from_residual.result c.from_residual.ensures.1 in
    rw (p.1, p.2)
    (stops_wanting g.E.Engine.rules (line ∷ []) (g.E.Engine.seen c.args.engine.now) (g.E.Engine.seen c.reply.new.engine) c.args.self.now.waiting
    (g.C.Client.talk c.args.client.now) (c.in_err-reply.ensures line keeps))

pub returns-in_err-give-clause-steps : goal.returns-in_err-give-clause-steps
returns-in_err-give-clause-steps g c line keeps =
    let p = err_from_is_err_and c.from_residual-in_err-give.result c.from_residual-in_err-give.ensures.1 in
    let stop = c.in_err-give.field-0.0 in
    let reply = c.in_ok-reply.reply.items in
    let before = g.C.Client.talk c.args.client.now in
    let behind = g.C.Client.talk c.give.new.client in
    rw (p.1, p.2)
    (stops_line g.E.Engine.rules stop line reply (g.E.Engine.seen c.args.engine.now) (g.E.Engine.seen c.reply.new.engine) c.args.self.now.waiting c.give.new.self before behind
    (c.in_ok-reply.ensures line keeps)
    (says_within stop reply (line_feed ∷ []) c.args.self.now.waiting c.give.new.self before behind (rw c.as_slice.ensures.value at c.in_err-give.ensures)))

pub returns-in_err-give-2-clause-steps : goal.returns-in_err-give-2-clause-steps
returns-in_err-give-2-clause-steps g c line keeps =
    let p = err_from_is_err_and c.from_residual-in_err-give-2.result c.from_residual-in_err-give-2.ensures.1 in
    let stop = c.in_err-give-2.field-0.0 in
    let reply = c.in_ok-reply.reply.items in
    let before = g.C.Client.talk c.args.client.now in
    let between = g.C.Client.talk c.give.new.client in
    let behind = g.C.Client.talk c.give-2.new.client in
    rw (p.1, p.2)
    (stops_line g.E.Engine.rules stop line reply (g.E.Engine.seen c.args.engine.now) (g.E.Engine.seen c.reply.new.engine) c.args.self.now.waiting c.give-2.new.self before behind
    (c.in_ok-reply.ensures line keeps)
    (says_stopped stop reply (line_feed ∷ []) c.args.self.now.waiting c.give.new.self c.give-2.new.self before between behind
    (rw c.as_slice.ensures.value at c.in_ok-give.ensures) c.in_err-give-2.ensures))

pub returns-clause-steps : goal.returns-clause-steps
returns-clause-steps g c line keeps =
    let reply = c.in_ok-reply.reply.items in
    let before = g.C.Client.talk c.args.client.now in
    let between = g.C.Client.talk c.give.new.client in
    let behind = g.C.Client.talk c.give-2.new.client in
    goes_line g.E.Engine.rules line reply (g.E.Engine.seen c.args.engine.now) (g.E.Engine.seen c.reply.new.engine) c.args.self.now.waiting c.give-2.new.self before behind
    (c.in_ok-reply.ensures line keeps)
    (says_both reply (line_feed ∷ []) c.args.self.now.waiting c.give.new.self c.give-2.new.self before between behind
    (rw c.as_slice.ensures.value at c.in_ok-give.ensures) c.in_ok-give-2.ensures)
