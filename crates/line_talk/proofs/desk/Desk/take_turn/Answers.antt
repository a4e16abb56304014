use Rattle.std.proofs.Common.{◌<◌, take, length, arith}
use Rattle.std.proofs.lemmas.List.{length-take-le}
use Rattle.line_talk.proofs.Steps.{turned_more, turned_stopped}
use Rattle.line_talk.proofs.desk.Desk.take_turn.Goals as goal

pub returns-in-Ok-answer_piece : goal.returns-in-Ok-answer_piece
returns-in-Ok-answer_piece g c line keeps poured =
    let piece = take c.in-Ok.count c.hear.new.into in
    let size = length-take-le c.in-Ok.count c.hear.new.into c.in-Ok.ensures.0 in
    let some : 0 < length piece = omega (arith, size, c.in-Ok.count-test.1) in
    let here = c.split_at.ensures.front in
    turned_more g.E.Engine.rules line piece c.answer_piece.new.self.line (g.E.Engine.seen c.args.engine.now) (g.E.Engine.seen c.answer_piece.new.engine)
    c.args.self.now.waiting c.answer_piece.new.self.waiting (g.C.Client.talk c.args.client.now) (g.C.Client.talk c.hear.new.self) (g.C.Client.talk c.answer_piece.new.client) some
    (rw here at (c.in-Ok-answer_piece.ensures.line line keeps)) poured c.in-Ok-answer_piece.ensures.all c.in-Ok.ensures.1
    (rw here at (c.in-Ok-answer_piece.ensures.steps line keeps))

pub returns-in-Err-answer_piece : goal.returns-in-Err-answer_piece
returns-in-Err-answer_piece g c line keeps poured =
    let piece = take c.in-Ok.count c.hear.new.into in
    let size = length-take-le c.in-Ok.count c.hear.new.into c.in-Ok.ensures.0 in
    let some : 0 < length piece = omega (arith, size, c.in-Ok.count-test.1) in
    let here = c.split_at.ensures.front in
    turned_stopped g.E.Engine.rules c.in-Err-answer_piece.stop line piece c.answer_piece.new.self.line (g.E.Engine.seen c.args.engine.now) (g.E.Engine.seen c.answer_piece.new.engine)
    c.args.self.now.waiting c.answer_piece.new.self.waiting (g.C.Client.talk c.args.client.now) (g.C.Client.talk c.hear.new.self) (g.C.Client.talk c.answer_piece.new.client) some
    poured c.in-Ok.ensures.1
    (rw here at (c.in-Err-answer_piece.ensures.steps line keeps))
