use Rattle.std.proofs.Common.{◌≡◌, []}
use Rattle.line_talk.proofs.Steps.{goes_empty, some_line}
use Rattle.line_talk.proofs.desk.Desk.answer_last.Goals as goal

pub returns-then-is_empty : goal.returns-then-is_empty
returns-then-is_empty g c line keeps = goes_empty g.E.Engine.rules line _ _ _ ((c.is_empty.ensures line keeps).0 c.if-is_empty.true)

pub returns : goal.returns
returns g c line keeps =
    let some : line ≡ [] → ⊥ = λ e. let t = (c.is_empty.ensures line keeps).1 e in let f = c.if-is_empty.false in cc in
    rw (some_line line some) (c.answer.ensures.steps line keeps)
