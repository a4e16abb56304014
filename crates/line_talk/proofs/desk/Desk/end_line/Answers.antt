use Rattle.std.proofs.Common.{[], ◌∷◌, ◌++◌, inl, refl}
use Rattle.std.proofs.lemmas.Result.{err_from_is_err_and}
use Rattle.line_talk.proofs.Steps.{stops_wanting}
use Rattle.line_talk.proofs.desk.Desk.end_line.Goals as goal

pub returns-in_err-keep-clause-steps : goal.returns-in_err-keep-clause-steps
returns-in_err-keep-clause-steps g c line keeps =
    let p = err_from_is_err_and c.from_residual.result c.from_residual.ensures.1 in
    rw (p.1, p.2) (stops_wanting g.E.Engine.rules ((line ++ c.args.part.now) ∷ []) _ _ _ _ (inl refl))

pub returns-clause-steps : goal.returns-clause-steps
returns-clause-steps g c line keeps = c.answer.ensures.steps (line ++ c.args.part.now) (c.in_ok-keep.ensures line keeps)
