use Rattle.std.proofs.Common.{[], ◌∷◌, ◌++◌, ◌∙◌, ap, refl}
use Rattle.std.proofs.lemmas.Result.{err_from_is_err_and}
use Rattle.srx_edge.specs.CallSteps.{Memory}
use Rattle.command_output.specs.CommandAnswers.{ending_of_step}
use Rattle.command_output.specs.GatheredTerms.{Waiting, pooled}
use Rattle.command_output.specs.OutputPieces.{ForErr}
use Rattle.command_output.specs.OutputPiecesTerms.{sinks_of}
use Rattle.command_output.proofs.PieceSteps.{all_on_err}
use Rattle.command_output.proofs.Pooling.{goes_both, goes_directly, goes_err, goes_longer, goes_poured, goes_then, goes_unpoured, goes_wanting}
use Rattle.command_output.proofs.Wanting.{wants_err_behind}
use Rattle.command_output.proofs.pool.Pool.put_err.Goals as goal

pub returns-in_err-pour-clause-goes : goal.returns-in_err-pour-clause-goes
returns-in_err-pour-clause-goes g c =
    let p = err_from_is_err_and c.from_residual.result c.from_residual.ensures.1 in
    let old = pooled c.args.self.now (g.O.Sink.seen c.args.out.now) (g.E.Sink.seen c.args.err.now) in
    let mid = pooled c.pour.new.self (g.O.Sink.seen c.pour.new.out) (g.E.Sink.seen c.pour.new.err) in
    rw (p.1, p.2) (goes_longer c.in_err-pour.field-0.0 [] (ForErr c.args.bytes.now ∷ []) old mid
    (goes_unpoured c.in_err-pour.field-0.0 old mid c.in_err-pour.ensures.wrote))

pub returns-then-bytes-gt-MOST_WAITING-clause-goes : goal.returns-then-bytes-gt-MOST_WAITING-clause-goes
returns-then-bytes-gt-MOST_WAITING-clause-goes g c =
    let old = pooled c.args.self.now (g.O.Sink.seen c.args.out.now) (g.E.Sink.seen c.args.err.now) in
    let mid = pooled c.pour.new.self (g.O.Sink.seen c.pour.new.out) (g.E.Sink.seen c.pour.new.err) in
    let new = pooled c.pour.new.self (g.O.Sink.seen c.pour.new.out) (g.E.Sink.seen c.write_all.new.sink) in
    goes_then (ending_of_step c.write_all.result) [] (ForErr c.args.bytes.now ∷ []) old mid new
    (goes_poured old mid c.in_ok-pour.ensures.wrote c.in_ok-pour.ensures.emptied)
    (goes_directly (ForErr c.args.bytes.now ∷ []) mid new c.in_ok-pour.ensures.emptied c.in_ok-pour.ensures.emptied
    (ending_of_step c.write_all.result)
    (all_on_err (ending_of_step c.write_all.result) c.args.bytes.now (g.O.Sink.seen c.pour.new.out) _ _ c.write_all.ensures.wrote))

pub returns-in_err-make_room-clause-goes : goal.returns-in_err-make_room-clause-goes
returns-in_err-make_room-clause-goes g c =
    let p = err_from_is_err_and c.from_residual-in_err-make_room.result c.from_residual-in_err-make_room.ensures.1 in
    rw (p.1, p.2) (goes_longer c.in_err-make_room.field-0.0 [] (ForErr c.args.bytes.now ∷ []) _ _ c.in_err-make_room.ensures.goes)

pub returns-in_err-extend_from_slice-clause-goes : goal.returns-in_err-extend_from_slice-clause-goes
returns-in_err-extend_from_slice-clause-goes g c =
    let p = err_from_is_err_and c.from_residual-in_err-extend_from_slice.result c.from_residual-in_err-extend_from_slice.ensures.1 in
    let mid = pooled c.make_room.new.self (g.O.Sink.seen c.make_room.new.out) (g.E.Sink.seen c.make_room.new.err) in
    let new = pooled (record { out = c.self.inside.out.items; err = c.extend_from_slice.new.self.items })
    (g.O.Sink.seen c.make_room.new.out) (g.E.Sink.seen c.make_room.new.err) in
    rw (p.1, p.2) (goes_then Memory [] (ForErr c.args.bytes.now ∷ []) _ mid new c.in_ok-make_room.ensures.goes
    (goes_wanting (ForErr c.args.bytes.now ∷ []) mid new refl))

pub returns-clause-goes : goal.returns-clause-goes
returns-clause-goes g c =
    let mid = pooled c.make_room.new.self (g.O.Sink.seen c.make_room.new.out) (g.E.Sink.seen c.make_room.new.err) in
    let new = pooled (record { out = c.self.inside.out.items; err = c.extend_from_slice.new.self.items })
    (g.O.Sink.seen c.make_room.new.out) (g.E.Sink.seen c.make_room.new.err) in
    goes_both [] (ForErr c.args.bytes.now ∷ []) _ mid new c.in_ok-make_room.ensures.goes (goes_err c.args.bytes.now mid new refl
    (ap (λ (w : Waiting). w.out) c.self.view_is)
    (c.in_ok-extend_from_slice.ensures.items ∙ ap (λ (w : Waiting). w.err ++ c.args.bytes.now) c.self.view_is)
    c.in_ok-make_room.ensures.out c.in_ok-make_room.ensures.err)

pub returns-in_err-pour-clause-wants : goal.returns-in_err-pour-clause-wants
returns-in_err-pour-clause-wants g c =
    let p = err_from_is_err_and c.from_residual.result c.from_residual.ensures.1 in
    rw (p.1, p.2) c.in_err-pour.ensures.wants

pub returns-then-bytes-gt-MOST_WAITING-clause-wants : goal.returns-then-bytes-gt-MOST_WAITING-clause-wants
returns-then-bytes-gt-MOST_WAITING-clause-wants g c = wants_err_behind c.write_all.result c.args.self.now
    (sinks_of (g.O.Sink.seen c.args.out.now) (g.E.Sink.seen c.args.err.now))
    (sinks_of (g.O.Sink.seen c.pour.new.out) (g.E.Sink.seen c.pour.new.err)) (g.E.Sink.seen c.write_all.new.sink)
    c.in_ok-pour.ensures.wrote c.write_all.ensures.wants

pub returns-in_err-make_room-clause-wants : goal.returns-in_err-make_room-clause-wants
returns-in_err-make_room-clause-wants g c =
    let p = err_from_is_err_and c.from_residual-in_err-make_room.result c.from_residual-in_err-make_room.ensures.1 in
    rw (p.1, p.2) c.in_err-make_room.ensures.wants
