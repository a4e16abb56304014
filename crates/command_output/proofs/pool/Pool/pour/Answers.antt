use Rattle.std.proofs.Common.{[]}
use Rattle.std.proofs.lemmas.Result.{err_from_is_err_and}
use Rattle.command_output.proofs.PieceSteps.{cut_at_line, cut_at_out}
use Rattle.command_output.proofs.Wanting.{wants_on_err, wants_on_out}
use Rattle.command_output.proofs.pool.Pool.pour.Goals as goal

pub returns-in_err-write_all-clause-wrote : goal.returns-in_err-write_all-clause-wrote
returns-in_err-write_all-clause-wrote g c =
    let p = err_from_is_err_and c.from_residual.result c.from_residual.ensures.1 in
    rw (p.1, p.2, ← c.self.view_is) (cut_at_out c.self.inside.out.items [] _ (g.O.Sink.seen c.args.out.now)
    (g.O.Sink.seen c.write_all.new.sink) (g.E.Sink.seen c.args.err.now) (g.E.Sink.seen c.args.err.now)
    c.in_err-write_all.field-0.0 (rw c.as_slice.ensures.value at c.in_err-write_all.ensures.wrote))

pub returns-in_err-write_all-2-clause-wrote : goal.returns-in_err-write_all-2-clause-wrote
returns-in_err-write_all-2-clause-wrote g c =
    let p = err_from_is_err_and c.from_residual-in_err-write_all-2.result c.from_residual-in_err-write_all-2.ensures.1 in
    rw (p.1, p.2, ← c.self.view_is) (cut_at_line c.self.inside.out.items c.self.inside.err.items [] (g.O.Sink.seen c.args.out.now)
    (g.O.Sink.seen c.write_all.new.sink) (g.E.Sink.seen c.args.err.now) (g.E.Sink.seen c.write_all-2.new.sink)
    (rw c.as_slice.ensures.value at c.in_ok-write_all.ensures.wrote) c.in_err-write_all-2.field-0.0
    (rw c.as_slice-2.ensures.value at c.in_err-write_all-2.ensures.wrote))

pub returns-in_err-write_all-clause-wants : goal.returns-in_err-write_all-clause-wants
returns-in_err-write_all-clause-wants g c =
    let p = err_from_is_err_and c.from_residual.result c.from_residual.ensures.1 in
    rw (p.1, p.2) (wants_on_out c.in_err-write_all.field-0.0 (g.O.Sink.seen c.args.out.now) (g.O.Sink.seen c.write_all.new.sink)
    (g.E.Sink.seen c.args.err.now) c.in_err-write_all.ensures.wants)

pub returns-in_err-write_all-2-clause-wants : goal.returns-in_err-write_all-2-clause-wants
returns-in_err-write_all-2-clause-wants g c =
    let p = err_from_is_err_and c.from_residual-in_err-write_all-2.result c.from_residual-in_err-write_all-2.ensures.1 in
    rw (p.1, p.2) (wants_on_err c.in_err-write_all-2.field-0.0 (g.O.Sink.seen c.args.out.now) (g.O.Sink.seen c.write_all.new.sink)
    (g.E.Sink.seen c.args.err.now) (g.E.Sink.seen c.write_all-2.new.sink) c.in_err-write_all-2.ensures.wants)
