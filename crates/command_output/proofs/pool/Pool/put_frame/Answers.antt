use Rattle.std.proofs.Common.{◌+◌, ◌≤◌, [], ◌∷◌, ◌++◌, ◌∙◌, ap, arith, length, refl}
use Rattle.std.proofs.lemmas.Result.{err_from_is_err_and}
use Rattle.srx_edge.specs.CallSteps.{Memory}
use Rattle.pcap_io.specs.Capture.{written_frame_bytes}
use Rattle.command_output.specs.declared.limits.TheConstants.{MOST_WAITING}
use Rattle.command_output.specs.GatheredTerms.{Waiting, pooled}
use Rattle.command_output.specs.OutputPieces.{ForOut}
use Rattle.command_output.proofs.Pooling.{frame_length, goes_both, goes_longer, goes_out, goes_then, goes_wanting}
use Rattle.command_output.proofs.pool.Pool.put_frame.Goals as goal

pub returns-in_err-make_room-clause-goes : goal.returns-in_err-make_room-clause-goes
returns-in_err-make_room-clause-goes g c =
    let p = err_from_is_err_and c.from_residual.result c.from_residual.ensures.1 in
    rw (p.1, p.2) (goes_longer c.in_err-make_room.field-0.0 []
    (ForOut (written_frame_bytes c.args.number c.args.micros c.args.packet.now) ∷ []) _ _ c.in_err-make_room.ensures.goes)

pub returns-in_err-write_frame-clause-goes : goal.returns-in_err-write_frame-clause-goes
returns-in_err-write_frame-clause-goes g c =
    let p = err_from_is_err_and c.from_residual-in_err-write_frame.result c.from_residual-in_err-write_frame.ensures.1 in
    let frame = written_frame_bytes c.args.number c.args.micros c.args.packet.now in
    let mid = pooled c.make_room.new.self (g.O.Sink.seen c.make_room.new.out) (g.E.Sink.seen c.make_room.new.err) in
    let new = pooled (record { out = c.write_frame.new.out.items; err = c.self.inside.err.items })
    (g.O.Sink.seen c.make_room.new.out) (g.E.Sink.seen c.make_room.new.err) in
    rw (p.1, p.2) (goes_then Memory [] (ForOut frame ∷ []) _ mid new c.in_ok-make_room.ensures.goes
    (goes_wanting (ForOut frame ∷ []) mid new refl))

pub returns-clause-goes : goal.returns-clause-goes
returns-clause-goes g c =
    let frame = written_frame_bytes c.args.number c.args.micros c.args.packet.now in
    let mid = pooled c.make_room.new.self (g.O.Sink.seen c.make_room.new.out) (g.E.Sink.seen c.make_room.new.err) in
    let new = pooled (record { out = c.write_frame.new.out.items; err = c.self.inside.err.items })
    (g.O.Sink.seen c.make_room.new.out) (g.E.Sink.seen c.make_room.new.err) in
    let room : length c.make_room.new.self.out + (16 + length c.args.packet.now) ≤ MOST_WAITING = c.in_ok-make_room.ensures.out in
    let fits : length c.make_room.new.self.out + length frame ≤ MOST_WAITING =
    omega (arith, room, frame_length c.args.number c.args.micros c.args.packet.now) in
    goes_both [] (ForOut frame ∷ []) _ mid new c.in_ok-make_room.ensures.goes (goes_out frame mid new refl
    (c.in_ok-write_frame.ensures.ok ∙ ap (λ (w : Waiting). w.out ++ frame) c.self.view_is)
    (ap (λ (w : Waiting). w.err) c.self.view_is)
    fits c.in_ok-make_room.ensures.err)

pub returns-in_err-make_room-clause-wants : goal.returns-in_err-make_room-clause-wants
returns-in_err-make_room-clause-wants g c =
    let p = err_from_is_err_and c.from_residual.result c.from_residual.ensures.1 in
    rw (p.1, p.2) c.in_err-make_room.ensures.wants
