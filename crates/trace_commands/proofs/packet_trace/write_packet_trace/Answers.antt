use Rattle.std.proofs.Common.{[], ◌∷◌}
use Rattle.std.proofs.lemmas.Result.{err_from_is_err_and}
use Rattle.srx_edge.specs.CallSteps.{Whole}
use Rattle.srx_edge.proofs.PublicLaws.{cut_none}
use Rattle.srv6_rules.specs.Packet.{entered}
use Rattle.command_output.specs.CommandAnswers.{ending_of_failure}
use Rattle.command_output.specs.GatheredTerms.{pooled}
use Rattle.command_output.specs.OutputPieces.{ForOut}
use Rattle.command_output.specs.OutputPiecesTerms.{sinks_of}
use Rattle.command_output.proofs.PublicLaws.{cut_short, poured_last, unpoured_last}
use Rattle.run_commands.specs.Silent.{silent_seen}
use Rattle.run_commands.proofs.PublicLaws.{out_alone}
use Rattle.trace_replay.specs.Written.{trace_text}
use Rattle.trace_commands.specs.TraceCommand.{traced_as}
use Rattle.trace_commands.proofs.packet_trace.write_packet_trace.Goals as goal

pub returns-in_err-entering : goal.returns-in_err-entering
returns-in_err-entering g c =
    let p = err_from_is_err_and c.from_residual.result c.from_residual.ensures.1 in
    let a = c.args in
    rw (p.1, p.2) (cut_none (trace_text a.net.now (traced_as a.node a.choices.now 1 a.family (entered a.family a.packet.now) ∷ []))
    (g.O.Sink.seen a.out.now))

pub returns-in_err-pool : goal.returns-in_err-pool
returns-in_err-pool g c =
    let p = err_from_is_err_and c.from_residual-in_err-pool.result c.from_residual-in_err-pool.ensures.1 in
    let a = c.args in
    rw (p.1, p.2) (cut_none (trace_text a.net.now (traced_as a.node a.choices.now 1 a.family (entered a.family a.packet.now) ∷ []))
    (g.O.Sink.seen a.out.now))

pub returns-in_err-put_packet_trace : goal.returns-in_err-put_packet_trace
returns-in_err-put_packet_trace g c =
    let p = err_from_is_err_and c.from_residual-in_err-put_packet_trace.result c.from_residual-in_err-put_packet_trace.ensures.1 in
    let a = c.args in
    let text = trace_text a.net.now (traced_as a.node a.choices.now 1 a.family (entered a.family a.packet.now) ∷ []) in
    let old = pooled c.in_ok-pool.pool (g.O.Sink.seen a.out.now) silent_seen in
    let new = pooled c.put_packet_trace.new.pool (g.O.Sink.seen c.put_packet_trace.new.out) silent_seen in
    rw (p.1, p.2) (out_alone text old.sinks new.sinks (ending_of_failure c.in_err-put_packet_trace.field-0.0)
    (cut_short c.in_err-put_packet_trace.field-0.0 (ForOut text ∷ []) [] old new c.in_ok-pool.ensures
    (rw c.in_ok-entering.ensures at c.in_err-put_packet_trace.ensures)))

pub returns-in_err-pour : goal.returns-in_err-pour
returns-in_err-pour g c =
    let p = err_from_is_err_and c.from_residual-in_err-pour.result c.from_residual-in_err-pour.ensures.1 in
    let a = c.args in
    let text = trace_text a.net.now (traced_as a.node a.choices.now 1 a.family (entered a.family a.packet.now) ∷ []) in
    let old = pooled c.in_ok-pool.pool (g.O.Sink.seen a.out.now) silent_seen in
    let mid = pooled c.put_packet_trace.new.pool (g.O.Sink.seen c.put_packet_trace.new.out) silent_seen in
    let new = sinks_of (g.O.Sink.seen c.pour.new.out) silent_seen in
    rw (p.1, p.2) (out_alone text old.sinks new (ending_of_failure c.in_err-pour.field-0.0)
    (unpoured_last c.in_err-pour.field-0.0 (ForOut text ∷ []) old mid new c.in_ok-pool.ensures
    (rw c.in_ok-entering.ensures at c.in_ok-put_packet_trace.ensures) c.in_err-pour.ensures.wrote))

pub returns : goal.returns
returns g c =
    let a = c.args in
    let text = trace_text a.net.now (traced_as a.node a.choices.now 1 a.family (entered a.family a.packet.now) ∷ []) in
    let old = pooled c.in_ok-pool.pool (g.O.Sink.seen a.out.now) silent_seen in
    let mid = pooled c.put_packet_trace.new.pool (g.O.Sink.seen c.put_packet_trace.new.out) silent_seen in
    let new = sinks_of (g.O.Sink.seen c.pour.new.out) silent_seen in
    out_alone text old.sinks new Whole
    (poured_last Whole (ForOut text ∷ []) old mid new c.in_ok-pool.ensures
    (rw c.in_ok-entering.ensures at c.in_ok-put_packet_trace.ensures) c.in_ok-pour.ensures.wrote)
