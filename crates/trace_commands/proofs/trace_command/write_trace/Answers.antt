use Rattle.std.proofs.Common.{[], ◌∷◌}
use Rattle.std.proofs.lemmas.Result.{err_from_is_err_and}
use Rattle.srx_edge.specs.CallSteps.{Whole}
use Rattle.command_output.specs.CommandAnswers.{ending_of_failure}
use Rattle.command_output.specs.GatheredTerms.{pooled}
use Rattle.command_output.specs.OutputPieces.{ForOut}
use Rattle.command_output.specs.OutputPiecesTerms.{sinks_of}
use Rattle.command_output.proofs.PublicLaws.{cut_short, poured_last, unpoured_last}
use Rattle.command_inputs.specs.InputPackets.{reading_of}
use Rattle.run_commands.specs.Silent.{silent_seen}
use Rattle.run_commands.proofs.PublicLaws.{out_alone}
use Rattle.trace_commands.specs.TraceCommand.{text_of}
use Rattle.trace_commands.proofs.trace_command.write_trace.Goals as goal

pub returns-in_err-fault-clause-wrote : goal.returns-in_err-fault-clause-wrote
returns-in_err-fault-clause-wrote g c =
    let p = err_from_is_err_and c.from_residual-in_err-fault.result c.from_residual-in_err-fault.ensures.1 in
    let t = c.args.teller.now in
    let text = text_of t.net.now t.node t.choices.now (reading_of c.args.packets.now) in
    let old = pooled c.in_ok-pool.pool (g.O.Sink.seen c.args.out.now) silent_seen in
    let new = pooled c.put_trace.new.pool (g.O.Sink.seen c.put_trace.new.out) silent_seen in
    rw (p.1, p.2) (out_alone text old.sinks new.sinks (ending_of_failure c.in_err-fault.field-0.0)
    (cut_short c.in_err-fault.field-0.0 (ForOut text ∷ []) [] old new c.in_ok-pool.ensures c.in_err-fault.ensures.wrote))

pub returns-in_err-pour-clause-wrote : goal.returns-in_err-pour-clause-wrote
returns-in_err-pour-clause-wrote g c =
    let p = err_from_is_err_and c.from_residual-in_err-pour.result c.from_residual-in_err-pour.ensures.1 in
    let t = c.args.teller.now in
    let text = text_of t.net.now t.node t.choices.now (reading_of c.args.packets.now) in
    let old = pooled c.in_ok-pool.pool (g.O.Sink.seen c.args.out.now) silent_seen in
    let mid = pooled c.put_trace.new.pool (g.O.Sink.seen c.put_trace.new.out) silent_seen in
    let new = sinks_of (g.O.Sink.seen c.pour.new.out) silent_seen in
    rw (p.1, p.2) (out_alone text old.sinks new (ending_of_failure c.in_err-pour.field-0.0)
    (unpoured_last c.in_err-pour.field-0.0 (ForOut text ∷ []) old mid new c.in_ok-pool.ensures c.in_ok-fault.ensures.wrote
    c.in_err-pour.ensures.wrote))

pub returns-clause-wrote : goal.returns-clause-wrote
returns-clause-wrote g c =
    let t = c.args.teller.now in
    let text = text_of t.net.now t.node t.choices.now (reading_of c.args.packets.now) in
    let old = pooled c.in_ok-pool.pool (g.O.Sink.seen c.args.out.now) silent_seen in
    let mid = pooled c.put_trace.new.pool (g.O.Sink.seen c.put_trace.new.out) silent_seen in
    let new = sinks_of (g.O.Sink.seen c.pour.new.out) silent_seen in
    out_alone text old.sinks new Whole
    (poured_last Whole (ForOut text ∷ []) old mid new c.in_ok-pool.ensures c.in_ok-fault.ensures.wrote c.in_ok-pour.ensures.wrote)
