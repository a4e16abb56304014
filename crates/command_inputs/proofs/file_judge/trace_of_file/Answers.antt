use Rattle.std.proofs.Common.{ℕ, List, Err, rules, subst}
use Rattle.std.proofs.lemmas.Result.{err_from_is_err_and}
use Rattle.trace_replay.specs.TraceReadingTerms.{Reads}
use Rattle.command_inputs.proofs.Tracing.{trace_refused}
use Rattle.command_inputs.proofs.file_judge.trace_of_file.Goals as goal

pub returns-in_err-read_trace-clause-judged : goal.returns-in_err-read_trace-clause-judged
returns-in_err-read_trace-clause-judged g c =
    let p = err_from_is_err_and c.from_residual-in_err-read_trace.result c.from_residual-in_err-read_trace.ensures.1 in
    rw (p.1, p.2) (trace_refused c.args.net.now c.in_err-read_trace.field-0.0 c.in_ok-text.text.items c.args.name.now _ _
    (search rules) (search rules) (search rules)
    (subst (λ (text : List ℕ). Reads c.args.net.now text (Err c.in_err-read_trace.field-0.0)) c.as_slice.ensures.value
    c.in_err-read_trace.ensures))
