use Rattle.std.proofs.Common.{◌≡◌, ◌∙◌, sym, ap, arith}
use Rattle.std.specs.Prelude.{Ok, Err}
use Rattle.std.proofs.lemmas.Result.{err_from_is_err_and}
use Rattle.intent_reader.proofs.IntentListReading.{takes_more, takes_no_name, takes_no_end, takes_end}
use Rattle.intent_reader.proofs.steps.steps_from.Goals as goal

pub loop-i-preserved : goal.loop-i-preserved
loop-i-preserved c =
    rw c.in_ok-push.ensures.items
    (takes_more c.args.net.now c.args.headend c.args.described.now c.loop-i.i c.loop-i.node c.loop-i.steps.items
    c.index-described-i.result c.in_ok-step.step c.in_ok-node.node c.loop-i.invariant (omega arith) c.index-described-i.is
    c.in_ok-step.ensures (sym c.in_ok-node.ensures))

pub returns : goal.returns
returns c =
    takes_end c.args.net.now c.args.headend c.args.described.now c.loop-i.i c.loop-i.node c.loop-i.steps.items c.loop-i.invariant
    (omega arith)
    ∙ ap Ok (sym c.new.ensures)

pub returns-in_err-step : goal.returns-in_err-step
returns-in_err-step c =
    let p = err_from_is_err_and c.from_residual.result c.from_residual.ensures.1 in
    rw (p.1, p.2) (λ fault same.
    takes_no_name c.args.net.now c.args.headend c.args.described.now c.loop-i.i c.loop-i.node c.loop-i.steps.items
    c.index-described-i.result fault c.loop-i.invariant (omega arith) c.index-described-i.is (c.in_err-step.ensures fault same))

pub returns-in_err-node : goal.returns-in_err-node
returns-in_err-node c =
    let p = err_from_is_err_and c.from_residual-in_err-node.result c.from_residual-in_err-node.ensures.1 in
    rw p.1 (λ fault same.
    let is : c.in_err-node.field-0.0 ≡ fault = cc (p.2, same) in
    takes_no_end c.args.net.now c.args.headend c.args.described.now c.loop-i.i c.loop-i.node c.loop-i.steps.items
    c.index-described-i.result c.in_ok-step.step fault c.loop-i.invariant (omega arith) c.index-described-i.is c.in_ok-step.ensures
    (sym c.in_err-node.ensures ∙ ap Err is))
