use Rattle.std.proofs.Common.{◌≡◌, ◌∙◌, sym, ap, arith}
use Rattle.std.specs.Prelude.{Ok, Err}
use Rattle.std.proofs.lemmas.Result.{err_from_is_err_and}
use Rattle.intent_reader.specs.IntentJudging.{link_at}
use Rattle.intent_reader.proofs.IntentListReading.{reads_more, reads_stop, reads_end}
use Rattle.intent_reader.proofs.names.links_at.Goals as goal

pub loop-name-preserved : goal.loop-name-preserved
loop-name-preserved c =
    rw c.in_ok-push.ensures.items
    (reads_more (link_at c.args.net.now c.args.step) c.args.names.now c.loop-name.name-index c.loop-name.links.items c.name-item.result
    c.in_ok-link.link c.loop-name.invariant (omega arith) c.name-item.is (sym c.in_ok-link.ensures))

pub returns : goal.returns
returns c =
    reads_end (link_at c.args.net.now c.args.step) c.args.names.now c.loop-name.name-index c.loop-name.links.items
    c.loop-name.invariant (omega arith)
    ∙ ap Ok (sym c.new.ensures)

pub returns-in_err-link : goal.returns-in_err-link
returns-in_err-link c =
    let p = err_from_is_err_and c.from_residual.result c.from_residual.ensures.1 in
    rw p.1 (λ fault same.
    let is : c.in_err-link.field-0.0 ≡ fault = cc (p.2, same) in
    reads_stop (link_at c.args.net.now c.args.step) c.args.names.now c.loop-name.name-index c.loop-name.links.items c.name-item.result
    fault c.loop-name.invariant (omega arith) c.name-item.is (sym c.in_err-link.ensures ∙ ap Err is))
