use Rattle.std.proofs.Common.{◌≡◌, false, true, get_or, sym, ◌∙◌, subst}
use Rattle.std.proofs.lemmas.List.{get_or_read}
use Rattle.std.specs.BTreeSet as tree
use Rattle.list_encoder.specs.declared.waiting.Waiting.{Waiting}
use Rattle.list_encoder.specs.Waiting.{waiting_cmp}
use Rattle.list_encoder.proofs.SearchFronts.{lowered_at}
use Rattle.list_encoder.proofs.waiting.lower_open.Goals as goal

pub returns-clause-lowered : goal.returns-clause-lowered
returns-clause-lowered c = λ top front above.
    let done = c.args.queue.now.done.items in
    let read : c.index.result.now ≡ get_or done c.args.place false = get_or_read done _ _ c.requires.early c.index.ensures false in
    lowered_at c.args.table.now c.args.queue.now.waiting c.take_out.new.waiting c.insert.new.self done top c.args.place c.args.cost front
    (sym read ∙ c.if-index.false) c.requires.early c.requires.within above c.take_out.ensures
    (subst (λ (k : Waiting). tree.Updates waiting_cmp c.take_out.new.waiting c.insert.new.self k true) c.waiting_at.ensures
    c.in_ok-insert.ensures.updates)
    c.if-not-is_lower.ensures
