use Rattle.std.proofs.Common.{◌++◌, ◌∷◌, [], Some, sym, ap, ◌∙◌, subst}
use Rattle.prefix_table.specs.PrefixTable.{HasPrefix}
use Rattle.prefix_table.proofs.TableEditLemmas.{with_none}
use Rattle.net_model.specs.LookupTables.{HitTable, SettlesIn}
use Rattle.net_model.proofs.SettleLemmas.{settles_with, settles_pushed, not_there, there_from, on_err_always}
use Rattle.net_model.proofs.hidden.place_in.Goals as goal

pub returns-in-Some-clause-ok : goal.returns-in-Some-clause-ok
returns-in-Some-clause-ok c =
    let old = c.args.table.now in
    let p = c.args.p.now in
    subst (λ (t : HitTable). SettlesIn p (Some c.args.hit) old t) (sym c.replace.ensures.entries)
    (settles_with old p c.args.hit (there_from old p c.in-Some.field-0 c.in-Some.ensures.value))

pub insert_new-requires : goal.insert_new-requires
insert_new-requires c = λ has.
    let old = c.args.table.now in
    let p = c.args.p.now in
    let new = not_there old p c.in-None.ensures.value in
    new (subst (λ (t : HitTable). HasPrefix t p) (c.replace.ensures.entries ∙ with_none old p c.args.hit new) has)

pub returns-in_ok-insert_new-in-None-clause-ok : goal.returns-in_ok-insert_new-in-None-clause-ok
returns-in_ok-insert_new-in-None-clause-ok c =
    let old = c.args.table.now in
    let p = c.args.p.now in
    let new = not_there old p c.in-None.ensures.value in
    let same = c.replace.ensures.entries ∙ with_none old p c.args.hit new in
    subst (λ (t : HitTable). SettlesIn p (Some c.args.hit) old t)
    (sym (c.in_ok-insert_new-in-None.ensures.ok ∙ ap (λ (t : HitTable). t ++ (p, c.args.hit) ∷ []) same))
    (settles_pushed old p c.args.hit new)

pub returns-in_err-insert_new-in-None-clause-err : goal.returns-in_err-insert_new-in-None-clause-err
returns-in_err-insert_new-in-None-clause-err c =
    let old = c.args.table.now in
    let p = c.args.p.now in
    on_err_always c.from_residual.result _
    (c.in_err-insert_new-in-None.ensures.err ∙ (c.replace.ensures.entries
    ∙ with_none old p c.args.hit (not_there old p c.in-None.ensures.value)))
