use Rattle.std.proofs.Common.{true, ap, ◌∙◌, subst}
use Rattle.std.specs.Prelude.{not}
use Rattle.std.specs.BTreeSet as tree
use Rattle.net_model.specs.declared.route_set.EntryKey.{EntryKey}
use Rattle.net_model.specs.EntryKeys.{entry_key_cmp}
use Rattle.net_model.proofs.FillLemmas.{not_there, is_there, taken_more, answer_more, answer_same}
use Rattle.net_model.proofs.lookup_tables.put.Goals as goal

pub append-requires : goal.append-requires
append-requires c = λ has.
    let e = c.args.e.now in
    let told = c.in_ok-is_new.ensures.added
    ∙ ap (λ (k : EntryKey). not (tree.contains entry_key_cmp c.args.taken.now k)) c.entry_key.ensures in
    not_there _ _ c.if-is_new.true told ((c.requires e.node e.table e.family e.prefix).1 has)

pub returns-in_ok-append-clause-taken : goal.returns-in_ok-append-clause-taken
returns-in_ok-append-clause-taken c =
    taken_more c.args.e.now c.args.taken.now c.insert.new.self c.args.tables.now c.append.new.tables c.requires c.in_ok-append.ensures
    (subst (λ (k : EntryKey). tree.Updates entry_key_cmp c.args.taken.now c.insert.new.self k true) c.entry_key.ensures
    c.in_ok-is_new.ensures.updates)

pub returns-in_ok-append-clause-answers : goal.returns-in_ok-append-clause-answers
returns-in_ok-append-clause-answers c = λ before answers.
    let e = c.args.e.now in
    let told = c.in_ok-is_new.ensures.added
    ∙ ap (λ (k : EntryKey). not (tree.contains entry_key_cmp c.args.taken.now k)) c.entry_key.ensures in
    answer_more e before c.args.tables.now c.append.new.tables
    (λ has. not_there _ _ c.if-is_new.true told ((c.requires e.node e.table e.family e.prefix).1 has)) c.in_ok-append.ensures answers

pub returns-else-is_new-clause-answers : goal.returns-else-is_new-clause-answers
returns-else-is_new-clause-answers c = λ before answers.
    let e = c.args.e.now in
    let told = c.in_ok-is_new.ensures.added
    ∙ ap (λ (k : EntryKey). not (tree.contains entry_key_cmp c.args.taken.now k)) c.entry_key.ensures in
    answer_same e before c.args.tables.now ((c.requires e.node e.table e.family e.prefix).0 (is_there _ _ c.if-is_new.false told)) answers
