use Rattle.std.proofs.Common.{◌<◌, ◌≤◌, ◌∷◌, ◌++◌, [], List, length, take, sym, ap, ◌∙◌, subst, arith}
use Rattle.std.proofs.lemmas.List.{append_assoc, take_all}
use Rattle.net_model.specs.declared.lookup_tables.TableEntry.{TableEntry}
use Rattle.net_model.specs.NetworkTerms.{hidden_hits}
use Rattle.net_model.specs.LookupTables.{entries_from, shown_of, AnswerFor}
use Rattle.net_model.proofs.FillLemmas.{entries_more}
use Rattle.net_model.proofs.ListedLemmas.{shown_of_append}
use Rattle.net_model.proofs.lookup_tables.put_all.Goals as goal

pub loop-i-preserved : goal.loop-i-preserved
loop-i-preserved g c =
    let entry = g.X.Listed.entry in
    let items = c.args.items.now in
    let hs = hidden_hits c.args.hidden.now in
    let i = c.loop-i.i in
    let so_far = entries_from entry 0 (take i items) in
    let within : i < length items = omega arith in
    let one = ap (λ (e : TableEntry). so_far ++ e ∷ []) c.entry.ensures
    ∙ sym (entries_more entry items i c.index-items-i.result within c.index-items-i.is) in
    let shown = sym (shown_of_append hs so_far (c.entry.result ∷ [])) ∙ ap (shown_of hs) one in
    record {
      taken = c.in_ok-put_shown.ensures.taken;
      answers = λ before has.
          subst (λ (es : List TableEntry). AnswerFor es c.put_shown.new.tables)
          (append_assoc before (shown_of hs so_far) (shown_of hs (c.entry.result ∷ []))
          ∙ ap (λ (es : List TableEntry). before ++ es) shown)
          (c.in_ok-put_shown.ensures.answers (before ++ shown_of hs so_far) (c.loop-i.invariant.answers before has));
    }

pub returns-clause-answers : goal.returns-clause-answers
returns-clause-answers g c = λ before has.
    let entry = g.X.Listed.entry in
    let items = c.args.items.now in
    let hs = hidden_hits c.args.hidden.now in
    let end : length items ≤ c.loop-i.i = omega arith in
    subst (λ xs. AnswerFor (before ++ shown_of hs (entries_from entry 0 xs)) c.loop-i.tables) (take_all c.loop-i.i items end)
    (c.loop-i.invariant.answers before has)
