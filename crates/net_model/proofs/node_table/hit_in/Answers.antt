use Rattle.std.proofs.Common.{[], ap, subst}
use Rattle.std.specs.Option.{option_copied, unwrap_or}
use Rattle.net_model.specs.LookupTables.{IsExact}
use Rattle.net_model.proofs.EntryLemmas.{contains_none}
use Rattle.net_model.proofs.AnswerLemmas.{longest_hit, longest_none}
use Rattle.net_model.proofs.node_table.hit_in.Goals as goal

pub returns-in-None : goal.returns-in-None
returns-in-None c = λ entries exact.
    let here : IsExact entries [] = subst (λ o. IsExact entries (unwrap_or o [])) (ap option_copied c.in-None.is) exact in
    longest_none entries [] c.args.a.value here (λ e there. absurd (contains_none e there))

pub returns-in-None-best : goal.returns-in-None-best
returns-in-None-best c = λ entries exact.
    let t = c.in-Some.table.now in
    let here : IsExact entries t = subst (λ o. IsExact entries (unwrap_or o [])) (ap option_copied c.in-Some.is) exact in
    longest_none entries t c.args.a.value here c.in-None-best.ensures.best

pub returns-in-Some-best : goal.returns-in-Some-best
returns-in-Some-best c = λ entries exact.
    let t = c.in-Some.table.now in
    let here : IsExact entries t = subst (λ o. IsExact entries (unwrap_or o [])) (ap option_copied c.in-Some.is) exact in
    longest_hit entries t c.args.a.value (c.in-Some-best.field-0-0.now, c.in-Some-best.hit.now) c.in-Some-best.ensures.table here
    c.in-Some-best.ensures.best
