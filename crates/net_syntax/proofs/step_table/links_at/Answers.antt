use Rattle.std.proofs.Common.{◌≡◌, ◌≤◌, ◌∙◌, length, sym, ap, arith}
use Rattle.std.proofs.lemmas.Bool.{eqb-true, eqb-false}
use Rattle.std.proofs.lemmas.Result.{err_from_is_err_and}
use Rattle.toml.specs.View.{table_view}
use Rattle.net_syntax.proofs.KeyLemmas.{links_refused, links_empty, links_given}
use Rattle.net_syntax.proofs.step_table.links_at.Goals as goal

pub returns-in_err-links : goal.returns-in_err-links
returns-in_err-links c =
    let p = err_from_is_err_and c.from_residual.result c.from_residual.ensures.1 in
    rw (p.1, p.2) (λ fault same. links_refused c.args.place (table_view c.args.table.now) fault (c.in_err-links.ensures fault same))

pub returns-then-is_empty : goal.returns-then-is_empty
returns-then-is_empty c = λ fault same.
    let is : c.fault.result ≡ fault = cc in
    let none : length c.as_slice.result.now ≡ 0 = eqb-true _ _ (sym c.is_empty.ensures ∙ c.if-is_empty.true) in
    links_empty c.args.place (table_view c.args.table.now) c.in_ok-links.links fault c.in_ok-links.ensures
    (ap length (sym c.as_slice.ensures) ∙ none) (sym c.fault.ensures ∙ is)

pub returns : goal.returns
returns c =
    let test = sym c.is_empty.ensures ∙ c.if-is_empty.false in
    let same = ap length c.as_slice.ensures in
    let some : 1 ≤ length c.in_ok-links.links = omega (arith, eqb-false _ _ test, same) in
    links_given c.args.place (table_view c.args.table.now) c.in_ok-links.links c.in_ok-links.ensures some
