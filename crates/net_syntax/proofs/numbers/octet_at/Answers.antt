use Rattle.std.proofs.Common.{◌∙◌, ap, arith}
use Rattle.std.specs.Prelude.{Ok, Err}
use Rattle.std.proofs.lemmas.Result.{err_from_is_err_and}
use Rattle.toml.specs.View.{view, table_view}
use Rattle.net_model.specs.declared.limits.TheConstants.{LAST_OCTET}
use Rattle.toml_reader.specs.Tree.{number_in}
use Rattle.net_syntax.proofs.KeyLemmas.{optional_there, optional_absent}
use Rattle.net_syntax.proofs.numbers.octet_at.Goals as goal

pub overflow_cast-result : goal.overflow_cast-result
overflow_cast-result c = omega (arith, c.in_ok-number-in-Some.ensures.within)

pub returns-in_err-number-in-Some : goal.returns-in_err-number-in-Some
returns-in_err-number-in-Some c =
    let p = err_from_is_err_and c.from_residual.result c.from_residual.ensures.1 in
    p.1 ∙ ap Err p.2
    ∙ optional_there (number_in c.args.least LAST_OCTET) c.args.default c.args.place (table_view c.args.table.now) c.args.key
    (view c.in-Some.value.now) _ c.in-Some.ensures c.in_err-number-in-Some.ensures.exact

pub returns-in_ok-number-in-Some : goal.returns-in_ok-number-in-Some
returns-in_ok-number-in-Some c =
    optional_there (number_in c.args.least LAST_OCTET) c.args.default c.args.place (table_view c.args.table.now) c.args.key
    (view c.in-Some.value.now) (Ok c.in_ok-number-in-Some.number) c.in-Some.ensures c.in_ok-number-in-Some.ensures.exact

pub returns-in-None : goal.returns-in-None
returns-in-None c =
    optional_absent (number_in c.args.least LAST_OCTET) c.args.default c.args.place (table_view c.args.table.now) c.args.key
    c.in-None.ensures
