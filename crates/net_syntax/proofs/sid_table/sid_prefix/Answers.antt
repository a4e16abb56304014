use Rattle.std.proofs.Common.{◌≡◌, ◌≤◌, ◌∙◌, sym, arith}
use Rattle.std.proofs.lemmas.Result.{err_from_is_err_and}
use Rattle.toml.specs.View.{table_view}
use Rattle.net_syntax.proofs.KeyLemmas.{sid_prefix_refused, sid_prefix_empty, sid_prefix_given}
use Rattle.net_syntax.proofs.sid_table.sid_prefix.Goals as goal

pub returns-in_err-prefix : goal.returns-in_err-prefix
returns-in_err-prefix c =
    let p = err_from_is_err_and c.from_residual.result c.from_residual.ensures.1 in
    rw (p.1, p.2) (λ fault same. sid_prefix_refused c.args.place (table_view c.args.table.now) fault (c.in_err-prefix.ensures fault same))

pub returns-then-len-eq0 : goal.returns-then-len-eq0
returns-then-len-eq0 c = λ fault same.
    let is : c.fault.result ≡ fault = cc in
    let empty : c.in_ok-prefix.prefix.len ≡ 0 = omega arith in
    sid_prefix_empty c.args.place (table_view c.args.table.now) c.in_ok-prefix.prefix fault c.in_ok-prefix.ensures empty
    (sym c.fault.ensures ∙ is)

pub returns : goal.returns
returns c =
    let some : 1 ≤ c.in_ok-prefix.prefix.len = omega arith in
    sid_prefix_given c.args.place (table_view c.args.table.now) c.in_ok-prefix.prefix c.in_ok-prefix.ensures some
