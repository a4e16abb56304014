use Rattle.std.proofs.Common.{sym, ap, ◌∙◌}
use Rattle.prefix_table.specs.PrefixTable.{value_at}
use Rattle.net_model.specs.LookupTables.{HitTable}
use Rattle.net_model.proofs.SettleLemmas.{table_there, no_table}
use Rattle.net_model.proofs.hidden.hit_on.Goals as goal

pub returns-in-None : goal.returns-in-None
returns-in-None c =
    let e = c.args.e.now in
    ap (λ (t : HitTable). value_at t e.prefix)
    (sym (no_table e c.args.tables.now c.table_key.result c.table_key.ensures c.in-None.ensures.value))

pub returns-in-Some : goal.returns-in-Some
returns-in-Some c =
    let e = c.args.e.now in
    c.get-in-Some.ensures
    ∙ ap (λ (t : HitTable). value_at t e.prefix)
    (table_there e c.args.tables.now c.table_key.result c.in-Some.table.now c.table_key.ensures c.in-Some.ensures.value)
