use Rattle.std.proofs.Common.{Some, sym, ap, subst}
use Rattle.std.specs.Prelude.{is_some}
use Rattle.std.specs.BTreeMap as map
use Rattle.prefix_table.specs.PrefixTable.{HasPrefix}
use Rattle.net_model.specs.declared.lookup_tables.TableKey.{TableKey}
use Rattle.net_model.specs.LookupTables.{HitTable, table_key_cmp}
use Rattle.net_model.proofs.SettleLemmas.{settles_by, table_there, no_table, has_none}
use Rattle.net_model.proofs.hidden.settle.Goals as goal

pub settle_in-requires : goal.settle_in-requires
settle_in-requires c =
    let e = c.args.e.now in
    let is_t = table_there e c.args.tables.now c.table_key.result c.in-Some.table.now c.table_key.ensures c.in-Some.ensures.value in
    subst (λ (t : HitTable). HasPrefix t e.prefix) (sym is_t) c.requires

pub returns-in-Some : goal.returns-in-Some
returns-in-Some c =
    let e = c.args.e.now in
    let old = c.args.tables.now in
    let w = c.settle_in.new.table in
    let new = c.get_mut.follows.lender w in
    let is_t = table_there e old c.table_key.result c.in-Some.table.now c.table_key.ensures c.in-Some.ensures.value in
    settles_by e old new c.in-Some.table.now w c.args.hit is_t
    (subst (λ (k : TableKey). map.UpdatesBy table_key_cmp (table_key_cmp k) old new (Some w)) c.table_key.ensures
    ((c.get_mut.follows.holds w).3 (ap is_some (sym c.in-Some.ensures.value))))
    c.settle_in.ensures

pub returns-in-None : goal.returns-in-None
returns-in-None c =
    let e = c.args.e.now in
    let none = no_table e c.args.tables.now c.table_key.result c.table_key.ensures c.in-None.ensures.value in
    absurd (has_none e.prefix (subst (λ (t : HitTable). HasPrefix t e.prefix) none c.requires))
