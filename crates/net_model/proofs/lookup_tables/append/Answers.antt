use Rattle.std.proofs.Common.{◌≡◌, [], Some, None, ap, ◌∙◌, subst}
use Rattle.std.specs.Option.{unwrap_or}
use Rattle.std.specs.BTreeMap as map
use Rattle.prefix_table.specs.PrefixTable.{HasPrefix}
use Rattle.net_model.specs.declared.lookup_tables.TableKey.{TableKey}
use Rattle.net_model.specs.LookupTables.{HitTable, table_key_cmp, table_at}
use Rattle.net_model.proofs.FillLemmas.{one_more}
use Rattle.net_model.proofs.lookup_tables.append.Goals as goal

pub insert_new-requires : goal.insert_new-requires
insert_new-requires c = λ has.
    let e = c.args.e.now in
    let taken : c.take_table-table.result ≡ table_at c.args.tables.now e.node e.table e.family =
    c.take_table-table.ensures.table
    ∙ ap (λ (k : TableKey). unwrap_or (map.get table_key_cmp c.args.tables.now k) []) c.table_key-key.ensures in
    c.requires (subst (λ (t : HitTable). HasPrefix t e.prefix) taken has)

pub returns : goal.returns
returns c =
    let old = c.args.tables.now in
    let mid = c.take_table-table.new.tables in
    let new = c.insert.new.self in
    let table = c.insert_new.new.self in
    one_more c.args.e.now old mid new c.take_table-table.result table
    (c.take_table-table.ensures.table ∙ ap (λ (k : TableKey). unwrap_or (map.get table_key_cmp old k) []) c.table_key-key.ensures)
    (subst (λ (k : TableKey). map.UpdatesBy table_key_cmp (table_key_cmp k) old mid None) c.table_key-key.ensures
    c.take_table-table.ensures.others)
    c.in_ok-insert_new.ensures.ok
    (subst (λ (k : TableKey). map.UpdatesBy table_key_cmp (table_key_cmp k) mid new (Some table)) c.table_key-key.ensures
    c.in_ok-insert.ensures.updates)
