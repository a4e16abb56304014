use Rattle.std.proofs.Common.{◌≡◌, ◌++◌, ◌∷◌, [], Some, sym, ap, ◌∙◌, subst}
use Rattle.std.specs.BTreeMap as map
use Rattle.prefix_table.specs.PrefixTable.{HasPrefix}
use Rattle.net_model.specs.declared.lookup_tables.TableKey.{TableKey}
use Rattle.net_model.specs.LookupTables.{HitTable, SettlesIn, table_key_cmp}
use Rattle.net_model.proofs.SettleLemmas.{settles_by, settles_pushed, has_none}
use Rattle.net_model.proofs.hidden.place_new.Goals as goal

pub insert_new-requires : goal.insert_new-requires
insert_new-requires c = λ has.
    has_none c.args.e.now.prefix (subst (λ (t : HitTable). HasPrefix t c.args.e.now.prefix) c.new-table.ensures has)

pub returns-clause-ok : goal.returns-clause-ok
returns-clause-ok c =
    let e = c.args.e.now in
    let old = c.args.tables.now in
    let new = c.insert.new.self in
    let u = c.insert_new.new.self in
    let is_u : u ≡ [] ++ (e.prefix, c.args.hit) ∷ [] =
    c.in_ok-insert_new.ensures.ok ∙ ap (λ (t : HitTable). t ++ (e.prefix, c.args.hit) ∷ []) c.new-table.ensures in
    settles_by e old new [] u (Some c.args.hit) (sym c.requires)
    (subst (λ (k : TableKey). map.UpdatesBy table_key_cmp (table_key_cmp k) old new (Some u)) c.table_key.ensures
    c.in_ok-insert.ensures.updates)
    (subst (λ (t : HitTable). SettlesIn e.prefix (Some c.args.hit) [] t) (sym is_u)
    (settles_pushed [] e.prefix c.args.hit (has_none e.prefix)))
