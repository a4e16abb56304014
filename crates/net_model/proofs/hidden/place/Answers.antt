use Rattle.std.proofs.Common.{◌≡◌, [], Some, sym, ap, ◌∙◌, subst}
use Rattle.std.specs.Prelude.{is_some}
use Rattle.std.specs.BTreeMap as map
use Rattle.std.specs.Ordering.{is_eq}
use Rattle.std.proofs.lemmas.Result.{on_ok_weaker, on_err_weaker}
use Rattle.std.proofs.lemmas.Map.Steps.{set_value_same}
use Rattle.net_model.specs.declared.lookup_tables.TableKey.{TableKey}
use Rattle.net_model.specs.LookupTables.{table_key_cmp, table_at}
use Rattle.net_model.proofs.SettleLemmas.{settles_by, table_there, no_table}
use Rattle.net_model.proofs.hidden.place.Goals as goal

pub returns-in-Some-clause-ok : goal.returns-in-Some-clause-ok
returns-in-Some-clause-ok c =
    let e = c.args.e.now in
    let old = c.args.tables.now in
    let w = c.place_in.new.table in
    let new = c.get_mut.follows.lender w in
    let is_t = table_there e old c.table_key.result c.in-Some.table.now c.table_key.ensures c.in-Some.ensures.value in
    on_ok_weaker c.place_in.result (λ settles.
    settles_by e old new c.in-Some.table.now w (Some c.args.hit) is_t
    (subst (λ (k : TableKey). map.UpdatesBy table_key_cmp (table_key_cmp k) old new (Some w)) c.table_key.ensures
    ((c.get_mut.follows.holds w).3 (ap is_some (sym c.in-Some.ensures.value))))
    settles) c.place_in.ensures.ok

pub returns-in-Some-clause-err : goal.returns-in-Some-clause-err
returns-in-Some-clause-err c =
    let old = c.args.tables.now in
    let w = c.place_in.new.table in
    on_err_weaker c.place_in.result (λ same.
    (c.get_mut.follows.holds w).0
    ∙ set_value_same (λ k. is_eq (table_key_cmp c.table_key.result k)) old.entries w (sym (ap Some same ∙ c.in-Some.ensures.value)))
    c.place_in.ensures.err

pub place_new-requires : goal.place_new-requires
place_new-requires c =
    let e = c.args.e.now in
    subst (λ tables. table_at tables e.node e.table e.family ≡ []) (sym c.get_mut.follows.holds-at-none)
    (no_table e c.args.tables.now c.table_key.result c.table_key.ensures c.in-None.ensures.value)
