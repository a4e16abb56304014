use Rattle.std.proofs.Common.{◌≡◌, [], Option, sym, ap, ◌∙◌, subst}
use Rattle.std.specs.Option.{option_copied, unwrap_or}
use Rattle.std.specs.BTreeMap as map
use Rattle.net_model.specs.Network.{Network}
use Rattle.net_model.specs.Best.{entries_of}
use Rattle.net_model.specs.LookupTables.{HitTable, table_key_cmp, table_key, table_at, IsExact}
use Rattle.net_model.proofs.net.Net.entries.Goals as goal

pub returns : goal.returns
returns c =
    let node = c.args.node in
    let table = c.args.table in
    let family = c.args.family in
    let tables = c.self.inside.tables in
    let found : option_copied c.get.result ≡ map.get table_key_cmp tables (table_key node table family) =
    c.get.ensures.value ∙ ap (map.get table_key_cmp tables) c.table_key.ensures in
    subst (λ (t : HitTable). IsExact (entries_of c.args.self.now node table family) t)
    (sym (ap (λ (o : Option HitTable). unwrap_or o []) found))
    (subst (λ (net : Network). IsExact (entries_of net node table family) (table_at tables node table family)) c.self.view_is
    (c.self.invariant.tables node table family))
