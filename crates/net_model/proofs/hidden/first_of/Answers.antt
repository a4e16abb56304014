use Rattle.std.proofs.Common.{◌≡◌, ◌<◌, ◌≤◌, Some, length, true, false, sym, ap, ◌∙◌, arith}
use Rattle.net_model.specs.declared.lookup_tables.TableEntry.{TableEntry}
use Rattle.net_model.specs.NetworkTerms.{hidden_hits}
use Rattle.net_model.specs.LookupTables.{stands_on}
use Rattle.net_model.proofs.SettleLemmas.{item_stands, item_passes, items_end}
use Rattle.net_model.proofs.hidden.first_of.Goals as goal

pub returns-then-stands_on : goal.returns-then-stands_on
returns-then-stands_on g c =
    let hidden = hidden_hits c.args.hidden.now in
    let at = c.args.at.now in
    let entry = g.X.Listed.entry in
    let items = c.args.items.now in
    let i = c.loop-i.i in
    let within : i < length items = omega arith in
    let stands : stands_on hidden at (entry i c.index-items-i.result) ≡ true =
    ap (stands_on hidden at) (sym c.entry-e.ensures) ∙ (sym c.stands_on.ensures ∙ c.if-stands_on.true) in
    ap (λ (e : TableEntry). Some e.hit) c.entry-e.ensures
    ∙ sym (c.loop-i.invariant ∙ item_stands hidden at entry items i c.index-items-i.result within c.index-items-i.is stands)

pub loop-i-preserved : goal.loop-i-preserved
loop-i-preserved g c =
    let hidden = hidden_hits c.args.hidden.now in
    let at = c.args.at.now in
    let entry = g.X.Listed.entry in
    let items = c.args.items.now in
    let i = c.loop-i.i in
    let within : i < length items = omega arith in
    let passes : stands_on hidden at (entry i c.index-items-i.result) ≡ false =
    ap (stands_on hidden at) (sym c.entry-e.ensures) ∙ (sym c.stands_on.ensures ∙ c.if-stands_on.false) in
    c.loop-i.invariant ∙ item_passes hidden at entry items i c.index-items-i.result within c.index-items-i.is passes

pub returns : goal.returns
returns g c =
    let hidden = hidden_hits c.args.hidden.now in
    let at = c.args.at.now in
    let entry = g.X.Listed.entry in
    let items = c.args.items.now in
    let end : length items ≤ c.loop-i.i = omega arith in
    sym (c.loop-i.invariant ∙ items_end hidden at entry items c.loop-i.i end)
