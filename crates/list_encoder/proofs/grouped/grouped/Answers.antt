use Rattle.std.proofs.Common.{◌≡◌, length, sym, ◌∙◌, subst}
use Rattle.list_encoder.specs.Grouped.{Groups, PutsEdges, AreGrouped}
use Rattle.list_encoder.proofs.Grouping.{take_front, are_grouped}
use Rattle.list_encoder.proofs.grouped.grouped.Goals as goal

pub returns : goal.returns
returns c =
    let groups = c.in_ok-groups.groups in
    let new = c.put_edges.new.groups in
    let same : c.as_mut_slice.result.now ≡ groups.items = c.as_mut_slice.ensures.value in
    let puts : PutsEdges groups.items c.args.edges.now new =
    subst (λ (gs : Groups). PutsEdges gs c.args.edges.now new) same c.in_ok-put_edges.ensures in
    let own : groups.len ≡ length groups.items = cc in
    let long : groups.len ≡ length new = own ∙ sym puts.long in
    subst (λ (gs : Groups). AreGrouped c.args.edges.now c.args.count gs) (sym (take_front new _ groups.len long))
    (are_grouped groups.items new c.args.edges.now c.args.count c.in_ok-groups.ensures puts)
