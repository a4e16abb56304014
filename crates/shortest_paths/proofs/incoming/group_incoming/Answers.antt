use Rattle.std.proofs.Common.{◌≡◌, length, sym, ◌∙◌, subst}
use Rattle.shortest_paths.specs.Incoming.{Groups, PutsLinks, AreIncoming}
use Rattle.shortest_paths.proofs.Lists.{take_front}
use Rattle.shortest_paths.proofs.LinksByEnd.{are_incoming}
use Rattle.shortest_paths.proofs.incoming.group_incoming.Goals as goal

pub returns : goal.returns
returns c =
    let groups = c.in_ok-groups.groups in
    let new = c.put_links.new.groups in
    let same : c.as_mut_slice.result.now ≡ groups.items = c.as_mut_slice.ensures.value in
    let puts : PutsLinks groups.items c.args.links.now new =
    subst (λ (gs : Groups). PutsLinks gs c.args.links.now new) same c.in_ok-put_links.ensures in
    let own : groups.len ≡ length groups.items = cc in
    let long : groups.len ≡ length new = own ∙ sym puts.long in
    subst (λ (gs : Groups). AreIncoming c.args.links.now c.args.count gs) (sym (take_front new _ groups.len long))
    (are_incoming groups.items new c.args.links.now c.args.count c.in_ok-groups.ensures puts)
