use Rattle.net_plan.specs.CableLinks.{links_with}
use Rattle.net_reader.specs.NetworkReading.{judged_network}
use Rattle.net_plan.proofs.BaseMet.{base_stands, base_whole}
use Rattle.net_plan.proofs.base_net.base_of.Goals as goal

pub judged_net-requires : goal.judged_net-requires
judged_net-requires c =
    base_stands c.args.said c.args.plan.now c.as_slice.result.now c.into_vec.result.items c.in_ok-links.links c.in-Ok.links
    c.requires.described c.requires.plan c.as_slice.ensures c.into_vec.ensures
    (c.in_ok-links.ensures (links_with c.as_slice.result.now c.into_vec.result.items c.args.plan.now) c.links_with.ensures) c.in-Ok.ensures

pub returns-clause-whole : goal.returns-clause-whole
returns-clause-whole c =
    let said = record c.args.said { links = c.in-Ok.links } in
    base_whole said c.of_net.result (c.of_net.ensures (judged_network said) c.judged_net.ensures.judged)
