use Rattle.std.proofs.Common.{subst, sym}
use Rattle.net_model.specs.Network.{Network}
use Rattle.walk_rules.specs.WayTerms.{IsNumbered}
use Rattle.walk_rules.proofs.LookupHits.{lookup_numbered}
use Rattle.walk_rules.proofs.way.way_in_table.Goals as goal

pub way_by_hit-requires : goal.way_by_hit-requires
way_by_hit-requires c =
    let numbered = lookup_numbered c.args.table.now.net c.args.table.now.node c.args.table.now.table c.args.table.now.family
    c.args.destination.value
    c.lookup.result c.lookup.ensures in
    subst (λ (net : Network). IsNumbered net c.lookup.result) (sym c.net.ensures) numbered
