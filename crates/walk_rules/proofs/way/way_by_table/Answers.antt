use Rattle.walk_rules.proofs.LookupHits.{lookup_numbered}
use Rattle.walk_rules.proofs.way.way_by_table.Goals as goal

pub way_by_hit-requires : goal.way_by_hit-requires
way_by_hit-requires c =
    lookup_numbered c.args.net.now c.args.node c.args.table c.args.family c.args.destination.value c.lookup.result c.lookup.ensures.value
