use Rattle.std.proofs.Common.{refl}
use Rattle.walk_rules.specs.WayTerms.{way_in}
use Rattle.leg_table.specs.TransitTables.{stand}
use Rattle.leg_table.proofs.TransitTableLemmas.{how_looked, table_way, way_item, ways_more}
use Rattle.leg_table.proofs.transit_table.ways_of.Goals as goal

pub loop-n-preserved : goal.loop-n-preserved
loop-n-preserved c =
    let net = c.args.net.now in
    let place = stand c.args.node c.args.lower in
    let way = table_way net c.args.node c.args.lower c.value-destination.result.value c.args.table.now (way_in c.way_in_table-way.result)
    c.requires.is_table c.way_in_table-way.ensures in
    let item = way_item net c.keeps_rules.ensures.facts c.args.steps.now place c.loop-n.n c.args.later.now c.sid.result.now
    c.value-destination.result.value (way_in c.way_in_table-way.result) c.way_at.result c.way_by-behind.result
    (how_looked net c.args.node c.args.lower) refl c.requires.stands c.requires.later c.sid.ensures c.value-destination.ensures.value way
    c.way_at.ensures c.way_by-behind.ensures in
    ways_more net c.args.steps.now place c.loop-n.n c.loop-n.ways.items c.push.new.self.items c.way_by-behind.result c.loop-n.invariant item
    c.in_ok-push.ensures.items
