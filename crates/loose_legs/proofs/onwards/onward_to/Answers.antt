use Rattle.std.proofs.Common.{ℕ, sym, subst}
use Rattle.choice_graph.specs.VertexTables.{AreFound}
use Rattle.loose_walks.specs.WayGraphs.{graph_in}
use Rattle.loose_legs.proofs.OnwardRows.{found_low, onward_is, sid_address_law}
use Rattle.loose_legs.proofs.onwards.onward_to.Goals as goal

pub find_from-found-requires-clause-found : goal.find_from-found-requires-clause-found
find_from-found-requires-clause-found c =
    subst (λ (d : ℕ). AreFound (graph_in c.args.net.now d c.args.steps.now) c.args.table.now)
    (sym (sid_address_law c.args.net.now c.args.next c.value-destination.result.value c.sid.result.now c.sid.ensures
    c.value-destination.ensures.value))
    c.requires.found

pub leg_to-requires-clause-low : goal.leg_to-requires-clause-low
leg_to-requires-clause-low c =
    found_low c.args.net.now c.args.steps.now c.keeps_rules.ensures.facts c.value-destination.result.value c.args.left c.args.place.now
    c.find_from-found.result c.find_from-found.ensures

pub returns : goal.returns
returns c =
    onward_is c.args.net.now c.args.intent.now c.args.steps.now c.args.left c.args.next c.value-destination.result.value c.args.place.now
    c.find_from-found.result c.leg_to.result c.finish_to.result
    (sid_address_law c.args.net.now c.args.next c.value-destination.result.value c.sid.result.now c.sid.ensures
    c.value-destination.ensures.value)
    c.find_from-found.ensures c.leg_to.ensures c.finish_to.ensures
