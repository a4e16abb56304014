use Rattle.std.proofs.Common.{◌-◌, length, refl}
use Rattle.std.proofs.lemmas.List.{take_rest}
use Rattle.walk_rules.specs.WayTerms.{way_in}
use Rattle.loose_walks.proofs.VertexNumbers.{into_there}
use Rattle.loose_walks.proofs.WayStarting.{from_place, graph_low}
use Rattle.loose_walks.proofs.first_moves.find_from.Goals as goal

pub find_by-requires-clause-low : goal.find_by-requires-clause-low
find_by-requires-clause-low c =
    graph_low c.args.net.now c.keeps_rules.ensures.facts c.args.destination.value c.args.steps.now c.requires.few c.args.table.now
    c.requires.found

pub find_by-requires-clause-there : goal.find_by-requires-clause-there
find_by-requires-clause-there c =
    into_there c.args.net.now c.args.place.now c.args.destination.value (way_in c.way_of-way.result) c.way_of-way.ensures.value

pub returns : goal.returns
returns c =
    from_place c.args.net.now c.args.destination.value c.args.steps.now c.args.left c.args.place.now c.args.table.now
    (way_in c.way_of-way.result) _ _ c.find_by.result c.requires.found c.way_of-way.ensures.value
    (take_rest c.args.steps.now (length c.args.steps.now - c.args.left)) refl c.find_by.ensures
