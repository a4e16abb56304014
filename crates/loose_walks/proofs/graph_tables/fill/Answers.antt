use Rattle.std.proofs.Common.{◌≡◌, ◌+◌, ◌*◌, ◌-◌, None, length, refl, sym, ◌∙◌}
use Rattle.std.proofs.lemmas.List.{take_rest}
use Rattle.walk_rules.specs.WayTerms.{way_in}
use Rattle.choice_graph.specs.VertexTables.{known_at}
use Rattle.choice_graph.proofs.GraphTables.{adds_one, none_is}
use Rattle.loose_walks.specs.WayGraphs.{arrived, graph_in}
use Rattle.loose_walks.proofs.VertexNumbers.{into_there}
use Rattle.loose_walks.proofs.Filling.{filled_is, low_table, some_settled, vertex_in, way_read}
use Rattle.loose_walks.proofs.graph_tables.fill.Goals as goal

pub returns-then-is_some-clause-settled : goal.returns-then-is_some-clause-settled
returns-then-is_some-clause-settled c = λ e.
    some_settled c.args.net.now c.args.ways.now.destination.value c.args.steps.now c.args.table.now c.args.left c.args.node c.nodes.result
    c.entry.result c.nodes.ensures c.entry.ensures (sym c.is_some.ensures ∙ c.if-is_some.true)

pub find_by-requires-clause-low : goal.find_by-requires-clause-low
find_by-requires-clause-low c =
    low_table c.args.net.now c.args.ways.now.destination.value c.args.steps.now c.keeps_rules.ensures.facts c.requires.few c.args.table.now
    c.requires.sound

pub find_by-requires-clause-there : goal.find_by-requires-clause-there
find_by-requires-clause-there c =
    into_there c.args.net.now (arrived c.args.node) c.args.ways.now.destination.value (way_in c.index-way.result.now)
    (way_read c.args.net.now c.args.ways.now.destination.value c.args.steps.now c.args.ways.now.by_node.items c.args.node
    c.index-way.result.now c.requires.ways c.requires.node c.index-way.ensures)

pub bounds-table-vertex : goal.bounds-table-vertex
bounds-table-vertex c =
    vertex_in c.args.net.now c.args.ways.now.destination.value c.args.steps.now c.args.table.now c.args.left c.args.node c.nodes.result
    c.nodes.ensures c.requires.one_each c.requires.within c.requires.node

pub returns-in-None-clause-settled : goal.returns-in-None-clause-settled
returns-in-None-clause-settled c = λ e none.
    filled_is c.args.net.now c.args.ways.now.destination.value c.args.steps.now c.args.table.now c.args.left c.args.node _ _ _
    (way_in c.index-way.result.now) None refl c.requires.within c.requires.node refl
    (take_rest c.args.steps.now (length c.args.steps.now - c.args.left))
    (way_read c.args.net.now c.args.ways.now.destination.value c.args.steps.now c.args.ways.now.by_node.items c.args.node
    c.index-way.result.now c.requires.ways c.requires.node c.index-way.ensures)
    c.in-None.ensures

pub returns-in-Some-clause-adds : goal.returns-in-Some-clause-adds
returns-in-Some-clause-adds c =
    let net = c.args.net.now in
    let d = c.args.ways.now.destination.value in
    let vertex = c.args.left * c.nodes.result + c.args.node in
    let none : known_at c.args.table.now vertex ≡ None
    = sym c.entry.ensures ∙ none_is c.entry.result (sym c.is_some.ensures ∙ c.if-is_some.false) in
    adds_one (graph_in net d c.args.steps.now) c.args.table.now vertex c.in-Some.found c.requires.sound
    (vertex_in net d c.args.steps.now c.args.table.now c.args.left c.args.node c.nodes.result c.nodes.ensures c.requires.one_each
    c.requires.within c.requires.node)
    none
    (filled_is net d c.args.steps.now c.args.table.now c.args.left c.args.node c.nodes.result _ _ (way_in c.index-way.result.now) _
    c.nodes.ensures c.requires.within c.requires.node refl
    (take_rest c.args.steps.now (length c.args.steps.now - c.args.left))
    (way_read net d c.args.steps.now c.args.ways.now.by_node.items c.args.node c.index-way.result.now c.requires.ways c.requires.node
    c.index-way.ensures)
    c.in-Some.ensures)
