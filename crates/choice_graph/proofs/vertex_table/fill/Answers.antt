use Rattle.std.proofs.Common.{◌≡◌, ◌<◌, length, true, None, sym, ◌∙◌, ap, arith}
use Rattle.choice_graph.specs.FoundInGraphs.{found_by}
use Rattle.choice_graph.specs.VertexTables.{known_at}
use Rattle.choice_graph.proofs.GraphTables.{sound_low, adds_one, vertex_read, none_is}
use Rattle.choice_graph.proofs.vertex_table.fill.Goals as goal

pub find_by-requires : goal.find_by-requires
find_by-requires c = sound_low c.args.vertices.now c.args.table.now c.requires.few c.requires.sound

pub returns-in-None-clause-settled : goal.returns-in-None-clause-settled
returns-in-None-clause-settled c =
    let inside : c.args.v < length c.args.vertices.now = omega arith in
    λ e none. ap (found_by true (known_at c.args.table.now))
    (vertex_read c.args.vertices.now c.args.v c.index-vertices-v.result inside c.index-vertices-v.is) ∙ sym c.in-None.ensures

pub returns-in-Some-clause-adds : goal.returns-in-Some-clause-adds
returns-in-Some-clause-adds c =
    let inside : c.args.v < length c.args.vertices.now = omega arith in
    let within : c.args.v < length c.args.table.now = omega arith in
    let none : known_at c.args.table.now c.args.v ≡ None
    = sym c.entry.ensures ∙ none_is c.entry.result (sym c.is_some.ensures ∙ c.if-is_some.false) in
    adds_one c.args.vertices.now c.args.table.now c.args.v c.in-Some.found c.requires.sound within none
    (ap (found_by true (known_at c.args.table.now))
    (vertex_read c.args.vertices.now c.args.v c.index-vertices-v.result inside c.index-vertices-v.is) ∙ sym c.in-Some.ensures)
