use Rattle.std.proofs.Common.{◌∙◌}
use Rattle.choice_graph.proofs.GraphTables.{found_low, start_found}
use Rattle.choice_graph.proofs.vertex_table.find_first_move.Goals as goal

pub find_by-requires : goal.find_by-requires
find_by-requires c = found_low c.args.vertices.now c.args.table.now c.requires.few c.requires.found

pub returns : goal.returns
returns c = c.find_by.ensures ∙ start_found c.args.vertices.now c.args.table.now c.args.start.now c.requires.found
