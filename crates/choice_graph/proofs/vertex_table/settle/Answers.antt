use Rattle.std.proofs.Common.{◌∙◌}
use Rattle.choice_graph.proofs.GraphTables.{settled_found}
use Rattle.choice_graph.proofs.vertex_table.settle.Goals as goal

pub returns : goal.returns
returns c =
    settled_found c.args.vertices.now c.rounds.table (c.rounds.auto.table ∙ c.requires.one_each) c.rounds.invariant.sound
    (c.rounds.invariant.settled c.rounds-test.false)
