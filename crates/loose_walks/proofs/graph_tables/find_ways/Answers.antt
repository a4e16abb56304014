use Rattle.std.proofs.Common.{◌+◌, ◌*◌, length, ◌∙◌}
use Rattle.loose_walks.proofs.Filling.{blank_long, blank_sound}
use Rattle.loose_walks.proofs.graph_tables.find_ways.Goals as goal

pub settle-requires-clause-one_each : goal.settle-requires-clause-one_each
settle-requires-clause-one_each c =
    blank_long c.args.net.now c.in_ok-ways.ways.destination.value c.args.steps.now c.as_mut_slice.result.now c.nodes.result c.nodes.ensures
    (c.as_mut_slice.ensures.value ∙ c.in_ok-table.ensures)

pub settle-requires-clause-sound : goal.settle-requires-clause-sound
settle-requires-clause-sound c =
    blank_sound c.args.net.now c.in_ok-ways.ways.destination.value c.args.steps.now c.as_mut_slice.result.now
    ((length c.args.steps.now + 1) * c.nodes.result) (c.as_mut_slice.ensures.value ∙ c.in_ok-table.ensures)
