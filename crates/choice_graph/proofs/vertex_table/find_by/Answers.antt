use Rattle.std.proofs.Common.{sym, arith}
use Rattle.choice_graph.proofs.GraphTables.{over_low}
use Rattle.choice_graph.proofs.vertex_table.find_by.Goals as goal

pub overflow_add-result : goal.overflow_add-result
overflow_add-result c =
    let low = over_low c.args.table.now c.as_slice.result.now c.in_ok-found-in-Over.found c.requires (sym c.in_ok-found-in-Over.ensures) in
    omega (arith, low, c.one_if.ensures.few)
