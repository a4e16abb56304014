use Rattle.std.proofs.Common.{◌+◌, ◌*◌}
use Rattle.list_encoder.proofs.SearchWalking.{Walked}
use Rattle.list_encoder.proofs.search_path.path_from.Given as goal

abbrev pub invariant-loop-pick : goal.invariant-loop-pick
invariant-loop-pick g l = Walked (g.L.Legs.seen l.legs) l.cells l.table l.fn.start l.steps.items l.costed_state

abbrev pub decreases-loop-pick : goal.decreases-loop-pick
decreases-loop-pick g l = 8 * l.costed_state.cost.containers + l.costed_state.room
