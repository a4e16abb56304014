use Rattle.std.proofs.Common.{Option, subst, sym}
use Rattle.list_encoder.specs.declared.picks.Pick.{Pick}
use Rattle.list_encoder.specs.Picks.{PicksEdge}
use Rattle.list_encoder.proofs.Picking.{both_moves}
use Rattle.list_encoder.proofs.picks.pick_edge.Goals as goal

pub returns : goal.returns
returns g c =
    subst (λ (o : Option Pick). PicksEdge (g.L.Legs.seen c.args.legs.now) c.args.cells.now c.args.table.now c.args.costed_state c.args.edge o)
    (sym c.better.ensures)
    (both_moves (g.L.Legs.seen c.args.legs.now) c.args.cells.now c.args.table.now c.args.costed_state c.args.edge c.pick_move-stays.result
    c.pick_move-opens.result c.pick_move-stays.ensures c.pick_move-opens.ensures)
