use Rattle.std.proofs.Common.{Some, sym, ◌∙◌}
use Rattle.list_encoder.proofs.Picking.{room_at, pick_range}
use Rattle.list_encoder.proofs.picks.pick_move.Goals as goal

pub rest_at-requires : goal.rest_at-requires
rest_at-requires g c =
    pick_range (g.L.Legs.seen c.args.legs.now) c.steps.ensures.laws c.args.cells.now c.args.table.now c.args.costed_state c.args.edge c.args.stays
    c.in_ok-room.room
    c.requires.edge c.requires.long c.requires.costed_state.few
    (room_at (g.L.Legs.seen c.args.legs.now) c.args.stays c.args.from.now c.shape-next.result c.args.costed_state.cell.via c.args.edge.sid
    c.args.costed_state.room
    c.room_behind.result (Some c.in_ok-room.room) c.requires.from c.shape-next.ensures (sym c.is_barred.ensures ∙ c.if-is_barred.false)
    c.room_behind.ensures c.in_ok-room.was)
