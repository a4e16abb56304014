use Rattle.std.proofs.Common.{◌+◌, ◌≤◌, Bool, false, refl, sym, ◌∙◌, subst, arith}
use Rattle.list_encoder.specs.CellTable.{RoomsRelaxed}
use Rattle.list_encoder.proofs.RelaxedRooms.{rooms_more, leaves}
use Rattle.list_encoder.proofs.Relaxing.{opened_same}
use Rattle.list_encoder.proofs.lowering.relax_opens.Goals as goal

pub loop-room-preserved : goal.loop-room-preserved
loop-room-preserved g c =
    let v = g.L.Legs.seen c.args.legs.now in
    let some : 1 ≤ c.loop-room.room = omega arith in
    subst (λ (b : Bool). RoomsRelaxed v c.args.cells.now c.args.edge false 1 (c.loop-room.room + 1) c.args.table.now
    c.relax_room-lowered.new.table b) (sym c.either-changed.ensures)
    (rooms_more v c.args.cells.now c.args.edge false 1 c.loop-room.room c.room_behind-full.result c.args.table.now c.loop-room.table
    c.relax_room-lowered.new.table c.loop-room.changed c.relax_room-lowered.result c.loop-room.invariant c.relax_room-lowered.ensures
    (leaves v c.args.cells.now c.args.edge false c.loop-room.room c.args.from.now c.args.next.now c.room_behind-full.result c.requires.from
    c.requires.next (λ cell here. refl) (c.room_behind-full.ensures ∙ opened_same c.args.from.now c.loop-room.room c.args.next.now some)))
