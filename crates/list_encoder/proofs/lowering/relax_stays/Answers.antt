use Rattle.std.proofs.Common.{◌+◌, Bool, true, sym, ◌∙◌, subst}
use Rattle.list_encoder.specs.CellTable.{RoomsRelaxed}
use Rattle.list_encoder.proofs.StayRooms.{no_room}
use Rattle.list_encoder.proofs.RelaxedRooms.{rooms_more, leaves, edge_cell, edge_free, rooms_barred, rooms_shut}
use Rattle.list_encoder.proofs.lowering.relax_stays.Goals as goal

pub returns-then-is_none : goal.returns-then-is_none
returns-then-is_none g c =
    rooms_shut (g.L.Legs.seen c.args.legs.now) c.args.cells.now c.args.edge c.args.from.now c.args.next.now c.args.table.now c.requires.from
    c.requires.next c.requires.sound
    (sym c.room_behind.ensures ∙ no_room c.room_behind.result c.is_none.result c.is_none.ensures c.if-is_none.true)

pub is_barred-requires-clause-cell : goal.is_barred-requires-clause-cell
is_barred-requires-clause-cell g c =
    edge_cell (g.L.Legs.seen c.args.legs.now) c.args.cells.now c.args.edge c.requires.cells c.requires.edge

pub returns-then-is_barred : goal.returns-then-is_barred
returns-then-is_barred g c =
    rooms_barred (g.L.Legs.seen c.args.legs.now) c.args.cells.now c.args.edge true c.is_barred.result 0 8 c.args.table.now
    c.requires.edge c.is_barred.ensures c.if-is_barred.true c.requires.sound

pub loop-room-preserved : goal.loop-room-preserved
loop-room-preserved g c =
    let v = g.L.Legs.seen c.args.legs.now in
    subst (λ (b : Bool). RoomsRelaxed v c.args.cells.now c.args.edge true 0 (c.loop-room.room + 1) c.args.table.now
    c.relax_room-lowered.new.table b) (sym c.either-changed.ensures)
    (rooms_more v c.args.cells.now c.args.edge true 0 c.loop-room.room c.room_behind-left.result c.args.table.now c.loop-room.table
    c.relax_room-lowered.new.table c.loop-room.changed c.relax_room-lowered.result c.loop-room.invariant c.relax_room-lowered.ensures
    (leaves v c.args.cells.now c.args.edge true c.loop-room.room c.args.from.now c.args.next.now c.room_behind-left.result c.requires.from
    c.requires.next
    (edge_free v c.args.cells.now c.args.edge true c.is_barred.result c.requires.edge c.is_barred.ensures c.if-is_barred.false)
    c.room_behind-left.ensures))
