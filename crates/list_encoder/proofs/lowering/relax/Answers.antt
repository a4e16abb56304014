use Rattle.std.proofs.Common.{◌||◌, Bool, false, refl, sym, ◌∙◌, ap, subst}
use Rattle.list_encoder.specs.CellTable.{Relaxed}
use Rattle.list_encoder.proofs.RelaxedRooms.{room_rooms, rooms_join, ways_join, leaves}
use Rattle.list_encoder.proofs.lowering.relax.Goals as goal

pub returns : goal.returns
returns g c =
    let v = g.L.Legs.seen c.args.legs.now in
    let first = room_rooms v c.args.cells.now c.args.edge false 0 c.room_behind-packed.result c.args.table.now c.relax_room-first.new.table
    c.relax_room-first.result c.relax_room-first.ensures
    (leaves v c.args.cells.now c.args.edge false 0 c.args.from.now c.shape-next.result c.room_behind-packed.result c.requires.from
    c.shape-next.ensures (λ cell here. refl) c.room_behind-packed.ensures) in
    let opens = rooms_join v c.args.cells.now c.args.edge false 0 1 8 c.args.table.now c.relax_room-first.new.table
    c.relax_opens-above.new.table c.relax_room-first.result c.relax_opens-above.result first c.relax_opens-above.ensures in
    subst (λ (b : Bool). Relaxed v c.args.cells.now c.args.edge c.args.table.now c.relax_stays-stays.new.table b)
    (sym (c.either.ensures ∙ ap (λ (b : Bool). b || c.relax_stays-stays.result) c.either-opens.ensures))
    (ways_join v c.args.cells.now c.args.edge c.args.table.now c.relax_opens-above.new.table c.relax_stays-stays.new.table
    (c.relax_room-first.result || c.relax_opens-above.result) c.relax_stays-stays.result opens c.relax_stays-stays.ensures)
