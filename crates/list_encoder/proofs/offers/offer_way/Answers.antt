use Rattle.list_encoder.proofs.RelaxedRooms.{leaves, edge_cell, edge_free}
use Rattle.list_encoder.proofs.Offering.{offer_later, way_barred, way_shut, way_more}
use Rattle.list_encoder.proofs.offers.offer_way.Goals as goal

pub returns-then-not-may_lead : goal.returns-then-not-may_lead
returns-then-not-may_lead g c =
    way_shut (g.L.Legs.seen c.args.legs.now) c.args.cells.now c.args.table.now c.args.queue.now.waiting c.args.queue.now.done.items
    c.args.offer c.args.from.now c.args.next.now c.may_lead.result c.requires.offer c.requires.from c.requires.next c.may_lead.ensures
    c.if-not-may_lead.true

pub is_barred-requires-clause-cell : goal.is_barred-requires-clause-cell
is_barred-requires-clause-cell g c =
    edge_cell (g.L.Legs.seen c.args.legs.now) c.args.cells.now c.args.offer.edge c.requires.cells c.requires.offer.is_edge

pub returns-then-is_barred : goal.returns-then-is_barred
returns-then-is_barred g c =
    way_barred (g.L.Legs.seen c.args.legs.now) c.args.cells.now c.args.table.now c.args.queue.now.waiting c.args.queue.now.done.items
    c.args.offer c.is_barred.result c.requires.offer c.is_barred.ensures c.if-is_barred.true

pub offer_room-requires-clause-left : goal.offer_room-requires-clause-left
offer_room-requires-clause-left g c =
    let v = g.L.Legs.seen c.args.legs.now in
    let offer = c.args.offer in
    let cells = c.args.cells.now in
    leaves v cells offer.edge offer.stays c.loop-room.room c.args.from.now c.args.next.now c.room_behind-left.result c.requires.from
    c.requires.next
    (edge_free v cells offer.edge offer.stays c.is_barred.result c.requires.offer.is_edge c.is_barred.ensures c.if-is_barred.false)
    c.room_behind-left.ensures

pub loop-room-preserved : goal.loop-room-preserved
loop-room-preserved g c =
    let v = g.L.Legs.seen c.args.legs.now in
    let cells = c.args.cells.now in
    let offer = c.args.offer in
    let old = c.loop-room.queue in
    let new = c.offer_room.new.queue in
    record {
      is = offer_later v cells c.loop-room.table c.offer_room.new.table old.waiting new.waiting old.done.items new.done.items offer
          c.loop-room.invariant.is c.in_ok-offer_room.ensures.advances;
      so = way_more v cells offer c.args.table.now c.loop-room.table c.offer_room.new.table c.args.queue.now.done.items old.done.items
          new.done.items old.waiting new.waiting c.loop-room.room c.room_behind-left.result
          (leaves v cells offer.edge offer.stays c.loop-room.room c.args.from.now c.args.next.now c.room_behind-left.result c.requires.from
          c.requires.next
          (edge_free v cells offer.edge offer.stays c.is_barred.result c.requires.offer.is_edge c.is_barred.ensures c.if-is_barred.false)
          c.room_behind-left.ensures)
          c.loop-room.invariant.so c.in_ok-offer_room.ensures;
    }
