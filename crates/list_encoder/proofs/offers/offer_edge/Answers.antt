use Rattle.std.proofs.Common.{refl}
use Rattle.std.proofs.lemmas.Option.{slice_get_within}
use Rattle.list_encoder.proofs.Settling.{shape_read}
use Rattle.list_encoder.proofs.Offering.{edge_both}
use Rattle.list_encoder.proofs.offers.offer_edge.Goals as goal

pub offer_way-requires-clause-from : goal.offer_way-requires-clause-from
offer_way-requires-clause-from g c =
    let is = c.requires.offer.is_edge in
    shape_read (g.L.Legs.seen c.args.legs.now) c.args.cells.now c.args.offer.edge.from c.shape_of-from.result
    (slice_get_within c.args.cells.now c.args.offer.edge.from is.cell is.from) c.shape_of-from.ensures

pub offer_way-requires-2-clause-from : goal.offer_way-requires-2-clause-from
offer_way-requires-2-clause-from g c =
    let is = c.requires.offer.is_edge in
    shape_read (g.L.Legs.seen c.args.legs.now) c.args.cells.now c.args.offer.edge.from c.shape_of-from.result
    (slice_get_within c.args.cells.now c.args.offer.edge.from is.cell is.from) c.shape_of-from.ensures

pub returns : goal.returns
returns g c =
    edge_both (g.L.Legs.seen c.args.legs.now) c.args.cells.now c.args.offer _ _ c.args.table.now c.offer_way.new.table
    c.offer_way-2.new.table
    c.args.queue.now.done.items c.offer_way.new.queue.done.items c.offer_way-2.new.queue.done.items c.offer_way.new.queue.waiting
    c.offer_way-2.new.queue.waiting refl refl c.in_ok-offer_way.ensures c.in_ok-offer_way-2.ensures
