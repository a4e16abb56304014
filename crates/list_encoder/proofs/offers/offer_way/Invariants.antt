use Rattle.list_encoder.specs.Offers.{IsOffer, OffersWay}
use Rattle.list_encoder.proofs.offers.offer_way.Given as goal

abbrev pub invariant-loop-room : goal.invariant-loop-room
invariant-loop-room g l = record {
  is : IsOffer (g.L.Legs.seen l.legs) l.cells l.table l.queue.waiting l.queue.done.items l.offer;
  so : OffersWay (g.L.Legs.seen l.legs) l.cells l.offer l.room l.fn.table l.fn.queue.done.items l.table l.queue.waiting l.queue.done.items;
}
