use Rattle.list_encoder.specs.Offers.{OffersAll}
use Rattle.list_encoder.proofs.offers.offer_all.Given as goal

abbrev pub invariant-loop-edge : goal.invariant-loop-edge
invariant-loop-edge g l =
    OffersAll (g.L.Legs.seen l.legs) l.cells l.edges l.edge-index l.left l.rest l.fn.table l.fn.queue.done.items l.table l.queue.waiting
    l.queue.done.items
