use Rattle.list_encoder.proofs.Settling.{edge_read, edge_among}
use Rattle.list_encoder.proofs.Offering.{all_offer, all_more}
use Rattle.list_encoder.proofs.offers.offer_all.Goals as goal

pub offer_edge-requires-clause-offer : goal.offer_edge-requires-clause-offer
offer_edge-requires-clause-offer g c =
    let v = g.L.Legs.seen c.args.legs.now in
    let t = c.loop-edge.table in
    let queue = c.loop-edge.queue in
    all_offer v c.args.cells.now c.args.edges.now c.args.left c.args.rest c.args.table.now t t c.args.queue.now.done.items queue.done.items
    queue.done.items c.args.queue.now.waiting queue.waiting queue.waiting _
    (edge_among c.args.edges.now c.loop-edge.edge-index c.loop-edge-test.true) c.requires.lead c.loop-edge.invariant.advances

pub loop-edge-preserved : goal.loop-edge-preserved
loop-edge-preserved g c =
    let v = g.L.Legs.seen c.args.legs.now in
    let queue = c.loop-edge.queue in
    let new = c.offer_edge.new.queue in
    all_more v c.args.cells.now c.args.edges.now c.args.left c.args.rest c.args.table.now c.loop-edge.table c.offer_edge.new.table
    c.args.queue.now.done.items queue.done.items new.done.items c.args.queue.now.waiting queue.waiting new.waiting c.loop-edge.edge-index _
    (edge_read c.args.edges.now c.loop-edge.edge-index c.loop-edge-test.true) c.loop-edge.invariant c.in_ok-offer_edge.ensures
