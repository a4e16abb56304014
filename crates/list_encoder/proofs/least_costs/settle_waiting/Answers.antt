use Rattle.std.proofs.Common.{◌/◌, length, refl}
use Rattle.std.proofs.lemmas.Option.{slice_get_read, MatchOption-at_none}
use Rattle.list_encoder.proofs.Queueing.{settles_start, first_within, lead_by, settles_by_offers, fewer_by_offers, settles_all}
use Rattle.list_encoder.proofs.least_costs.settle_waiting.Goals as goal

pub loop-next-init : goal.loop-next-init
loop-next-init g c =
    settles_start (g.L.Legs.seen c.args.legs.now) c.args.cells.now c.args.into.now c.args.table.now c.args.queue.now.waiting
    c.args.queue.now.done.items c.requires.sound c.requires.front c.requires.unsettled c.requires.long

pub settle_first-requires : goal.settle_first-requires
settle_first-requires g c = λ k waits. (c.loop-next.invariant.front.only k waits).early

pub bounds-into-next : goal.bounds-into-next
bounds-into-next g c = first_within (g.L.Legs.seen c.args.legs.now) c.args.cells.now c.args.into.now c.args.table.now c.loop-next.table
    c.loop-next.queue.waiting
    c.settle_first.new.queue.waiting c.loop-next.queue.done.items c.in-Some.next c.loop-next.invariant c.in-Some.ensures.first
    c.in-Some.ensures.least c.in-Some.ensures.update

pub offer_all-requires-clause-lead : goal.offer_all-requires-clause-lead
offer_all-requires-clause-lead g c =
    lead_by (g.L.Legs.seen c.args.legs.now) c.args.cells.now c.args.into.now c.args.table.now c.loop-next.table c.loop-next.queue.waiting
    c.settle_first.new.queue.waiting c.loop-next.queue.done.items c.in-Some.next c.loop-next.invariant c.in-Some.ensures.first
    c.in-Some.ensures.least c.in-Some.ensures.update
    c.settle_first.new.queue.done.items c.in-Some.ensures.marks c.index-into-next.result
    (slice_get_read c.args.into.now (length c.args.into.now) (c.in-Some.next.place / 8) c.index-into-next.result refl
    (first_within (g.L.Legs.seen c.args.legs.now) c.args.cells.now c.args.into.now c.args.table.now c.loop-next.table
    c.loop-next.queue.waiting
    c.settle_first.new.queue.waiting c.loop-next.queue.done.items c.in-Some.next c.loop-next.invariant c.in-Some.ensures.first
    c.in-Some.ensures.least c.in-Some.ensures.update) c.index-into-next.is)
    c.as_slice-edges.result.now c.as_slice-edges.ensures.value c.cost_of.result c.cost_of.ensures
    c.requires.edges

pub loop-next-smaller : goal.loop-next-smaller
loop-next-smaller g c =
    fewer_by_offers (g.L.Legs.seen c.args.legs.now) c.args.cells.now c.args.into.now c.args.table.now c.loop-next.table
    c.loop-next.queue.waiting
    c.settle_first.new.queue.waiting c.loop-next.queue.done.items c.in-Some.next c.loop-next.invariant c.in-Some.ensures.first
    c.in-Some.ensures.least c.in-Some.ensures.update
    c.settle_first.new.queue.done.items c.in-Some.ensures.marks c.index-into-next.result
    (slice_get_read c.args.into.now (length c.args.into.now) (c.in-Some.next.place / 8) c.index-into-next.result refl
    (first_within (g.L.Legs.seen c.args.legs.now) c.args.cells.now c.args.into.now c.args.table.now c.loop-next.table
    c.loop-next.queue.waiting
    c.settle_first.new.queue.waiting c.loop-next.queue.done.items c.in-Some.next c.loop-next.invariant c.in-Some.ensures.first
    c.in-Some.ensures.least c.in-Some.ensures.update) c.index-into-next.is)
    c.as_slice-edges.result.now c.as_slice-edges.ensures.value c.cost_of.result c.cost_of.ensures
    c.offer_all.new.table c.offer_all.new.queue.waiting c.offer_all.new.queue.done.items c.in_ok-offer_all.ensures

pub loop-next-preserved : goal.loop-next-preserved
loop-next-preserved g c =
    settles_by_offers (g.L.Legs.seen c.args.legs.now) c.args.cells.now c.args.into.now c.args.table.now c.loop-next.table
    c.loop-next.queue.waiting
    c.settle_first.new.queue.waiting c.loop-next.queue.done.items c.in-Some.next c.loop-next.invariant c.in-Some.ensures.first
    c.in-Some.ensures.least c.in-Some.ensures.update
    c.settle_first.new.queue.done.items c.in-Some.ensures.marks c.index-into-next.result
    (slice_get_read c.args.into.now (length c.args.into.now) (c.in-Some.next.place / 8) c.index-into-next.result refl
    (first_within (g.L.Legs.seen c.args.legs.now) c.args.cells.now c.args.into.now c.args.table.now c.loop-next.table
    c.loop-next.queue.waiting
    c.settle_first.new.queue.waiting c.loop-next.queue.done.items c.in-Some.next c.loop-next.invariant c.in-Some.ensures.first
    c.in-Some.ensures.least c.in-Some.ensures.update) c.index-into-next.is)
    c.as_slice-edges.result.now c.as_slice-edges.ensures.value c.cost_of.result c.cost_of.ensures
    c.offer_all.new.table c.offer_all.new.queue.waiting c.offer_all.new.queue.done.items c.in_ok-offer_all.ensures

pub returns : goal.returns
returns g c =
    settles_all (g.L.Legs.seen c.args.legs.now) c.steps.ensures.laws c.args.cells.now c.args.into.now c.args.table.now c.loop-next.table
    c.loop-next.queue.waiting c.loop-next.queue.done.items c.loop-next.invariant
    (MatchOption-at_none _ _ c.in_default.is c.settle_first.ensures) c.requires.edges
