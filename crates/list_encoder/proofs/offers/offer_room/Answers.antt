use Rattle.std.proofs.Common.{◌≡◌, ℕ, ◌+◌, ◌*◌, Some, sym, ◌∙◌, ap, subst, arith}
use Rattle.list_pack.specs.declared.types.Cost.{Cost}
use Rattle.list_pack.specs.Costs.{AtMost, plus, move_cost}
use Rattle.list_encoder.specs.Waiting.{IsLoweredAt}
use Rattle.list_encoder.proofs.SearchTables.{from_within, sum_few, room_relaxed}
use Rattle.list_encoder.proofs.Offering.{at_most_more, room_lowered}
use Rattle.list_encoder.proofs.offers.offer_room.Goals as goal

pub plus-cost-requires-clause-containers : goal.plus-cost-requires-clause-containers
plus-cost-requires-clause-containers g c =
    let few = sum_few (g.L.Legs.seen c.args.legs.now) c.requires.laws c.args.cells.now c.requires.cells c.args.table.now c.args.offer.edge
    c.args.offer.stays c.args.room c.args.left c.args.offer.left c.requires.offer.is_edge c.requires.offer.sound c.requires.room
    c.requires.left
    (c.in-Some.is ∙ ap Some c.if-after-offer.false) c.args.offer.rest c.requires.offer.rest_is in
    let same = ap (λ (x : Cost). x.containers) c.move_cost.ensures in
    omega (arith, few.containers, same)

pub plus-cost-requires-clause-sids : goal.plus-cost-requires-clause-sids
plus-cost-requires-clause-sids g c =
    let few = sum_few (g.L.Legs.seen c.args.legs.now) c.requires.laws c.args.cells.now c.requires.cells c.args.table.now c.args.offer.edge
    c.args.offer.stays c.args.room c.args.left c.args.offer.left c.requires.offer.is_edge c.requires.offer.sound c.requires.room
    c.requires.left
    (c.in-Some.is ∙ ap Some c.if-after-offer.false) c.args.offer.rest c.requires.offer.rest_is in
    let same = ap (λ (x : Cost). x.sids) c.move_cost.ensures in
    omega (arith, few.sids, same, c.sid_cost.ensures)

pub plus-cost-requires-clause-hops : goal.plus-cost-requires-clause-hops
plus-cost-requires-clause-hops g c =
    let few = sum_few (g.L.Legs.seen c.args.legs.now) c.requires.laws c.args.cells.now c.requires.cells c.args.table.now c.args.offer.edge
    c.args.offer.stays c.args.room c.args.left c.args.offer.left c.requires.offer.is_edge c.requires.offer.sound c.requires.room
    c.requires.left
    (c.in-Some.is ∙ ap Some c.if-after-offer.false) c.args.offer.rest c.requires.offer.rest_is in
    let same = ap (λ (x : Cost). x.hops) c.move_cost.ensures in
    omega (arith, few.hops, same)

pub lower_open-requires-clause-within : goal.lower_open-requires-clause-within
lower_open-requires-clause-within g c =
    from_within (g.L.Legs.seen c.args.legs.now) c.requires.laws c.args.cells.now c.requires.cells c.args.table.now c.args.offer.edge
    c.args.offer.stays c.args.room c.args.left c.args.offer.left c.requires.offer.is_edge c.requires.offer.sound c.requires.room
    c.requires.left
    (c.in-Some.is ∙ ap Some c.if-after-offer.false)

pub returns : goal.returns
returns g c =
    let v = g.L.Legs.seen c.args.legs.now in
    let offer = c.args.offer in
    let t = c.args.table.now in
    let new = c.lower_open.new in
    let moved = move_cost v.sid_cost offer.stays offer.edge.hops in
    let cost : c.plus-cost.result ≡ plus moved offer.rest =
    c.plus-cost.ensures ∙ ap (λ (x : Cost). plus x offer.rest) c.move_cost.ensures
    ∙ ap (λ (n : ℕ). plus (move_cost n offer.stays offer.edge.hops) offer.rest) c.sid_cost.ensures in
    let lowered : IsLoweredAt t new.table new.queue.waiting new.queue.done.items offer.rest (8 * offer.edge.from + c.args.room)
    (plus moved offer.rest) c.in_ok-lower_open.field-0 =
    subst (λ (x : Cost). IsLoweredAt t new.table new.queue.waiting new.queue.done.items offer.rest (8 * offer.edge.from + c.args.room) x
    c.in_ok-lower_open.field-0) cost
    (c.in_ok-lower_open.ensures.lowered offer.rest c.requires.offer.front
    (subst (AtMost offer.rest) (sym cost) (at_most_more moved offer.rest))) in
    room_lowered v c.args.cells.now t c.args.queue.now.waiting c.args.queue.now.done.items offer c.requires.offer c.args.room c.args.left
    c.in-Some.after new.table new.queue.waiting new.queue.done.items c.in_ok-lower_open.field-0 c.in-Some.is c.if-after-offer.false
    c.lower_open.ensures.done c.requires.room
    (room_relaxed (g.L.Legs.seen c.args.legs.now) c.requires.laws c.args.cells.now c.requires.cells c.args.table.now c.args.offer.edge
    c.args.offer.stays c.args.room c.args.left c.args.offer.left c.requires.offer.is_edge c.requires.offer.sound c.requires.room
    c.requires.left
    (c.in-Some.is ∙ ap Some c.if-after-offer.false) new.table offer.rest c.in_ok-lower_open.field-0 c.requires.offer.rest_is
    lowered.lowers)
    lowered
