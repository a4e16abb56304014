use Rattle.std.proofs.Common.{◌≡◌, ℕ, ◌+◌, ◌*◌, sym, ◌∙◌, ap, subst, arith}
use Rattle.list_pack.specs.declared.types.Cost.{Cost}
use Rattle.list_pack.specs.Costs.{plus, move_cost}
use Rattle.list_encoder.specs.CellTable as tables
use Rattle.list_encoder.proofs.SearchTables.{left_range, from_within, from_few, sum_few, room_relaxed}
use Rattle.list_encoder.proofs.lowering.relax_room.Goals as goal

pub rest_at-requires : goal.rest_at-requires
rest_at-requires g c =
    left_range (g.L.Legs.seen c.args.legs.now) c.requires.laws c.args.cells.now c.requires.cells c.args.table.now c.args.edge
    c.args.stays c.args.room c.args.left c.in-Some.behind c.requires.edge c.requires.sound c.requires.room c.requires.left c.in-Some.is

pub plus-cost-requires-clause-containers : goal.plus-cost-requires-clause-containers
plus-cost-requires-clause-containers g c =
    let few = sum_few (g.L.Legs.seen c.args.legs.now) c.requires.laws c.args.cells.now c.requires.cells c.args.table.now c.args.edge
    c.args.stays c.args.room c.args.left c.in-Some.behind c.requires.edge c.requires.sound c.requires.room c.requires.left c.in-Some.is
    c.in-Some-rest_at.rest (sym c.rest_at.ensures ∙ c.in-Some-rest_at.is) in
    let same = ap (λ (x : Cost). x.containers) c.move_cost.ensures in
    omega (arith, few.containers, same)

pub plus-cost-requires-clause-sids : goal.plus-cost-requires-clause-sids
plus-cost-requires-clause-sids g c =
    let few = sum_few (g.L.Legs.seen c.args.legs.now) c.requires.laws c.args.cells.now c.requires.cells c.args.table.now c.args.edge
    c.args.stays c.args.room c.args.left c.in-Some.behind c.requires.edge c.requires.sound c.requires.room c.requires.left c.in-Some.is
    c.in-Some-rest_at.rest (sym c.rest_at.ensures ∙ c.in-Some-rest_at.is) in
    let same = ap (λ (x : Cost). x.sids) c.move_cost.ensures in
    omega (arith, few.sids, same, c.sid_cost.ensures)

pub plus-cost-requires-clause-hops : goal.plus-cost-requires-clause-hops
plus-cost-requires-clause-hops g c =
    let few = sum_few (g.L.Legs.seen c.args.legs.now) c.requires.laws c.args.cells.now c.requires.cells c.args.table.now c.args.edge
    c.args.stays c.args.room c.args.left c.in-Some.behind c.requires.edge c.requires.sound c.requires.room c.requires.left c.in-Some.is
    c.in-Some-rest_at.rest (sym c.rest_at.ensures ∙ c.in-Some-rest_at.is) in
    let same = ap (λ (x : Cost). x.hops) c.move_cost.ensures in
    omega (arith, few.hops, same)

pub overflow_mul-edge : goal.overflow_mul-edge
overflow_mul-edge g c =
    let few = from_few (g.L.Legs.seen c.args.legs.now) c.requires.laws c.args.cells.now c.requires.cells c.args.table.now c.args.edge
    c.args.stays c.args.room c.args.left c.in-Some.behind c.requires.edge c.requires.sound c.requires.room c.requires.left
    c.in-Some.is in
    omega (arith, few)

pub overflow_add-edge : goal.overflow_add-edge
overflow_add-edge g c =
    let few = from_few (g.L.Legs.seen c.args.legs.now) c.requires.laws c.args.cells.now c.requires.cells c.args.table.now c.args.edge
    c.args.stays c.args.room c.args.left c.in-Some.behind c.requires.edge c.requires.sound c.requires.room c.requires.left
    c.in-Some.is in
    omega (arith, few)

pub lower-requires : goal.lower-requires
lower-requires g c =
    from_within (g.L.Legs.seen c.args.legs.now) c.requires.laws c.args.cells.now c.requires.cells c.args.table.now c.args.edge
    c.args.stays c.args.room c.args.left c.in-Some.behind c.requires.edge c.requires.sound c.requires.room c.requires.left c.in-Some.is

pub returns : goal.returns
returns g c =
    let moved = move_cost (g.L.Legs.seen c.args.legs.now).sid_cost c.args.stays c.args.edge.hops in
    let cost : c.plus-cost.result ≡ plus moved c.in-Some-rest_at.rest =
    c.plus-cost.ensures ∙ ap (λ (x : Cost). plus x c.in-Some-rest_at.rest) c.move_cost.ensures
    ∙ ap (λ (n : ℕ). plus (move_cost n c.args.stays c.args.edge.hops) c.in-Some-rest_at.rest) c.sid_cost.ensures in
    room_relaxed (g.L.Legs.seen c.args.legs.now) c.requires.laws c.args.cells.now c.requires.cells c.args.table.now c.args.edge
    c.args.stays c.args.room c.args.left c.in-Some.behind c.requires.edge c.requires.sound c.requires.room c.requires.left c.in-Some.is
    c.lower.new.table c.in-Some-rest_at.rest c.lower.result (sym c.rest_at.ensures ∙ c.in-Some-rest_at.is)
    (subst (λ (x : Cost). tables.Lowers c.args.table.now c.lower.new.table (8 * c.args.edge.from + c.args.room) x c.lower.result) cost
    c.lower.ensures)
