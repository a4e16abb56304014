use Rattle.std.proofs.Common.{◌≡◌, ◌+◌, ◌*◌, ◌≤◌, ℕ, List, Vec, Global, None, get_or, ap, subst, sym, ◌∙◌, arith}
use Rattle.list_pack.specs.declared.types.Potential.{Potential}
use Rattle.list_encoder.specs.Listing.{IsListed}
use Rattle.list_encoder.specs.Cells.{top_at}
use Rattle.list_encoder.proofs.SearchCelling.{cell_read}
use Rattle.list_encoder.proofs.Listings.{listed_more, listed_room, listed_cell}
use Rattle.list_encoder.proofs.listing.list_cell.Goals as goal
use Rattle.list_encoder.proofs.listing.list_cell.Goals.{in-Some+in_ok-push, in_default}

pub loop-room-preserved : goal.loop-room-preserved
loop-room-preserved g c =
    let v = g.L.Legs.seen c.args.legs.now in
    let here = cell_read c.args.cells.now c.args.k c.requires.within in
    let is_top = c.requires.top (get_or c.args.cells.now c.args.k (record { position = 0; via = None })) here in
    let within : c.loop-room.room ≤ top_at v (get_or c.args.cells.now c.args.k (record { position = 0; via = None })) =
    omega (arith, is_top, c.loop-room-test.true) in
    let place : 8 * c.args.k + c.loop-room.room + 1 ≡ 8 * c.args.k + (c.loop-room.room + 1) = omega arith in
    subst (λ (n : ℕ). IsListed v c.args.cells.now c.args.table.now n c.match-entry.potentials.items) place
    (elim c.match-entry.branch [
      | in-Some+in_ok-push w ↦
          listed_more v c.steps.ensures.laws c.args.cells.now c.requires.cells c.args.table.now c.args.k c.loop-room.room
          (get_or c.args.cells.now c.args.k (record { position = 0; via = None })) w.in-Some.cost c.loop-room.potentials.items
          c.match-entry.potentials.items here within (sym c.entry.ensures ∙ w.in-Some.is)
          (ap (λ (l : Vec Potential Global). l.items) w.potentials-is ∙ w.in_ok-push.ensures.items) c.loop-room.invariant
      | in_default w ↦
          subst (λ (xs : List Potential). IsListed v c.args.cells.now c.args.table.now (8 * c.args.k + c.loop-room.room + 1) xs)
          (sym (ap (λ (l : Vec Potential Global). l.items) w.potentials-is))
          (listed_room v c.steps.ensures.laws c.args.cells.now c.requires.cells c.args.table.now c.args.k c.loop-room.room
          c.loop-room.potentials.items
          (omega (arith, c.requires.few, c.loop-room-test.true)) (sym c.entry.ensures ∙ w.in_default.is) c.loop-room.invariant)
    ])

pub returns : goal.returns
returns g c =
    listed_cell (g.L.Legs.seen c.args.legs.now) c.steps.ensures.laws c.args.cells.now c.requires.cells c.args.table.now c.args.k
    c.loop-room.room
    c.args.top c.loop-room.potentials.items c.requires.within c.requires.top c.loop-room-test.false c.loop-room.invariant
    (omega (arith, c.requires.few, c.loop-room.auto.room-end))
