use Rattle.std.proofs.Common.{Option, subst, sym}
use Rattle.list_encoder.specs.declared.picks.Pick.{Pick}
use Rattle.list_encoder.specs.Picks.{PicksFirst}
use Rattle.list_encoder.proofs.Picking.{picks_first}
use Rattle.list_encoder.proofs.picks.first_tight.Goals as goal

pub returns : goal.returns
returns g c =
    subst (λ (o : Option Pick). PicksFirst (g.L.Legs.seen c.args.legs.now) c.args.cells.now c.args.table.now c.args.costed_state o)
    (sym c.better.ensures)
    (picks_first (g.L.Legs.seen c.args.legs.now) c.args.cells.now c.args.table.now c.args.costed_state c.pick_end-end.result c.pick_leg-leg.result
    c.pick_end-end.ensures c.pick_leg-leg.ensures)
