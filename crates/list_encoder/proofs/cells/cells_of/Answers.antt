use Rattle.list_encoder.proofs.SearchCelling.{cells_turn}
use Rattle.list_encoder.proofs.cells.cells_of.Goals as goal

pub loop-position-preserved : goal.loop-position-preserved
loop-position-preserved g c =
    cells_turn (g.L.Legs.seen c.args.legs.now) c.steps-steps.ensures.laws c.loop-position.position c.steps-steps.result c.sids_at.result.now
    c.loop-position.cells.items c.add_cells.new.cells.items c.steps-steps.ensures.value c.loop-position-test.true c.sids_at.ensures
    c.in_ok-add_cells.ensures c.loop-position.invariant
