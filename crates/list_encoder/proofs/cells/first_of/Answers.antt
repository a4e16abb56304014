use Rattle.std.proofs.Common.{refl}
use Rattle.list_encoder.proofs.SearchCelling.{first_found, first_none, first_more, first_end, cell_read}
use Rattle.list_encoder.proofs.cells.first_of.Goals as goal

pub returns-then-cell-position : goal.returns-then-cell-position
returns-then-cell-position g c =
    first_found (g.L.Legs.seen c.args.legs.now) c.args.cells.now c.requires c.args.position c.loop-k.k _
    (cell_read c.args.cells.now c.loop-k.k c.loop-k-test.true) c.if-cell-position.true c.loop-k.invariant

pub loop-k-preserved : goal.loop-k-preserved
loop-k-preserved g c =
    first_more c.args.cells.now c.args.position c.loop-k.k _ (cell_read c.args.cells.now c.loop-k.k c.loop-k-test.true)
    c.if-cell-position.false
    c.loop-k.invariant

pub returns : goal.returns
returns g c =
    first_none c.args.cells.now c.args.position _ refl (λ j other h. c.loop-k.invariant j other (first_end c.loop-k-test.false h))
