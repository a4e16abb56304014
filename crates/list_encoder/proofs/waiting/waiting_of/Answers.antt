use Rattle.std.proofs.Common.{refl}
use Rattle.list_encoder.specs.CellTable.{at}
use Rattle.list_encoder.proofs.SearchFronts.{before_next}
use Rattle.list_encoder.proofs.waiting.waiting_of.Goals as goal

pub loop-place-preserved : goal.loop-place-preserved
loop-place-preserved c =
    before_next c.args.table.now c.loop-place.waiting c.put_in.new.waiting c.loop-place.place (at c.args.table.now c.loop-place.place) refl
    c.in_ok-put_in.ensures c.loop-place.invariant
