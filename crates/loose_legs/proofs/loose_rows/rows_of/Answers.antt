use Rattle.loose_legs.proofs.LooseTablePositions.{rows_more, stands_here}
use Rattle.loose_legs.proofs.loose_rows.rows_of.Goals as goal

pub row_of-requires-clause-stands : goal.row_of-requires-clause-stands
row_of-requires-clause-stands c =
    stands_here c.args.net.now c.args.intent.now c.args.steps.now c.args.stands.now c.requires.stands c.loop-position.position
    c.loop-position-test.true

pub loop-position-preserved : goal.loop-position-preserved
loop-position-preserved c =
    rows_more c.args.net.now c.args.intent.now c.args.steps.now c.loop-position.position c.loop-position.rows.items _ c.in_ok-row_of.field-0
    c.loop-position.invariant c.in_ok-row_of.ensures c.in_ok-push.ensures.items
