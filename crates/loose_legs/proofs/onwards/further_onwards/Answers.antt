use Rattle.loose_legs.proofs.OnwardRows.{further_more}
use Rattle.loose_legs.proofs.LooseTablePositions.{stands_here}
use Rattle.loose_legs.proofs.onwards.further_onwards.Goals as goal

pub onwards_at-requires-clause-stands : goal.onwards_at-requires-clause-stands
onwards_at-requires-clause-stands c =
    stands_here c.args.net.now c.args.intent.now c.args.steps.now c.args.stands.now c.requires.stands c.loop-position.position
    c.loop-position-test.true

pub loop-position-preserved : goal.loop-position-preserved
loop-position-preserved c =
    further_more c.args.net.now c.args.intent.now c.args.steps.now c.loop-position.position c.loop-position.further.items _
    c.in_ok-onwards_at.field-0 c.loop-position.invariant c.in_ok-onwards_at.ensures c.in_ok-push.ensures.items
