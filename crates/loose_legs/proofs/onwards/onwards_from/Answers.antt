use Rattle.loose_legs.proofs.OnwardRows.{onward_more}
use Rattle.loose_legs.proofs.onwards.onwards_from.Goals as goal

pub loop-next-preserved : goal.loop-next-preserved
loop-next-preserved c =
    onward_more c.args.net.now c.args.intent.now c.args.steps.now c.args.left c.args.place.now c.loop-next.next c.loop-next.row.items _
    c.onward_to.result c.loop-next.invariant c.onward_to.ensures c.in_ok-push.ensures.items
