use Rattle.std.proofs.Common.{sym}
use Rattle.loose_legs.proofs.OnwardRows.{row_more}
use Rattle.loose_legs.proofs.onwards.onwards_at.Goals as goal

pub loop-via-preserved : goal.loop-via-preserved
loop-via-preserved c =
    row_more c.args.net.now c.args.intent.now c.args.steps.now c.args.position c.loop-via.via c.loop-via.rows.items _
    c.in_ok-onwards_behind.field-0 c.loop-via.invariant
    (c.in_ok-onwards_behind.ensures c.loop-via.via (sym c.start_behind-start.ensures.value)) c.in_ok-push.ensures.items
