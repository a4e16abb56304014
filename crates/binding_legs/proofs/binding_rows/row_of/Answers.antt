use Rattle.binding_legs.proofs.OriginRows.{one_more}
use Rattle.binding_legs.proofs.binding_rows.row_of.Goals as goal

pub loop-sid-preserved : goal.loop-sid-preserved
loop-sid-preserved c =
    one_more c.args.net.now c.args.intent.now c.args.position c.loop-sid.sid c.loop-sid.row.items _ c.in_ok-origin_at.field-0
    c.loop-sid.invariant c.in_ok-origin_at.ensures c.in_ok-push.ensures.items
