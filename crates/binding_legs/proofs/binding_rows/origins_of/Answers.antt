use Rattle.std.proofs.Common.{length, ap, arith}
use Rattle.leg_table.proofs.PublicLaws.{intent_stands}
use Rattle.binding_legs.proofs.OriginRows.{row_more}
use Rattle.binding_legs.proofs.binding_rows.origins_of.Goals as goal

pub overflow_cast-position : goal.overflow_cast-position
overflow_cast-position c =
    let e = ap length c.as_slice.ensures in
    let f = (intent_stands c.args.net.now c.args.intent.now c.requires.is_intent).1 in
    omega arith

pub loop-position-preserved : goal.loop-position-preserved
loop-position-preserved c =
    row_more c.args.net.now c.args.intent.now c.loop-position.position c.loop-position.rows.items _ c.in_ok-row_of.field-0
    c.loop-position.invariant c.in_ok-row_of.ensures c.in_ok-push.ensures.items
