use Rattle.std.proofs.Common.{arith}
use Rattle.leg_table.proofs.Placing.{step_opens, step_lands, in_steps, intent_short, rows_more}
use Rattle.leg_table.proofs.strict_rows.rows_of.Goals as goal

pub node_behind-node-requires : goal.node_behind-node-requires
node_behind-node-requires c =
    let at = in_steps _ c.args.intent.now.steps c.loop-i.i c.index-steps-i.result c.as_slice-steps.ensures c.loop-i-test.true
    c.index-steps-i.is in
    step_opens c.args.net.now c.args.intent.now c.loop-i.i c.loop-i.node c.index-steps-i.result c.requires c.loop-i.invariant.stands at.0
    at.1

pub overflow_cast-i : goal.overflow_cast-i
overflow_cast-i c =
    let at = in_steps _ c.args.intent.now.steps c.loop-i.i c.index-steps-i.result c.as_slice-steps.ensures c.loop-i-test.true
    c.index-steps-i.is in
    let few = intent_short c.args.net.now c.args.intent.now c.loop-i.i c.requires at.0 in
    omega arith

pub overflow_add-i : goal.overflow_add-i
overflow_add-i c =
    let at = in_steps _ c.args.intent.now.steps c.loop-i.i c.index-steps-i.result c.as_slice-steps.ensures c.loop-i-test.true
    c.index-steps-i.is in
    let few = intent_short c.args.net.now c.args.intent.now c.loop-i.i c.requires at.0 in
    omega arith

pub row_of-requires-in-loop-i-clause-stands : goal.row_of-requires-in-loop-i-clause-stands
row_of-requires-in-loop-i-clause-stands c =
    let at = in_steps _ c.args.intent.now.steps c.loop-i.i c.index-steps-i.result c.as_slice-steps.ensures c.loop-i-test.true
    c.index-steps-i.is in
    step_lands c.args.net.now c.args.intent.now c.loop-i.i c.loop-i.node c.node_behind-node.result c.index-steps-i.result
    c.loop-i.invariant.stands at.0 at.1
    c.node_behind-node.ensures

pub loop-i-preserved : goal.loop-i-preserved
loop-i-preserved c =
    let at = in_steps _ c.args.intent.now.steps c.loop-i.i c.index-steps-i.result c.as_slice-steps.ensures c.loop-i-test.true
    c.index-steps-i.is in
    let row = c.in_ok-row_of-2.ensures in
    let pushed = c.in_ok-push-2.ensures.items in
    record {
      stands =
          step_lands c.args.net.now c.args.intent.now c.loop-i.i c.loop-i.node c.node_behind-node.result c.index-steps-i.result
          c.loop-i.invariant.stands at.0 at.1
          c.node_behind-node.ensures;
      rows = rows_more c.args.net.now c.args.intent.now c.loop-i.i c.in_ok-row_of-2.field-0 c.loop-i.rows.items _ c.loop-i.invariant.rows
          row pushed;
    }
