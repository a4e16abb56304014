use Rattle.std.proofs.Common.{[]}
use Rattle.net_plan.specs.CableLinks.{cable_links}
use Rattle.net_plan.proofs.CableTurns.{cable_turn}
use Rattle.net_plan.proofs.plan_links.cable_links.Goals as goal

pub loop-n-preserved : goal.loop-n-preserved
loop-n-preserved c =
    cable_turn c.args.mtu c.args.cables.now c.loop-n.n c.index-cables-n.result c.split_at.result.0.now c.loop-n.links.items
    c.put_both.new.links.items (cable_links c.args.mtu [] c.args.cables.now) c.in_ok-there.there c.in_ok-there.back c.loop-n-test.true
    c.index-cables-n.is c.split_at.ensures.front c.in_ok-there.ensures.there c.in_ok-there.ensures.back c.in_ok-put_both.ensures
    c.loop-n.invariant
