use Rattle.std.proofs.Common.{◌≡◌, true, false, ◌&&◌}
use Rattle.srv6_rules.specs.Behaviours.{goes_on}
use Rattle.net_model.specs.NetworkRules.{same_prefix}
use Rattle.list_pack.proofs.SidLoops.{goers_next, goers_found}
use Rattle.list_pack.proofs.flavours.one_goes_on.Goals as goal

pub returns-then-goes_on_at : goal.returns-then-goes_on_at
returns-then-goes_on_at c =
    let test : (same_prefix c.sid-s.result.now.prefix c.args.prefix.now && goes_on c.sid-s.result.now) ≡ true = cc in
    goers_found c.args.net.now.sids c.args.prefix.now c.loop-n.n c.sid-s.result.now c.sid-s.ensures c.loop-n.invariant test

pub loop-n-preserved : goal.loop-n-preserved
loop-n-preserved c =
    let test : (same_prefix c.sid-s.result.now.prefix c.args.prefix.now && goes_on c.sid-s.result.now) ≡ false = cc in
    goers_next c.args.net.now.sids c.args.prefix.now c.loop-n.n c.sid-s.result.now c.sid-s.ensures c.loop-n.invariant test
