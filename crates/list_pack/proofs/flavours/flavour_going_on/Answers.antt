use Rattle.std.proofs.Common.{◌≡◌, true, false, ◌&&◌}
use Rattle.srv6_rules.specs.Behaviours.{goes_on}
use Rattle.net_model.specs.NetworkRules.{same_prefix}
use Rattle.list_pack.specs.LegsValueTerms.{is_compressed}
use Rattle.list_pack.proofs.SidLoops.{going_next, going_found}
use Rattle.list_pack.proofs.flavours.flavour_going_on.Goals as goal

pub returns-then-flavours_going_on : goal.returns-then-flavours_going_on
returns-then-flavours_going_on c =
    let test : (same_prefix c.sid-s.result.now.prefix c.args.prefix.now
    && (goes_on c.sid-s.result.now && is_compressed c.sid-s.result.now.csid)) ≡ true = cc in
    going_found c.args.net.now.sids c.args.prefix.now c.loop-n.n c.sid-s.result.now c.sid-s.ensures c.loop-n.invariant test

pub loop-n-preserved : goal.loop-n-preserved
loop-n-preserved c =
    let test : (same_prefix c.sid-s.result.now.prefix c.args.prefix.now
    && (goes_on c.sid-s.result.now && is_compressed c.sid-s.result.now.csid)) ≡ false = cc in
    going_next c.args.net.now.sids c.args.prefix.now c.loop-n.n c.sid-s.result.now c.sid-s.ensures c.loop-n.invariant test
