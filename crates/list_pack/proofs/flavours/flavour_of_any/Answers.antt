use Rattle.std.proofs.Common.{◌≡◌, true, false, ◌&&◌}
use Rattle.net_model.specs.NetworkRules.{same_prefix}
use Rattle.list_pack.specs.LegsValueTerms.{is_compressed}
use Rattle.list_pack.proofs.SidLoops.{any_next, any_found}
use Rattle.list_pack.proofs.flavours.flavour_of_any.Goals as goal

pub returns-then-flavours : goal.returns-then-flavours
returns-then-flavours c =
    let test : (same_prefix c.sid-s.result.now.prefix c.args.prefix.now && is_compressed c.sid-s.result.now.csid) ≡ true = cc in
    any_found c.args.net.now.sids c.args.prefix.now c.loop-n.n c.sid-s.result.now c.sid-s.ensures c.loop-n.invariant test

pub loop-n-preserved : goal.loop-n-preserved
loop-n-preserved c =
    let test : (same_prefix c.sid-s.result.now.prefix c.args.prefix.now && is_compressed c.sid-s.result.now.csid) ≡ false = cc in
    any_next c.args.net.now.sids c.args.prefix.now c.loop-n.n c.sid-s.result.now c.sid-s.ensures c.loop-n.invariant test
