use Rattle.std.proofs.Common.{◌≡◌, true, false}
use Rattle.net_model.specs.NetworkRules.{same_prefix}
use Rattle.list_pack.proofs.SidLoops.{some_next, some_found}
use Rattle.list_pack.proofs.search_rules.is_named.Goals as goal

pub returns-then-same_prefix : goal.returns-then-same_prefix
returns-then-same_prefix c =
    let test : same_prefix c.sid.result.now.prefix c.args.prefix.now ≡ true = cc in
    some_found (λ s. same_prefix s.prefix c.args.prefix.now) c.args.net.now.sids c.loop-n.n c.sid.result.now c.sid.ensures
    c.loop-n.invariant test

pub loop-n-preserved : goal.loop-n-preserved
loop-n-preserved c =
    let test : same_prefix c.sid.result.now.prefix c.args.prefix.now ≡ false = cc in
    some_next (λ s. same_prefix s.prefix c.args.prefix.now) c.args.net.now.sids c.loop-n.n c.sid.result.now c.sid.ensures
    c.loop-n.invariant test
