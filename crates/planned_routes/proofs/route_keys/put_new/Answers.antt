use Rattle.std.proofs.Common.{true, subst}
use Rattle.std.specs.BTreeSet as tree
use Rattle.planned_routes.specs.RouteKeys.{route_key_cmp}
use Rattle.planned_routes.proofs.KeySets.{has_more}
use Rattle.planned_routes.proofs.route_keys.put_new.Goals as goal

pub returns-clause-kept : goal.returns-clause-kept
returns-clause-kept c = λ there has.
    has_more c.args.keys.now c.insert.new.self there c.args.r.now has
    (subst (λ k. tree.Updates route_key_cmp c.args.keys.now c.insert.new.self k true) c.route_key.ensures
    c.in_ok-insert.ensures.updates)
