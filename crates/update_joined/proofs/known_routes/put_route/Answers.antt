use Rattle.std.proofs.Common.{Some, subst}
use Rattle.std.specs.BTreeMap as map
use Rattle.update_joined.specs.RouteKeys.{route_key_cmp}
use Rattle.update_joined.proofs.RouteNumbers.{more_numbered}
use Rattle.update_joined.proofs.known_routes.put_route.Goals as goal

pub returns : goal.returns
returns c = λ before at has.
    more_numbered c.args.numbers.now c.insert.new.self before c.args.r.now c.args.n at has
    (subst (λ k. map.Updates route_key_cmp c.args.numbers.now c.insert.new.self k (Some c.args.n)) c.route_key.ensures
    c.in_ok-insert.ensures.updates)
