use Rattle.std.proofs.Common.{◌<◌, ◌≡◌, ◌∷◌, ◌++◌, [], length, take, sym, ap, ◌∙◌, subst, arith}
use Rattle.std.proofs.lemmas.List.{take_more, length-take-le}
use Rattle.update_joined.specs.RouteKeys.{AreNumbered}
use Rattle.update_joined.proofs.known_routes.number_routes.Goals as goal

pub loop-i-preserved : goal.loop-i-preserved
loop-i-preserved c =
    let routes = c.args.routes.now in
    let i = c.loop-i.i in
    let r = c.index-routes-i.result in
    let within : i < length routes = omega arith in
    let at : i ≡ length (take i routes) = omega (arith, length-take-le i routes (omega (arith, within))) in
    subst (AreNumbered c.put_route.new.numbers)
    (ap (λ y. take i routes ++ y ∷ []) c.index-routes-i.is ∙ sym (take_more routes i r within))
    (c.in_ok-put_route.ensures (take i routes) at c.loop-i.invariant)
