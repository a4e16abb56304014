use Rattle.std.proofs.Common.{◌≡◌, ◌+◌, ◌<◌, List, [], ◌∷◌, ◌++◌, drop, length, Some, slice_get, Vec, Global, sym, ◌∙◌, ap, subst}
use Rattle.std.specs.Prelude.{not}
use Rattle.std.proofs.lemmas.List.{append_assoc}
use Rattle.std.proofs.lemmas.Option.{slice_get-get_or}
use Rattle.net_model.specs.declared.parts.Route.{Route}
use Rattle.net_model.specs.NetworkRules.{same_route}
use Rattle.net_model.specs.NetworkJudging.{stands_before}
use Rattle.shortest_paths.specs.declared.routes.Route as way
use Rattle.planned_routes.specs.declared.destination.Destination.{Destination}
use Rattle.planned_routes.specs.Entering.{entering, entries}
use Rattle.planned_routes.specs.RouteKeys.{HasKeys}
use Rattle.planned_routes.proofs.SameRoutes.{keys_stay}
use Rattle.planned_routes.proofs.LoopLists.{entries_more, enters_new, enters_not}
use Rattle.planned_routes.proofs.entering.enter.Goals as goal
use Rattle.planned_routes.proofs.entering.enter.Goals.{then-branch+in_ok-push, else-branch}

pub loop-route-preserved : goal.loop-route-preserved
loop-route-preserved c =
    let there = c.args.there.now in
    let destinations = c.args.destinations.now in
    let routes = c.args.routes.now in
    let i = c.loop-route.route-index in
    let new = c.loop-route.new.items in
    let route = c.route-item.result in
    let d = c.index-destinations-route.result in
    let e = c.in_ok-entry.entry in
    let within : route.destination < length destinations =
    subst (λ (r : way.Route). r.destination < length destinations) (sym c.route-item.is) (c.requires i route c.loop-route-test.true) in
    let named : slice_get destinations route.destination ≡ Some d =
    slice_get-get_or destinations route.destination d within ∙ ap (λ (x : Destination). Some x) (sym c.index-destinations-route.is) in
    let more = entries destinations (drop (i + 1) routes) in
    let step : entries destinations (drop i routes) ≡ e ∷ more =
    entries_more destinations routes i route d c.loop-route-test.true (sym c.route-item.is) named
    ∙ ap (λ (x : Route). x ∷ more) (sym c.in_ok-entry.ensures) in
    let told : not c.in_ok-put_new.field-0 ≡ stands_before same_route (there ++ new) e =
    c.in_ok-put_new.ensures.told (there ++ new) c.loop-route.invariant.keys in
    let kept : HasKeys c.put_new.new.keys ((there ++ new) ++ (e ∷ [])) =
    c.in_ok-put_new.ensures.kept (there ++ new) c.loop-route.invariant.keys in
    elim c.if-branch.branch [
      | then-branch+in_ok-push w ↦
          let items : c.if-branch.new.items ≡ new ++ e ∷ [] =
          ap (λ (v : Vec Route Global). v.items) w.new-is ∙ w.in_ok-push.ensures.items in
          record {
            keys = subst (λ (rs : List Route). HasKeys c.put_new.new.keys (there ++ rs)) (sym items)
                (subst (λ (rs : List Route). HasKeys c.put_new.new.keys rs) (append_assoc there new (e ∷ [])) kept);
            so_far = subst
                (λ (rs : List Route). rs ++ entering (there ++ rs) more ≡ entering there (entries destinations routes))
                (sym items)
                (enters_new there new (entries destinations (drop i routes)) more e step (sym told ∙ ap not w.if-branch.true)
                ∙ c.loop-route.invariant.so_far);
          }
      | else-branch w ↦
          let items : c.if-branch.new.items ≡ new = ap (λ (v : Vec Route Global). v.items) w.new-is in
          let stood = sym told ∙ ap not w.if-branch.false in
          record {
            keys = subst (λ (rs : List Route). HasKeys c.put_new.new.keys (there ++ rs)) (sym items)
                (keys_stay c.put_new.new.keys (there ++ new) e kept stood);
            so_far = subst
                (λ (rs : List Route). rs ++ entering (there ++ rs) more ≡ entering there (entries destinations routes))
                (sym items)
                (ap (λ (rs : List Route). new ++ rs)
                (enters_not there new (entries destinations (drop i routes)) more e step stood) ∙ c.loop-route.invariant.so_far);
          }
    ]
