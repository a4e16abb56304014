-- Sets of what tells routes from others.
use Rattle.std.proofs.Common.{◌≡◌, Bool, true, false, ◌||◌, cond, List, [], ◌∷◌, ◌++◌, ap, ◌∙◌, sym, refl}
use Rattle.std.specs.Ordering.{is_eq}
use Rattle.std.specs.List.{list_any}
use Rattle.std.specs.BTreeSet.{BTreeSet}
use Rattle.std.specs.BTreeSet as tree
use Rattle.std.proofs.lemmas.List.Folds.{list_any-append}
use Rattle.net_model.specs.declared.parts.Route.{Route}
use Rattle.net_model.specs.NetworkRules.{same_route}
use Rattle.net_model.specs.NetworkJudging.{stands_before}
use Rattle.net_model.proofs.RouteSetLemmas.{keys_tell}
use Rattle.planned_routes.specs.declared.route_keys.RouteKey.{RouteKey}
use Rattle.planned_routes.specs.RouteKeys.{HasKeys, route_key, route_key_cmp}

-- keys are one exactly where the routes are of one node, table and prefix
route_keys_tell : (q r : Route) → is_eq (route_key_cmp (route_key q) (route_key r)) ≡ same_route q r
route_keys_tell q r = keys_tell q r

one_last : (a b : Bool) → cond a true b ≡ (b || (a || false))
one_last true true = refl
one_last true false = refl
one_last false true = refl
one_last false false = refl

-- with one key more the set tells of one route more
pub has_more : (old new : BTreeSet RouteKey) (there : List Route) (r : Route) → HasKeys old there
    → tree.Updates route_key_cmp old new (route_key r) true → HasKeys new (there ++ r ∷ [])
has_more old new there r has update q =
    update.0 (route_key q)
    ∙ (ap (λ b. cond b true (tree.contains route_key_cmp old (route_key q))) (route_keys_tell r q)
    ∙ (ap (λ b. cond (same_route r q) true b) (has q)
    ∙ (one_last (same_route r q) (stands_before same_route there q)
    ∙ sym (list_any-append (λ earlier. same_route earlier q) there (r ∷ [])))))

-- a set of no keys tells of no route
pub no_keys : (keys : BTreeSet RouteKey) → keys.keys ≡ [] → HasKeys keys []
no_keys keys none q = ap (list_any (λ k. is_eq (route_key_cmp (route_key q) k))) none
