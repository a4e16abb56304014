-- The numbers of routes by their keys: a route of distinct ones has an equal one exactly where the one with its key is equal.
use Rattle.std.proofs.Common.{◌≡◌, ℕ, zero, suc, Bool, true, false, ◌==◌, ◌&&◌, ◌||◌, cond, List, [], ◌∷◌, ◌++◌, length, Option, Some, None, refl, sym, ap, ap₂, ◌∙◌, subst}
use Rattle.std.proofs.lemmas.Bool.{and_parts, or_from, eqb-true, not-true, both_ways, false_from_ne_true}
use Rattle.std.proofs.lemmas.Option.{same_Some}
use Rattle.std.specs.Prelude.{option_and_then}
use Rattle.std.specs.List.{list_any, slice_get}
use Rattle.std.specs.Map.{lookup}
use Rattle.std.specs.Ordering.{nat_cmp, bool_cmp, is_eq}
use Rattle.std.specs.BTreeMap.{BTreeMap}
use Rattle.std.specs.BTreeMap as map
use Rattle.v6_addr.specs.Address.{PrefixValue}
use Rattle.srv6_rules.specs.declared.family.Family.{Family}
use Rattle.srv6_rules.specs.declared.family.Family.TheVariants as families
use Rattle.net_model.specs.declared.parts.Route.{Route}
use Rattle.net_model.specs.NetworkRules.{are_distinct, same_bytes, same_family, same_prefix, same_route}
use Rattle.net_model.proofs.RouteSetLemmas.{number_is_eq, family_is_eq, both_eq}
use Rattle.update_joined.specs.declared.known_routes.RouteKey.{RouteKey}
use Rattle.update_spec.specs.Equal.{equal_route}
use Rattle.update_joined.specs.RouteKeys.{route_key_cmp, route_key, TellsOf, AreNumbered, equal_at}
use Rattle.update_theory.proofs.PublicLaws.{families_are, same_prefix_are, any_at, get_front, get_seam, none_append, none_less, any_same, route_sym}

keys_tell : (q r : Route) → is_eq (route_key_cmp (route_key q) (route_key r)) ≡ same_route q r
keys_tell q r =
    both_eq (nat_cmp q.node r.node) _ _ _ (number_is_eq q.node r.node)
    (both_eq (nat_cmp q.table r.table) _ _ _ (number_is_eq q.table r.table)
    (both_eq (bool_cmp (same_family q.family families.V6) (same_family r.family families.V6)) _ _ _ (family_is_eq q.family r.family)
    (both_eq (nat_cmp q.prefix.value r.prefix.value) (nat_cmp q.prefix.len r.prefix.len) _ _ (number_is_eq q.prefix.value r.prefix.value)
    (number_is_eq q.prefix.len r.prefix.len))))

-- ---- numbers

tells_more : (before : List Route) (r q : Route) (o : Option ℕ) → TellsOf before q o → same_route q r ≡ false
    → TellsOf (before ++ r ∷ []) q o
tells_more before r q None h e = none_append (same_route q) before (r ∷ []) h (or_from _ _ e refl)
tells_more before r q (Some n) h e = (h.0, get_front before (r ∷ []) n h.0 h.1, h.2)

with_last : (before : List Route) (r q : Route) (n : ℕ) (o : Option ℕ) (b : Bool) → n ≡ length before → TellsOf before q o
    → b ≡ same_route r q → TellsOf (before ++ r ∷ []) q (cond b (Some n) o)
with_last before r q n o true at has e =
    (r, subst (λ k. slice_get (before ++ r ∷ []) k ≡ Some r) (sym at) (get_seam before r []), route_sym q r ∙ sym e)
with_last before r q n o false at has e = tells_more before r q o has (route_sym q r ∙ sym e)

-- with one number more the map tells of one route more
pub more_numbered : (old new : BTreeMap RouteKey ℕ) (before : List Route) (r : Route) (n : ℕ) → n ≡ length before → AreNumbered old before
    → map.Updates route_key_cmp old new (route_key r) (Some n) → AreNumbered new (before ++ r ∷ [])
more_numbered old new before r n at has update q =
    subst (TellsOf (before ++ r ∷ []) q) (sym (update.0 (route_key q)))
    (with_last before r q n (map.get route_key_cmp old (route_key q)) (is_eq (route_key_cmp (route_key r) (route_key q))) at (has q)
    (keys_tell r q))

-- a map of nothing tells of no route
pub none_numbered : (numbers : BTreeMap RouteKey ℕ) → numbers.entries ≡ [] → AreNumbered numbers []
none_numbered numbers none q =
    subst (λ es. TellsOf [] q (lookup (map.is_at (route_key_cmp (route_key q))) es)) (sym none) refl

-- ---- equal routes

equal_same : (q r : Route) → equal_route q r ≡ true → same_route q r ≡ true
equal_same q r h = (and_parts (same_route q r) (same_bytes q.via r.via) h).0

abbrev same_at : Route → ℕ → ℕ → Family → PrefixValue → Bool
same_at y node table family p = (node == y.node) && ((table == y.table) && (same_family family y.family && same_prefix p y.prefix))

-- routes that are the same are the same as others alike
agree : (q x y : Route) → same_route q x ≡ true → same_route q y ≡ same_route x y
agree q x y h =
    let node = and_parts (q.node == x.node) _ h in
    let table = and_parts (q.table == x.table) _ node.1 in
    let rest = and_parts (same_family q.family x.family) (same_prefix q.prefix x.prefix) table.1 in
    let e : q.node ≡ x.node = eqb-true _ _ node.0 in
    let f : q.table ≡ x.table = eqb-true _ _ table.0 in
    ap₂ (λ n t. same_at y n t q.family q.prefix) e f
    ∙ ap₂ (λ g p. same_at y x.node x.table g p) (families_are q.family x.family rest.0) (same_prefix_are q.prefix x.prefix rest.1)

or_nothing : (a b : Bool) → b ≡ false → (a || b) ≡ a
or_nothing true b h = refl
or_nothing false b h = h

none_behind : (q x : Route) (rs : List Route) → same_route q x ≡ true → list_any (same_route x) rs ≡ false
    → list_any (equal_route q) rs ≡ false
none_behind q x rs same none =
    none_less (same_route q) (equal_route q) (equal_same q) rs (any_same (same_route q) (same_route x) (λ y. agree q x y same) rs ∙ none)

not_before : (q x : Route) (rs : List Route) (n : ℕ) (r : Route) → list_any (same_route x) rs ≡ false → slice_get rs n ≡ Some r
    → same_route q r ≡ true → equal_route q x ≡ false
not_before q x rs n r none at same =
    false_from_ne_true (equal_route q x) (λ e.
    both_ways _ none (any_at (same_route x) rs n r at (sym (agree q x r (equal_same q x e)) ∙ same)))

one_equal : (q : Route) (rs : List Route) (n : ℕ) (r : Route) → are_distinct same_route rs ≡ true → slice_get rs n ≡ Some r
    → same_route q r ≡ true → list_any (equal_route q) rs ≡ equal_route q r
one_equal q [] n r distinct at same = cc
one_equal q (x ∷ rs) zero r distinct at same =
    let none = not-true _ (and_parts _ _ distinct).0 in
    let is : x ≡ r = same_Some x r at in
    or_nothing (equal_route q x) _ (none_behind q x rs (subst (λ z. same_route q z ≡ true) (sym is) same) none) ∙ ap (equal_route q) is
one_equal q (x ∷ rs) (suc n) r distinct at same =
    let parts = and_parts _ _ distinct in
    ap (λ b. b || list_any (equal_route q) rs) (not_before q x rs n r (not-true _ parts.0) at same) ∙ one_equal q rs n r parts.1 at same

-- what the number of a route tells of equal ones
pub told : (routes : List Route) (q : Route) (o : Option ℕ) → are_distinct same_route routes ≡ true → TellsOf routes q o
    → equal_at q (option_and_then (slice_get routes) o) ≡ list_any (equal_route q) routes
told routes q None distinct h = sym (none_less (same_route q) (equal_route q) (equal_same q) routes h)
told routes q (Some n) distinct h = ap (equal_at q) h.1 ∙ sym (one_equal q routes n h.0 distinct h.1 h.2)
