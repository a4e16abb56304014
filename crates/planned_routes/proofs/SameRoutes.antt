-- Routes of one node, table and prefix.
use Rattle.std.proofs.Common.{◌≡◌, Bool, true, false, ◌||◌, inl, inr, List, [], ◌∷◌, ◌++◌, Contains, refl, ◌∙◌, ap}
use Rattle.std.proofs.lemmas.Bool.{cases_Bool, both_ways, and_parts, and_from, eqb-true, eq-eqb}
use Rattle.std.proofs.lemmas.List.Folds.{list_any_at, Any-from_list_any, list_any-append}
use Rattle.std.specs.BTreeSet.{BTreeSet}
use Rattle.v6_addr.specs.Address.{PrefixValue}
use Rattle.srv6_rules.specs.declared.family.Family.{Family}
use Rattle.srv6_rules.specs.declared.family.Family.TheVariants as families
use Rattle.net_model.specs.declared.parts.Route.{Route}
use Rattle.net_model.specs.NetworkRules.{same_family, same_route}
use Rattle.net_model.specs.NetworkJudging.{stands_before}
use Rattle.net_model.proofs.PublicLaws.{same_family_from, same_prefix_value}
use Rattle.planned_routes.specs.declared.route_keys.RouteKey.{RouteKey}
use Rattle.planned_routes.specs.RouteKeys.{HasKeys}

pub record IsSame (q r : Route) : Type 0 where
  pub node : q.node ≡ r.node
  pub table : q.table ≡ r.table
  pub family : q.family ≡ r.family
  pub prefix : q.prefix ≡ r.prefix

pub family_means : (f g : Family) → same_family f g ≡ true → f ≡ g
family_means families.V6 families.V6 e = refl
family_means families.V6 families.V4 e = absurd (cc)
family_means families.V4 families.V6 e = absurd (cc)
family_means families.V4 families.V4 e = refl

pub same_means : (q r : Route) → same_route q r ≡ true → IsSame q r
same_means q r e =
    let node = and_parts _ _ e in
    let table = and_parts _ _ node.1 in
    let family = and_parts _ _ table.1 in
    let prefix = and_parts _ _ family.1 in
    record {
      node = eqb-true _ _ node.0;
      table = eqb-true _ _ table.0;
      family = family_means _ _ family.0;
      prefix = same_prefix_value _ _ (eqb-true _ _ prefix.0) (eqb-true _ _ prefix.1);
    }

pub same_from : (q r : Route) → IsSame q r → same_route q r ≡ true
same_from q r same =
    and_from _ _ (eq-eqb _ _ same.node) (and_from _ _ (eq-eqb _ _ same.table)
    (and_from _ _ (same_family_from _ _ same.family)
    (and_from _ _ (eq-eqb _ _ (ap (λ (p : PrefixValue). p.value) same.prefix)) (eq-eqb _ _ (ap (λ (p : PrefixValue). p.len) same.prefix)))))

pub same_self : (r : Route) → IsSame r r
same_self r = record { node = refl; table = refl; family = refl; prefix = refl }

pub same_via : (q r s : Route) → IsSame q r → IsSame r s → IsSame q s
same_via q r s a b = record {
  node = a.node ∙ b.node;
  table = a.table ∙ b.table;
  family = a.family ∙ b.family;
  prefix = a.prefix ∙ b.prefix;
}

-- ---- one that stands before

pub stands_means : (there : List Route) (r : Route) → stands_before same_route there r ≡ true
    → (s : Route) × Contains there s × IsSame s r
stands_means there r e =
    let any = Any-from_list_any (λ s. same_route s r) there e in
    (any.1, (any.0, any.2, any.3), same_means any.1 r any.4)

pub stands_from : (there : List Route) (s r : Route) → Contains there s → IsSame s r → stands_before same_route there r ≡ true
stands_from there s r c is =
    list_any_at (λ s. same_route s r) there c.0 s c.1 (ap (λ x. same_route x r) c.2 ∙ same_from s r is)

pub stands_not : (there : List Route) (r q : Route) → stands_before same_route there r ≡ false → Contains there q
    → same_route q r ≡ false
stands_not there r q none c = elim (cases_Bool (same_route q r)) [
  | inl same ↦ absurd (both_ways _ none (stands_from there q r c (same_means q r same)))
  | inr apart ↦ apart
]

-- ---- keys

or_known : (x y : Bool) → x ≡ true → (x || y) ≡ x
or_known true y e = refl
or_known false y e = absurd (cc)

or_nothing : (x y : Bool) → y ≡ false → (x || (y || false)) ≡ x
or_nothing true y e = refl
or_nothing false true e = absurd (cc)
or_nothing false false e = refl

-- a key that was there tells nothing new
pub keys_stay : (keys : BTreeSet RouteKey) (there : List Route) (r : Route) → HasKeys keys (there ++ r ∷ [])
    → stands_before same_route there r ≡ true → HasKeys keys there
keys_stay keys there r has stood q =
    has q ∙ (list_any-append (λ s. same_route s q) there (r ∷ []) ∙ elim (cases_Bool (same_route r q)) [
      | inl same ↦
          let before = stands_means there r stood in
          or_known _ _ (stands_from there before.0 q before.1 (same_via before.0 r q before.2 (same_means r q same)))
      | inr apart ↦ or_nothing _ _ apart
    ])
