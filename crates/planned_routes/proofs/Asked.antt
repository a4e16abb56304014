-- What planning asks of a network and of owners.
use Rattle.std.proofs.Common.{◌≡◌, ℕ, suc, ◌+◌, ◌<◌, ◌≤◌, inl, inr, List, [], ◌∷◌, ◌++◌, length, map, get_or, Option, Some, None, Contains, refl, sym, ap, subst, arith}
use Rattle.std.specs.Prelude.{All}
use Rattle.std.proofs.lemmas.Bool.{cases_Bool, cases_lt}
use Rattle.std.proofs.lemmas.List.{get_or_past, length-map}
use Rattle.std.proofs.lemmas.List.Elements.{All-nil, All-cons, All-get_or, All-map, All-contains, Contains-get_or}
use Rattle.std.proofs.lemmas.Option.{same_Some, slice_get_within}
use Rattle.net_model.specs.declared.parts.Link.{Link}
use Rattle.net_model.specs.Network.{Network}
use Rattle.net_model.specs.NetworkJudging.{stands_before}
use Rattle.net_model.specs.NetworkKeeps.{EndsElsewhere, Keeps, KeepsLink}
use Rattle.net_model.proofs.PublicLaws.{contains_later, get_from_contains}
use Rattle.shortest_paths.specs.declared.links.Link as path
use Rattle.shortest_paths.specs.declared.routes.Route as way
use Rattle.shortest_paths.specs.Walks.{IsLink, IsNetwork}
use Rattle.shortest_paths.specs.Routes.{AreRoutes}
use Rattle.planned_routes.specs.declared.destination.Destination.{Destination}
use Rattle.planned_routes.specs.declared.owners.Owner.{Owner}
use Rattle.planned_routes.specs.PlannedRoutes.{metric_at, weighed, weighed_from, weighed_links}
use Rattle.planned_routes.specs.PlannedRoutesTerms.{IsMetric}
use Rattle.planned_routes.specs.Owners.{same_key}
use Rattle.planned_routes.specs.Grouping.{nodes_with, grouped}
use Rattle.planned_routes.proofs.OwnersByPrefix.{are_nodes_with, group_means}

none_some : (n : ℕ) → Path (Option ℕ) None (Some n) → ⊥
none_some n e = absurd (cc)

-- ---- the network

end_in : (count from : ℕ) (to : Option ℕ) → EndsElsewhere count from to → (far : ℕ) → to ≡ Some far → far < count
end_in count from None ends far e = absurd (none_some far e)
end_in count from (Some t) ends far e = subst (λ (n : ℕ). n < count) (same_Some t far e) ends.0

metric_is : (metrics : List (Option ℕ)) → All IsMetric metrics → (n : ℕ) → IsMetric (metric_at metrics n)
metric_is metrics all n = elim (cases_lt n (length metrics)) [
  | inl less ↦ All-get_or IsMetric metrics n None less all
  | inr more ↦ subst IsMetric (sym (get_or_past metrics n None more)) (λ m e. absurd (none_some m e))
]

link_is : (net : Network) (l : Link) → KeepsLink net l → (metric : Option ℕ) → IsMetric metric → IsLink (length net.nodes) (weighed l metric)
link_is net l keeps None is = record {
  from = keeps.from;
  to = λ far e. absurd (none_some far e);
  positive = omega arith;
  low = omega arith;
}
link_is net l keeps (Some m) is = record {
  from = keeps.from;
  to = λ far e. end_in (length net.nodes) l.from l.to keeps.to far e;
  positive = (is m refl).0;
  low = (is m refl).1;
}

links_are : (net : Network) (metrics : List (Option ℕ)) → All IsMetric metrics → (links : List Link) (n : ℕ)
    → ((l : Link) → Contains links l → KeepsLink net l)
    → All (IsLink (length net.nodes)) (weighed_from n metrics links)
links_are net metrics all [] n keeps = All-nil (IsLink (length net.nodes))
links_are net metrics all (l ∷ ls) n keeps =
    All-cons (IsLink (length net.nodes)) (weighed l (metric_at metrics n)) (weighed_from (n + 1) metrics ls)
    (link_is net l (keeps l (0, omega arith, refl)) (metric_at metrics n) (metric_is metrics all n))
    (links_are net metrics all ls (n + 1) (λ k c. keeps k (contains_later l ls k c)))

length_weighed : (metrics : List (Option ℕ)) (links : List Link) (n : ℕ) → length (weighed_from n metrics links) ≡ length links
length_weighed metrics [] n = refl
length_weighed metrics (l ∷ ls) n = ap suc (length_weighed metrics ls (n + 1))

pub network_is : (net : Network) (metrics : List (Option ℕ)) → Keeps net → All IsMetric metrics
    → IsNetwork (length net.nodes) (weighed_links metrics net.links)
network_is net metrics keeps all = record {
  few_nodes = keeps.node_count;
  few_links = subst (λ (n : ℕ). n ≤ 4096) (sym (length_weighed metrics net.links 0)) keeps.link_count;
  each = links_are net metrics all net.links 0
      (λ l c. (let at = get_from_contains net.links l c in keeps.link at.0 l at.1));
}

-- ---- the owners

module _ (owners : List Owner) where
  nodes_in : (count : ℕ) → All (λ (o : Owner). o.node < count) owners → (o : Owner)
      → All (λ (n : ℕ). n < count) (nodes_with owners o)
  nodes_in count all o k d low =
      let owns = (are_nodes_with owners o (get_or (nodes_with owners o) k d)).0 (Contains-get_or (nodes_with owners o) k d low) in
      subst (λ (n : ℕ). n < count) owns.3 (All-contains (λ (x : Owner). x.node < count) owners owns.0 all owns.1)

  pub originators_in : (count : ℕ) → All (λ (o : Owner). o.node < count) owners
      → All (λ (ns : List ℕ). All (λ (n : ℕ). n < count) ns) (map (λ (d : Destination). d.nodes) (grouped owners [] owners))
  originators_in count all =
      All-map (λ (ns : List ℕ). All (λ (n : ℕ). n < count) ns) (λ (d : Destination). d.nodes) (grouped owners [] owners)
      (λ k d low. (let x = get_or (grouped owners [] owners) k d in
      let means = group_means owners [] owners x (Contains-get_or (grouped owners [] owners) k d low) in
      subst (λ (y : Destination). All (λ (n : ℕ). n < count) y.nodes) means.2 (nodes_in count all means.0)))

  grouped_short : (before rest : List Owner) → length (grouped owners before rest) ≤ length rest
  grouped_short before [] = omega arith
  grouped_short before (o ∷ rest) =
      let more : length (grouped owners (before ++ o ∷ []) rest) ≤ length rest = grouped_short (before ++ o ∷ []) rest in
      elim (cases_Bool (stands_before same_key before o)) [
        | inl stood ↦ rw stood (omega (arith, more))
        | inr new ↦ rw new (omega (arith, more))
      ]

  pub originators_few : (most : ℕ) → length owners < most
      → length (map (λ (d : Destination). d.nodes) (grouped owners [] owners)) < most
  originators_few most few =
      let long : length (map (λ (d : Destination). d.nodes) (grouped owners [] owners)) ≡ length (grouped owners [] owners)
      = length-map (grouped owners [] owners) (λ (d : Destination). d.nodes) in
      let short = grouped_short [] owners in
      omega (arith, long, short, few)

-- ---- the routes

pub routes_within : (links : List path.Link) (destinations : List Destination) (routes : List way.Route)
    → AreRoutes links (map (λ (d : Destination). d.nodes) destinations) routes
    → All (λ (r : way.Route). r.destination < length destinations) routes
routes_within links destinations routes are k d low =
    let is = are.each k d low in
    let within = slice_get_within (map (λ (d : Destination). d.nodes) destinations) (get_or routes k d).destination is.originators is.is in
    let long : length (map (λ (d : Destination). d.nodes) destinations) ≡ length destinations
    = length-map destinations (λ (d : Destination). d.nodes) in
    omega (arith, within, long)
