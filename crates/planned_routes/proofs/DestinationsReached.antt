-- What enters leads to all destinations.
use Rattle.std.proofs.Common.{◌≡◌, ℕ, List, ◌++◌, map, get_or, Some, slice_get, Contains, refl, sym, ◌∙◌, ap, subst}
use Rattle.std.specs.Option.{option_map}
use Rattle.std.proofs.lemmas.List.Elements.{All-contains, Contains-get_or}
use Rattle.std.proofs.lemmas.Option.{same_Some, slice_get-map}
use Rattle.net_model.specs.declared.parts.Route.{Route}
use Rattle.net_model.proofs.PublicLaws.{get_from_contains, contains_from_get}
use Rattle.shortest_paths.specs.declared.links.Link as path
use Rattle.shortest_paths.specs.declared.routes.Route as way
use Rattle.shortest_paths.specs.Routes.{IsRoute, AreRoutes}
use Rattle.shortest_paths.specs.LeastWalks.{IsFirstHop}
use Rattle.planned_routes.specs.declared.destination.Destination.{Destination}
use Rattle.planned_routes.specs.Destinations.{LeadsLeast, HasWay, LeadToAll}
use Rattle.planned_routes.specs.Entering.{entry, entries, entering}
use Rattle.planned_routes.proofs.RoutesEntered.{entering_new, entering_apart, entering_all, entries_mean, entry_there}

abbrev nodes_of : List Destination → List (List ℕ)
nodes_of destinations = map (λ (d : Destination). d.nodes) destinations

nodes_at : (destinations : List Destination) (n : ℕ) (d : Destination) → slice_get destinations n ≡ Some d
    → slice_get (nodes_of destinations) n ≡ Some d.nodes
nodes_at destinations n d here =
    slice_get-map (λ (d : Destination). d.nodes) destinations n ∙ ap (option_map (λ (d : Destination). d.nodes)) here

module _ (links : List path.Link) (destinations : List Destination) (there : List Route) (routes : List way.Route)
    (are : AreRoutes links (nodes_of destinations) routes) where
  each_leads : (r : Route) → Contains (entering there (entries destinations routes)) r → LeadsLeast links destinations r
  each_leads r c =
      let means = entries_mean destinations routes r (entering_new there (entries destinations routes) r c).0 in
      let route : way.Route = means.0 in
      let d : Destination = means.1 in
      let is : IsRoute links (nodes_of destinations) route
      = All-contains (IsRoute links (nodes_of destinations)) routes route are.each means.2 in
      let one : is.originators ≡ d.nodes
      = same_Some is.originators d.nodes (sym is.is ∙ nodes_at destinations route.destination d means.3) in
      subst (λ (r : Route). LeadsLeast links destinations r) means.4 (record {
        destination = d;
        among = contains_from_get destinations route.destination d means.3;
        leads = record { table = refl; family = refl; prefix = refl };
        ascending = is.ascending;
        exact = λ n. (
          λ among. subst (λ (ns : List ℕ). IsFirstHop links ns route.node n) one ((is.exact n).0 among),
          λ first. (is.exact n).1 (subst (λ (ns : List ℕ). IsFirstHop links ns route.node n) (sym one) first),
        );
        some = is.some;
      })

  abbrev new : List Route
  new = entering there (entries destinations routes)

  pub lead_to_all : LeadToAll links destinations there (entering there (entries destinations routes))
  lead_to_all = record {
    each = λ k d low. each_leads (get_or new k d) (Contains-get_or new k d low);
    new = λ r q c among. (entering_new there (entries destinations routes) r c).1 q among;
    apart = entering_apart there (entries destinations routes);
    complete = has_way;
  }
    where
      has_way : (d : Destination) → Contains destinations d → (node hop : ℕ) → IsFirstHop links d.nodes node hop
          → HasWay (there ++ new) d node
      has_way d c node hop first =
          let at = get_from_contains destinations d c in
          let has = are.complete at.0 d.nodes (nodes_at destinations at.0 d at.1) node hop first in
          let route : way.Route = has.0 in
          let here : slice_get destinations route.destination ≡ Some d = ap (slice_get destinations) has.2 ∙ at.1 in
          let entered = entry_there destinations routes route d has.1 here in
          let stands = entering_all there (entries destinations routes) (entry d route) entered in (
            stands.0,
            stands.1,
            stands.2.node ∙ has.3,
            record { table = stands.2.table; family = stands.2.family; prefix = stands.2.prefix },
          )
