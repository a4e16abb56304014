-- What leads to the groups of owners is planned.
use Rattle.std.proofs.Common.{◌≡◌, ℕ, ◌↔◌, inl, inr, List, [], ◌∷◌, ◌++◌, get_or, Contains, sym, ◌∙◌, ap, subst}
use Rattle.net_model.specs.declared.parts.Route.{Route}
use Rattle.net_model.proofs.PublicLaws.{contains_none}
use Rattle.shortest_paths.specs.declared.links.Link as path
use Rattle.shortest_paths.specs.LeastWalks.{IsWalk, BeginsLeast, IsFirstHop}
use Rattle.planned_routes.specs.declared.destination.Destination.{Destination}
use Rattle.planned_routes.specs.declared.owners.Owner.{Owner}
use Rattle.planned_routes.specs.PlannedRoutes.{Has, AreNodesWith, IsPlanned, HasRoute, ArePlanned}
use Rattle.planned_routes.specs.Destinations.{LeadsTo, LeadsLeast, LeadToAll}
use Rattle.planned_routes.specs.Grouping.{nodes_with, destination_of, grouped}
use Rattle.planned_routes.proofs.OwnersByPrefix.{are_nodes_with, group_means, all_grouped}

-- ---- the same targets

module _ (links : List path.Link) where
  walk_same : (ts us : List ℕ) → ((n : ℕ) → Contains ts n → Contains us n) → (walk : List path.Link) (node : ℕ)
      → IsWalk links ts node walk
      → IsWalk links us node walk
  walk_same ts us more [] node is = more node is
  walk_same ts us more (link ∷ walk) node is = (is.0, is.1, is.2, is.3, walk_same ts us more walk is.2 is.4)

  first_same : (ts us : List ℕ) → ((n : ℕ) → Contains ts n ↔ Contains us n) → (node hop : ℕ) → IsFirstHop links ts node hop
      → IsFirstHop links us node hop
  first_same ts us same node hop first =
      let begin : BeginsLeast links ts node first.0 = first.2 in (
        first.0,
        first.1,
        record {
          rest = begin.rest;
          is = walk_same ts us (λ n. (same n).0) (first.0 ∷ begin.rest) node begin.is;
          least = λ other is. begin.least other (walk_same us ts (λ n. (same n).1) other node is);
        },
      )

-- the nodes that have the prefix of a key that is another's too
nodes_by : (owners : List Owner) (o first : Owner) (targets : List ℕ) → Has o first.table first.family first.prefix
    → AreNodesWith owners o.table o.family o.prefix targets → (n : ℕ) → Contains targets n ↔ Contains (nodes_with owners first) n
nodes_by owners o first targets has are n = (
  λ c. (let owns = (are n).0 c in (are_nodes_with owners first n).1 (
    owns.0,
    owns.1,
    record {
      table = owns.2.table ∙ has.table;
      family = owns.2.family ∙ has.family;
      prefix = owns.2.prefix ∙ has.prefix;
    },
    owns.3,
  )),
  λ c. (let owns = (are_nodes_with owners first n).0 c in (are n).1 (
    owns.0,
    owns.1,
    record {
      table = owns.2.table ∙ sym has.table;
      family = owns.2.family ∙ sym has.family;
      prefix = owns.2.prefix ∙ sym has.prefix;
    },
    owns.3,
  )),
)

module _ (links : List path.Link) (owners : List Owner) (there routes : List Route)
    (lead : LeadToAll links (grouped owners [] owners) there routes) where
  each_is : (r : Route) → LeadsLeast links (grouped owners [] owners) r → IsPlanned links owners r
  each_is r leads =
      let means = group_means owners [] owners leads.destination leads.among in
      let o : Owner = means.0 in
      let to : LeadsTo (destination_of owners o) r = subst (λ (d : Destination). LeadsTo d r) (sym means.2) leads.leads in
      let nodes : nodes_with owners o ≡ leads.destination.nodes = ap (λ (d : Destination). d.nodes) means.2 in
      record {
        targets = nodes_with owners o;
        are = of_route o to;
        ascending = leads.ascending;
        exact = λ n. (
          λ among. subst (λ (ns : List ℕ). IsFirstHop links ns r.node n) (sym nodes) ((leads.exact n).0 among),
          λ first. (leads.exact n).1 (subst (λ (ns : List ℕ). IsFirstHop links ns r.node n) nodes first),
        );
        some = leads.some;
      }
    where
      of_route : (o : Owner) → LeadsTo (destination_of owners o) r → AreNodesWith owners r.table r.family r.prefix (nodes_with owners o)
      of_route o to node = (
        λ c. (let owns = (are_nodes_with owners o node).0 c in (
          owns.0,
          owns.1,
          record {
            table = owns.2.table ∙ sym to.table;
            family = owns.2.family ∙ sym to.family;
            prefix = owns.2.prefix ∙ sym to.prefix;
          },
          owns.3,
        )),
        λ owns. (are_nodes_with owners o node).1 (
          owns.0,
          owns.1,
          record {
            table = owns.2.table ∙ to.table;
            family = owns.2.family ∙ to.family;
            prefix = owns.2.prefix ∙ to.prefix;
          },
          owns.3,
        ),
      )

  pub are_planned : ArePlanned links owners there routes
  are_planned = record {
    each = λ k d low. each_is (get_or routes k d) (lead.each k d low);
    new = lead.new;
    apart = lead.apart;
    complete = has_route;
  }
    where
      has_route : (o : Owner) → Contains owners o → (targets : List ℕ) → AreNodesWith owners o.table o.family o.prefix targets
          → (node hop : ℕ) → IsFirstHop links targets node hop → HasRoute (there ++ routes) o node
      has_route o c targets are node hop first =
          let group = all_grouped owners [] owners o c in
          elim group.2 [
            | inl early ↦ absurd (contains_none group.0 early)
            | inr among ↦
                let way = lead.complete (destination_of owners group.0) among node hop
                (first_same links targets (nodes_with owners group.0) (nodes_by owners o group.0 targets group.1 are) node hop first) in (
                  way.0,
                  way.1,
                  way.2,
                  record {
                    table = group.1.table ∙ sym way.3.table;
                    family = group.1.family ∙ sym way.3.family;
                    prefix = group.1.prefix ∙ sym way.3.prefix;
                  },
                )
          ]
