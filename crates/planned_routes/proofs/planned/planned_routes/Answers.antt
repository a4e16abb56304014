use Rattle.std.proofs.Common.{◌≡◌, ◌<◌, ℕ, List, [], length, map, sym, ◌∙◌, ap, subst}
use Rattle.std.specs.Prelude.{All}
use Rattle.net_model.specs.declared.parts.Route.{Route}
use Rattle.net_model.specs.Network.{Network}
use Rattle.shortest_paths.specs.declared.links.Link as path
use Rattle.shortest_paths.specs.declared.routes.Route as way
use Rattle.shortest_paths.specs.Walks.{IsNetwork}
use Rattle.shortest_paths.specs.Routes.{AreRoutes}
use Rattle.planned_routes.specs.declared.destination.Destination.{Destination}
use Rattle.planned_routes.specs.PlannedRoutes.{ArePlanned, weighed_links}
use Rattle.planned_routes.specs.Grouping.{grouped}
use Rattle.planned_routes.specs.Entering.{entering, entries}
use Rattle.planned_routes.proofs.Asked.{network_is, originators_in, originators_few, routes_within}
use Rattle.planned_routes.proofs.DestinationsReached.{lead_to_all}
use Rattle.planned_routes.proofs.OwnersPlanned.{are_planned}
use Rattle.planned_routes.proofs.planned.planned_routes.Goals as goal

pub plan_routes-requires-clause-network : goal.plan_routes-requires-clause-network
plan_routes-requires-clause-network c =
    let links : c.as_slice-3.result.now ≡ weighed_links c.args.metrics.now c.args.net.now.links =
    c.as_slice-3.ensures.value ∙ (c.in_ok-links.ensures
    ∙ ap (weighed_links c.args.metrics.now) (c.as_slice.ensures.value ∙ ap (λ (n : Network). n.links) c.parts.ensures)) in
    subst (λ (ls : List path.Link). IsNetwork c.nodes.result ls) (sym links)
    (subst (λ (n : ℕ). IsNetwork n (weighed_links c.args.metrics.now c.args.net.now.links)) (sym c.nodes.ensures)
    (network_is c.args.net.now c.args.metrics.now c.keeps_rules.ensures.facts c.requires.metrics))

pub plan_routes-requires-clause-originators : goal.plan_routes-requires-clause-originators
plan_routes-requires-clause-originators c =
    let nodes : c.as_slice-4.result.now ≡ map (λ (d : Destination). d.nodes) (grouped c.args.owners.now [] c.args.owners.now) =
    c.as_slice-4.ensures.value ∙ (c.in_ok-originators.ensures
    ∙ ap (map (λ (d : Destination). d.nodes)) (c.as_slice-2.ensures.value ∙ c.in_ok-destinations.ensures)) in
    subst (λ (os : List (List ℕ)). All (λ (ns : List ℕ). All (λ (n : ℕ). n < c.nodes.result) ns) os) (sym nodes)
    (subst (λ (count : ℕ). All (λ (ns : List ℕ). All (λ (n : ℕ). n < count) ns)
    (map (λ (d : Destination). d.nodes) (grouped c.args.owners.now [] c.args.owners.now))) (sym c.nodes.ensures)
    (originators_in c.args.owners.now (length c.args.net.now.nodes) c.requires.nodes))

pub plan_routes-requires-clause-few : goal.plan_routes-requires-clause-few
plan_routes-requires-clause-few c =
    let nodes : c.as_slice-4.result.now ≡ map (λ (d : Destination). d.nodes) (grouped c.args.owners.now [] c.args.owners.now) =
    c.as_slice-4.ensures.value ∙ (c.in_ok-originators.ensures
    ∙ ap (map (λ (d : Destination). d.nodes)) (c.as_slice-2.ensures.value ∙ c.in_ok-destinations.ensures)) in
    subst (λ (os : List (List ℕ)). length os < 4294967296) (sym nodes)
    (originators_few c.args.owners.now 4294967296 c.requires.few)

pub enter-requires : goal.enter-requires
enter-requires c =
    let nodes : c.as_slice-4.result.now ≡ map (λ (d : Destination). d.nodes) c.as_slice-5.result.now =
    c.as_slice-4.ensures.value ∙ (c.in_ok-originators.ensures
    ∙ ap (map (λ (d : Destination). d.nodes)) (c.as_slice-2.ensures.value ∙ sym c.as_slice-5.ensures.value)) in
    subst (λ (rs : List way.Route). All (λ (r : way.Route). r.destination < length c.as_slice-5.result.now) rs)
    (sym c.as_slice-6.ensures.value)
    (routes_within c.as_slice-3.result.now c.as_slice-5.result.now c.in_ok-routes.routes.items
    (subst (λ (os : List (List ℕ)). AreRoutes c.as_slice-3.result.now os c.in_ok-routes.routes.items) nodes c.in_ok-routes.ensures))

pub returns : goal.returns
returns c =
    let there = c.args.there.now in
    let owners = c.args.owners.now in
    let destinations = grouped owners [] owners in
    let routes = c.in_ok-routes.routes.items in
    let links : c.as_slice-3.result.now ≡ weighed_links c.args.metrics.now c.args.net.now.links =
    c.as_slice-3.ensures.value ∙ (c.in_ok-links.ensures
    ∙ ap (weighed_links c.args.metrics.now) (c.as_slice.ensures.value ∙ ap (λ (n : Network). n.links) c.parts.ensures)) in
    let groups : c.as_slice-5.result.now ≡ destinations = c.as_slice-5.ensures.value ∙ c.in_ok-destinations.ensures in
    let nodes : c.as_slice-4.result.now ≡ map (λ (d : Destination). d.nodes) destinations =
    c.as_slice-4.ensures.value ∙ (c.in_ok-originators.ensures
    ∙ ap (map (λ (d : Destination). d.nodes)) (c.as_slice-2.ensures.value ∙ c.in_ok-destinations.ensures)) in
    let are : AreRoutes (weighed_links c.args.metrics.now c.args.net.now.links) (map (λ (d : Destination). d.nodes) destinations) routes =
    subst (λ (ls : List path.Link). AreRoutes ls (map (λ (d : Destination). d.nodes) destinations) routes) links
    (subst (λ (os : List (List ℕ)). AreRoutes c.as_slice-3.result.now os routes) nodes c.in_ok-routes.ensures) in
    let new : c.in_ok-new.new.items ≡ entering there (entries destinations routes) =
    c.in_ok-new.ensures
    ∙ (ap (λ (ds : List Destination). entering there (entries ds c.as_slice-6.result.now)) groups
    ∙ ap (λ (rs : List way.Route). entering there (entries destinations rs)) c.as_slice-6.ensures.value) in
    subst (λ (rs : List Route). ArePlanned (weighed_links c.args.metrics.now c.args.net.now.links) owners there rs) (sym new)
    (are_planned (weighed_links c.args.metrics.now c.args.net.now.links) owners there (entering there (entries destinations routes))
    (lead_to_all (weighed_links c.args.metrics.now c.args.net.now.links) destinations there routes are))
