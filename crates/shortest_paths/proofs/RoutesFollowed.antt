-- A packet that follows the routes: what is left falls, and where no route is left is an originator.
use Rattle.std.proofs.Common.{◌≡◌, ℕ, ◌+◌, ◌≤◌, ◌⊎◌, inl, inr, List, [], ◌∷◌, length, Some, slice_get, Contains, refl, sym, ◌∙◌, ap, subst, arith}
use Rattle.std.proofs.lemmas.List.Elements.{All-contains}
use Rattle.std.proofs.lemmas.Option.{slice_get-get_or}
use Rattle.shortest_paths.specs.declared.links.Link.{Link}
use Rattle.shortest_paths.specs.declared.routes.Route.{Route}
use Rattle.shortest_paths.specs.Walks.{IsLink, IsNetwork, IsDistance}
use Rattle.shortest_paths.specs.LeastWalks.{IsWalk, cost, BeginsLeast, IsFirstHop}
use Rattle.shortest_paths.specs.Routes.{Destinations, IsRoute, AreRoutes, Takes, Follows}
use Rattle.shortest_paths.proofs.Lists.{some_same}

-- the number of a link
number_of : (links : List Link) (link : Link) → Contains links link → (number : ℕ) × (slice_get links number ≡ Some link)
number_of links link among =
    (among.0, slice_get-get_or links among.0 link among.1 ∙ ap (λ (l : Link). Some l) among.2)

module _ (nodes : ℕ) (links : List Link) (network : IsNetwork nodes links) (destinations : Destinations) (routes : List Route)
    (are : AreRoutes links destinations routes) (destination : ℕ) (originators : List ℕ)
    (named : slice_get destinations destination ≡ Some originators) where
  -- a link that is taken begins a least walk
  begins_least : (node : ℕ) (link : Link) → Takes links routes destination node link → BeginsLeast links originators node link
  begins_least node link takes =
      let route : Route = takes.0 in
      let is : IsRoute links destinations route = All-contains (IsRoute links destinations) routes route are.each takes.2 in
      let first : IsFirstHop links is.originators route.node takes.1 = (is.exact takes.1).0 takes.5 in
      let one : is.originators ≡ originators
      = some_same is.originators originators (sym is.is ∙ (ap (slice_get destinations) takes.3 ∙ named)) in
      let same : first.0 ≡ link = some_same first.0 link (sym first.1 ∙ takes.6) in
      subst (λ (l : Link). BeginsLeast links originators node l) same
      (subst (λ (v : List ℕ). BeginsLeast links v node first.0) one
      (subst (λ (n : ℕ). BeginsLeast links is.originators n first.0) takes.4 first.2))

  -- what is left at its far end
  left_after : (node : ℕ) (link : Link) (begin : BeginsLeast links originators node link) (far : ℕ) → link.to ≡ Some far
      → IsDistance links originators far (Some (cost begin.rest))
  left_after node link begin far to =
      let one : begin.is.2 ≡ far = some_same begin.is.2 far (sym begin.is.3 ∙ to) in
      subst (λ (n : ℕ). IsDistance links originators n (Some (cost begin.rest))) one (
        (begin.rest, begin.is.4, refl),
        λ walk is. (let low : link.metric + cost begin.rest ≤ link.metric + cost walk
            = begin.least (link ∷ walk) (begin.is.0, begin.is.1, begin.is.2, begin.is.3, is) in
            omega (arith, low)),
      )

  left_before : (node d : ℕ) (link : Link) (begin : BeginsLeast links originators node link)
      → IsDistance links originators node (Some d) → d ≡ link.metric + cost begin.rest
  left_before node d link begin is =
      let up : d ≤ link.metric + cost begin.rest = is.1 (link ∷ begin.rest) begin.is in
      let down : link.metric + cost begin.rest ≤ cost is.0.0 = begin.least is.0.0 is.0.1 in
      let same : cost is.0.0 ≡ d = is.0.2 in
      omega (arith, up, down, same)

  pub follows_falls : (way : List Link) (node last d : ℕ) → IsDistance links originators node (Some d)
      → Follows links routes destination node way last
      → (rest : ℕ) × IsDistance links originators last (Some rest) × (cost way + rest ≡ d) × (length way + rest ≤ d)
  follows_falls [] node last d is same =
      (d, subst (λ (n : ℕ). IsDistance links originators n (Some d)) same is, omega arith, omega arith)
  follows_falls (link ∷ way) node last d is goes =
      let begin = begins_least node link goes.0 in
      let more = follows_falls way goes.1 last (cost begin.rest) (left_after node link begin goes.1 goes.2) goes.3 in
      let sum : d ≡ link.metric + cost begin.rest = left_before node d link begin is in
      let positive : 1 ≤ link.metric = (All-contains (IsLink nodes) links link network.each begin.is.0).positive in
      let costs : cost way + more.0 ≡ cost begin.rest = more.2 in
      let few : length way + more.0 ≤ cost begin.rest = more.3 in
      (more.0, more.1, omega (arith, sum, costs), omega (arith, sum, few, positive))

  pub follows_no_loop : (node : ℕ) (link : Link) (way : List Link) → ¬ Follows links routes destination node (link ∷ way) node
  follows_no_loop node link way goes =
      let begin = begins_least node link goes.0 in
      let d : ℕ = link.metric + cost begin.rest in
      let is : IsDistance links originators node (Some d)
      = ((link ∷ begin.rest, begin.is, refl), begin.least) in
      let r = follows_falls (link ∷ way) node node d is goes in
      let rest : ℕ = r.0 in
      let there : IsDistance links originators node (Some rest) = r.1 in
      let costs : cost there.0.0 ≡ rest = there.0.2 in
      let least : d ≤ cost there.0.0 = begin.least there.0.0 there.0.1 in
      let few : length (link ∷ way) + rest ≤ d = r.3 in
      omega (arith, costs, least, few)

  takes_on : (node d : ℕ) → IsDistance links originators node (Some d)
      → Contains originators node ⊎ ((link : Link) × Takes links routes destination node link)
  takes_on node d is = by_walk is.0.0 is.0.1 is.0.2
    where
      by_walk : (walk : List Link) → IsWalk links originators node walk → cost walk ≡ d
          → Contains originators node ⊎ ((link : Link) × Takes links routes destination node link)
      by_walk [] here sum = inl here
      by_walk (link ∷ walk) goes sum =
          let begin : BeginsLeast links originators node link =
          record {
            rest = walk;
            is = goes;
            least = λ other way. (let low : d ≤ cost other = is.1 other way in omega (arith, low, sum));
          } in
          let number = number_of links link goes.0 in
          let first : IsFirstHop links originators node number.0 = (link, number.1, begin) in
          let has = are.complete destination originators named node number.0 first in
          let route : Route = has.0 in
          let route_is : IsRoute links destinations route = All-contains (IsRoute links destinations) routes route are.each has.1 in
          let one : originators ≡ route_is.originators
          = some_same originators route_is.originators (sym named ∙ (ap (slice_get destinations) (sym has.2) ∙ route_is.is)) in
          let among : Contains route.via number.0 =
          (route_is.exact number.0).1
          (subst (λ (n : ℕ). IsFirstHop links route_is.originators n number.0) (sym has.3)
          (subst (λ (v : List ℕ). IsFirstHop links v node number.0) one first)) in
          inr (link, (route, number.0, has.1, has.2, has.3, among, number.1))

  pub follows_arrives : (node d last : ℕ) (way : List Link) → IsDistance links originators node (Some d)
      → Follows links routes destination node way last
      → ((link : Link) → ¬ Takes links routes destination last link)
      → Contains originators last × (cost way ≡ d)
  follows_arrives node d last way is goes stuck =
      let r = follows_falls way node last d is goes in
      elim (takes_on last r.0 r.1) [
        | inl target ↦
            let low : r.0 ≤ 0 = r.1.1 [] target in
            let sum : cost way + r.0 ≡ d = r.2 in
            (target, omega (arith, low, sum))
        | inr on ↦ absurd (stuck on.0 on.1)
      ]
