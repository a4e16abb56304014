-- Routes by destinations and nodes, one after the other.
use Rattle.std.proofs.Common.{◌≡◌, ℕ, ◌+◌, ◌<◌, ◌≤◌, ◌⊎◌, inl, inr, List, [], ◌∷◌, ◌++◌, length, get_or, Option, Some, slice_get, Contains, sym, ◌∙◌, ap, subst, arith}
use Rattle.std.specs.Prelude.{All}
use Rattle.std.proofs.lemmas.Bool.{cases_lt}
use Rattle.std.proofs.lemmas.List.Elements.{All-contains, All-nil, All-push, All-weaker, Contains-append_left, Contains-push}
use Rattle.std.proofs.lemmas.List.Quantifiers.{all_pairs_push}
use Rattle.std.proofs.lemmas.Option.{slice_get_within, get_or_from_slice_get}
use Rattle.shortest_paths.specs.declared.links.Link.{Link}
use Rattle.shortest_paths.specs.declared.routes.Route.{Route}
use Rattle.shortest_paths.specs.Walks.{IsLink, IsNetwork, AreDistances}
use Rattle.shortest_paths.specs.NextHops.{IsNextHop, AreNextHops}
use Rattle.shortest_paths.specs.LeastWalks.{BeginsLeast, IsFirstHop}
use Rattle.shortest_paths.specs.Routes.{Destinations, IsRoute, IsBefore, ComesBefore, AreRoutes}
use Rattle.shortest_paths.specs.RoutesTerms.{PlansSoFar}
use Rattle.shortest_paths.proofs.Lists.{some_same, contains_none}
use Rattle.shortest_paths.proofs.Beginnings.{begins, leads}

contains_got : {X : Type 0} (xs : List X) (k : ℕ) (x : X) → slice_get xs k ≡ Some x → Contains xs x
contains_got xs k x e = (k, slice_get_within xs k x e, get_or_from_slice_get xs k x x e)

-- ---- the next hops of a node

module _ (links : List Link) (distances : List (Option ℕ)) (targets : List ℕ) (are : AreDistances links targets distances) (node : ℕ) where
  hop_first : (number : ℕ) → IsNextHop links distances node number → IsFirstHop links targets node number
  hop_first number is =
      (is.0, is.1, begins links distances targets are node is.0 (contains_got links number is.0 is.1) is.2)

  first_hop : (number : ℕ) → IsFirstHop links targets node number → IsNextHop links distances node number
  first_hop number is =
      (is.0, is.1, leads links distances targets are node is.0 is.2)

  pub route_is : (destinations : Destinations) (destination : ℕ) (originators : List ℕ) (via : List ℕ)
      → slice_get destinations destination ≡ Some originators → originators ≡ targets
      → AreNextHops links distances node via
      → 0 < length via → IsRoute links destinations (record { node = node; destination = destination; via = via })
  route_is destinations destination originators via is same hops some = record {
    originators = originators;
    is = is;
    ascending = hops.ascending;
    exact = λ number. (
      λ among. subst (λ (ts : List ℕ). IsFirstHop links ts node number) (sym same) (hop_first number ((hops.exact number).0 among)),
      λ first. (hops.exact number).1 (first_hop number (subst (λ (ts : List ℕ). IsFirstHop links ts node number) same first)),
    );
    some = some;
  }

  pub no_first : (via : List ℕ) → via ≡ [] → AreNextHops links distances node via → (number : ℕ) → ¬ IsFirstHop links targets node number
  no_first via empty hops number first =
      contains_none number (subst (λ (xs : List ℕ). Contains xs number) empty ((hops.exact number).1 (first_hop number first)))

-- ---- one more

before_more : (d n destination node : ℕ) → IsBefore d n destination node → IsBefore d n destination (node + 1)
before_more d n destination node (inl less) = inl less
before_more d n destination node (inr here) = let low : n < node = here.1 in inr (here.0, omega (arith, low))

before_cases : (d n destination node : ℕ) → IsBefore d n destination (node + 1)
    → IsBefore d n destination node ⊎ ((d ≡ destination) × (n ≡ node))
before_cases d n destination node (inl less) = inl (inl less)
before_cases d n destination node (inr here) = elim (cases_lt n node) [
  | inl low ↦ inl (inr (here.0, low))
  | inr high ↦ let most : n < node + 1 = here.1 in inr (here.0, omega (arith, high, most))
]

module _ (links : List Link) (destinations : Destinations) (destination node : ℕ) (routes : List Route)
    (so : PlansSoFar links destinations destination node routes) where
  early_more : All (λ (r : Route). IsBefore r.destination r.node destination (node + 1)) routes
  early_more =
      All-weaker (λ (r : Route). IsBefore r.destination r.node destination node)
      (λ (r : Route). IsBefore r.destination r.node destination (node + 1))
      (λ r h. before_more r.destination r.node destination node h) routes so.early

  pub plans_yes : (route : Route) → route.destination ≡ destination → route.node ≡ node → IsRoute links destinations route
      → PlansSoFar links destinations destination (node + 1) (routes ++ route ∷ [])
  plans_yes route to at is = record {
    each = All-push (IsRoute links destinations) routes route so.each is;
    early = All-push (λ (r : Route). IsBefore r.destination r.node destination (node + 1)) routes route early_more
        (inr (to, omega (arith, at)));
    complete = λ d originators named n hop before first. elim (before_cases d n destination node before) [
      | inl old ↦
          let r = so.complete d originators named n hop old first in
          (r.0, Contains-append_left routes (route ∷ []) r.0 r.1, r.2, r.3)
      | inr new ↦ (route, Contains-push routes route, to ∙ sym new.0, at ∙ sym new.1)
    ];
    ordered = all_pairs_push ComesBefore routes route so.ordered
        (λ k d low. subst (λ (t : ℕ). IsBefore (get_or routes k d).destination (get_or routes k d).node t route.node) (sym to)
        (subst (λ (n : ℕ). IsBefore (get_or routes k d).destination (get_or routes k d).node destination n) (sym at)
        (so.early k d low)));
  }

  pub plans_no : (originators : List ℕ) → slice_get destinations destination ≡ Some originators
      → ((hop : ℕ) → ¬ IsFirstHop links originators node hop)
      → PlansSoFar links destinations destination (node + 1) routes
  plans_no originators named none = record {
    each = so.each;
    early = early_more;
    complete = λ d others is n hop before first. elim (before_cases d n destination node before) [
      | inl old ↦ so.complete d others is n hop old first
      | inr new ↦
          let one : others ≡ originators = some_same others originators (sym is ∙ (ap (slice_get destinations) new.0 ∙ named)) in
          absurd (none hop (subst (λ (v : List ℕ). IsFirstHop links v node hop) one
          (subst (λ (m : ℕ). IsFirstHop links others m hop) new.1 first)))
    ];
    ordered = so.ordered;
  }

-- ---- all nodes, and all destinations

pub plans_none : (links : List Link) (destinations : Destinations) (routes : List Route) → routes ≡ []
    → PlansSoFar links destinations 0 0 routes
plans_none links destinations routes empty =
    subst (λ (rs : List Route). PlansSoFar links destinations 0 0 rs) (sym empty) (record {
      each = All-nil (IsRoute links destinations);
      early = All-nil (λ (r : Route). IsBefore r.destination r.node 0 0);
      complete = λ d originators named n hop before first. absurd (nothing d n before);
      ordered = λ i j d less low. absurd (omega (arith, low));
    })
  where
    nothing : (d n : ℕ) → IsBefore d n 0 0 → ⊥
    nothing d n (inl less) = omega (arith, less)
    nothing d n (inr here) = let low : n < 0 = here.1 in omega (arith, low)

first_early : (nodes : ℕ) (links : List Link) (targets : List ℕ) (node hop : ℕ) → IsNetwork nodes links → IsFirstHop links targets node hop
    → node < nodes
first_early nodes links targets node hop network first =
    let begin : BeginsLeast links targets node first.0 = first.2 in
    let low : first.0.from < nodes = (All-contains (IsLink nodes) links first.0 network.each begin.is.0).from in
    let same : first.0.from ≡ node = begin.is.1 in
    omega (arith, low, same)

pub plans_next : (nodes : ℕ) (links : List Link) (destinations : Destinations) (destination : ℕ) (routes : List Route)
    → IsNetwork nodes links
    → PlansSoFar links destinations destination nodes routes → PlansSoFar links destinations (destination + 1) 0 routes
plans_next nodes links destinations destination routes network so = record {
  each = so.each;
  early = All-weaker (λ (r : Route). IsBefore r.destination r.node destination nodes)
      (λ (r : Route). IsBefore r.destination r.node (destination + 1) 0)
      (λ r h. sooner r.destination r.node h) routes so.early;
  complete = λ d originators named n hop before first.
      so.complete d originators named n hop (later d n before (first_early nodes links originators n hop network first)) first;
  ordered = so.ordered;
}
  where
    sooner : (d n : ℕ) → IsBefore d n destination nodes → IsBefore d n (destination + 1) 0
    sooner d n (inl less) = inl (omega (arith, less))
    sooner d n (inr here) = let same : d ≡ destination = here.0 in inl (omega (arith, same))

    later : (d n : ℕ) → IsBefore d n (destination + 1) 0 → n < nodes → IsBefore d n destination nodes
    later d n (inl less) low = elim (cases_lt d destination) [
      | inl lower ↦ inl lower
      | inr higher ↦ inr (omega (arith, less, higher), low)
    ]
    later d n (inr here) low = let none : n < 0 = here.1 in absurd (omega (arith, none))

pub plans_all : (links : List Link) (destinations : Destinations) (destination : ℕ) (routes : List Route)
    → length destinations ≤ destination
    → PlansSoFar links destinations destination 0 routes → AreRoutes links destinations routes
plans_all links destinations destination routes all so = record {
  each = so.each;
  complete = λ d originators named n hop first.
      let within = slice_get_within destinations d originators named in
      so.complete d originators named n hop (inl (omega (arith, within, all))) first;
  ordered = so.ordered;
}

pub plans_same : (links : List Link) (destinations : Destinations) (destination nodes node : ℕ) (routes : List Route) → nodes ≡ node
    → PlansSoFar links destinations destination node routes → PlansSoFar links destinations destination nodes routes
plans_same links destinations destination nodes node routes same so =
    subst (λ (n : ℕ). PlansSoFar links destinations destination n routes) (sym same) so
