-- Routes that enter one after the other.
use Rattle.std.proofs.Common.{◌≡◌, false, inl, inr, List, [], ◌∷◌, ◌++◌, get_or, Option, Some, None, slice_get, Contains, refl, ◌∙◌, ap, subst, arith}
use Rattle.std.specs.List.{AllPairs}
use Rattle.std.proofs.lemmas.Bool.{cases_Bool}
use Rattle.std.proofs.lemmas.List.{append_assoc}
use Rattle.std.proofs.lemmas.List.Elements.{Contains-append_left, Contains-append_right, Contains-push, Contains-get_or}
use Rattle.std.proofs.lemmas.List.Kept.{AllPairs-cons}
use Rattle.net_model.specs.declared.parts.Route.{Route}
use Rattle.net_model.specs.NetworkRules.{same_route}
use Rattle.net_model.specs.NetworkJudging.{stands_before}
use Rattle.net_model.proofs.PublicLaws.{contains_none, contains_cases, contains_first, contains_later}
use Rattle.shortest_paths.specs.declared.routes.Route as path
use Rattle.planned_routes.specs.declared.destination.Destination.{Destination}
use Rattle.planned_routes.specs.Entering.{entry, entries, entering}
use Rattle.planned_routes.proofs.SameRoutes.{IsSame, same_self, stands_means, stands_not}

-- ---- what enters

pub entering_new : (there rs : List Route) (r : Route) → Contains (entering there rs) r
    → Contains rs r × ((q : Route) → Contains there q → same_route q r ≡ false)
entering_new there [] r c = absurd (contains_none r c)
entering_new there (x ∷ rs) r c = elim (cases_Bool (stands_before same_route there x)) [
  | inl stood ↦ let more = entering_new there rs r (rw stood at c) in (contains_later x rs r more.0, more.1)
  | inr new ↦ elim (contains_cases x (entering (there ++ x ∷ []) rs) r (rw new at c)) [
    | inl is ↦ (
      subst (λ (s : Route). Contains (x ∷ rs) s) is (contains_first x rs),
      λ q among. subst (λ (s : Route). same_route q s ≡ false) is (stands_not there x q new among),
    )
    | inr later ↦
        let more = entering_new (there ++ x ∷ []) rs r later in
        (contains_later x rs r more.0, λ q among. more.1 q (Contains-append_left there (x ∷ []) q among))
  ]
]

pub entering_apart : (there rs : List Route) → AllPairs (λ q r. same_route q r ≡ false) (entering there rs)
entering_apart there [] = λ i j d less low. absurd (omega (arith, low))
entering_apart there (x ∷ rs) = elim (cases_Bool (stands_before same_route there x)) [
  | inl stood ↦ rw stood (entering_apart there rs)
  | inr new ↦ rw new (AllPairs-cons (λ q r. same_route q r ≡ false) x (entering (there ++ x ∷ []) rs)
      (λ k d low. (entering_new (there ++ x ∷ []) rs (get_or (entering (there ++ x ∷ []) rs) k d)
      (Contains-get_or (entering (there ++ x ∷ []) rs) k d low)).1 x (Contains-push there x))
      (entering_apart (there ++ x ∷ []) rs))
]

abbrev Stands : List Route → Route → Type 0
Stands routes r = (s : Route) × Contains routes s × IsSame s r

pub entering_all : (there rs : List Route) (r : Route) → Contains rs r → Stands (there ++ entering there rs) r
entering_all there [] r c = absurd (contains_none r c)
entering_all there (x ∷ rs) r c = elim (cases_Bool (stands_before same_route there x)) [
  | inl stood ↦ rw stood (elim (contains_cases x rs r c) [
    | inl is ↦
        let before = stands_means there x stood in (
          before.0,
          Contains-append_left there (entering there rs) before.0 before.1,
          subst (λ (s : Route). IsSame before.0 s) is before.2,
        )
    | inr later ↦ entering_all there rs r later
  ])
  | inr new ↦ rw new (elim (contains_cases x rs r c) [
    | inl is ↦ (
      x,
      Contains-append_right there (x ∷ entering (there ++ x ∷ []) rs) x (contains_first x (entering (there ++ x ∷ []) rs)),
      subst (λ (s : Route). IsSame x s) is (same_self x),
    )
    | inr later ↦
        subst (λ (all : List Route). Stands all r) (append_assoc there (x ∷ []) (entering (there ++ x ∷ []) rs))
        (entering_all (there ++ x ∷ []) rs r later)
  ])
]

-- ---- entries of routes

module _ (destinations : List Destination) where
  abbrev Means : List path.Route → Route → Type 0
  Means routes e =
      (route : path.Route) × (d : Destination) × Contains routes route × (slice_get destinations route.destination ≡ Some d)
      × (entry d route ≡ e)

  means_later : (x : path.Route) (routes : List path.Route) (e : Route) → Means routes e → Means (x ∷ routes) e
  means_later x routes e means = (means.0, means.1, contains_later x routes means.0 means.2, means.3, means.4)

  means_more : (x : path.Route) (routes : List path.Route) (e : Route) (o : Option Destination)
      → slice_get destinations x.destination ≡ o → Contains (entries destinations (x ∷ routes)) e
      → (Contains (entries destinations routes) e → Means routes e) → Means (x ∷ routes) e
  means_more x routes e None none c more = means_later x routes e (more (rw none at c))
  means_more x routes e (Some d) here c more = elim (contains_cases (entry d x) (entries destinations routes) e (rw here at c)) [
    | inl is ↦ (x, d, contains_first x routes, here, is)
    | inr among ↦ means_later x routes e (more among)
  ]

  pub entries_mean : (routes : List path.Route) (e : Route) → Contains (entries destinations routes) e → Means routes e
  entries_mean [] e c = absurd (contains_none e c)
  entries_mean (x ∷ routes) e c =
      means_more x routes e (slice_get destinations x.destination) refl c (entries_mean routes e)

  pub entry_there : (routes : List path.Route) (route : path.Route) (d : Destination) → Contains routes route
      → slice_get destinations route.destination ≡ Some d → Contains (entries destinations routes) (entry d route)
  entry_there [] route d c here = absurd (contains_none route c)
  entry_there (x ∷ routes) route d c here = elim (contains_cases x routes route c) [
    | inl is ↦
        let at_x : slice_get destinations x.destination ≡ Some d
        = ap (λ (r : path.Route). slice_get destinations r.destination) is ∙ here in
        subst (λ (r : path.Route). Contains (entries destinations (x ∷ routes)) (entry d r)) is
        (rw at_x (contains_first (entry d x) (entries destinations routes)))
    | inr later ↦ behind (slice_get destinations x.destination) refl (entry_there routes route d later here)
  ]
    where
      behind : (o : Option Destination) → slice_get destinations x.destination ≡ o → Contains (entries destinations routes) (entry d route)
          → Contains (entries destinations (x ∷ routes)) (entry d route)
      behind None none among = rw none among
      behind (Some other) is among = rw is (contains_later (entry other x) (entries destinations routes) (entry d route) among)
