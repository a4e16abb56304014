-- Lists that loops make, one step on.
use Rattle.std.proofs.Common.{◌≡◌, ℕ, ◌+◌, ◌<◌, true, false, List, [], ◌∷◌, ◌++◌, length, drop, take, get_or, Option, Some, slice_get, refl, sym, ◌∙◌, ap}
use Rattle.std.proofs.lemmas.List.{append_assoc, drop_more, take_more}
use Rattle.net_model.specs.declared.parts.Link.{Link}
use Rattle.net_model.specs.declared.parts.Route.{Route}
use Rattle.net_model.specs.NetworkRules.{same_route}
use Rattle.net_model.specs.NetworkJudging.{stands_before}
use Rattle.shortest_paths.specs.declared.routes.Route as way
use Rattle.planned_routes.specs.declared.destination.Destination.{Destination}
use Rattle.planned_routes.specs.declared.owners.Owner.{Owner}
use Rattle.planned_routes.specs.PlannedRoutes.{metric_at, weighed, weighed_from}
use Rattle.planned_routes.specs.Owners.{same_key}
use Rattle.planned_routes.specs.Grouping.{nodes_with, destination_of, grouped}
use Rattle.planned_routes.specs.Entering.{entry, entries, entering}

-- one more member of what is wanted
pub one_more : {X : Type 0} (xs ys zs : List X) (x : X) → ys ≡ x ∷ zs → (xs ++ x ∷ []) ++ zs ≡ xs ++ ys
one_more xs ys zs x e = append_assoc xs (x ∷ []) zs ∙ ap (λ ws. xs ++ ws) (sym e)

pub weighed_more : (metrics : List (Option ℕ)) (links : List Link) (n : ℕ) (d : Link) → n < length links
    → weighed_from n metrics (drop n links) ≡ weighed (get_or links n d) (metric_at metrics n) ∷ weighed_from (n + 1) metrics (drop (n + 1) links)
weighed_more metrics links n d low = ap (weighed_from n metrics) (drop_more links n d low)

module _ (owners : List Owner) (i : ℕ) (o : Owner) (low : i < length owners) (is : get_or owners i o ≡ o) where
  front : drop i owners ≡ o ∷ drop (i + 1) owners
  front = drop_more owners i o low ∙ ap (λ x. x ∷ drop (i + 1) owners) is

  pub nodes_yes : (key : Owner) → same_key key o ≡ true → nodes_with (drop i owners) key ≡ o.node ∷ nodes_with (drop (i + 1) owners) key
  nodes_yes key same = ap (λ os. nodes_with os key) front ∙ rw same refl

  pub nodes_no : (key : Owner) → same_key key o ≡ false → nodes_with (drop i owners) key ≡ nodes_with (drop (i + 1) owners) key
  nodes_no key apart = ap (λ os. nodes_with os key) front ∙ rw apart refl

  behind : take i owners ++ o ∷ [] ≡ take (i + 1) owners
  behind = sym (take_more owners i o low ∙ ap (λ x. take i owners ++ x ∷ []) is)

  pub group_new : (all : List Owner) → stands_before same_key (take i owners) o ≡ false
      → grouped all (take i owners) (drop i owners) ≡ destination_of all o ∷ grouped all (take (i + 1) owners) (drop (i + 1) owners)
  group_new all new =
      ap (grouped all (take i owners)) front
      ∙ (rw new (ap (λ before. destination_of all o ∷ grouped all before (drop (i + 1) owners)) behind))

  pub group_old : (all : List Owner) → stands_before same_key (take i owners) o ≡ true
      → grouped all (take i owners) (drop i owners) ≡ grouped all (take (i + 1) owners) (drop (i + 1) owners)
  group_old all old =
      ap (grouped all (take i owners)) front ∙ (rw old (ap (λ before. grouped all before (drop (i + 1) owners)) behind))

-- ---- routes that enter

pub entries_more : (destinations : List Destination) (routes : List way.Route) (i : ℕ) (r : way.Route) (d : Destination)
    → i < length routes → get_or routes i r ≡ r → slice_get destinations r.destination ≡ Some d
    → entries destinations (drop i routes) ≡ entry d r ∷ entries destinations (drop (i + 1) routes)
entries_more destinations routes i r d low is here =
    ap (entries destinations) (drop_more routes i r low ∙ ap (λ x. x ∷ drop (i + 1) routes) is) ∙ rw here refl

pub enters_new : (there new es more : List Route) (e : Route) → es ≡ e ∷ more → stands_before same_route (there ++ new) e ≡ false
    → (new ++ e ∷ []) ++ entering (there ++ (new ++ e ∷ [])) more ≡ new ++ entering (there ++ new) es
enters_new there new es more e is apart =
    one_more new (entering (there ++ new) es) (entering (there ++ (new ++ e ∷ [])) more) e
    (ap (entering (there ++ new)) is
    ∙ (rw apart (ap (λ seen. e ∷ entering seen more) (append_assoc there new (e ∷ [])))))

pub enters_not : (there new es more : List Route) (e : Route) → es ≡ e ∷ more → stands_before same_route (there ++ new) e ≡ true
    → entering (there ++ new) more ≡ entering (there ++ new) es
enters_not there new es more e is stood = sym (ap (entering (there ++ new)) is ∙ rw stood refl)
