-- Need not be believed: no program stands on it yet.
-- A network with the routes of a plan, over the links that are up.
use Rattle.std.specs.Prelude.{◌≡◌, ℕ, ◌+◌, List, [], ◌∷◌, ◌++◌, Result, Ok, Err}
use Rattle.text_faults.specs.declared.text_place.TableKind.TheVariants as tables
use Rattle.text_faults.specs.declared.text_place.Key.TheVariants as keys
use Rattle.text_faults.specs.declared.fault.TextFault.{TextFault}
use Rattle.text_faults.specs.declared.fault.OrNoMemory.{OrNoMemory}
use Rattle.text_faults.specs.declared.fault.OrNoMemory.TheVariants.{Fault}
use Rattle.net_model.specs.declared.limits.TheConstants.{MAX_ROUTES, MAX_LINKS_OF_SET}
use Rattle.net_model.specs.declared.parts.Route.{Route}
use Rattle.net_model.specs.Network.{Network}
use Rattle.net_model.specs.NetworkJudging.{judging}
use Rattle.toml_reader.specs.TomlReading.{◌>>=◌}
use Rattle.toml_reader.specs.Tree.{few}
use Rattle.plan_syntax.specs.declared.plan_table.DescribedPlan.{DescribedPlan}
use Rattle.planned_routes.specs.PlannedRoutes.{ArePlanned, weighed_links}
use Rattle.net_plan.specs.LinkMetrics.{metrics_of}
use Rattle.net_plan.specs.PlanOwners.{exits_of, owners_of}
use Rattle.net_plan.specs.ExitRoutes.{routes_out}

-- ---- routes, as they are judged in a description

-- none has too many equal next hops; the first has the number n
abbrev pub judge_vias : ℕ → List Route → Result (Unit {0}) TextFault
judge_vias n [] = Ok tt
judge_vias n (r ∷ rs) = do
  via ← few (record { table = tables.Route; item = n }) keys.Via MAX_LINKS_OF_SET r.via
  judge_vias (n + 1) rs

-- a network with these routes in place of its own: not too many, then their next hops, then all parts
abbrev pub with_routes : Network → List Route → Result Network TextFault
with_routes net routes = do
  all ← few (record { table = tables.Route; item = 0 }) keys.Route MAX_ROUTES routes
  short ← judge_vias 1 routes
  fine ← judging (record net { routes = routes; hidden = [] }) []
  Ok (record net { routes = routes; hidden = [] })

-- ---- a plan's routes

-- the routes that are there, and behind them those out of the network
abbrev pub routes_there : DescribedPlan → List ℕ → List ℕ → Network → List Route
routes_there plan down nodes net =
    net.routes ++ routes_out (exits_of plan down nodes net) net.routes [] (exits_of plan down nodes net)

-- the routes that are there with those of a plan behind them, where these links are down and those from and to these nodes: along
-- shortest paths over the links that are up
abbrev pub HasPlanned : DescribedPlan → List ℕ → List ℕ → Network → List Route → Type 0
HasPlanned plan down nodes net all =
    (routes : List Route)
    × ArePlanned (weighed_links (metrics_of plan down nodes net.links) net.links) (owners_of plan net (exits_of plan down nodes net))
    (routes_there plan down nodes net) routes
    × (all ≡ routes_there plan down nodes net ++ routes)

-- what a network becomes by a plan, as a description with these routes is judged
abbrev pub IsPlanned : DescribedPlan → List ℕ → List ℕ → Network → Result Network TextFault → Type 0
IsPlanned plan down nodes net wanted = (all : List Route) × HasPlanned plan down nodes net all × (wanted ≡ with_routes net all)

-- ---- results

-- a result, as it is seen, is one of those that are wanted; want of memory says nothing
abbrev pub Answers : {F X Y : Type 0} → (X → Y) → Result X (OrNoMemory F) → (Result Y F → Type 0) → Type 0
Answers see (Ok x) wanted = wanted (Ok (see x))
Answers {F = F} see (Err why) wanted = (fault : F) → why ≡ Fault fault → wanted (Err fault)
