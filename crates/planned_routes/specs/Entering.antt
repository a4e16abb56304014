-- Need not be believed: helps proofs and other laws.
-- Routes that enter one after the other, where none of their node, table and prefix is there.
use Rattle.std.specs.Prelude.{if◌then◌else◌, List, [], ◌∷◌, ◌++◌, slice_get, Option}
use Rattle.std.specs.List.{filter_map}
use Rattle.std.specs.Option.{option_map}
use Rattle.net_model.specs.declared.parts.Route.{Route}
use Rattle.net_model.specs.NetworkRules.{same_route}
use Rattle.net_model.specs.NetworkJudging.{stands_before}
use Rattle.shortest_paths.specs.declared.routes.Route as path
use Rattle.planned_routes.specs.declared.destination.Destination.{Destination}

-- a route of shortest paths as an entry of a table
abbrev pub entry : Destination → path.Route → Route
entry d r = record { node = r.node; table = d.table; family = d.family; prefix = d.prefix; via = r.via }

-- the entries of routes to destinations by their numbers
abbrev pub entry_of : List Destination → path.Route → Option Route
entry_of destinations r = option_map (λ d. entry d r) (slice_get destinations r.destination)

abbrev pub entries : List Destination → List path.Route → List Route
entries destinations routes = filter_map (entry_of destinations) routes

-- of routes those that are not the same as one there or before
abbrev pub entering : List Route → List Route → List Route
entering there [] = []
entering there (r ∷ rs) = if stands_before same_route there r then entering there rs else r ∷ entering (there ++ r ∷ []) rs
