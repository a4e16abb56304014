-- Need not be believed: helps proofs and other laws.
-- The nodes that have prefixes, grouped by them.
use Rattle.std.specs.Prelude.{ℕ, if◌then◌else◌, List, [], ◌∷◌, ◌++◌, Option, Some, None}
use Rattle.std.specs.List.{filter_map}
use Rattle.net_model.specs.NetworkJudging.{stands_before}
use Rattle.planned_routes.specs.declared.destination.Destination.{Destination}
use Rattle.planned_routes.specs.declared.owners.Owner.{Owner}
use Rattle.planned_routes.specs.Owners.{same_key}

abbrev pub node_with : Owner → Owner → Option ℕ
node_with key owner = if same_key key owner then Some owner.node else None

abbrev pub nodes_with : List Owner → Owner → List ℕ
nodes_with owners key = filter_map (node_with key) owners

abbrev pub destination_of : List Owner → Owner → Destination
destination_of owners o = record { table = o.table; family = o.family; prefix = o.prefix; nodes = nodes_with owners o }

-- a destination for each of the rest that none before has the prefix of
abbrev pub grouped : List Owner → List Owner → List Owner → List Destination
grouped owners before [] = []
grouped owners before (o ∷ rest) =
    if stands_before same_key before o then grouped owners (before ++ o ∷ []) rest
    else destination_of owners o ∷ grouped owners (before ++ o ∷ []) rest
