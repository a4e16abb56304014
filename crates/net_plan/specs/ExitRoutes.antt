-- Need not be believed: no program stands on it yet.
-- The routes by which nodes send to their sites; over several links to one prefix they are equal next hops.
use Rattle.std.specs.Prelude.{ℕ, Bool, ◌==◌, ◌&&◌, ◌||◌, not, if◌then◌else◌, List, [], ◌∷◌, ◌++◌}
use Rattle.net_model.specs.declared.parts.Route.{Route}
use Rattle.net_model.specs.NetworkRules.{same_route}
use Rattle.net_model.specs.NetworkJudging.{stands_before}
use Rattle.net_without.specs.Without.{is_among}
use Rattle.planned_routes.specs.Owners.{same_key}
use Rattle.net_plan.specs.declared.exits.Exit.{Exit}

-- at one node, in one table, to one prefix
abbrev pub same_exit : Exit → Exit → Bool
same_exit e f = (e.at.node == f.at.node) && same_key e.at f.at

-- each link once
abbrev pub with_link : Exit → List ℕ → Exit → List ℕ
with_link e via f = if same_exit e f && not (is_among via f.link) then via ++ f.link ∷ [] else via

abbrev pub links_from : Exit → List ℕ → List Exit → List ℕ
links_from e via [] = via
links_from e via (f ∷ fs) = links_from e (with_link e via f) fs

abbrev pub exit_route : List Exit → Exit → Route
exit_route exits e = record {
  node = e.at.node;
  table = e.at.table;
  family = e.at.family;
  prefix = e.at.prefix;
  via = links_from e [] exits;
}

-- of exits, some of which stand before; none where a route of its node, table and prefix is there
abbrev pub routes_out : List Exit → List Route → List Exit → List Exit → List Route
routes_out exits there before [] = []
routes_out exits there before (e ∷ es) =
    if stands_before same_exit before e || stands_before same_route there (exit_route exits e)
    then routes_out exits there (before ++ e ∷ []) es
    else exit_route exits e ∷ routes_out exits there (before ++ e ∷ []) es
