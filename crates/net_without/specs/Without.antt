-- A network in which some links are down, and with some nodes all links from and to them.
use Rattle.std.specs.Prelude.{ℕ, Bool, true, false, ◌||◌, not, List, [], ◌∷◌, map, slice_get, Option, None, Some}
use Rattle.std.specs.List.{filter, filter_map, list_any}
use Rattle.srv6_rules.specs.declared.sid.SidEntry.{SidEntry}
use Rattle.net_model.specs.declared.parts.Link.{Link}
use Rattle.net_model.specs.declared.parts.Route.{Route}
use Rattle.net_model.specs.Network.{Network}
use Rattle.net_model.specs.NetworkRules.{same_number}
use Rattle.net_model.specs.NetworkJudging.{title_text}
use Rattle.update_spec.specs.Joined.{numbered}

abbrev pub is_among : List ℕ → ℕ → Bool
is_among numbers n = list_any (same_number n) numbers

abbrev pub ends_among : List ℕ → Option ℕ → Bool
ends_among nodes None = false
ends_among nodes (Some to) = is_among nodes to

-- of these links and nodes the link, with its number, is none, and it starts and ends at none
abbrev pub is_up_link : List ℕ → List ℕ → ℕ → Link → Bool
is_up_link links nodes n l = not (is_among links n || (is_among nodes l.from || ends_among nodes l.to))

-- a link is up that is there and isn't down
abbrev pub is_up_there : List ℕ → List ℕ → ℕ → Option Link → Bool
is_up_there links nodes n None = false
is_up_there links nodes n (Some l) = is_up_link links nodes n l

abbrev pub is_up : Network → List ℕ → List ℕ → ℕ → Bool
is_up net links nodes n = is_up_there links nodes n (slice_get net.links n)

-- a set of links stays where it is empty, or a link of it is up
abbrev pub is_left : (ℕ → Bool) → List ℕ → Bool
is_left up [] = true
is_left up (n ∷ set) = list_any up (n ∷ set)

abbrev pub is_left_route : (ℕ → Bool) → Route → Bool
is_left_route up r = is_left up r.via

abbrev pub is_left_sid : (ℕ → Bool) → SidEntry → Bool
is_left_sid up s = is_left up s.links

-- routes and SIDs that stay, in their order, with those of their links that are up, in theirs
abbrev pub cut_route : (ℕ → Bool) → Route → Route
cut_route up r = record r { via = filter up r.via }

abbrev pub cut_sid : (ℕ → Bool) → SidEntry → SidEntry
cut_sid up s = record s { links = filter up s.links }

abbrev pub left_routes : (ℕ → Bool) → List Route → List Route
left_routes up routes = map (cut_route up) (filter (is_left_route up) routes)

abbrev pub left_sids : (ℕ → Bool) → List SidEntry → List SidEntry
left_sids up sids = map (cut_sid up) (filter (is_left_sid up) sids)

-- by which links are up: blocks, nodes, links and policies stay; titles are those of the SIDs that stay, numbered in their order
abbrev pub network_left : (ℕ → Bool) → Network → Network
network_left up net = record net {
  routes = left_routes up net.routes;
  titles = filter_map (title_text net.titles) (left_sids up net.sids);
  sids = numbered net.titles 0 (left_sids up net.sids);
  hidden = [];
}

abbrev pub without_of : Network → List ℕ → List ℕ → Network
without_of net links nodes = network_left (is_up net links nodes) net
