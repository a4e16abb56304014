-- Need not be believed: helps proofs and other laws.
-- Terms beside those of `specs/Way.antt`.
use Rattle.std.specs.Prelude.{◌≡◌, ℕ, ◌<◌, length, slice_get, Some}
use Rattle.srv6_rules.specs.declared.sid.SidEntry.{SidEntry}
use Rattle.net_model.specs.declared.parts.Route.{Route}
use Rattle.net_model.specs.declared.net.Hit.{Hit}
use Rattle.net_model.specs.declared.net.Hit.TheVariants as hits
use Rattle.net_model.specs.Network.{Network}
use Rattle.net_model.specs.NetworkKeeps.{IsLinkSet}
use Rattle.walk_rules.specs.declared.way.Way as found
use Rattle.walk_rules.specs.declared.way.Way.TheVariants as ways
use Rattle.walk_rules.specs.Way.{Way, NoWay, Over, Own, Into}

-- SID n is there, and stands at the node
pub record StandsAt (net : Network) (node n : ℕ) : Type 0 where
  pub within : n < length net.sids
  pub sid : SidEntry
  pub is_there : slice_get net.sids n ≡ Some sid
  pub stands : sid.node ≡ node

-- route n is there, and is the node's
pub record IsRouteOf (net : Network) (node n : ℕ) : Type 0 where
  pub within : n < length net.routes
  pub route : Route
  pub is_there : slice_get net.routes n ≡ Some route
  pub stands : route.node ≡ node

-- a hit's number is one of the network's
abbrev pub IsNumbered : Network → Hit → Type 0
IsNumbered net (hits.Sid n) = n < length net.sids
IsNumbered net hits.Address = Unit {0}
IsNumbered net (hits.Route n) = n < length net.routes
IsNumbered net hits.Nothing = Unit {0}

-- what is hit is there, and the node's
abbrev pub IsThere : Network → ℕ → Hit → Type 0
IsThere net node (hits.Sid n) = StandsAt net node n
IsThere net node hits.Address = Unit {0}
IsThere net node (hits.Route n) = IsRouteOf net node n
IsThere net node hits.Nothing = Unit {0}

-- where a way leads is there: the links that it goes over are a set of the node's, and its SID stands at the node
abbrev pub IsWayFrom : Network → ℕ → Way → Type 0
IsWayFrom net node (NoWay reason) = Unit {0}
IsWayFrom net node (Over set lower) = IsLinkSet net.links node set
IsWayFrom net node Own = Unit {0}
IsWayFrom net node (Into n) = StandsAt net node n

-- the way that was found
abbrev pub way_in : found.Way → Way
way_in (ways.NoWay reason) = NoWay reason
way_in (ways.Over links lower) = Over links.now lower
way_in ways.Own = Own
way_in (ways.Into n) = Into n
