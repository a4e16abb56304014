-- Where a packet goes from a place, by its destination alone.
use Rattle.std.specs.Prelude.{ℕ, Bool, true, false, if◌then◌else◌, List, [], slice_get, Option, Some, None}
pub use Rattle.v6_addr.specs.AddressKinds.{is_multicast}
use Rattle.srv6_rules.specs.declared.family.Family.{Family}
use Rattle.srv6_rules.specs.declared.family.Family.TheVariants as families
use Rattle.srv6_rules.specs.declared.reason.Reason.{Reason}
use Rattle.srv6_rules.specs.declared.reason.Reason.TheVariants as reasons
use Rattle.srv6_rules.specs.declared.sid.SidEntry.{SidEntry}
use Rattle.net_model.specs.declared.parts.Route.{Route}
use Rattle.net_model.specs.declared.net.Hit.{Hit}
use Rattle.net_model.specs.declared.net.Hit.TheVariants as hits
use Rattle.net_model.specs.Network.{Network}
use Rattle.net_model.specs.Best.{lookup_of}
use Rattle.walk_rules.specs.declared.place.How.{How}
use Rattle.walk_rules.specs.declared.place.How.TheVariants.{Arrived, Submitted, Through}
use Rattle.walk_rules.specs.declared.place.Place.{Place}

-- where a packet to a destination goes from a place: away, for a reason; over one of a set of links, with its hop
-- limit lowered or not; to the node's own address; or into a SID
pub data Way : Type 0 where
  NoWay : Reason → Way
  Over : List ℕ → Bool → Way
  Own : Way
  Into : ℕ → Way

abbrev pub route_links : Option Route → List ℕ
route_links None = []
route_links (Some r) = r.via

abbrev pub sid_links : Option SidEntry → List ℕ
sid_links None = []
sid_links (Some s) = s.links

-- the way that a hit gives; only a route lowers the hop limit
abbrev pub way_by_hit : Network → Bool → Hit → Way
way_by_hit net lower (hits.Sid n) = Into n
way_by_hit net lower hits.Address = Own
way_by_hit net lower (hits.Route n) = Over (route_links (slice_get net.routes n)) lower
way_by_hit net lower hits.Nothing = NoWay reasons.NoRoute

-- an IPv6 destination that is multicast (RFC 4291 section 2.7); those of IPv4 are not told apart
abbrev pub is_multicast_of : Family → ℕ → Bool
is_multicast_of families.V6 destination = is_multicast destination
is_multicast_of families.V4 destination = false

-- the way by a look-up in a table for packets of a family; a multicast destination has none
abbrev pub way_by_table : Network → ℕ → ℕ → Family → Bool → ℕ → Way
way_by_table net node table family lower destination =
    if is_multicast_of family destination then NoWay reasons.Multicast
    else way_by_hit net lower (lookup_of net node table family destination)

abbrev pub way_by : Network → ℕ → How → Family → ℕ → Way
way_by net node (Arrived table) family destination = way_by_table net node table family true destination
way_by net node (Submitted table) family destination = way_by_table net node table family false destination
way_by net node (Through sid lower) family destination = Over (sid_links (slice_get net.sids sid)) lower

unfoldable pub way_of : Network → Place → ℕ → Way
way_of net place destination = way_by net place.node place.how place.family destination
