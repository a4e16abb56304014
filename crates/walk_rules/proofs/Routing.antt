-- Ways lead to what is there: links of the node, and SIDs that stand at it.
use Rattle.std.proofs.Common.{◌≡◌, ℕ, ◌<◌, Bool, true, false, if◌then◌else◌, List, [], length, Option, Some, None, slice_get, refl, sym, subst, ap, arith}
use Rattle.std.specs.Prelude.{MatchBool}
use Rattle.srv6_rules.specs.Behaviours.{behaviour_takes_links}
use Rattle.srv6_rules.specs.declared.family.Family.{Family}
use Rattle.srv6_rules.specs.declared.reason.Reason.TheVariants as reasons
use Rattle.srv6_rules.specs.declared.sid.SidEntry.{SidEntry}
use Rattle.net_model.specs.declared.parts.Link.{Link}
use Rattle.net_model.specs.declared.net.Hit.{Hit}
use Rattle.net_model.specs.declared.net.Hit.TheVariants as hits
use Rattle.net_model.specs.Network.{Network}
use Rattle.net_model.specs.Best.{lookup_of}
use Rattle.net_model.specs.NetworkKeeps.{Keeps, IsLinkSet}
use Rattle.walk_rules.specs.declared.place.How.{How}
use Rattle.walk_rules.specs.declared.place.How.TheVariants.{Arrived, Submitted, Through}
use Rattle.walk_rules.specs.declared.place.Place.{Place}
use Rattle.walk_rules.specs.Way.{Way, NoWay, Over, Own, Into, is_multicast_of, route_links, sid_links, way_by_hit, way_by_table, way_by, way_of}
use Rattle.walk_rules.specs.WayTerms.{StandsAt, IsRouteOf, IsThere, IsWayFrom}
use Rattle.walk_rules.specs.Relation.{IsThrough, IsHow}
use Rattle.walk_rules.proofs.LookupHits.{lookup_there}

-- the SID that a way leads into stands at the node, whether the network keeps the rules or not
abbrev pub IntoStands : Network → ℕ → Way → Type 0
IntoStands net node (NoWay reason) = Unit {0}
IntoStands net node (Over set lower) = Unit {0}
IntoStands net node Own = Unit {0}
IntoStands net node (Into n) = StandsAt net node n

hit_stands : (net : Network) (node : ℕ) (lower : Bool) (h : Hit) → IsThere net node h → IntoStands net node (way_by_hit net lower h)
hit_stands net node lower (hits.Sid n) there = there
hit_stands net node lower hits.Address there = tt
hit_stands net node lower (hits.Route n) there = tt
hit_stands net node lower hits.Nothing there = tt

-- what holds of the way that a hit gives, and of no way to a multicast address, holds of a look-up's way
by_table : (P : Way → Type 0) (net : Network) (node table : ℕ) (family : Family) (lower : Bool) (a : ℕ) → P (NoWay reasons.Multicast)
    → P (way_by_hit net lower (lookup_of net node table family a)) → P (way_by_table net node table family lower a)
by_table P net node table family lower a away hit = by_test (is_multicast_of family a)
  where
    by_test : (t : Bool) → P (if t then NoWay reasons.Multicast else way_by_hit net lower (lookup_of net node table family a))
    by_test true = away
    by_test false = hit

table_stands : (net : Network) (node table : ℕ) (family : Family) (lower : Bool) (a : ℕ)
    → IntoStands net node (way_by_table net node table family lower a)
table_stands net node table family lower a =
    by_table (IntoStands net node) net node table family lower a tt
    (hit_stands net node lower (lookup_of net node table family a) (lookup_there net node table family a))

how_stands : (net : Network) (node : ℕ) (how : How) (family : Family) (a : ℕ) → IntoStands net node (way_by net node how family a)
how_stands net node (Arrived table) family a = table_stands net node table family true a
how_stands net node (Submitted table) family a = table_stands net node table family false a
how_stands net node (Through sid lower) family a = tt

pub way_stands : (net : Network) (place : Place) (a : ℕ) → IntoStands net place.node (way_of net place a)
unfolding way_of
way_stands net place a = how_stands net place.node place.how place.family a

-- the links of a route that is there
route_set : (net : Network) (node n : ℕ) → Keeps net → IsRouteOf net node n
    → IsLinkSet net.links node (route_links (slice_get net.routes n))
route_set net node n keeps at =
    let links : IsLinkSet net.links node at.route.via =
    subst (λ (m : ℕ). IsLinkSet net.links m at.route.via) at.stands ((keeps.route n at.route at.is_there).via) in
    rw at.is_there links

hit_from : (net : Network) (node : ℕ) (lower : Bool) → Keeps net → (h : Hit) → IsThere net node h
    → IsWayFrom net node (way_by_hit net lower h)
hit_from net node lower keeps (hits.Sid n) there = there
hit_from net node lower keeps hits.Address there = tt
hit_from net node lower keeps (hits.Route n) there = route_set net node n keeps there
hit_from net node lower keeps hits.Nothing there = tt

table_from : (net : Network) (node table : ℕ) (family : Family) (lower : Bool) (a : ℕ) → Keeps net
    → IsWayFrom net node (way_by_table net node table family lower a)
table_from net node table family lower a keeps =
    by_table (IsWayFrom net node) net node table family lower a tt
    (hit_from net node lower keeps (lookup_of net node table family a) (lookup_there net node table family a))

-- a SID with links takes them
suited_set : (links : List Link) (node : ℕ) (takes : Bool) (set : List ℕ) → 0 < length set
    → MatchBool takes (IsLinkSet links node set) (set ≡ []) → IsLinkSet links node set
suited_set links node true set some suits = suits
suited_set links node false set some suits = absurd (omega (arith, some, ap length suits))

through_set : (net : Network) (node n : ℕ) → Keeps net → (o : Option SidEntry) → slice_get net.sids n ≡ o → IsThrough node o
    → IsLinkSet net.links node (sid_links o)
through_set net node n keeps None e there = absurd there
through_set net node n keeps (Some s) e there =
    let P : ℕ → Type 0 = λ m. IsLinkSet net.links m s.links in
    subst P there.0 (suited_set net.links s.node (behaviour_takes_links s.behaviour) s.links there.1 (keeps.sid n s e).behaviour.links)

how_from : (net : Network) (node : ℕ) (how : How) (family : Family) (a : ℕ) → Keeps net → IsHow net node how
    → IsWayFrom net node (way_by net node how family a)
how_from net node (Arrived table) family a keeps is = table_from net node table family true a keeps
how_from net node (Submitted table) family a keeps is = table_from net node table family false a keeps
how_from net node (Through sid lower) family a keeps is = through_set net node sid keeps (slice_get net.sids sid) refl is

-- from a place the links of a way are a set of the node's, and its SID stands at the node
pub way_from : (net : Network) (place : Place) (a : ℕ) → Keeps net → IsHow net place.node place.how
    → IsWayFrom net place.node (way_of net place a)
unfolding way_of
way_from net place a keeps is = how_from net place.node place.how place.family a keeps is

pub way_into : (net : Network) (place : Place) (a n : ℕ) → way_of net place a ≡ Into n → StandsAt net place.node n
way_into net place a n e = subst (IntoStands net place.node) e (way_stands net place a)

-- the same of a way that was found to be this one
pub found_from : (net : Network) (place : Place) (a : ℕ) (w : Way) → Keeps net → IsHow net place.node place.how
    → w ≡ way_of net place a → IsWayFrom net place.node w
found_from net place a w keeps is e = subst (IsWayFrom net place.node) (sym e) (way_from net place a keeps is)
