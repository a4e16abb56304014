-- What the laws about stages and walks say, in words.
use Rattle.std.specs.Prelude.{ℕ, List, []}
use Rattle.srv6_rules.specs.Packet.{Content, V6, V4, Unreadable}
use Rattle.srv6_rules.specs.Packet4.{destination4}
use Rattle.net_model.specs.Network.{Network}
use Rattle.walk_rules.specs.declared.place.Place.{Place}
use Rattle.walk_rules.specs.Way.{Way, NoWay, Over, Own, Into, way_of}

-- the set of equal next hops over which a way goes; none where it goes over no links
abbrev pub set_of : Way → List ℕ
set_of (NoWay reason) = []
set_of (Over set lower) = set
set_of Own = []
set_of (Into n) = []

-- the set of equal next hops of a stage
abbrev pub hops_at : Network → Place → Content → List ℕ
hops_at net place (V6 p) = set_of (way_of net place p.destination)
hops_at net place (V4 p) = set_of (way_of net place (destination4 p))
hops_at net place (Unreadable bytes reason) = []
