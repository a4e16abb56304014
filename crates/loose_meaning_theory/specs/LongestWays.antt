-- Need not be believed: helps proofs and other laws.
-- Longest ways: choices with which each leg lowers the hop limit by its greatest number.
use Rattle.std.specs.Prelude.{ℕ, ◌*◌, ◌<◌, ◌≤◌, List, [], length, slice_index, All, Option, Some, None}
use Rattle.srv6_rules.specs.Packet.{Packet, Content, V6, V4, Unreadable}
use Rattle.net_model.specs.Network.{Network}
use Rattle.walk_rules.specs.declared.place.Place.{Place}
use Rattle.walk_rules.specs.declared.place.Outcome.{Outcome}
use Rattle.walk_rules.specs.declared.place.Outcome.TheVariants as outcomes
use Rattle.walk_rules.specs.Walk.{Stage, free_walk_of}
use Rattle.walk_rules.specs.Way.{Way, NoWay, Over, Own, Into, way_of}
use Rattle.intent_reader.specs.declared.intent.Intent.{Intent}
use Rattle.choice_graph.specs.declared.vertices.Found.{Found}
use Rattle.choice_graph.specs.FoundInGraphs.{found_at}
use Rattle.loose_walks.specs.WayGraphsTerms.{node_behind, nodes_in}
use Rattle.leg_table.specs.StrictLegs.{place_from}

-- how often a hop limit is lowered on the way from behind a link to the first SID, at most: whatever the steps say, since they change no
-- next hop. Where nothing is found, 0 stands for it
abbrev pub most_of : Option Found → ℕ
most_of None = 0
most_of (Some f) = f.most

abbrev pub most_behind : Network → ℕ → ℕ → ℕ
most_behind net destination link = most_of (found_at (nodes_in net destination) (node_behind net link))

-- no link of a set has more lowerings behind it than this one
abbrev pub HasMost : Network → ℕ → List ℕ → ℕ → Type 0
HasMost net destination set link =
    (place : ℕ) → place < length set → most_behind net destination (slice_index set place) ≤ most_behind net destination link

-- the links over which a way leads
abbrev pub links_of : Way → List ℕ
links_of (NoWay reason) = []
links_of (Over set lower) = set
links_of Own = []
links_of (Into n) = []

-- a link over which a packet goes from a place has most of those over which it may go
abbrev pub HasMostFrom : Network → Place → ℕ → Content → Type 0
HasMostFrom net place link (V6 p) = HasMost net p.destination (links_of (way_of net place p.destination)) link
HasMostFrom net place link (V4 p) = Unit {0}
HasMostFrom net place link (Unreadable bytes reason) = Unit {0}

abbrev pub TakesMost : Network → Stage → Outcome → Type 0
TakesMost net s (outcomes.Send link) = HasMostFrom net s.place link s.before
TakesMost net s (outcomes.Again n how) = Unit {0}
TakesMost net s (outcomes.Hand n how family) = Unit {0}
TakesMost net s outcomes.Local = Unit {0}
TakesMost net s (outcomes.Drop reason error) = Unit {0}

-- in each stage of a walk the link that is taken has most
abbrev pub AreLongest : Network → List Stage → Type 0
AreLongest net ss = All (λ (s : Stage). TakesMost net s s.gave.outcome) ss

-- so it is from where a packet goes on after the SID that was executed last, or from the headend where none was, in as many stages as it
-- has before its hop limit is used up: an execution lowers it, and of the links between two of them each but the first
abbrev pub Longest : Network → Intent → Option ℕ → Packet → (ℕ → ℕ) → ℕ → Type 0
Longest net intent via p pick taken =
    AreLongest net (free_walk_of (2 * p.hop_limit) net (place_from net intent via) (V6 p) pick taken)
