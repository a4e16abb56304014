-- Need not be believed: helps proofs and other laws.
-- The ways from a node to all SIDs, along the steps of an intent that are left.
use Rattle.std.specs.Prelude.{◌≡◌, ℕ, ◌+◌, ◌-◌, ◌<◌, ◌≤◌, Bool, true, false, ◌==◌, if◌then◌else◌, List, [], ◌∷◌, length, take, drop, slice_get, Option, Some, None, is_some, IsTrue}
use Rattle.std.specs.Option.{option_map}
use Rattle.srv6_rules.specs.declared.family.Family.TheVariants as families
use Rattle.net_model.specs.Network.{Network}
use Rattle.walk_rules.specs.declared.place.How.{How}
use Rattle.walk_rules.specs.declared.place.How.TheVariants.{Arrived, Submitted}
use Rattle.walk_rules.specs.declared.place.Place.{Place}
use Rattle.walk_rules.specs.Way.{Way, NoWay, Over, Own, Into}
use Rattle.walk_rules.specs.Relation.{IsPlace}
use Rattle.intent_reader.specs.IntentRules.{stand_after, node_after}
use Rattle.intent_reader.specs.declared.intent.Step.{Step}
use Rattle.intent_reader.specs.declared.intent.Intent.{Intent}
use Rattle.leg_table.specs.declared.step_links.Behind.{Behind}
use Rattle.leg_table.specs.declared.transit_table.TransitTable.{TransitTable}
use Rattle.leg_table.specs.StepMatching.{left_after}
use Rattle.leg_table.specs.Transits.{one_if, all_in_step, transit_of}
use Rattle.leg_table.specs.PositionSids.{sid_address, node_at}
use Rattle.leg_table.specs.Courses.{behind_with, behind_of}

-- the way along steps from a place to a SID and its execution
abbrev pub way_along : Network → List Step → Place → ℕ → Option Behind
way_along net steps place n = behind_of net n (transit_of net (sid_address net n) steps place)

-- a packet is looked up in table 0 of a node: where it has arrived, the hop limit is lowered, where the node has made or
-- updated it, it is not
abbrev pub how_if : Bool → How
how_if true = Arrived 0
how_if false = Submitted 0

abbrev pub stand : ℕ → Bool → Place
stand node lower = record { node = node; how = how_if lower; family = families.V6 }

-- a row of ways has one for each SID, by its number
pub record AreWays (net : Network) (steps : List Step) (place : Place) (ways : List (Option Behind)) : Type 0 where
  pub count : length ways ≡ length net.sids
  pub each : (n : ℕ) → n < length net.sids → slice_get ways n ≡ Some (way_along net steps place n)

-- the ways of packets that have arrived at a node, and of those that it has made or updated
pub record IsReach (net : Network) (steps : List Step) (node : ℕ) (reach : TransitTable) : Type 0 where
  pub arrived : AreWays net steps (stand node true) reach.arrived.items
  pub submitted : AreWays net steps (stand node false) reach.submitted.items

-- the ways from each node where the walk along the steps stands, from the last one backwards
pub record AreReaches (net : Network) (node : ℕ) (steps : List Step) (reaches : List TransitTable) : Type 0 where
  pub count : length reaches ≡ length steps + 1
  pub each : (position at : ℕ) (reach : TransitTable) → position ≤ length steps → stand_after net node (take position steps) ≡ Some at
      → slice_get reaches (length steps - position) ≡ Some reach → IsReach net (drop position steps) at reach

-- the row of ways from where the first step ends
abbrev pub AreLater : Network → ℕ → List Step → List (Option Behind) → Type 0
AreLater net node [] later = Unit {0}
AreLater net node (t ∷ ts) later = (to : ℕ) → node_after net node t ≡ Some to → AreWays net ts (stand to true) later

-- a way of a row, if it is there
abbrev pub way_or_none : Option (Option Behind) → Option Behind
way_or_none None = None
way_or_none (Some way) = way

abbrev pub way_at : List (Option Behind) → ℕ → Option Behind
way_at ways n = way_or_none (slice_get ways n)

abbrev pub lowered_more : Bool → Behind → Behind
lowered_more lower b = record { left = b.left; lowered = one_if lower + b.lowered }

-- over links of the first step the way goes on as it does from where that step ends
abbrev pub way_over : List Step → List ℕ → Bool → Option Behind → Option Behind
way_over [] links lower later = None
way_over (t ∷ ts) links lower later = if all_in_step t links then option_map (lowered_more lower) later else None

-- the way to a SID by the way that a place gives, where the way from the end of the first step is known
abbrev pub way_by : Network → ℕ → List Step → Option Behind → Way → Option Behind
way_by net n steps later (NoWay reason) = None
way_by net n steps later Own = None
way_by net n steps later (Into m) = option_map (behind_with 0) (if m == n then left_after net n steps else None)
way_by net n steps later (Over links lower) = way_over steps links lower later

-- a place at the node where the walk stands at a position
pub record IsOrigin (net : Network) (intent : Intent) (position : ℕ) (place : Place) : Type 0 where
  pub is_place : IsPlace net place
  pub within : position ≤ length intent.steps
  pub stands : node_at net intent position ≡ Some place.node
  pub family : place.family ≡ families.V6
  pub rest : IsTrue (is_some (stand_after net place.node (drop position intent.steps)))
