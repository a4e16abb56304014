-- Transits: the way of a packet to the next SID that is executed, by look-ups alone.
use Rattle.std.specs.Prelude.{ℕ, ◌+◌, ◌-◌, Bool, true, false, if◌then◌else◌, List, [], ◌∷◌, Option, Some, None}
use Rattle.std.specs.List.{list_all}
use Rattle.std.specs.Option.{option_map}
use Rattle.net_model.specs.Network.{Network}
use Rattle.walk_rules.specs.declared.place.Place.{Place}
use Rattle.walk_rules.specs.Way.{Way, NoWay, Over, Own, Into, way_of}
use Rattle.walk_rules.specs.Walk.{arrival}
use Rattle.intent_reader.specs.IntentRules.{first_end}
use Rattle.intent_reader.specs.declared.intent.Step.{Step}
use Rattle.intent_reader.specs.declared.intent.Step.TheVariants.{Links, Function, Reach}
use Rattle.leg_table.specs.StepMatching.{has_link}

-- where a transit ends: at SID n, where the packet came to it, with these steps left before the SID is executed, and after
-- the hop limit was lowered so many times
pub record Transit : Type 0 where
  pub sid : ℕ
  pub place : Place
  pub left : List Step
  pub lowered : ℕ

abbrev pub one_if : Bool → ℕ
one_if true = 1
one_if false = 0

abbrev pub more_lowered : Bool → Transit → Transit
more_lowered lower r = record { sid = r.sid; place = r.place; left = r.left; lowered = one_if lower + r.lowered }

-- each of the links that may be chosen lies in the step
abbrev pub all_in_step : Step → List ℕ → Bool
all_in_step (Links step) set = list_all (has_link step) set
all_in_step (Function sid) set = false
all_in_step (Reach node) set = false

-- the transit from the next place, if there is one
abbrev pub transit_on : Option Place → (Place → Option Transit) → Option Transit
transit_on None transit = None
transit_on (Some next) transit = transit next

-- the transit over links of the first step, all of which end at one node, from that node on
abbrev pub transit_over : Network → Place → Step → List ℕ → Bool → (Place → Option Transit) → Option Transit
transit_over net place t set lower transit =
    if all_in_step t set then option_map (more_lowered lower) (transit_on (arrival (first_end net set) place) transit) else None

-- the transit by the way that a place gives: to the SID that is found there, or over links
abbrev pub transit_by : Network → Place → List Step → Step → (Place → Option Transit) → Way → Option Transit
transit_by net place left t transit (NoWay reason) = None
transit_by net place left t transit Own = None
transit_by net place left t transit (Into n) = Some (record { sid = n; place = place; left = left; lowered = 0 })
transit_by net place left t transit (Over set lower) = transit_over net place t set lower transit

abbrev pub transit_end : Place → Way → Option Transit
transit_end place (NoWay reason) = None
transit_end place Own = None
transit_end place (Into n) = Some (record { sid = n; place = place; left = []; lowered = 0 })
transit_end place (Over set lower) = None

-- the transit of a packet to a destination along steps, from a place
abbrev pub transit_of : Network → ℕ → List Step → Place → Option Transit
transit_of net destination [] place = transit_end place (way_of net place destination)
transit_of net destination (t ∷ ts) place =
    transit_by net place (t ∷ ts) t (transit_of net destination ts) (way_of net place destination)
