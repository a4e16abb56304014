-- Need not be believed: helps proofs and other laws.
-- The table of an intent's legs along steps of which some may be loose.
use Rattle.std.specs.Prelude.{◌≡◌, ℕ, ◌+◌, ◌<◌, ◌≤◌, if◌then◌else◌, List, [], length, slice_get, Option, Some, None}
use Rattle.std.specs.Option.{option_and_then}
use Rattle.srv6_rules.specs.declared.family.Family.{Family}
use Rattle.net_model.specs.Network.{Network}
use Rattle.net_model.specs.NetworkRulesTerms.{IsNetwork}
use Rattle.net_flatness.specs.Flat.{IsFlat}
use Rattle.walk_rules.specs.declared.place.Place.{Place}
use Rattle.intent_reader.specs.IntentRulesTerms.{IsIntent}
use Rattle.intent_reader.specs.declared.intent.Intent.{Intent}
use Rattle.list_pack.specs.declared.types.Leg.{Leg}
use Rattle.intent_traces.specs.declared.trace_steps.TraceStep.{TraceStep}
use Rattle.choice_graph.specs.declared.vertices.Found.{Found}
use Rattle.choice_graph.specs.VertexTables.{AreFound}
use Rattle.loose_walks.specs.WayGraphs.{found_in, graph_in}
use Rattle.leg_table.specs.NestLegsTerms.{AreNested}
use Rattle.leg_table.specs.PositionSids.{is_last, is_middle, sid_address}
use Rattle.loose_spec.specs.LooseLegs.{finish_found, finish_of, leg_found, leg_of}
use Rattle.loose_spec.specs.LooseSteps.{node_at}
use Rattle.loose_spec.specs.LooseLegsValue.{sids_of}
use Rattle.loose_legs.specs.IntentSteps.{trace_steps}
use Rattle.loose_legs.specs.declared.onwards.Onward.{Onward}

-- where the walk stands at the first positions
pub record AreStands (net : Network) (intent : Intent) (steps : List TraceStep) (count : ℕ) (stands : List ℕ) : Type 0 where
  pub long : length stands ≡ count
  pub each : (position : ℕ) → position < count → node_at net intent steps position ≡ slice_get stands position

-- the SIDs of the first positions
pub record AreRows (net : Network) (intent : Intent) (steps : List TraceStep) (count : ℕ) (rows : List (List ℕ)) : Type 0 where
  pub long : length rows ≡ count
  pub each : (position : ℕ) → position < count → slice_get rows position ≡ Some (sids_of net intent steps position)

-- what is found in the graphs of the first SIDs
pub record AreTables (net : Network) (steps : List TraceStep) (count : ℕ) (tables : List (List (Option Found))) : Type 0 where
  pub long : length tables ≡ count
  pub each : (n : ℕ) (table : List (Option Found)) → slice_get tables n ≡ Some table
      → AreFound (graph_in net (sid_address net n) steps) table

-- ---- legs and finishes

-- the leg to a next SID and the finish at it, by what is found on the way to it
abbrev pub leg_to : Network → List TraceStep → ℕ → Option Found → Option Leg
leg_to net steps next found = if is_middle net next then option_and_then (leg_found net steps next) found else None

abbrev pub finish_to : Network → Family → List TraceStep → ℕ → Option Found → Option ℕ
finish_to net inner steps next found = if is_last net inner next then option_and_then (finish_found net steps next) found else None

abbrev pub onward_found : Network → Intent → List TraceStep → ℕ → Option Found → Onward
onward_found net intent steps next found =
    record { leg = leg_to net steps next found; finish = finish_to net intent.inner steps next found }

-- from a place with so many steps left
abbrev pub onward_from : Network → Intent → List TraceStep → ℕ → Place → ℕ → Onward
onward_from net intent steps left place next =
    onward_found net intent steps next (found_in net (sid_address net next) steps left place)

-- to the first SIDs, by their numbers
pub record AreOnward (net : Network) (intent : Intent) (steps : List TraceStep) (left : ℕ) (place : Place) (count : ℕ) (row : List Onward)
    : Type 0 where
  pub long : length row ≡ count
  pub each : (next : ℕ) → next < count → slice_get row next ≡ Some (onward_from net intent steps left place next)

-- from a position and the SID that was executed last there, if one was
abbrev pub onward_of : Network → Intent → List TraceStep → ℕ → Option ℕ → ℕ → Onward
onward_of net intent steps position via next =
    record { leg = leg_of net intent steps position via next; finish = finish_of net intent steps position via next }

-- a row has them for each next SID, by its number; where it has none there are none
abbrev pub onward_or_none : Option Onward → Onward
onward_or_none None = record { leg = None; finish = None }
onward_or_none (Some onward) = onward

abbrev pub onward_at : List Onward → ℕ → Onward
onward_at row next = onward_or_none (slice_get row next)

abbrev pub IsRowFrom : Network → Intent → List TraceStep → ℕ → Option ℕ → List Onward → Type 0
IsRowFrom net intent steps position via row = (next : ℕ) → onward_at row next ≡ onward_of net intent steps position via next

-- the rows of a position, one for each SID that may have been executed last there, by its number
abbrev pub row_or_none : Option (List Onward) → List Onward
row_or_none None = []
row_or_none (Some row) = row

abbrev pub row_at : List (List Onward) → ℕ → List Onward
row_at rows via = row_or_none (slice_get rows via)

abbrev pub AreRowsFrom : Network → Intent → List TraceStep → ℕ → List (List Onward) → Type 0
AreRowsFrom net intent steps position rows = (via : ℕ) → IsRowFrom net intent steps position (Some via) (row_at rows via)

-- the rows of the first positions
pub record AreFurther (net : Network) (intent : Intent) (steps : List TraceStep) (count : ℕ) (further : List (List (List Onward))) : Type 0 where
  pub long : length further ≡ count
  pub each : (position : ℕ) (rows : List (List Onward)) → slice_get further position ≡ Some rows
      → AreRowsFrom net intent steps position rows

-- ---- the whole table

-- the SIDs of the positions, and the legs and finishes from the start and from those SIDs
pub record AreLegRows (net : Network) (intent : Intent) (steps : List TraceStep) (rows : List (List ℕ)) (first : List Onward)
    (further : List (List (List Onward)))
    : Type 0 where
  pub are_rows : AreRows net intent steps (length steps + 1) rows
  pub from_start : IsRowFrom net intent steps 0 None first
  pub are_further : AreFurther net intent steps (length steps + 1) further

-- the intent keeps the rules in the network, which is flat and has few SIDs; the rows are those of its steps, and the units those of the
-- SIDs nested in each SID
pub record IsLooseTable (net : Network) (intent : Intent) (rows : List (List ℕ)) (first : List Onward) (further : List (List (List Onward)))
    (nested : List (List ℕ))
    : Type 0 where
  pub network : IsNetwork net
  pub flat : IsFlat net
  pub is_intent : IsIntent net intent
  pub few : length net.sids ≤ 128
  pub are_leg_rows : AreLegRows net intent (trace_steps intent) rows first further
  pub are_nested : AreNested net (length net.sids) nested
