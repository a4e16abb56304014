-- Traces of walks: the links that are crossed and the functions that are executed, in order.
use Rattle.std.specs.Prelude.{ℕ, Bool, false, if◌then◌else◌, is_some, List, [], ◌∷◌, ◌++◌, slice_get, Option, Some, None}
use Rattle.std.specs.Option.{option_map}
use Rattle.srv6_rules.specs.declared.sid.SidEntry.{SidEntry}
use Rattle.srv6_rules.specs.Packet.{Content}
use Rattle.net_model.specs.Network.{Network}
use Rattle.walk_rules.specs.declared.place.Outcome.{Outcome}
use Rattle.walk_rules.specs.declared.place.Outcome.TheVariants as outcomes
use Rattle.walk_rules.specs.Treatment.{Gave}
use Rattle.walk_rules.specs.Walk as walks

-- what a trace speaks of: a link that a packet was sent on, and a SID with a title that was executed, by their numbers
pub data TraceEvent : Type 0 where
  Crossed : ℕ → TraceEvent
  Executed : ℕ → TraceEvent

-- a SID with a title is a function
abbrev pub has_title : Option SidEntry → Bool
has_title None = false
has_title (Some s) = is_some s.title

abbrev pub is_titled : Network → ℕ → Bool
is_titled net n = has_title (slice_get net.sids n)

-- the event of an execution: none for a SID without a title
abbrev pub executed : Network → ℕ → List TraceEvent
executed net n = if is_titled net n then Executed n ∷ [] else []

-- the event of an outcome, if it has one
abbrev pub events_of : Network → Outcome → List TraceEvent
events_of net (outcomes.Again n how) = executed net n
events_of net (outcomes.Hand n how family) = executed net n
events_of net (outcomes.Send link) = Crossed link ∷ []
events_of net outcomes.Local = []
events_of net (outcomes.Drop reason error) = []

-- up to and with the first hand_over: the trace, the SIDs that were executed, and what was handed over
pub record Handed : Type 0 where
  pub trace : List TraceEvent
  pub sids : List ℕ
  pub content : Content

abbrev pub after_events : List TraceEvent → Handed → Handed
after_events events h = record { trace = events ++ h.trace; sids = h.sids; content = h.content }

abbrev pub after_execution : Network → ℕ → Handed → Handed
after_execution net n h = record { trace = executed net n ++ h.trace; sids = n ∷ h.sids; content = h.content }

-- the first hand_over of a walk by its first stage and what its other stages hand over
abbrev pub handed_first : Network → Gave → Outcome → Option Handed → Option Handed
handed_first net gave (outcomes.Hand n how family) later =
    Some (record { trace = executed net n; sids = n ∷ []; content = gave.after })
handed_first net gave (outcomes.Again n how) later = option_map (after_execution net n) later
handed_first net gave (outcomes.Send link) later = option_map (after_events (Crossed link ∷ [])) later
handed_first net gave outcomes.Local later = None
handed_first net gave (outcomes.Drop reason error) later = None

-- what the stages hand over first, if a stage hands over
abbrev pub handed_over : Network → List walks.Stage → Option Handed
handed_over net [] = None
handed_over net (s ∷ ss) = handed_first net s.gave s.gave.outcome (handed_over net ss)

-- what follows a stage in the stages up to and with the first hand_over
abbrev pub behind_stage : Outcome → List walks.Stage → List walks.Stage
behind_stage (outcomes.Hand n how family) later = []
behind_stage (outcomes.Again n how) later = later
behind_stage (outcomes.Send link) later = later
behind_stage outcomes.Local later = later
behind_stage (outcomes.Drop reason error) later = later

-- the stages up to and with the first hand_over
abbrev pub through_hand : List walks.Stage → List walks.Stage
through_hand [] = []
through_hand (s ∷ ss) = s ∷ behind_stage s.gave.outcome (through_hand ss)
