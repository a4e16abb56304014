-- Need not be believed: helps proofs and other laws.
-- The kind of legs along steps of which some may be loose: what is handed over, when a trace keeps to the steps, and the marks
-- that it leaves.
use Rattle.std.specs.Prelude.{ℕ, ◌-◌, ◌++◌, if◌then◌else◌, List, [], ◌∷◌, drop, length, Option, Some, None}
use Rattle.std.specs.Option.{option_map, option_and_then}
use Rattle.srv6_rules.specs.Packet.{Packet, V6}
use Rattle.net_model.specs.Network.{Network}
use Rattle.intent_reader.specs.declared.intent.Intent.{Intent}
use Rattle.walk_rules.specs.declared.place.Outcome.{Outcome}
use Rattle.walk_rules.specs.declared.place.Outcome.TheVariants as outcomes
use Rattle.walk_rules.specs.Treatment.{Gave}
use Rattle.walk_rules.specs.Walk.{Stage, free_walk_of}
use Rattle.intent_traces.specs.declared.trace_steps.TraceStep.{TraceStep}
use Rattle.intent_traces.specs.Traces as traces
use Rattle.intent_traces.specs.Traces.{left_behind}
use Rattle.loose_walks.specs.WalkStops.{ends_in}
use Rattle.leg_table.specs.StrictLegs.{place_from}
use Rattle.leg_table.specs.OneLegLaws.{LegKind}
use Rattle.leg_table.specs.PositionSids.{is_binding}
use Rattle.leg_table.specs.WalkTrace.{Crossed, TraceEvent, Executed, Handed, is_titled}
use Rattle.loose_spec.specs.LooseLegsValue.{loose_legs_value}

-- ---- what is handed over: each execution is an event of this trace, also that of a SID without a title. A binding SID may not
-- be executed: it puts a header in front with a hop limit of its own, so a packet may pass such SIDs without end

abbrev pub behind_event : TraceEvent → Handed → Handed
behind_event e h = record { trace = e ∷ h.trace; sids = h.sids; content = h.content }

abbrev pub behind_execution : ℕ → Handed → Handed
behind_execution n h = record { trace = Executed n ∷ h.trace; sids = n ∷ h.sids; content = h.content }

abbrev pub hand_first : Network → Gave → Outcome → Option Handed → Option Handed
hand_first net gave (outcomes.Hand n how family) later = Some (record { trace = Executed n ∷ []; sids = n ∷ []; content = gave.after })
hand_first net gave (outcomes.Again n how) later = if is_binding net n then None else option_map (behind_execution n) later
hand_first net gave (outcomes.Send link) later = option_map (behind_event (Crossed link)) later
hand_first net gave outcomes.Local later = None
hand_first net gave (outcomes.Drop reason error) later = None

abbrev pub hand_of : Network → List Stage → Option Handed
hand_of net [] = None
hand_of net (s ∷ ss) = hand_first net s.gave s.gave.outcome (hand_of net ss)

abbrev pub loose_hand : Network → Intent → ℕ → Option ℕ → Packet → (ℕ → ℕ) → ℕ → Option Handed
loose_hand net intent fuel via p pick taken =
    hand_of net (free_walk_of fuel net (place_from net intent via) (V6 p) pick taken)

-- ---- keeping to steps

-- the steps left behind an event; the execution of a SID without a title leaves all
abbrev pub left_on : Network → List TraceStep → TraceEvent → Option (List TraceStep)
left_on net ts (Crossed link) = left_behind (ends_in net) ts (traces.Crossed link)
left_on net ts (Executed n) = if is_titled net n then left_behind (ends_in net) ts (traces.Executed n) else Some ts

-- an execution marks the SID, and how many of the steps are finished behind it
abbrev pub marked : ℕ → List TraceStep → TraceEvent → List ℕ
marked count us (Crossed link) = []
marked count us (Executed n) = n ∷ (count - length us) ∷ []

abbrev pub none_left : List TraceStep → Option (List ℕ)
none_left [] = Some []
none_left (t ∷ ts) = None

-- the marks of a trace that keeps to steps to their end, the last ones of so many
abbrev pub kept_from : Network → ℕ → List TraceStep → List TraceEvent → Option (List ℕ)
kept_from net count ts [] = none_left ts
kept_from net count ts (e ∷ es) =
    option_and_then (λ us. option_map (λ (marks : List ℕ). marked count us e ++ marks) (kept_from net count us es)) (left_on net ts e)

abbrev pub loose_kept : Network → List TraceStep → ℕ → List TraceEvent → Option (List ℕ)
loose_kept net steps position es = kept_from net (length steps) (drop position steps) es

abbrev pub loose_mark : ℕ → ℕ → List ℕ
loose_mark n to = n ∷ to ∷ []

-- ---- the kind: no SID may bind a policy

abbrev pub loose_kind : Network → Intent → List TraceStep → LegKind
loose_kind net intent steps =
    record {
      net = net;
      intent = intent;
      legs = loose_legs_value net intent steps;
      barred = is_binding net;
      hand = loose_hand net intent;
      kept = loose_kept net steps;
      mark = loose_mark;
    }
