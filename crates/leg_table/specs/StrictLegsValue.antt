-- Need not be believed: helps proofs and other laws.
-- What the table of an intent's legs is to a search, and what becomes of packets on them.
use Rattle.std.specs.Prelude.{ℕ, if◌then◌else◌, List, [], drop, length, Option, Some, None}
use Rattle.srv6_rules.specs.Packet.{Packet, V6}
use Rattle.list_pack.specs.LegsValue.{LegsValue}
use Rattle.net_model.specs.Network.{Network}
use Rattle.walk_rules.specs.Walk.{free_walk_of as walk_of}
use Rattle.intent_reader.specs.declared.intent.Intent.{Intent}
use Rattle.intent_reader.specs.Preferences.{sid_cost_of}
use Rattle.leg_table.specs.PositionSids.{is_binding, sids_of}
use Rattle.leg_table.specs.StrictLegs.{place_from}
use Rattle.leg_table.specs.StrictLegsTerms.{leg_of, finish_of}
use Rattle.leg_table.specs.NestLegs.{stays_of}
use Rattle.leg_table.specs.OneLegLaws.{LegKind}
use Rattle.leg_table.specs.StrictTable.{shape_of, node_of}
use Rattle.leg_table.specs.StepMatching.{matches}
use Rattle.leg_table.specs.WalkTrace.{TraceEvent, Handed, handed_over}

abbrev pub legs_value : Network → Intent → LegsValue
legs_value net intent =
    record {
      steps = length intent.steps;
      sids_at = sids_of net intent;
      shape = shape_of net;
      node = node_of net;
      leg = leg_of net intent;
      finish = finish_of net intent;
      stays = stays_of net;
      sid_cost = sid_cost_of intent.prefer;
    }

-- the legs of strict steps: a packet goes on from the headend, or from the SID that was executed last, and no SID may bind a policy
abbrev pub strict_hand : Network → Intent → ℕ → Option ℕ → Packet → (ℕ → ℕ) → ℕ → Option Handed
strict_hand net intent fuel via p pick taken = handed_over net (walk_of fuel net (place_from net intent via) (V6 p) pick taken)

-- a trace that meets the steps from a position on, one event each, leaves no marks
abbrev pub strict_kept : Intent → ℕ → List TraceEvent → Option (List ℕ)
strict_kept intent position es = if matches (drop position intent.steps) es then Some [] else None

abbrev pub no_mark : ℕ → ℕ → List ℕ
no_mark n to = []

abbrev pub strict_kind : Network → Intent → LegKind
strict_kind net intent =
    record {
      net = net;
      intent = intent;
      legs = legs_value net intent;
      barred = is_binding net;
      hand = strict_hand net intent;
      kept = strict_kept intent;
      mark = no_mark;
    }

-- all ways of a leg are as long
abbrev pub AnyWay : Option ℕ → Packet → (ℕ → ℕ) → ℕ → Type 0
AnyWay via p pick taken = Unit {0}
