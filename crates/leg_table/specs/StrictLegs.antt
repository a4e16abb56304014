-- Legs and finishes: from the execution of one SID to that of the next.
use Rattle.std.specs.Prelude.{ℕ, zero, suc, ◌+◌, ◌-◌, ◌==◌, if◌then◌else◌, slice_get, Option, Some, None}
use Rattle.std.specs.Option.{option_map, option_and_then}
use Rattle.srv6_rules.specs.declared.family.Family.TheVariants as families
use Rattle.srv6_rules.specs.declared.sid.SidEntry.{SidEntry}
use Rattle.srv6_rules.specs.Packet.{V6}
use Rattle.net_model.specs.Network.{Network}
use Rattle.walk_rules.specs.declared.place.How.TheVariants.{Submitted}
use Rattle.walk_rules.specs.declared.place.Place.{Place}
use Rattle.walk_rules.specs.Treatment.{onward_from}
use Rattle.intent_reader.specs.declared.intent.Intent.{Intent}
use Rattle.list_pack.specs.declared.types.Leg.{Leg}
use Rattle.leg_table.specs.StepMatching.{left_after}
use Rattle.leg_table.specs.Transits.{Transit}

-- from where a packet goes to the next SID: from the headend, which made it, or from the SID that was executed last
abbrev pub place_behind : ℕ → SidEntry → Place
place_behind v s = record { node = s.node; how = onward_from v s.behaviour; family = families.V6 }

abbrev pub place_from : Network → Intent → Option ℕ → Option Place
place_from net intent None = Some (record { node = intent.headend; how = Submitted 0; family = families.V6 })
place_from net intent (Some v) = option_map (place_behind v) (slice_get net.sids v)

-- the steps left after the transit and the execution, where the transit ends at the SID
abbrev pub left_behind : Network → ℕ → Transit → Option ℕ
left_behind net next r = if r.sid == next then left_after net next r.left else None

abbrev pub leg_with : ℕ → ℕ → ℕ → Leg
leg_with count lowered left = record { to = count - left; hops = lowered + 1 }

abbrev pub leg_behind : Network → ℕ → ℕ → Option Transit → Option Leg
leg_behind net count next None = None
leg_behind net count next (Some r) = option_map (leg_with count r.lowered) (left_behind net next r)

abbrev pub if_none_left : ℕ → ℕ → Option ℕ
if_none_left lowered zero = Some lowered
if_none_left lowered (suc more) = None

abbrev pub finish_behind : Network → ℕ → Option Transit → Option ℕ
finish_behind net next None = None
finish_behind net next (Some r) = option_and_then (if_none_left r.lowered) (left_behind net next r)
