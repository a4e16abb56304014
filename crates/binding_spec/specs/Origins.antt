-- From where a packet goes on to its next SID: from the headend, from behind a SID that it executed, or from behind the header that a
-- binding SID pushed on it (RFC 8986 sections 4.13, 4.14 and 4.16.3).
use Rattle.std.specs.Prelude.{ℕ, ◌-◌, Bool, false, ◌==◌, ◌&&◌, nat_le, if◌then◌else◌, [], length, drop, slice_get, Option, Some, None}
use Rattle.std.specs.Option.{option_map, option_and_then}
use Rattle.srv6_rules.specs.declared.family.Family.TheVariants as families
use Rattle.srv6_rules.specs.declared.sid.SidEntry.{SidEntry}
use Rattle.srv6_rules.specs.Behaviours.{behaviour_policy, behaviour_reduces, goes_on}
use Rattle.srv6_rules.specs.Policies.{outer_by}
use Rattle.net_model.specs.declared.parts.NamedPolicy.{NamedPolicy}
use Rattle.net_model.specs.Network.{Network}
use Rattle.walk_rules.specs.declared.place.Place.{Place}
use Rattle.intent_reader.specs.declared.intent.Step.{Step}
use Rattle.intent_reader.specs.declared.intent.Intent.{Intent}
use Rattle.leg_table.specs.StrictLegs.{place_behind}
use Rattle.leg_table.specs.Realizes.{headend_place}
use Rattle.leg_table.specs.Transits.{Transit, transit_of}
use Rattle.leg_table.specs.PositionSids.{is_sid_at, sid_address}
use Rattle.binding_spec.specs.OwnHands.{most_stages}
use Rattle.binding_spec.specs.Machines.{End}
use Rattle.binding_spec.specs.TunnelPackets.{tunnel_of}
use Rattle.binding_spec.specs.NetworkWorld.{world}
use Rattle.binding_spec.specs.declared.origin.Origin.{Origin}

-- a packet goes on from a SID to a next segment, with or without a further header in front
abbrev pub sid_leads_on : Option SidEntry → Bool
sid_leads_on None = false
sid_leads_on (Some s) = goes_on s

abbrev pub leads_on : Network → ℕ → Bool
leads_on net n = sid_leads_on (slice_get net.sids n)

-- behind a header that walked alone: where it came to, with the steps done that it did not leave
abbrev pub origin_after : ℕ → End Step ℕ Place → Origin
origin_after count e = record { place = e.result; done = count - length e.left }

-- behind SID v that pushes the header of a policy: where that header walks to alone, from behind the SID, along the steps behind a
-- position, in at most 1,000 stages with the push; nowhere, where it is lost on the way or leaves the steps
abbrev pub origin_pushed : Network → Intent → ℕ → ℕ → SidEntry → Option NamedPolicy → Option Origin
origin_pushed net intent position v s None = None
origin_pushed net intent position v s (Some named) =
    option_map (origin_after (length intent.steps))
    (tunnel_of (world net most_stages) (drop position intent.steps) (place_behind v s)
    (outer_by named.policy (behaviour_reduces s.behaviour) families.V6 []))

-- behind SID v: behind the header that it pushes, where it binds a policy, and else right there
abbrev pub origin_onward : Network → Intent → ℕ → ℕ → SidEntry → Option ℕ → Option Origin
origin_onward net intent position v s None = Some (record { place = place_behind v s; done = position })
origin_onward net intent position v s (Some number) = origin_pushed net intent position v s (slice_get net.policies number)

abbrev pub origin_behind : Network → Intent → ℕ → ℕ → Option SidEntry → Option Origin
origin_behind net intent position v None = None
origin_behind net intent position v (Some s) =
    if goes_on s then origin_onward net intent position v s (behaviour_policy s.behaviour) else None

-- the origin of a packet that executed no SID, at the headend with no step done, or SID v last, one of the position's
abbrev pub binding_origin : Network → Intent → ℕ → Option ℕ → Option Origin
binding_origin net intent position None = if position == 0 then Some (record { place = headend_place intent; done = 0 }) else None
binding_origin net intent position (Some v) =
    if nat_le position (length intent.steps) && is_sid_at net intent position v
    then origin_behind net intent position v (slice_get net.sids v)
    else None

-- the transit to the next SID from an origin
abbrev pub transit_from : Network → Intent → ℕ → Origin → Option Transit
transit_from net intent next origin = transit_of net (sid_address net next) (drop origin.done intent.steps) origin.place

abbrev pub binding_transit : Network → Intent → ℕ → Option ℕ → ℕ → Option Transit
binding_transit net intent position via next = option_and_then (transit_from net intent next) (binding_origin net intent position via)
