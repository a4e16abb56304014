-- Need not be believed: helps proofs and other laws.
-- Terms beside those of `specs/StrictLegs.antt`.
use Rattle.std.specs.Prelude.{◌≡◌, ℕ, ◌-◌, ◌<◌, ◌≤◌, Bool, true, false, ◌==◌, ◌&&◌, nat_le, if◌then◌else◌, List, [], drop, length, slice_get, Option, Some, None, IsTrue, ◌↔◌}
use Rattle.std.specs.Option.{option_and_then}
use Rattle.v6_addr.specs.AddressKinds.{is_multicast}
use Rattle.srv6_rules.specs.declared.sid.SidEntry.{SidEntry}
use Rattle.srv6_rules.specs.Packet.{Packet, Content, V6, V4, Unreadable}
use Rattle.srv6_rules.specs.CompressedSteps.{compression_of, shifts}
use Rattle.srv6_rules.specs.Endpoint.{Endpoint, Onward, Exposed, Delivered, Refused, at_sid}
use Rattle.net_model.specs.Network.{Network}
use Rattle.net_flatness.specs.NestsTerms.{IsOwn}
use Rattle.walk_rules.specs.declared.place.Place.{Place}
use Rattle.walk_rules.specs.declared.place.Outcome.{Outcome}
use Rattle.walk_rules.specs.declared.place.Outcome.TheVariants as outcomes
use Rattle.walk_rules.specs.Walk as walks
use Rattle.intent_reader.specs.declared.intent.Step.{Step}
use Rattle.intent_reader.specs.declared.intent.Intent.{Intent}
use Rattle.list_pack.specs.declared.types.Leg.{Leg}
use Rattle.leg_table.specs.StepMatching.{left_after}
use Rattle.leg_table.specs.AllChoices.{ForAllChoices, AtPlace}
use Rattle.leg_table.specs.Transits.{Transit, transit_of}
use Rattle.leg_table.specs.TransitsTerms.{with_hop_limit}
use Rattle.leg_table.specs.PositionSids.{takes_step, is_sid_at, is_middle, is_last, sid_address}
use Rattle.leg_table.specs.StrictLegs.{place_behind, place_from, leg_behind, finish_behind}

-- a SID may have been executed last at a position: none at the start alone, else one of that position that is middle
abbrev pub is_via : Network → Intent → ℕ → Option ℕ → Bool
is_via net intent position None = position == 0
is_via net intent position (Some v) = is_sid_at net intent position v && is_middle net v

abbrev pub is_origin : Network → Intent → ℕ → Option ℕ → Bool
is_origin net intent position via = nat_le position (length intent.steps) && is_via net intent position via

-- the transit to the next SID
abbrev pub transit_to : Network → Intent → ℕ → Option ℕ → ℕ → Option Transit
transit_to net intent position via next =
    option_and_then (transit_of net (sid_address net next) (drop position intent.steps)) (place_from net intent via)

-- the leg to the next SID, by look-ups alone
abbrev pub leg_of : Network → Intent → ℕ → Option ℕ → ℕ → Option Leg
leg_of net intent position via next =
    if is_origin net intent position via && is_middle net next
    then leg_behind net (length intent.steps) next (transit_to net intent position via next)
    else None

-- how often the hop limit is lowered on the way to the last SID, by look-ups alone
abbrev pub finish_of : Network → Intent → ℕ → Option ℕ → ℕ → Option ℕ
finish_of net intent position via next =
    if is_origin net intent position via && is_last net intent.inner next
    then finish_behind net next (transit_to net intent position via next)
    else None

abbrev pub is_onward : Endpoint → Bool
is_onward (Onward q) = true
is_onward (Exposed family bytes) = false
is_onward (Delivered q) = false
is_onward (Refused reason at) = false

abbrev pub is_exposed : Endpoint → Bool
is_exposed (Onward q) = false
is_exposed (Exposed family bytes) = true
is_exposed (Delivered q) = false
is_exposed (Refused reason at) = false

-- packets that a SID takes on to a next segment where the hop limit allows it, after no further header, and packets from which it
-- exposes one
abbrev pub takes_on : Option SidEntry → Packet → Bool
takes_on None p = false
takes_on (Some s) p = takes_step s && is_onward (at_sid s [] (with_hop_limit 2 p))

abbrev pub takes_out : Option SidEntry → Packet → Bool
takes_out None p = false
takes_out (Some s) p = is_exposed (at_sid s [] p)

abbrev pub has_next_segment : Network → ℕ → Packet → Bool
has_next_segment net n p = takes_on (slice_get net.sids n) p

abbrev pub has_packet_inside : Network → ℕ → Packet → Bool
has_packet_inside net n p = takes_out (slice_get net.sids n) p

-- SID n was executed, and the packet goes on
abbrev pub is_again : ℕ → Outcome → Bool
is_again n (outcomes.Again m how) = m == n
is_again n (outcomes.Hand m how family) = false
is_again n (outcomes.Send link) = false
is_again n outcomes.Local = false
is_again n (outcomes.Drop reason error) = false

-- SID n was executed, and exposed the packet inside
abbrev pub is_hand : ℕ → Outcome → Bool
is_hand n (outcomes.Again m how) = false
is_hand n (outcomes.Hand m how family) = m == n
is_hand n (outcomes.Send link) = false
is_hand n outcomes.Local = false
is_hand n (outcomes.Drop reason error) = false

abbrev pub has_limit : ℕ → Content → Bool
has_limit limit (V6 p) = p.hop_limit == limit
has_limit limit (V4 p) = false
has_limit limit (Unreadable bytes reason) = false

abbrev pub is_left : ℕ → Option ℕ → Bool
is_left left None = false
is_left left (Some m) = m == left

-- the stage executes SID n, with so many steps left then and this hop limit after it
abbrev pub stage_executes : Network → ℕ → ℕ → ℕ → List Step → walks.Stage → Bool
stage_executes net n left limit ts s = is_again n s.gave.outcome && (is_left left (left_after net n ts) && has_limit limit s.gave.after)

-- the stage exposes the packet inside at SID n, with so many steps left then and this hop limit before it
abbrev pub stage_exposes : Network → ℕ → ℕ → ℕ → List Step → walks.Stage → Bool
stage_exposes net n left limit ts s = is_hand n s.gave.outcome && (is_left left (left_after net n ts) && has_limit limit s.before)

-- a packet to an address that has a next segment at SID n is taken from a place along the first steps to SID n and executed there, for
-- all choices, with so many steps left; that is so exactly above so many hops, by which its hop limit falls
abbrev pub IsTaken : Network → ℕ → List Step → ℕ → ℕ → ℕ → Place → Type 0
IsTaken net address ts n left hops place =
    (p : Packet) → p.destination ≡ address → IsTrue (has_next_segment net n p) → 0 < p.hop_limit →
    (hops < p.hop_limit) ↔ ForAllChoices net (stage_executes net n left (p.hop_limit - hops)) ts place (V6 p)

-- the same of a packet with a packet inside that SID n exposes
abbrev pub IsHanded : Network → ℕ → List Step → ℕ → ℕ → ℕ → Place → Type 0
IsHanded net address ts n left lowered place =
    (p : Packet) → p.destination ≡ address → IsTrue (has_packet_inside net n p) → 0 < p.hop_limit →
    (lowered < p.hop_limit) ↔ ForAllChoices net (stage_exposes net n left (p.hop_limit - lowered)) ts place (V6 p)

-- a leg: from a position, and the SID that was executed last there if one was, to a next SID that is middle, for packets to an address
pub record IsLeg (net : Network) (intent : Intent) (address position : ℕ) (via : Option ℕ) (next : ℕ) (leg : Leg) : Type 0 where
  pub start : IsTrue (is_origin net intent position via)
  pub middle : IsTrue (is_middle net next)
  pub within : leg.to ≤ length intent.steps
  pub taken : AtPlace (place_from net intent via)
      (IsTaken net address (drop position intent.steps) next (length intent.steps - leg.to) leg.hops)

-- a finish: to a last SID, which exposes the packet inside with no step left, for packets to an address
pub record IsFinish (net : Network) (intent : Intent) (address position : ℕ) (via : Option ℕ) (next lowered : ℕ) : Type 0 where
  pub start : IsTrue (is_origin net intent position via)
  pub last : IsTrue (is_last net intent.inner next)
  pub handed : AtPlace (place_from net intent via) (IsHanded net address (drop position intent.steps) next 0 lowered)

-- an own address of a SID, one of its prefix that no SID nested in it holds, which is multicast exactly where the prefix's first address is
pub record IsAddressOf (net : Network) (n address : ℕ) : Type 0 where
  pub own : (s : SidEntry) → slice_get net.sids n ≡ Some s → IsOwn net s address
  pub kind : is_multicast address ≡ is_multicast (sid_address net n)

-- and which has no further SID after it there, so that none is moved up (RFC 9800 section 4.1)
abbrev pub shifts_by : Option SidEntry → ℕ → Bool
shifts_by None address = false
shifts_by (Some s) address = shifts (compression_of s) address

pub record IsLastAddressOf (net : Network) (n address : ℕ) : Type 0 where
  pub is_address : IsAddressOf net n address
  pub alone : shifts_by (slice_get net.sids n) address ≡ false

-- the place to start from, where a packet may start so
abbrev pub origin_of : Network → Intent → ℕ → Option ℕ → Option Place
origin_of net intent position via = if is_origin net intent position via then place_from net intent via else None

-- from where a packet goes on after the execution of a middle SID
abbrev pub middle_place_by : ℕ → Option SidEntry → Option Place
middle_place_by v None = None
middle_place_by v (Some s) = if takes_step s then Some (place_behind v s) else None

abbrev pub middle_place : Network → ℕ → Option Place
middle_place net v = middle_place_by v (slice_get net.sids v)
