-- Need not be believed: helps proofs and other laws.
-- The sentences on legs and finishes through binding SIDs: what becomes of packets to a next SID, for all choices.
use Rattle.std.specs.Prelude.{◌≡◌, ℕ, ◌-◌, ◌<◌, ◌≤◌, Bool, false, ◌==◌, ◌&&◌, nat_le, List, [], ◌∷◌, drop, length, slice_get, Option, Some, None, IsTrue, ◌↔◌}
use Rattle.srv6_rules.specs.declared.sid.SidEntry.{SidEntry}
use Rattle.srv6_rules.specs.Behaviours.{goes_on}
use Rattle.srv6_rules.specs.Packet.{Packet}
use Rattle.srv6_rules.specs.Endpoint.{at_sid}
use Rattle.net_model.specs.Network.{Network}
use Rattle.walk_rules.specs.declared.place.Place.{Place}
use Rattle.walk_rules.specs.Walk.{choice_at}
use Rattle.intent_reader.specs.declared.intent.Step.{Step}
use Rattle.intent_reader.specs.declared.intent.Intent.{Intent}
use Rattle.list_pack.specs.declared.types.Leg.{Leg}
use Rattle.leg_table.specs.StrictLegsTerms.{is_onward, has_packet_inside}
use Rattle.leg_table.specs.TransitsTerms.{with_hop_limit}
use Rattle.leg_table.specs.PositionSids.{is_sid_at, is_last}
use Rattle.leg_table.specs.StepMatching.{matches}
use Rattle.leg_table.specs.WalkTrace.{Handed}
use Rattle.tunnel_walks_theory.specs.TunnelPacketsTerms.{Tunnelled}
use Rattle.tunnel_network_theory.specs.FirstExecutions.{MeetsFrom}
use Rattle.binding_spec.specs.Origins.{leads_on}
use Rattle.binding_legs_theory.specs.BindingKind.{onward_of, own_limit, hand_on}

-- a packet may go on at a position from the headend, with no step done, or from one of the position's SIDs that leads on
abbrev pub may_go_on : Network → Intent → ℕ → Option ℕ → Bool
may_go_on net intent position None = position == 0
may_go_on net intent position (Some v) = nat_le position (length intent.steps) && (is_sid_at net intent position v && leads_on net v)

-- a packet that a SID takes on to a next segment, where the hop limit allows it
abbrev pub takes_further : Option SidEntry → Packet → Bool
takes_further None p = false
takes_further (Some s) p = goes_on s && is_onward (at_sid s [] (with_hop_limit 2 p))

-- under a list of choices its first execution without a header in front is at SID n, along steps of which so many are left behind it,
-- and it has this hop limit then
pub record ComesTo (net : Network) (ts : List Step) (d : Tunnelled Place Packet) (n left limit : ℕ) (choices : List ℕ) : Type 0 where
  pub meets : MeetsFrom net ts d.place d.head d.below choices
  pub sid : meets.met.sids ≡ n ∷ []
  pub left_is : length meets.left ≡ left
  pub limit_is : own_limit meets.met.content meets.met.below ≡ Some limit

-- for all choices, from where it goes on
abbrev pub AlwaysComes : Network → List Step → Option (Tunnelled Place Packet) → ℕ → ℕ → ℕ → Type 0
AlwaysComes net ts None n left limit = ⊥
AlwaysComes net ts (Some d) n left limit = (choices : List ℕ) → 0 < length choices → ComesTo net ts d n left limit choices

-- a leg through binding SIDs: for all choices a packet to an address of the next SID that this takes on comes to it along the steps up
-- to the leg's end, exactly above the leg's hops, by which its own hop limit falls
pub record IsBindingLeg (net : Network) (intent : Intent) (address position : ℕ) (via : Option ℕ) (next : ℕ) (leg : Leg) : Type 0 where
  pub origin : IsTrue (may_go_on net intent position via)
  pub leads : IsTrue (leads_on net next)
  pub within : leg.to ≤ length intent.steps
  pub taken : (p : Packet) → p.destination ≡ address → IsTrue (takes_further (slice_get net.sids next) p) → 0 < p.hop_limit
      → (leg.hops < p.hop_limit) ↔ AlwaysComes net (drop position intent.steps) (onward_of net intent via p) next
      (length intent.steps - leg.to) (p.hop_limit - leg.hops)

-- under a list of choices the packet comes to its own hand_over with exactly these steps as its trace, and SID n alone is executed on it
pub record IsHandedAt (net : Network) (ts : List Step) (o : Option (Tunnelled Place Packet)) (n : ℕ) (choices : List ℕ) : Type 0 where
  pub fuel : ℕ
  pub handed : Handed
  pub own : hand_on net fuel o (choice_at choices) 0 ≡ Some handed
  pub steps : IsTrue (matches ts handed.trace)
  pub sids : handed.sids ≡ n ∷ []

-- a finish through binding SIDs: for all choices a packet to an address of the last SID that exposes what is inside is handed over there
-- after exactly the steps that are left, exactly above the lowerings of its own hop limit
pub record IsBindingFinish (net : Network) (intent : Intent) (address position : ℕ) (via : Option ℕ) (next lowered : ℕ) : Type 0 where
  pub origin : IsTrue (may_go_on net intent position via)
  pub last : IsTrue (is_last net intent.inner next)
  pub handed : (p : Packet) → p.destination ≡ address → IsTrue (has_packet_inside net next p) → 0 < p.hop_limit
      → (lowered < p.hop_limit) ↔ ((choices : List ℕ) → 0 < length choices
      → IsHandedAt net (drop position intent.steps) (onward_of net intent via p) next choices)
