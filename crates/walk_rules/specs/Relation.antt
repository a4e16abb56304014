-- Need not be believed: helps proofs and other laws.
-- One node's treatment of one packet, as a relation by cases: which outcomes there are, and the packet and the error
-- after each (RFC 8200, RFC 8754 and RFC 8986 by their sections as in `Treatment`).
use Rattle.std.specs.Prelude.{◌≡◌, ◌⊎◌, ℕ, ◌<◌, ◌≤◌, Bool, true, false, is_some, List, length, slice_get, Option, Some, None, Contains}
use Rattle.srv6_rules.specs.declared.reason.Reason.{Reason}
use Rattle.srv6_rules.specs.declared.reason.Reason.TheVariants as reasons
use Rattle.srv6_rules.specs.declared.sid.SidEntry.{SidEntry}
use Rattle.srv6_rules.specs.Packet.{Packet, Content, V6, V4, Unreadable}
use Rattle.srv6_rules.specs.Packet4.{Packet4, ttl, destination4}
use Rattle.srv6_rules.specs.Endpoint.{at_address}
use Rattle.net_model.specs.Network.{Network}
use Rattle.walk_rules.specs.declared.place.How.{How}
use Rattle.walk_rules.specs.declared.place.How.TheVariants.{Arrived, Submitted, Through}
use Rattle.walk_rules.specs.declared.place.Place.{Place}
use Rattle.walk_rules.specs.declared.place.Outcome.{Outcome}
use Rattle.walk_rules.specs.declared.place.Outcome.TheVariants as outcomes
use Rattle.walk_rules.specs.Way.{Way, NoWay, Over, Own, Into, way_of}
use Rattle.walk_rules.specs.Treatment.{Gave, error_of, lowered, ttl_lowered, mtu_at, own_len, treated_at_address, treated_in}

-- an outcome, the packet after it and the error are those that were given
abbrev pub GivesOutcome : Gave → Outcome → Content → Option Packet → Type 0
GivesOutcome gave outcome after error = (outcome ≡ gave.outcome) × (after ≡ gave.after) × (error ≡ gave.error)

-- what stood at a node is dropped as it was, for a reason with its detail, and the drop tells whether an error is sent
abbrev pub Drops : Network → ℕ → Reason → ℕ → Content → Outcome → Content → Option Packet → Type 0
Drops net node reason detail content outcome after error =
    (outcome ≡ outcomes.Drop reason (is_some error)) × (after ≡ content) × (error ≡ error_of net node reason detail content)

-- over a set of links without an MTU: one outcome for each member; a drop where the hop limit would have to fall and can't
abbrev pub Sends : Network → ℕ → List ℕ → Bool → Packet → Outcome → Content → Option Packet → Type 0
Sends net node set true p (outcomes.Send link) after error =
    Contains set link × (1 < p.hop_limit) × (after ≡ V6 (lowered true p)) × (error ≡ None)
Sends net node set false p (outcomes.Send link) after error = Contains set link × (after ≡ V6 p) × (error ≡ None)
Sends net node set true p (outcomes.Drop reason told) after error =
    (p.hop_limit ≤ 1) × Drops net node reasons.HopLimit 0 (V6 p) (outcomes.Drop reason told) after error
Sends net node set false p (outcomes.Drop reason told) after error = ⊥
Sends net node set lower p (outcomes.Again sid how) after error = ⊥
Sends net node set lower p (outcomes.Hand sid how family) after error = ⊥
Sends net node set lower p outcomes.Local after error = ⊥

-- so it is with the TTL of an IPv4 packet
abbrev pub Sends4 : Network → ℕ → List ℕ → Bool → Packet4 → Outcome → Content → Option Packet → Type 0
Sends4 net node set true p (outcomes.Send link) after error =
    Contains set link × (1 < ttl p) × (after ≡ V4 (ttl_lowered true p)) × (error ≡ None)
Sends4 net node set false p (outcomes.Send link) after error = Contains set link × (after ≡ V4 p) × (error ≡ None)
Sends4 net node set true p (outcomes.Drop reason told) after error =
    (ttl p ≤ 1) × Drops net node reasons.Ttl 0 (V4 p) (outcomes.Drop reason told) after error
Sends4 net node set false p (outcomes.Drop reason told) after error = ⊥
Sends4 net node set lower p (outcomes.Again sid how) after error = ⊥
Sends4 net node set lower p (outcomes.Hand sid how family) after error = ⊥
Sends4 net node set lower p outcomes.Local after error = ⊥

-- at an address and at a SID there is one outcome
abbrev pub Treats : Network → ℕ → Way → Packet → Outcome → Content → Option Packet → Type 0
Treats net node (NoWay reason) p outcome after error = Drops net node reason 0 (V6 p) outcome after error
Treats net node (Over set lower) p outcome after error = Sends net node set lower p outcome after error
Treats net node Own p outcome after error = GivesOutcome (treated_at_address net node p (at_address p)) outcome after error
Treats net node (Into n) p outcome after error = GivesOutcome (treated_in net node n (slice_get net.sids n) p) outcome after error

-- an IPv4 packet is sent on, or dropped
abbrev pub Treats4 : Network → ℕ → Way → Packet4 → Outcome → Content → Option Packet → Type 0
Treats4 net node (NoWay reason) p outcome after error = Drops net node reason 0 (V4 p) outcome after error
Treats4 net node (Over set lower) p outcome after error = Sends4 net node set lower p outcome after error
Treats4 net node Own p outcome after error = Drops net node reasons.NoRoute 0 (V4 p) outcome after error
Treats4 net node (Into n) p outcome after error = Drops net node reasons.NoRoute 0 (V4 p) outcome after error

-- the stage where no link has an MTU: an outcome that there is at a place, what stands there after it, and the error that is sent,
-- if one is
abbrev pub IsFreeStage : Network → Place → Content → Outcome → Content → Option Packet → Type 0
IsFreeStage net place (Unreadable bytes reason) outcome after error =
    Drops net place.node reason 0 (Unreadable bytes reason) outcome after error
IsFreeStage net place (V6 p) outcome after error = Treats net place.node (way_of net place p.destination) p outcome after error
IsFreeStage net place (V4 p) outcome after error = Treats4 net place.node (way_of net place (destination4 p)) p outcome after error

-- a member of the set of equal next hops is taken that the packet is too long for: it is dropped as it came, and told of that link's
-- MTU
pub record DropsAtLink (net : Network) (place : Place) (content : Content) (outcome : Outcome) (after : Content)
    (error : Option Packet) : Type 0 where
  pub link : ℕ
  pub left : Content
  pub would : IsFreeStage net place content (outcomes.Send link) left None
  pub long : mtu_at net link < own_len content
  pub drops : Drops net place.node reasons.MtuExceeded (mtu_at net link) content outcome after error

-- the stage: of the set of equal next hops there is one outcome for each member, Send where the packet goes over that link and a drop
-- where it is too long; every other outcome is as where no link has an MTU
abbrev pub IsStage : Network → Place → Content → Outcome → Content → Option Packet → Type 0
IsStage net place content (outcomes.Again sid how) after error = IsFreeStage net place content (outcomes.Again sid how) after error
IsStage net place content (outcomes.Hand sid how family) after error =
    IsFreeStage net place content (outcomes.Hand sid how family) after error
IsStage net place content (outcomes.Send link) after error =
    IsFreeStage net place content (outcomes.Send link) after error × (own_len content ≤ mtu_at net link)
IsStage net place content outcomes.Local after error = IsFreeStage net place content outcomes.Local after error
IsStage net place content (outcomes.Drop reason told) after error =
    IsFreeStage net place content (outcomes.Drop reason told) after error
    ⊎ DropsAtLink net place content (outcomes.Drop reason told) after error

-- the links of a SID through which a packet goes: the SID is the node's and has links
abbrev pub IsThrough : ℕ → Option SidEntry → Type 0
IsThrough node None = ⊥
IsThrough node (Some s) = (s.node ≡ node) × (0 < length s.links)

abbrev pub IsHow : Network → ℕ → How → Type 0
IsHow net node (Arrived table) = Unit {0}
IsHow net node (Submitted table) = Unit {0}
IsHow net node (Through sid lower) = IsThrough node (slice_get net.sids sid)

-- a place of the network
abbrev pub IsPlace : Network → Place → Type 0
IsPlace net place = (place.node < length net.nodes) × IsHow net place.node place.how
