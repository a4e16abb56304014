-- Need not be believed: helps proofs and other laws.
-- Terms beside those of `specs/WalkLaws.antt`.
use Rattle.std.specs.Prelude.{◌≡◌, ◌≢◌, ℕ, true, ◌+◌, ◌<◌, List, [], ◌∷◌, slice_get, Option, Some, None, is_some, Contains}
use Rattle.srv6_rules.specs.declared.family.Family.{Family}
use Rattle.srv6_rules.specs.declared.sid.SidEntry.{SidEntry}
use Rattle.srv6_rules.specs.Packet.{Packet, Content, V6, V4, Unreadable, spelling}
use Rattle.srv6_rules.specs.Behaviours.{behaviour_policy, behaviour_reduces}
use Rattle.srv6_rules.specs.Policies.{outer_by}
use Rattle.srv6_rules.specs.declared.family.Family.TheVariants as families
use Rattle.net_model.specs.declared.parts.NamedPolicy.{NamedPolicy}
use Rattle.srv6_rules.specs.declared.sid.Behaviour.{Behaviour}
use Rattle.srv6_rules.specs.Endpoint.{Onward, at_sid}
use Rattle.net_model.specs.Network.{Network}
use Rattle.walk_rules.specs.declared.place.How.{How}
use Rattle.walk_rules.specs.declared.place.Place.{Place}
use Rattle.walk_rules.specs.declared.place.Outcome.{Outcome}
use Rattle.walk_rules.specs.declared.place.Outcome.TheVariants as outcomes
use Rattle.walk_rules.specs.Way.{Into, way_of}
use Rattle.walk_rules.specs.Treatment.{Gave, allow_of, goes, over_link, treated_at_sid}
use Rattle.walk_rules.specs.Relation.{GivesOutcome, IsFreeStage, IsStage, IsPlace}
use Rattle.walk_rules.specs.Walk.{Stage}
use Rattle.walk_rules.specs.WalkLaws.{hops_at}

-- two sends on different members of one set
pub record SendsApart (set : List ℕ) (one other : Outcome) : Type 0 where
  pub one_link : ℕ
  pub other_link : ℕ
  pub one_sends : one ≡ outcomes.Send one_link
  pub other_sends : other ≡ outcomes.Send other_link
  pub one_member : Contains set one_link
  pub other_member : Contains set other_link
  pub apart : one_link ≢ other_link

-- the family of what stands there after an outcome: the exposed packet's, else as before
abbrev pub family_after : Place → Outcome → Family
family_after place (outcomes.Again n how) = place.family
family_after place (outcomes.Hand n how family) = family
family_after place (outcomes.Send link) = place.family
family_after place outcomes.Local = place.family
family_after place (outcomes.Drop reason error) = place.family

-- a packet whose hop limit was above 1, and is one less
abbrev pub IsLoweredByOne : Content → Content → Type 0
IsLoweredByOne (V6 p) (V6 q) = (1 < p.hop_limit) × (q.hop_limit + 1 ≡ p.hop_limit)
IsLoweredByOne (V6 p) (V4 q) = ⊥
IsLoweredByOne (V6 p) (Unreadable bytes reason) = ⊥
IsLoweredByOne (V4 p) after = ⊥
IsLoweredByOne (Unreadable bytes reason) after = ⊥

-- SID n was executed on a packet: the way leads into it, it is there and stands at the node, what went on from it did
-- so in the way that a word gives it by the behaviour, and what the stage gave is what the SID does
pub record Executes (way_by : ℕ → Behaviour → How) (net : Network) (place : Place) (content : Content) (gave : Gave) (n : ℕ)
    (how : How) : Type 0 where
  pub packet : Packet
  pub is_packet : content ≡ V6 packet
  pub way : way_of net place packet.destination ≡ Into n
  pub sid : SidEntry
  pub is_there : slice_get net.sids n ≡ Some sid
  pub stands : sid.node ≡ place.node
  pub goes_on : how ≡ way_by n sid.behaviour
  pub gives : gave
      ≡ treated_at_sid net place.node n sid.behaviour packet (at_sid sid (allow_of (slice_get net.nodes place.node)) packet)

-- SID n pushed exactly one header: the packet after the SID's own step, whose hop limit is one lower, stands after the header of
-- the policy that the SID binds, in its behaviour's form
pub record PushesOne (net : Network) (place : Place) (content after : Content) (n : ℕ) : Type 0 where
  pub packet : Packet
  pub is_packet : content ≡ V6 packet
  pub sid : SidEntry
  pub is_there : slice_get net.sids n ≡ Some sid
  pub stepped : Packet
  pub step : at_sid sid (allow_of (slice_get net.nodes place.node)) packet ≡ Onward stepped
  pub lowered : IsLoweredByOne (V6 packet) (V6 stepped)
  pub number : ℕ
  pub binds : behaviour_policy sid.behaviour ≡ Some number
  pub policy : NamedPolicy
  pub policy_there : slice_get net.policies number ≡ Some policy
  pub pushed : after ≡ V6 (outer_by policy.policy (behaviour_reduces sid.behaviour) families.V6 (spelling stepped))

-- a packet was delivered at a SID with USP, which may have taken out headers: its next header and its payload alone may be others
pub record IsDeliveredBehindUsp (net : Network) (place : Place) (content after : Content) : Type 0 where
  pub before : Packet
  pub left : Packet
  pub was : content ≡ V6 before
  pub is : after ≡ V6 left
  pub n : ℕ
  pub sid : SidEntry
  pub way : way_of net place before.destination ≡ Into n
  pub is_there : slice_get net.sids n ≡ Some sid
  pub usp : sid.usp ≡ true
  pub others : left ≡ record before { next_header = left.next_header; payload = left.payload }

-- member `link` of the set of equal next hops was taken: the packet is sent on it where it goes over that link, else dropped
pub record Takes (net : Network) (place : Place) (content : Content) (link : ℕ) (outcome : Outcome) (after : Content)
    (error : Option Packet) : Type 0 where
  pub left : Content
  pub would : IsFreeStage net place content (outcomes.Send link) left None
  pub gives : GivesOutcome (over_link net place.node content (goes (outcomes.Send link) left) link) outcome after error

-- two outcomes of different members of one set
pub record TakenApart (net : Network) (place : Place) (content : Content) (one : Outcome) (after : Content) (error : Option Packet)
    (other : Outcome) (later : Content) (told : Option Packet) : Type 0 where
  pub one_link : ℕ
  pub other_link : ℕ
  pub one_member : Contains (hops_at net place content) one_link
  pub other_member : Contains (hops_at net place content) other_link
  pub apart : one_link ≢ other_link
  pub one_taken : Takes net place content one_link one after error
  pub other_taken : Takes net place content other_link other later told

-- a drop tells whether an error is sent, and with another outcome none is
abbrev pub TellsOfError : Outcome → Option Packet → Type 0
TellsOfError (outcomes.Drop reason told) error = told ≡ is_some error
TellsOfError (outcomes.Again n how) error = error ≡ None
TellsOfError (outcomes.Hand n how family) error = error ≡ None
TellsOfError (outcomes.Send link) error = error ≡ None
TellsOfError outcomes.Local error = error ≡ None

-- each of these stages is at a place of the network, and gives an outcome that there is there
abbrev pub AreStages : Network → List Stage → Type 0
AreStages net [] = Unit {0}
AreStages net (s ∷ more) =
    IsPlace net s.place × IsStage net s.place s.before s.gave.outcome s.gave.after s.gave.error × AreStages net more
