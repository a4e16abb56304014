-- One node's treatment of one packet, as a function of the place, the packet and the choice among equal next hops.
use Rattle.std.specs.Prelude.{ℕ, ◌-◌, ◌%◌, Bool, true, false, not, ◌&&◌, nat_le, if◌then◌else◌, List, [], length, slice_index, slice_get, Option, Some, None, is_some}
use Rattle.srv6_rules.specs.declared.sid.Behaviour.{Behaviour}
use Rattle.srv6_rules.specs.Behaviours.{behaviour_takes_links, behaviour_table, behaviour_policy, behaviour_reduces}
use Rattle.srv6_rules.specs.declared.reason.Reason.{Reason}
use Rattle.srv6_rules.specs.declared.reason.Reason.TheVariants as reasons
use Rattle.srv6_rules.specs.declared.sid.SidEntry.{SidEntry}
use Rattle.srv6_rules.specs.declared.icmp.IcmpKind.{IcmpKind}
use Rattle.srv6_rules.specs.Packet.{Packet, Content, V6, V4, Unreadable, bytes_of, read_as, spelling}
use Rattle.srv6_rules.specs.Policies.{Encapsulating, Outer, TooBig, InnerHop, pushed_by}
use Rattle.srv6_rules.specs.Packet4.{Packet4, ttl, destination4, lowered4}
use Rattle.srv6_rules.specs.Errors.{kind_of, error_packet}
use Rattle.srv6_rules.specs.Endpoint.{Endpoint, Onward, Exposed, Delivered, Refused, at_sid, at_address}
use Rattle.srv6_rules.specs.declared.family.Family.TheVariants as families
use Rattle.net_model.specs.declared.parts.Link.{Link}
use Rattle.net_model.specs.declared.parts.Node.{Node}
use Rattle.net_model.specs.declared.parts.NamedPolicy.{NamedPolicy}
use Rattle.net_model.specs.Network.{Network}
use Rattle.walk_rules.specs.declared.place.How.{How}
use Rattle.walk_rules.specs.declared.place.How.TheVariants.{Arrived, Submitted, Through}
use Rattle.walk_rules.specs.declared.place.Place.{Place}
use Rattle.walk_rules.specs.declared.place.Outcome.{Outcome}
use Rattle.walk_rules.specs.declared.place.Outcome.TheVariants as outcomes
use Rattle.walk_rules.specs.Way.{Way, NoWay, Over, Own, Into, way_of}

abbrev pub allow_of : Option Node → List ℕ
allow_of None = []
allow_of (Some n) = n.allow

-- a node's own address; a number that no node has has none, and 0 stands for it
abbrev pub address_of : Option Node → ℕ
address_of None = 0
address_of (Some n) = n.address.value

-- what a stage gives: its outcome, the packet after it, and the ICMPv6 error that the node sends, if it sends one
pub record Gave : Type 0 where
  pub outcome : Outcome
  pub after : Content
  pub error : Option Packet

-- the error of a kind, if there is one, about a packet, from an address, if it is made
abbrev pub error_by : Option IcmpKind → Packet → ℕ → Option Packet
error_by None p from = None
error_by (Some kind) p from = error_packet p kind from

-- the ICMPv6 error that is sent from an address about what is dropped for a reason, with a detail: the fault's place counted from
-- the first byte of what stood there, or for MtuExceeded the link's MTU; about an IPv4 packet, and about bytes that do not read,
-- none is (RFC 4443)
abbrev pub error_from : ℕ → Reason → ℕ → Content → Option Packet
error_from from reason detail (V6 p) = error_by (kind_of reason detail) p from
error_from from reason detail (V4 p) = None
error_from from reason detail (Unreadable bytes why) = None

-- the error that a node sends about what it drops, from the node's own address
unfoldable pub error_of : Network → ℕ → Reason → ℕ → Content → Option Packet
error_of net node reason detail content = error_from (address_of (slice_get net.nodes node)) reason detail content

-- what stands at a node is dropped as it is, for a reason, with its detail, 0 where the reason has none
abbrev pub dropped : Network → ℕ → Reason → ℕ → Content → Gave
dropped net node reason detail content =
    let error = error_of net node reason detail content in
    record { outcome = outcomes.Drop reason (is_some error); after = content; error = error }

-- an outcome, and the packet after it, about which no error is sent
abbrev pub goes : Outcome → Content → Gave
goes outcome after = record { outcome = outcome; after = after; error = None }

-- the member of a set of equal next hops that a choice names
abbrev pub member_of : List ℕ → ℕ → ℕ
member_of set choice = slice_index set (choice % length set)

abbrev pub lowered : Bool → Packet → Packet
lowered true p = record p { hop_limit = p.hop_limit - 1 }
lowered false p = p

-- a packet with a hop limit of at most 1 goes over no link where the hop limit is lowered (RFC 8200 section 3)
abbrev pub sent : Network → ℕ → List ℕ → Bool → Packet → ℕ → Gave
sent net node set lower p choice =
    if lower && nat_le p.hop_limit 1 then dropped net node reasons.HopLimit 0 (V6 p)
    else goes (outcomes.Send (member_of set choice)) (V6 (lowered lower p))

abbrev pub ttl_lowered : Bool → Packet4 → Packet4
ttl_lowered true p = lowered4 p
ttl_lowered false p = p

-- so it is with the TTL of an IPv4 packet (RFC 791 section 3.2)
abbrev pub sent4 : Network → ℕ → List ℕ → Bool → Packet4 → ℕ → Gave
sent4 net node set lower p choice =
    if lower && nat_le (ttl p) 1 then dropped net node reasons.Ttl 0 (V4 p)
    else goes (outcomes.Send (member_of set choice)) (V4 (ttl_lowered lower p))

-- what comes of a packet at the node's own address; none goes on from there and none is exposed, and the two cases of the
-- data that cannot come are as where a packet has no way
abbrev pub treated_at_address : Network → ℕ → Packet → Endpoint → Gave
treated_at_address net node p (Onward q) = dropped net node reasons.NoRoute 0 (V6 p)
treated_at_address net node p (Exposed family bytes) = dropped net node reasons.NoRoute 0 (V6 p)
treated_at_address net node p (Delivered q) = goes outcomes.Local (V6 q)
treated_at_address net node p (Refused reason at) = dropped net node reason at (V6 p)

-- the table, or table 0 where there is none
abbrev pub table_or_first : Option ℕ → ℕ
table_or_first None = 0
table_or_first (Some table) = table

-- how a packet goes on from SID n, by whether the SID takes links, whether the packet itself goes on, and the table that
-- the SID has of its own: over its links, where what was exposed has its hop limit lowered; else by a look-up, of the
-- packet itself submitted to the table or to table 0, and of what was exposed as one that has arrived (RFC 8986 section 4;
-- that what was exposed has arrived, so that a route lowers it, is an own rule)
abbrev pub way_on : ℕ → Bool → Bool → Option ℕ → How
way_on n true goes_on table = Through n (not goes_on)
way_on n false true table = Submitted (table_or_first table)
way_on n false false table = Arrived (table_or_first table)

-- how the packet itself goes on from SID n
abbrev pub onward_from : ℕ → Behaviour → How
onward_from n b = way_on n (behaviour_takes_links b) true (behaviour_table b)

-- how what SID n exposed goes on
abbrev pub exposed_from : ℕ → Behaviour → How
exposed_from n b = way_on n (behaviour_takes_links b) false (behaviour_table b)

-- what comes of a packet at SID n that goes on after a policy's header: it stays at the node after that header; where it would be
-- too long it is dropped as it came. Pushing lowers no hop limit, so the last case doesn't come
abbrev pub pushed_at_sid : Network → ℕ → ℕ → Behaviour → Packet → Encapsulating → Gave
pushed_at_sid net node n b p (Outer outer) = goes (outcomes.Again n (onward_from n b)) (V6 outer)
pushed_at_sid net node n b p (TooBig length) = dropped net node reasons.TooBig 0 (V6 p)
pushed_at_sid net node n b p InnerHop = dropped net node reasons.InnerHop 0 (V6 p)

-- a SID binds no policy that is not there
abbrev pub bound_at_sid : Network → ℕ → ℕ → Behaviour → Packet → Packet → Option NamedPolicy → Gave
bound_at_sid net node n b p q None = dropped net node reasons.NoRoute 0 (V6 p)
bound_at_sid net node n b p q (Some named) =
    pushed_at_sid net node n b p (pushed_by named.policy (behaviour_reduces b) families.V6 (spelling q))

-- what comes of a packet at SID n that goes on as another: it stays at the node, after the header of the policy that the SID binds,
-- if it binds one (RFC 8986 sections 4.13 and 4.14)
abbrev pub onward_at_sid : Network → ℕ → ℕ → Behaviour → Packet → Packet → Option ℕ → Gave
onward_at_sid net node n b p q None = goes (outcomes.Again n (onward_from n b)) (V6 q)
onward_at_sid net node n b p q (Some number) = bound_at_sid net node n b p q (slice_get net.policies number)

-- what comes of a packet at SID n; what is exposed is read as a packet of its family
abbrev pub treated_at_sid : Network → ℕ → ℕ → Behaviour → Packet → Endpoint → Gave
treated_at_sid net node n b p (Onward q) = onward_at_sid net node n b p q (behaviour_policy b)
treated_at_sid net node n b p (Exposed family bytes) = goes (outcomes.Hand n (exposed_from n b) family) (read_as family bytes)
treated_at_sid net node n b p (Delivered q) = goes outcomes.Local (V6 q)
treated_at_sid net node n b p (Refused reason at) = dropped net node reason at (V6 p)

-- a look-up gives no SID that is not there
abbrev pub treated_in : Network → ℕ → ℕ → Option SidEntry → Packet → Gave
treated_in net node n None p = dropped net node reasons.NoRoute 0 (V6 p)
treated_in net node n (Some s) p = treated_at_sid net node n s.behaviour p (at_sid s (allow_of (slice_get net.nodes node)) p)

abbrev pub treated : Network → ℕ → Way → Packet → ℕ → Gave
treated net node (NoWay reason) p choice = dropped net node reason 0 (V6 p)
treated net node (Over set lower) p choice = sent net node set lower p choice
treated net node Own p choice = treated_at_address net node p (at_address p)
treated net node (Into n) p choice = treated_in net node n (slice_get net.sids n) p

-- an IPv4 packet on a way: nodes have no address and no SID among their IPv4 entries, so the two cases of the data that cannot
-- come are as where a packet has no way
abbrev pub treated4 : Network → ℕ → Way → Packet4 → ℕ → Gave
treated4 net node (NoWay reason) p choice = dropped net node reason 0 (V4 p)
treated4 net node (Over set lower) p choice = sent4 net node set lower p choice
treated4 net node Own p choice = dropped net node reasons.NoRoute 0 (V4 p)
treated4 net node (Into n) p choice = dropped net node reasons.NoRoute 0 (V4 p)

-- the stage where no link has an MTU: what one node does with what stands at a place, under a choice
abbrev pub free_step_of : Network → Place → Content → ℕ → Gave
free_step_of net place (Unreadable bytes reason) choice = dropped net place.node reason 0 (Unreadable bytes reason)
free_step_of net place (V6 p) choice = treated net place.node (way_of net place p.destination) p choice
free_step_of net place (V4 p) choice = treated4 net place.node (way_of net place (destination4 p)) p choice

-- the bytes of a packet, its header among them (RFC 8200 section 3, RFC 791 section 3.1)
abbrev pub own_len : Content → ℕ
own_len content = length (bytes_of content)

-- the longest packet that a link carries; a number that no link has carries none
abbrev pub mtu_of : Option Link → ℕ
mtu_of None = 0
mtu_of (Some l) = l.mtu

abbrev pub mtu_at : Network → ℕ → ℕ
mtu_at net link = mtu_of (slice_get net.links link)

-- over a link that was taken at a node: what was given where the packet that came goes over the link, else it is dropped, and told of
-- the link's MTU (RFC 8200 section 5, RFC 4443 section 3.2). Lowering a hop limit or TTL leaves the length as it is
abbrev pub over_link : Network → ℕ → Content → Gave → ℕ → Gave
over_link net node content gave link =
    if nat_le (own_len content) (mtu_at net link) then gave
    else dropped net node reasons.MtuExceeded (mtu_at net link) content

abbrev pub judged_by : Network → ℕ → Content → Gave → Outcome → Gave
judged_by net node content gave (outcomes.Again sid how) = gave
judged_by net node content gave (outcomes.Hand sid how family) = gave
judged_by net node content gave (outcomes.Send link) = over_link net node content gave link
judged_by net node content gave outcomes.Local = gave
judged_by net node content gave (outcomes.Drop reason error) = gave

-- what was given where no link has an MTU, with the MTU of the link that it takes, if it takes one
abbrev pub judged : Network → ℕ → Content → Gave → Gave
judged net node content gave = judged_by net node content gave gave.outcome

-- the stage
abbrev pub step_of : Network → Place → Content → ℕ → Gave
step_of net place content choice = judged net place.node content (free_step_of net place content choice)
