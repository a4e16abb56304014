-- What SIDs do, by their behaviours and flavours (RFC 8986 section 4): which go on to the next segment, which expose the packet
-- inside and of which family, and which have links, a table or a policy of their own, put a header in front, and take flavours.
use Rattle.std.specs.Prelude.{ℕ, Bool, true, false, ◌==◌, ◌&&◌, ◌||◌, if◌then◌else◌, Option, Some, None}
use Rattle.srv6_rules.specs.declared.numbers.TheConstants.{IPV6_INSIDE, IPV4_INSIDE}
use Rattle.srv6_rules.specs.declared.sid.Behaviour.{Behaviour}
use Rattle.srv6_rules.specs.declared.sid.Behaviour.TheVariants.{End, EndX, EndT, Dx6, Dx4, Dt6, Dt4, Dt46, B6, B6Red}
use Rattle.srv6_rules.specs.declared.sid.Csid.{Csid}
use Rattle.srv6_rules.specs.declared.sid.Csid.TheVariants as csids
use Rattle.srv6_rules.specs.declared.family.Family.{Family}
use Rattle.srv6_rules.specs.declared.family.Family.TheVariants.{V6, V4}
use Rattle.srv6_rules.specs.declared.sid.SidEntry.{SidEntry}

-- the upper layer of an IPv6 packet inside a packet, and of an IPv4 packet
abbrev pub ipv6_inside : ℕ
ipv6_inside = IPV6_INSIDE

abbrev pub ipv4_inside : ℕ
ipv4_inside = IPV4_INSIDE

-- the family of a packet inside, by its kind as an upper layer
abbrev pub family_inside : ℕ → Family
family_inside kind = if kind == ipv4_inside then V4 else V6

-- the behaviours that make the next segment the destination: End, End.X, End.T and binding (RFC 8986 sections 4.1 to
-- 4.3, 4.13 and 4.14)
abbrev pub behaviour_goes_on : Behaviour → Bool
behaviour_goes_on End = true
behaviour_goes_on EndX = true
behaviour_goes_on (EndT table) = true
behaviour_goes_on Dx6 = false
behaviour_goes_on Dx4 = false
behaviour_goes_on (Dt6 table) = false
behaviour_goes_on (Dt4 table) = false
behaviour_goes_on (Dt46 table) = false
behaviour_goes_on (B6 policy) = true
behaviour_goes_on (B6Red policy) = true

-- the behaviours that expose the packet inside, by its kind as an upper layer: of IPv6 End.DX6 and End.DT6, of IPv4
-- End.DX4 and End.DT4, of both End.DT46 (RFC 8986 sections 4.4 to 4.8)
abbrev pub behaviour_exposes : Behaviour → ℕ → Bool
behaviour_exposes End kind = false
behaviour_exposes EndX kind = false
behaviour_exposes (EndT table) kind = false
behaviour_exposes Dx6 kind = kind == ipv6_inside
behaviour_exposes Dx4 kind = kind == ipv4_inside
behaviour_exposes (Dt6 table) kind = kind == ipv6_inside
behaviour_exposes (Dt4 table) kind = kind == ipv4_inside
behaviour_exposes (Dt46 table) kind = (kind == ipv6_inside) || (kind == ipv4_inside)
behaviour_exposes (B6 policy) kind = false
behaviour_exposes (B6Red policy) kind = false

-- the behaviours that send over links of their own: End.X, End.DX6 and End.DX4 (RFC 8986 sections 4.2, 4.4 and 4.5)
abbrev pub behaviour_takes_links : Behaviour → Bool
behaviour_takes_links End = false
behaviour_takes_links EndX = true
behaviour_takes_links (EndT table) = false
behaviour_takes_links Dx6 = true
behaviour_takes_links Dx4 = true
behaviour_takes_links (Dt6 table) = false
behaviour_takes_links (Dt4 table) = false
behaviour_takes_links (Dt46 table) = false
behaviour_takes_links (B6 policy) = false
behaviour_takes_links (B6Red policy) = false

-- the table of its own that a behaviour looks a packet up in: End.T's the packet itself, and those of End.DT6, End.DT4 and
-- End.DT46 the packet inside (RFC 8986 sections 4.3 and 4.6 to 4.8)
abbrev pub behaviour_table : Behaviour → Option ℕ
behaviour_table End = None
behaviour_table EndX = None
behaviour_table (EndT table) = Some table
behaviour_table Dx6 = None
behaviour_table Dx4 = None
behaviour_table (Dt6 table) = Some table
behaviour_table (Dt4 table) = Some table
behaviour_table (Dt46 table) = Some table
behaviour_table (B6 policy) = None
behaviour_table (B6Red policy) = None

-- the policy whose header a behaviour puts in front: End.B6.Encaps's and that of its reduced form (RFC 8986 sections 4.13
-- and 4.14)
abbrev pub behaviour_policy : Behaviour → Option ℕ
behaviour_policy End = None
behaviour_policy EndX = None
behaviour_policy (EndT table) = None
behaviour_policy Dx6 = None
behaviour_policy Dx4 = None
behaviour_policy (Dt6 table) = None
behaviour_policy (Dt4 table) = None
behaviour_policy (Dt46 table) = None
behaviour_policy (B6 policy) = Some policy
behaviour_policy (B6Red policy) = Some policy

-- the behaviours that put it there in the reduced form (RFC 8986 section 4.14)
abbrev pub behaviour_reduces : Behaviour → Bool
behaviour_reduces End = false
behaviour_reduces EndX = false
behaviour_reduces (EndT table) = false
behaviour_reduces Dx6 = false
behaviour_reduces Dx4 = false
behaviour_reduces (Dt6 table) = false
behaviour_reduces (Dt4 table) = false
behaviour_reduces (Dt46 table) = false
behaviour_reduces (B6 policy) = false
behaviour_reduces (B6Red policy) = true

-- the behaviours that take flavours: End, End.X and End.T (RFC 8986 section 4.16)
abbrev pub behaviour_takes_flavours : Behaviour → Bool
behaviour_takes_flavours End = true
behaviour_takes_flavours EndX = true
behaviour_takes_flavours (EndT table) = true
behaviour_takes_flavours Dx6 = false
behaviour_takes_flavours Dx4 = false
behaviour_takes_flavours (Dt6 table) = false
behaviour_takes_flavours (Dt4 table) = false
behaviour_takes_flavours (Dt46 table) = false
behaviour_takes_flavours (B6 policy) = false
behaviour_takes_flavours (B6Red policy) = false

abbrev pub goes_on : SidEntry → Bool
goes_on s = behaviour_goes_on s.behaviour

-- a packet inside a packet, of either family
abbrev pub is_packet_inside : ℕ → Bool
is_packet_inside kind = (kind == ipv6_inside) || (kind == ipv4_inside)

-- a SID exposes the packet inside that its behaviour exposes, and with USD a packet of either family (RFC 8986 section
-- 4.16.3)
abbrev pub exposes : SidEntry → ℕ → Bool
exposes s kind = behaviour_exposes s.behaviour kind || (s.usd && is_packet_inside kind)

-- a SID's part of a segment list is not compressed (RFC 9800 section 4)
abbrev pub is_plain : Csid → Bool
is_plain csids.Plain = true
is_plain csids.Next = false
is_plain csids.Replace = false
