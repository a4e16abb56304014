-- Need not be believed: helps proofs and other laws.
-- Terms beside those of `specs/NetworkRules.antt`.
use Rattle.std.specs.Prelude.{ℕ, ◌-◌, ◌%◌, ◌^◌, Bool, true, ◌==◌, ◌&&◌, ◌||◌, not, nat_lt, nat_le, if◌then◌else◌, List, length, Option, Some, None, IsTrue}
use Rattle.std.specs.List.{filter_map, list_all}
use Rattle.v6_addr.specs.Address.{PrefixValue}
use Rattle.v6_addr.specs.declared.address.Addr.{Addr}
use Rattle.srv6_rules.specs.declared.sid.SidEntry.{SidEntry}
use Rattle.srv6_rules.specs.declared.family.Family.{Family}
use Rattle.srv6_rules.specs.declared.family.Family.TheVariants as families
use Rattle.srv6_rules.specs.Behaviours.{behaviour_goes_on, behaviour_takes_links, behaviour_table, behaviour_policy, behaviour_takes_flavours, is_plain}
use Rattle.net_model.specs.declared.limits.TheConstants.{MAX_BLOCKS, MAX_NODES, MAX_LINKS, MAX_ROUTES, MAX_POLICIES, MAX_SIDS, MAX_ALLOWED_TYPES, MAX_IPV4_PREFIX_LEN, SHORT_CSID, LONG_CSID, LAST_TABLE, LAST_OCTET, LAST_FLOW_LABEL, MIN_LINK_MTU, MAX_LINK_MTU}
use Rattle.srv6_rules.specs.declared.numbers.TheConstants.{MAX_SEGMENTS}
use Rattle.net_model.specs.declared.parts.Block.{Block}
use Rattle.net_model.specs.declared.parts.NamedPolicy.{NamedPolicy}
use Rattle.net_model.specs.declared.parts.Node.{Node}
use Rattle.net_model.specs.declared.parts.Link.{Link}
use Rattle.net_model.specs.declared.parts.Route.{Route}
use Rattle.net_model.specs.Network.{Network}
use Rattle.net_model.specs.NetworkRules.{are_distinct, same_bytes, is_name, is_block_len, overlap, same_node_name, same_node_address, same_link_name, same_number, is_link_set, same_route, same_policy_name, suits_flavours, block_of, suits_block, same_sid, has_room}

-- an address has 128 bits
unfoldable pub is_address : ℕ → Bool
is_address a = nat_lt a (2 ^ 128)

-- a prefix has at most 128 bits, and the bits past them are 0
unfoldable pub is_prefix : PrefixValue → Bool
is_prefix p = nat_le p.len 128 && (is_address p.value && ((p.value % 2 ^ (128 - p.len)) == 0))

-- blocks (RFC 9800 section 3)

-- the bits of a compressed SID
abbrev pub is_csid_len : ℕ → Bool
is_csid_len bits = (bits == SHORT_CSID) || (bits == LONG_CSID)

abbrev pub keeps_block : Block → Bool
keeps_block b = is_prefix b.prefix && (is_block_len b.prefix.len && is_csid_len b.csid)

abbrev pub keeps_blocks : List Block → Bool
keeps_blocks blocks = nat_le (length blocks) MAX_BLOCKS && (list_all keeps_block blocks && are_distinct overlap blocks)

-- nodes

abbrev pub keeps_node : Node → Bool
keeps_node n = is_name n.name && (is_address n.address.value && nat_le (length n.allow) MAX_ALLOWED_TYPES)

abbrev pub keeps_nodes : List Node → Bool
keeps_nodes nodes =
    nat_le (length nodes) MAX_NODES && (list_all keeps_node nodes &&
    (are_distinct same_node_name nodes && are_distinct same_node_address nodes))

-- links

-- a link ends at another node than it starts at, or leaves
abbrev pub ends_elsewhere : ℕ → ℕ → Option ℕ → Bool
ends_elsewhere node_count from None = true
ends_elsewhere node_count from (Some to) = nat_lt to node_count && not (to == from)

-- each link carries 1,280 bytes, and none needs more than a header and the longest payload (RFC 8200 sections 3 and 5)
abbrev pub is_mtu : ℕ → Bool
is_mtu mtu = nat_le MIN_LINK_MTU mtu && nat_le mtu MAX_LINK_MTU

abbrev pub keeps_link : ℕ → Link → Bool
keeps_link node_count l = (is_name l.name && is_mtu l.mtu) && (nat_lt l.from node_count && ends_elsewhere node_count l.from l.to)

abbrev pub keeps_links : ℕ → List Link → Bool
keeps_links node_count links = nat_le (length links) MAX_LINKS &&
    (list_all (keeps_link node_count) links && are_distinct same_link_name links)

-- routes

-- a table's number
abbrev pub is_table : ℕ → Bool
is_table table = nat_le table LAST_TABLE

-- a prefix of a family; that of IPv4 has its bits in front
abbrev pub is_prefix_of : Family → PrefixValue → Bool
is_prefix_of families.V6 p = is_prefix p
is_prefix_of families.V4 p = is_prefix p && nat_le p.len MAX_IPV4_PREFIX_LEN

abbrev pub keeps_route : ℕ → List Link → Route → Bool
keeps_route node_count links r =
    nat_lt r.node node_count && (is_table r.table && (is_prefix_of r.family r.prefix && is_link_set links r.node r.via))

abbrev pub keeps_routes : ℕ → List Link → List Route → Bool
keeps_routes node_count links routes =
    nat_le (length routes) MAX_ROUTES && (list_all (keeps_route node_count links) routes && are_distinct same_route routes)

-- policies

abbrev pub is_segment : Addr → Bool
is_segment a = is_address a.value

abbrev pub keeps_segments : List Addr → Bool
keeps_segments segments = nat_le 1 (length segments) && (nat_le (length segments) MAX_SEGMENTS && list_all is_segment segments)

-- the numbers of an outer header: 8 bits of traffic class, 20 of flow label, and a hop limit from 1 to 255
abbrev pub keeps_outer : ℕ → ℕ → ℕ → Bool
keeps_outer traffic_class flow_label hop_limit =
    nat_le traffic_class LAST_OCTET && (nat_le flow_label LAST_FLOW_LABEL && (nat_le 1 hop_limit && nat_le hop_limit LAST_OCTET))

abbrev pub keeps_policy : NamedPolicy → Bool
keeps_policy p =
    is_name p.name && (is_address p.policy.source.value && (keeps_segments p.policy.segments
    && keeps_outer p.policy.traffic_class p.policy.flow_label p.policy.hop_limit))

abbrev pub keeps_policies : List NamedPolicy → Bool
keeps_policies policies =
    nat_le (length policies) MAX_POLICIES && (list_all keeps_policy policies && are_distinct same_policy_name policies)

-- SIDs

-- a set of links at a SID that takes one, and no link at another
abbrev pub suits_links : List Link → ℕ → Bool → List ℕ → Bool
suits_links links node takes set = if takes then is_link_set links node set else length set == 0

-- a table of a SID's own has a table's number
abbrev pub suits_table : Option ℕ → Bool
suits_table None = true
suits_table (Some table) = is_table table

-- a policy that a SID names is there
abbrev pub suits_policy : ℕ → Option ℕ → Bool
suits_policy policy_count None = true
suits_policy policy_count (Some policy) = nat_lt policy policy_count

-- the table, the policy, the links and the flavours of a SID are as its behaviour takes them
abbrev pub keeps_behaviour : Network → SidEntry → Bool
keeps_behaviour net s =
    suits_table (behaviour_table s.behaviour) && (suits_policy (length net.policies) (behaviour_policy s.behaviour)
    && (suits_links net.links s.node (behaviour_takes_links s.behaviour) s.links
    && suits_flavours (behaviour_takes_flavours s.behaviour) s.psp s.usp s.usd))

-- a SID tells the length of its block, and its compression suits the block; one in no block is not compressed
abbrev pub keeps_compression : Option Block → SidEntry → Bool
keeps_compression None s = (s.block_len == 0) && is_plain s.csid
keeps_compression (Some b) s =
    (s.block_len == b.prefix.len) && suits_block s.csid b s.prefix.len (behaviour_goes_on s.behaviour)

abbrev pub is_title : ℕ → Option ℕ → Bool
is_title title_count None = true
is_title title_count (Some t) = nat_lt t title_count

abbrev pub keeps_sid : Network → SidEntry → Bool
keeps_sid net s =
    nat_lt s.node (length net.nodes) && (nat_le 1 s.prefix.len && (is_prefix s.prefix
    && (keeps_behaviour net s && (keeps_compression (block_of net.blocks s.prefix) s && is_title (length net.titles) s.title))))

abbrev pub title_of : SidEntry → Option ℕ
title_of s = s.title

abbrev pub keeps_sids : Network → Bool
keeps_sids net =
    nat_le (length net.sids) MAX_SIDS && (list_all (keeps_sid net) net.sids && (are_distinct same_sid net.sids
    && (list_all (has_room net.sids) net.sids && are_distinct same_number (filter_map title_of net.sids))))

-- titles are names, each of which stands once
abbrev pub keeps_titles : List (List ℕ) → Bool
keeps_titles titles = list_all is_name titles && are_distinct same_bytes titles

-- the network keeps all rules
unfoldable pub is_network : Network → Bool
is_network net =
    keeps_blocks net.blocks && (keeps_nodes net.nodes && (keeps_links (length net.nodes) net.links
    && (keeps_routes (length net.nodes) net.links net.routes && (keeps_policies net.policies && (keeps_titles net.titles
    && keeps_sids net)))))

abbrev pub IsNetwork : Network → Type 0
IsNetwork net = IsTrue (is_network net)
