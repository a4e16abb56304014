-- The rules that a network keeps (own rules, but for the ranges of addresses and prefixes).
use Rattle.std.specs.Prelude.{ℕ, ◌+◌, ◌-◌, ◌%◌, Bool, true, false, ◌==◌, ◌&&◌, ◌||◌, not, nat_le, count_by, List, [], ◌∷◌, length, slice_get, find, Option, Some, None}
use Rattle.std.specs.List.{list_any, list_all}
use Rattle.v6_addr.specs.Address.{PrefixValue, holds_address, is_inside}
use Rattle.srv6_rules.specs.declared.sid.SidEntry.{SidEntry}
use Rattle.srv6_rules.specs.declared.sid.Csid.{Csid}
use Rattle.srv6_rules.specs.declared.sid.Csid.TheVariants as csids
use Rattle.srv6_rules.specs.declared.family.Family.{Family}
use Rattle.srv6_rules.specs.declared.family.Family.TheVariants as families
use Rattle.net_model.specs.declared.limits.TheConstants.{MAX_SIDS_OF_NODE, MAX_LINKS_OF_SET, MAX_NAME_BYTES, MAX_BLOCK_LEN, BLOCK_UNIT, LONG_CSID}
use Rattle.net_model.specs.declared.parts.Block.{Block}
use Rattle.net_model.specs.declared.parts.BlockKind.{BlockKind}
use Rattle.net_model.specs.declared.parts.BlockKind.TheVariants.{Next, Replace}
use Rattle.net_model.specs.declared.parts.NamedPolicy.{NamedPolicy}
use Rattle.net_model.specs.declared.parts.Node.{Node}
use Rattle.net_model.specs.declared.parts.Link.{Link}
use Rattle.net_model.specs.declared.parts.Route.{Route}

-- no two items agree
abbrev pub are_distinct : {X : Type 0} → (X → X → Bool) → List X → Bool
are_distinct same [] = true
are_distinct same (x ∷ xs) = not (list_any (same x) xs) && are_distinct same xs

-- two lists of numbers are the same
abbrev pub same_bytes : List ℕ → List ℕ → Bool
same_bytes [] [] = true
same_bytes [] (y ∷ ys) = false
same_bytes (x ∷ xs) [] = false
same_bytes (x ∷ xs) (y ∷ ys) = (x == y) && same_bytes xs ys

-- letters, digits, '_', '.' and '-'
abbrev pub is_between : ℕ → ℕ → ℕ → Bool
is_between low high b = nat_le low b && nat_le b high

abbrev pub is_name_byte : ℕ → Bool
is_name_byte b = is_between 97 122 b || (is_between 65 90 b || (is_between 48 57 b || ((b == 95) || ((b == 46) || (b == 45)))))

-- a name has some bytes, and not too many
abbrev pub is_name : List ℕ → Bool
is_name name = nat_le 1 (length name) && (nat_le (length name) MAX_NAME_BYTES && list_all is_name_byte name)

abbrev pub same_prefix : PrefixValue → PrefixValue → Bool
same_prefix p q = (p.value == q.value) && (p.len == q.len)

-- blocks (RFC 9800 section 3)

-- the length of a block: a multiple of BLOCK_UNIT bits, from that to MAX_BLOCK_LEN
abbrev pub is_block_len : ℕ → Bool
is_block_len len = nat_le BLOCK_UNIT len && (nat_le len MAX_BLOCK_LEN && ((len % BLOCK_UNIT) == 0))

-- two blocks overlap where one holds the other's first address
abbrev pub overlap : Block → Block → Bool
overlap a b = holds_address a.prefix b.prefix.value || holds_address b.prefix a.prefix.value

-- nodes

abbrev pub same_node_name : Node → Node → Bool
same_node_name m n = same_bytes m.name n.name

abbrev pub same_node_address : Node → Node → Bool
same_node_address m n = m.address.value == n.address.value

-- links

abbrev pub same_link_name : Link → Link → Bool
same_link_name m l = same_bytes m.name l.name

-- sets of equal next hops

abbrev pub starts_at_node : ℕ → Option Link → Bool
starts_at_node node None = false
starts_at_node node (Some l) = l.from == node

-- the link is there, and starts at the node
abbrev pub starts_at : List Link → ℕ → ℕ → Bool
starts_at links node n = starts_at_node node (slice_get links n)

abbrev pub same_number : ℕ → ℕ → Bool
same_number m n = m == n

-- some links of the node, not too many, each once
abbrev pub is_link_set : List Link → ℕ → List ℕ → Bool
is_link_set links node set =
    nat_le 1 (length set) && (nat_le (length set) MAX_LINKS_OF_SET && (are_distinct same_number set && list_all (starts_at links node) set))

-- routes

abbrev pub same_family : Family → Family → Bool
same_family families.V6 families.V6 = true
same_family families.V6 families.V4 = false
same_family families.V4 families.V6 = false
same_family families.V4 families.V4 = true

abbrev pub same_route : Route → Route → Bool
same_route q r = (q.node == r.node) && ((q.table == r.table) && (same_family q.family r.family && same_prefix q.prefix r.prefix))

-- policies

abbrev pub same_policy_name : NamedPolicy → NamedPolicy → Bool
same_policy_name p q = same_bytes p.name q.name

-- SIDs

-- flavours stand at a SID that takes them alone
abbrev pub suits_flavours : Bool → Bool → Bool → Bool → Bool
suits_flavours takes psp usp usd = takes || (not psp && (not usp && not usd))

-- the first block that a prefix lies strictly inside; since no blocks overlap there is no other
abbrev pub block_of : List Block → PrefixValue → Option Block
block_of blocks p = find (λ b. is_inside p b.prefix) blocks

-- the length of a block, 0 where there is none
abbrev pub block_len_of : Option Block → ℕ
block_len_of None = 0
block_len_of (Some b) = b.prefix.len

-- the bits after a block's are as many as its compressed SIDs have, or as a long one has
abbrev pub is_next_len : Block → ℕ → Bool
is_next_len b len = (len == b.prefix.len + b.csid) || (len == b.prefix.len + LONG_CSID)

-- a SID with NEXT goes on, and lies in a NEXT block (RFC 9800 section 4.1; the lengths are an own rule)
abbrev pub suits_next : BlockKind → Block → ℕ → Bool → Bool
suits_next Next b len goes_on = goes_on && is_next_len b len
suits_next Replace b len goes_on = false

-- a SID with REPLACE lies in a REPLACE block, and the bits after the block's are a compressed SID of it (RFC 9800 section
-- 4.2)
abbrev pub suits_replace : BlockKind → Block → ℕ → Bool
suits_replace Next b len = false
suits_replace Replace b len = len == b.prefix.len + b.csid

-- the compression of a SID suits the block that its prefix, of so many bits, lies strictly inside
abbrev pub suits_block : Csid → Block → ℕ → Bool → Bool
suits_block csids.Plain b len goes_on = true
suits_block csids.Next b len goes_on = suits_next b.kind b len goes_on
suits_block csids.Replace b len goes_on = suits_replace b.kind b len

abbrev pub same_sid : SidEntry → SidEntry → Bool
same_sid s t = (s.node == t.node) && same_prefix s.prefix t.prefix

abbrev pub is_sid_of : ℕ → SidEntry → Bool
is_sid_of node s = s.node == node

-- not too many SIDs stand at the node of each SID
abbrev pub has_room : List SidEntry → SidEntry → Bool
has_room sids s = nat_le (count_by (is_sid_of s.node) sids) MAX_SIDS_OF_NODE
