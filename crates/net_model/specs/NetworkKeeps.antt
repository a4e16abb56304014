-- Need not be believed: helps proofs and other laws.
-- What holds of a network that keeps the rules, fact by fact.
use Rattle.std.specs.Prelude.{◌≡◌, ◌≢◌, ◌⊎◌, ℕ, ◌+◌, ◌%◌, ◌<◌, ◌≤◌, ◌^◌, true, false, count_by, List, [], length, slice_get, Option, Some, None, IfSome, MatchBool, IsTrue, Contains}
use Rattle.v6_addr.specs.Address.{PrefixValue, Holds, IsInside}
use Rattle.v6_addr.specs.AddressTerms.{IsPrefix}
use Rattle.v6_addr.specs.declared.address.Addr.{Addr}
use Rattle.srv6_rules.specs.declared.sid.SidEntry.{SidEntry}
use Rattle.srv6_rules.specs.declared.sid.Csid.{Csid}
use Rattle.srv6_rules.specs.declared.sid.Csid.TheVariants as csids
use Rattle.srv6_rules.specs.declared.family.Family.{Family}
use Rattle.srv6_rules.specs.declared.family.Family.TheVariants as families
use Rattle.srv6_rules.specs.Behaviours.{behaviour_goes_on, behaviour_takes_links, behaviour_table, behaviour_policy, behaviour_takes_flavours}
use Rattle.net_model.specs.declared.limits.TheConstants.{MAX_BLOCKS, MAX_NODES, MAX_LINKS, MAX_ROUTES, MAX_POLICIES, MAX_SIDS, MAX_SIDS_OF_NODE, MAX_LINKS_OF_SET, MAX_ALLOWED_TYPES, MAX_BLOCK_LEN, MAX_IPV4_PREFIX_LEN, BLOCK_UNIT, SHORT_CSID, LONG_CSID, LAST_TABLE, LAST_OCTET, LAST_FLOW_LABEL, MIN_LINK_MTU, MAX_LINK_MTU}
use Rattle.srv6_rules.specs.declared.numbers.TheConstants.{MAX_SEGMENTS}
use Rattle.net_model.specs.declared.parts.Block.{Block}
use Rattle.net_model.specs.declared.parts.BlockKind.TheVariants.{Next, Replace}
use Rattle.net_model.specs.declared.parts.NamedPolicy.{NamedPolicy}
use Rattle.net_model.specs.declared.parts.Node.{Node}
use Rattle.net_model.specs.declared.parts.Link.{Link}
use Rattle.net_model.specs.declared.parts.Route.{Route}
use Rattle.net_model.specs.Network.{Network}
use Rattle.net_model.specs.NetworkRules.{is_name, is_sid_of, block_of, block_len_of}

-- the link is there, and starts at the node
abbrev pub StartsAt : List Link → ℕ → ℕ → Type 0
StartsAt links node n = (l : Link) × (slice_get links n ≡ Some l) × (l.from ≡ node)

-- a set of equal next hops: some links of the node, not too many, each once
pub record IsLinkSet (links : List Link) (node : ℕ) (set : List ℕ) : Type 0 where
  pub some : 0 < length set
  pub at_most : length set ≤ MAX_LINKS_OF_SET
  pub each : (n : ℕ) → Contains set n → StartsAt links node n
  pub once : (i j n : ℕ) → slice_get set i ≡ Some n → slice_get set j ≡ Some n → i ≡ j

-- a link ends at a node that is there and is not its own, or leaves the network
abbrev pub EndsElsewhere : ℕ → ℕ → Option ℕ → Type 0
EndsElsewhere node_count from None = Unit {0}
EndsElsewhere node_count from (Some to) = (to < node_count) × (to ≢ from)

-- a SID has no flavours
pub record IsUnflavoured (s : SidEntry) : Type 0 where
  pub psp : s.psp ≡ false
  pub usp : s.usp ≡ false
  pub usd : s.usd ≡ false

-- a SID whose behaviour takes links has a set of them, and another has none; a table of its own has a table's number, and a
-- policy that it names is there; flavours stand where the behaviour takes them alone
pub record SuitsBehaviour (net : Network) (s : SidEntry) : Type 0 where
  pub table : IfSome (behaviour_table s.behaviour) (λ number. number ≤ LAST_TABLE)
  pub policy : IfSome (behaviour_policy s.behaviour) (λ number. number < length net.policies)
  pub links : MatchBool (behaviour_takes_links s.behaviour) (IsLinkSet net.links s.node s.links) (s.links ≡ [])
  pub flavours : behaviour_takes_flavours s.behaviour ≡ false → IsUnflavoured s

-- the block is there and the prefix lies strictly inside it; with none it lies strictly inside no block
abbrev pub IsBlockOf : List Block → PrefixValue → Option Block → Type 0
IsBlockOf blocks p None = (b : Block) → Contains blocks b → ¬ IsInside p b.prefix
IsBlockOf blocks p (Some b) = Contains blocks b × IsInside p b.prefix

-- a SID with NEXT goes on and lies strictly inside a NEXT block, with the bits of a compressed SID of the block or of a long
-- one after the block's; a SID with REPLACE lies strictly inside a REPLACE block, with those of a compressed SID of the block
abbrev pub SuitsBlock : Csid → SidEntry → Option Block → Type 0
SuitsBlock csids.Plain s block = Unit {0}
SuitsBlock csids.Next s block = (b : Block) × (block ≡ Some b) × (b.kind ≡ Next) × (behaviour_goes_on s.behaviour ≡ true)
    × ((s.prefix.len ≡ b.prefix.len + b.csid) ⊎ (s.prefix.len ≡ b.prefix.len + LONG_CSID))
SuitsBlock csids.Replace s block = (b : Block) × (block ≡ Some b) × (b.kind ≡ Replace) × (s.prefix.len ≡ b.prefix.len + b.csid)

-- a prefix of IPv4 has its bits in front
pub record IsPrefixOf (family : Family) (p : PrefixValue) : Type 0 where
  pub prefix : IsPrefix p
  pub ipv4 : family ≡ families.V4 → p.len ≤ MAX_IPV4_PREFIX_LEN

pub record KeepsBlock (b : Block) : Type 0 where
  pub prefix : IsPrefix b.prefix
  pub at_least : BLOCK_UNIT ≤ b.prefix.len
  pub at_most : b.prefix.len ≤ MAX_BLOCK_LEN
  pub whole : b.prefix.len % BLOCK_UNIT ≡ 0
  pub csid : (b.csid ≡ SHORT_CSID) ⊎ (b.csid ≡ LONG_CSID)

pub record KeepsPolicy (p : NamedPolicy) : Type 0 where
  pub name : IsTrue (is_name p.name)
  pub source : p.policy.source.value < 2 ^ 128
  pub some : 0 < length p.policy.segments
  pub at_most : length p.policy.segments ≤ MAX_SEGMENTS
  pub segment : (i : ℕ) (a : Addr) → slice_get p.policy.segments i ≡ Some a → a.value < 2 ^ 128
  pub traffic_class : p.policy.traffic_class ≤ LAST_OCTET
  pub flow_label : p.policy.flow_label ≤ LAST_FLOW_LABEL
  pub above_zero : 0 < p.policy.hop_limit
  pub hop_limit : p.policy.hop_limit ≤ LAST_OCTET

abbrev pub IsTitleOf : ℕ → Option ℕ → Type 0
IsTitleOf title_count None = Unit {0}
IsTitleOf title_count (Some t) = t < title_count

pub record KeepsNode (n : Node) : Type 0 where
  pub name : IsTrue (is_name n.name)
  pub address : n.address.value < 2 ^ 128
  pub allow : length n.allow ≤ MAX_ALLOWED_TYPES

pub record KeepsLink (net : Network) (l : Link) : Type 0 where
  pub name : IsTrue (is_name l.name)
  pub from : l.from < length net.nodes
  pub to : EndsElsewhere (length net.nodes) l.from l.to
  pub at_least : MIN_LINK_MTU ≤ l.mtu
  pub at_most : l.mtu ≤ MAX_LINK_MTU

pub record KeepsRoute (net : Network) (r : Route) : Type 0 where
  pub node : r.node < length net.nodes
  pub table : r.table ≤ LAST_TABLE
  pub prefix : IsPrefixOf r.family r.prefix
  pub via : IsLinkSet net.links r.node r.via

pub record KeepsSid (net : Network) (s : SidEntry) : Type 0 where
  pub node : s.node < length net.nodes
  pub len : 1 ≤ s.prefix.len
  pub prefix : IsPrefix s.prefix
  pub behaviour : SuitsBehaviour net s
  pub block_len : s.block_len ≡ block_len_of (block_of net.blocks s.prefix)
  pub csid : SuitsBlock s.csid s (block_of net.blocks s.prefix)
  pub title : IsTitleOf (length net.titles) s.title
  pub room : count_by (is_sid_of s.node) net.sids ≤ MAX_SIDS_OF_NODE

-- the items by their numbers; two numbers whose items agree in what stands once are one
pub record Keeps (net : Network) : Type 0 where
  pub block_count : length net.blocks ≤ MAX_BLOCKS
  pub node_count : length net.nodes ≤ MAX_NODES
  pub link_count : length net.links ≤ MAX_LINKS
  pub route_count : length net.routes ≤ MAX_ROUTES
  pub policy_count : length net.policies ≤ MAX_POLICIES
  pub sid_count : length net.sids ≤ MAX_SIDS
  pub block : (i : ℕ) (b : Block) → slice_get net.blocks i ≡ Some b → KeepsBlock b
  pub node : (i : ℕ) (n : Node) → slice_get net.nodes i ≡ Some n → KeepsNode n
  pub link : (i : ℕ) (l : Link) → slice_get net.links i ≡ Some l → KeepsLink net l
  pub route : (i : ℕ) (r : Route) → slice_get net.routes i ≡ Some r → KeepsRoute net r
  pub policy : (i : ℕ) (p : NamedPolicy) → slice_get net.policies i ≡ Some p → KeepsPolicy p
  pub sid : (i : ℕ) (s : SidEntry) → slice_get net.sids i ≡ Some s → KeepsSid net s
  pub title : (i : ℕ) (t : List ℕ) → slice_get net.titles i ≡ Some t → IsTrue (is_name t)
  pub apart : (i j a : ℕ) (b c : Block) → slice_get net.blocks i ≡ Some b → slice_get net.blocks j ≡ Some c → Holds b.prefix a
      → Holds c.prefix a → i ≡ j
  pub node_name : (i j : ℕ) (m n : Node) → slice_get net.nodes i ≡ Some m → slice_get net.nodes j ≡ Some n → m.name ≡ n.name → i ≡ j
  pub node_address : (i j : ℕ) (m n : Node) → slice_get net.nodes i ≡ Some m → slice_get net.nodes j ≡ Some n
      → m.address.value ≡ n.address.value → i ≡ j
  pub link_name : (i j : ℕ) (l m : Link) → slice_get net.links i ≡ Some l → slice_get net.links j ≡ Some m → l.name ≡ m.name → i ≡ j
  pub route_prefix : (i j : ℕ) (q r : Route) → slice_get net.routes i ≡ Some q → slice_get net.routes j ≡ Some r → q.node ≡ r.node
      → q.table ≡ r.table → q.family ≡ r.family → q.prefix ≡ r.prefix → i ≡ j
  pub policy_name : (i j : ℕ) (p q : NamedPolicy) → slice_get net.policies i ≡ Some p → slice_get net.policies j ≡ Some q
      → p.name ≡ q.name → i ≡ j
  pub sid_prefix : (i j : ℕ) (s t : SidEntry) → slice_get net.sids i ≡ Some s → slice_get net.sids j ≡ Some t → s.node ≡ t.node
      → s.prefix ≡ t.prefix → i ≡ j
  pub sid_title : (i j : ℕ) (s t : SidEntry) (title : ℕ) → slice_get net.sids i ≡ Some s → slice_get net.sids j ≡ Some t
      → s.title ≡ Some title → t.title ≡ Some title → i ≡ j
  pub title_name : (i j : ℕ) (t u : List ℕ) → slice_get net.titles i ≡ Some t → slice_get net.titles j ≡ Some u → t ≡ u → i ≡ j
