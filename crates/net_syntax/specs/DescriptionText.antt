-- What the tree of a description says, or its first fault, in the written order. A table is a row of keys; names
-- stay texts, since whether they are known is judged later.
use Rattle.std.specs.Prelude.{ℕ, pos, nat_le, if◌then◌else◌, List, [], ◌∷◌, None, Result, Ok, Err}
use Rattle.toml.specs.Data.{Data, Members}
use Rattle.text_faults.specs.declared.text_place.FaultPlace.{FaultPlace}
use Rattle.text_faults.specs.declared.text_place.Key.{Key}
use Rattle.text_faults.specs.declared.text_place.Key.TheVariants as keys
use Rattle.text_faults.specs.declared.text_place.TableKind.TheVariants as tables
use Rattle.text_faults.specs.declared.fault.TextFault.{TextFault}
use Rattle.text_faults.specs.declared.fault_kind.FaultKind.TheVariants as kinds
use Rattle.text_faults.specs.TextFaults.{fault_at}
use Rattle.net_model.specs.declared.limits.TheConstants.{MAX_BLOCKS, MAX_NODES, MAX_LINKS, MAX_ROUTES, MAX_POLICIES, MAX_SIDS, MAX_ALLOWED_TYPES, MAX_LINKS_OF_SET, LAST_TABLE, LAST_OCTET, LAST_FLOW_LABEL, DEFAULT_HOP_LIMIT, MIN_LINK_MTU, MAX_LINK_MTU}
use Rattle.srv6_rules.specs.declared.numbers.TheConstants.{MAX_SEGMENTS}
use Rattle.v6_addr.specs.Address.{PrefixValue}
use Rattle.srv6_rules.specs.declared.sid.Csid.TheVariants.{Plain}
use Rattle.toml_reader.specs.TomlReading.{◌>>=◌, or_fault, document_of}
use Rattle.toml_reader.specs.Tree.{name_in, addr_in, prefix_in, word_in, integer_in, number_in, given, array_of, list_in, needed, optional, only, items_at}
use Rattle.net_syntax.specs.declared.block_table.DescribedBlock.{DescribedBlock}
use Rattle.net_syntax.specs.declared.node_table.DescribedNode.{DescribedNode}
use Rattle.net_syntax.specs.declared.link_table.DescribedLink.{DescribedLink}
use Rattle.net_syntax.specs.declared.route_table.DescribedRoute.{DescribedRoute}
use Rattle.net_syntax.specs.declared.policy_table.DescribedPolicy.{DescribedPolicy}
use Rattle.net_syntax.specs.declared.sid_table.DescribedSid.{DescribedSid}
use Rattle.net_syntax.specs.declared.description.Description.{Description}
use Rattle.net_syntax.specs.Prefixes.{family_prefix_in}
use Rattle.net_syntax.specs.TextWords.{block_kind_of, csid_bits_of, behaviour_of, csid_of, flavour_of}

-- the bits of a block's compressed SIDs
abbrev pub csid_bits_in : FaultPlace → Key → Data → Result ℕ TextFault
csid_bits_in p k d = do
  number ← integer_in p d
  or_fault (fault_at p kinds.BadFlavour) (csid_bits_of number)

-- a block (RFC 9800 section 3)
abbrev pub block_of : FaultPlace → Members → Result DescribedBlock TextFault
block_of p t = do
  known ← only (keys.Prefix ∷ keys.Kind ∷ keys.Csid ∷ []) p t
  prefix ← needed prefix_in p known keys.Prefix
  kind ← needed (word_in block_kind_of) p known keys.Kind
  csid ← needed csid_bits_in p known keys.Csid
  Ok (record { prefix = prefix; kind = kind; csid = csid })

-- a node; it takes no upper layer by default, and one is a next-header value
abbrev pub node_of : FaultPlace → Members → Result DescribedNode TextFault
node_of p t = do
  known ← only (keys.Name ∷ keys.Address ∷ keys.Allow ∷ []) p t
  name ← needed name_in p known keys.Name
  address ← needed addr_in p known keys.Address
  allow ← optional (list_in MAX_ALLOWED_TYPES (number_in 0 LAST_OCTET)) [] p known keys.Allow
  Ok (record { name = name; address = address; allow = allow })

-- a link; without an end it leaves the network, and by default each packet passes it
abbrev pub link_of : FaultPlace → Members → Result DescribedLink TextFault
link_of p t = do
  known ← only (keys.Name ∷ keys.From ∷ keys.To ∷ keys.Mtu ∷ []) p t
  name ← needed name_in p known keys.Name
  from ← needed name_in p known keys.From
  to ← optional (given name_in) None p known keys.To
  mtu ← optional (number_in MIN_LINK_MTU MAX_LINK_MTU) MAX_LINK_MTU p known keys.Mtu
  Ok (record { name = name; from = from; to = to; mtu = mtu })

-- a route, in table 0 by default
abbrev pub route_of : FaultPlace → Members → Result DescribedRoute TextFault
route_of p t = do
  known ← only (keys.Node ∷ keys.Table ∷ keys.Prefix ∷ keys.Via ∷ []) p t
  node ← needed name_in p known keys.Node
  table ← optional (number_in 0 LAST_TABLE) 0 p known keys.Table
  prefix ← needed family_prefix_in p known keys.Prefix
  via ← needed (list_in MAX_LINKS_OF_SET name_in) p known keys.Via
  Ok (record { node = node; table = table; prefix = prefix; via = via })

-- a policy
abbrev pub policy_of : FaultPlace → Members → Result DescribedPolicy TextFault
policy_of p t = do
  known ← only (keys.Name ∷ keys.Source ∷ keys.Segments ∷ keys.TrafficClass ∷ keys.FlowLabel ∷ keys.HopLimit ∷ []) p t
  name ← needed name_in p known keys.Name
  source ← needed addr_in p known keys.Source
  segments ← needed (list_in MAX_SEGMENTS addr_in) p known keys.Segments
  class ← optional (number_in 0 LAST_OCTET) 0 p known keys.TrafficClass
  label ← optional (number_in 0 LAST_FLOW_LABEL) 0 p known keys.FlowLabel
  limit ← optional (number_in 1 LAST_OCTET) DEFAULT_HOP_LIMIT p known keys.HopLimit
  Ok (record { name = name; source = source; segments = segments; traffic_class = class; flow_label = label; hop_limit = limit })

-- the prefix of a SID has at least one bit
abbrev pub sid_prefix_in : FaultPlace → Key → Data → Result PrefixValue TextFault
sid_prefix_in p k d = do
  prefix ← prefix_in p k d
  if nat_le 1 prefix.len then Ok prefix else Err (fault_at p (kinds.Limit k (pos prefix.len)))

-- a SID; its links, table and policy may be absent here, whatever its behaviour takes
abbrev pub sid_of : FaultPlace → Members → Result DescribedSid TextFault
sid_of p t = do
  known ← only (
      keys.Node ∷ keys.Prefix ∷ keys.Behaviour ∷ keys.Csid ∷ keys.Flavours ∷ keys.Title ∷ keys.Links ∷ keys.Table ∷ keys.Policy ∷ []) p t
  node ← needed name_in p known keys.Node
  prefix ← needed sid_prefix_in p known keys.Prefix
  behaviour ← needed (word_in behaviour_of) p known keys.Behaviour
  csid ← optional (word_in csid_of) Plain p known keys.Csid
  flavours ← optional (array_of (word_in flavour_of)) [] p known keys.Flavours
  title ← optional (given name_in) None p known keys.Title
  links ← optional (given (list_in MAX_LINKS_OF_SET name_in)) None p known keys.Links
  table ← optional (given (number_in 0 LAST_TABLE)) None p known keys.Table
  policy ← optional (given name_in) None p known keys.Policy
  Ok (record {
    node = node;
    prefix = prefix;
    behaviour = behaviour;
    csid = csid;
    flavours = flavours;
    title = title;
    links = links;
    table = table;
    policy = policy;
  })

-- the whole
abbrev pub net_place : FaultPlace
net_place = record { table = tables.Net; item = 0 }

-- the tables in their order
abbrev pub description_of : Members → Result Description TextFault
description_of root = do
  known ← only (keys.Block ∷ keys.Node ∷ keys.Link ∷ keys.Route ∷ keys.Policy ∷ keys.Sid ∷ []) net_place root
  blocks ← items_at tables.Block keys.Block MAX_BLOCKS block_of known
  nodes ← items_at tables.Node keys.Node MAX_NODES node_of known
  links ← items_at tables.Link keys.Link MAX_LINKS link_of known
  routes ← items_at tables.Route keys.Route MAX_ROUTES route_of known
  policies ← items_at tables.Policy keys.Policy MAX_POLICIES policy_of known
  sids ← items_at tables.Sid keys.Sid MAX_SIDS sid_of known
  Ok (record { blocks = blocks; nodes = nodes; links = links; routes = routes; policies = policies; sids = sids })

-- what a text says: first whether it is TOML
abbrev pub description_in : List ℕ → Result Description TextFault
description_in text = do
  root ← or_fault (fault_at net_place kinds.NotToml) (document_of text)
  description_of root
