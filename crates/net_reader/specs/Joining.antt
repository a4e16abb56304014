-- The parts of a network that a description says, with numbers in place of names. Joining is total: a name that
-- nothing has becomes the count of what it might be, and a table or policy that is needed and absent becomes 0, so that judging
-- refuses them.
use Rattle.std.specs.Prelude.{ℕ, ◌+◌, Bool, true, false, List, [], ◌∷◌, map, Option, Some, None, option_map}
use Rattle.std.specs.List.{list_any, filter_map}
use Rattle.srv6_rules.specs.declared.sid.Behaviour.{Behaviour}
use Rattle.srv6_rules.specs.declared.sid.Behaviour.TheVariants as kinds
use Rattle.srv6_rules.specs.declared.sid.SidEntry.{SidEntry}
use Rattle.net_model.specs.declared.parts.Block.{Block}
use Rattle.net_model.specs.declared.parts.Node.{Node}
use Rattle.net_model.specs.declared.parts.Link.{Link}
use Rattle.net_model.specs.declared.parts.Route.{Route}
use Rattle.net_model.specs.declared.parts.NamedPolicy.{NamedPolicy}
use Rattle.net_model.specs.Network.{Network}
use Rattle.net_model.specs.NetworkRules.{block_of, block_len_of}
use Rattle.net_syntax.specs.declared.block_table.DescribedBlock.{DescribedBlock}
use Rattle.net_syntax.specs.declared.node_table.DescribedNode.{DescribedNode}
use Rattle.net_syntax.specs.declared.link_table.DescribedLink.{DescribedLink}
use Rattle.net_syntax.specs.declared.route_table.DescribedRoute.{DescribedRoute}
use Rattle.net_syntax.specs.declared.policy_table.DescribedPolicy.{DescribedPolicy}
use Rattle.net_syntax.specs.declared.sid_table.DescribedSid.{DescribedSid}
use Rattle.net_syntax.specs.declared.sid_table.BehaviourWord.{BehaviourWord}
use Rattle.net_syntax.specs.declared.sid_table.BehaviourWord.TheVariants as words
use Rattle.net_syntax.specs.declared.sid_table.Flavour.{Flavour}
use Rattle.net_syntax.specs.declared.sid_table.Flavour.TheVariants.{Psp, Usp, Usd}
use Rattle.net_syntax.specs.declared.description.Description.{Description}
use Rattle.net_reader.specs.Numbering.{number_of}

-- ---- names

abbrev pub node_names : Description → List (List ℕ)
node_names said = map (λ n. n.name) said.nodes

abbrev pub link_names : Description → List (List ℕ)
link_names said = map (λ l. l.name) said.links

abbrev pub policy_names : Description → List (List ℕ)
policy_names said = map (λ p. p.name) said.policies

-- ---- items

abbrev pub joined_block : DescribedBlock → Block
joined_block b = record { prefix = b.prefix; kind = b.kind; csid = b.csid }

abbrev pub joined_node : DescribedNode → Node
joined_node n = record { name = n.name; address = n.address; allow = n.allow }

abbrev pub joined_link : List (List ℕ) → DescribedLink → Link
joined_link nodes l = record { name = l.name; from = number_of nodes l.from; to = option_map (number_of nodes) l.to; mtu = l.mtu }

abbrev pub joined_route : List (List ℕ) → List (List ℕ) → DescribedRoute → Route
joined_route nodes links r = record {
  node = number_of nodes r.node;
  table = r.table;
  family = r.prefix.family;
  prefix = r.prefix.prefix;
  via = map (number_of links) r.via;
}

-- a policy is read in the full form; a binding SID's behaviour says the form itself
abbrev pub joined_policy : DescribedPolicy → NamedPolicy
joined_policy p = record {
  name = p.name;
  policy = record {
    source = p.source;
    segments = p.segments;
    traffic_class = p.traffic_class;
    flow_label = p.flow_label;
    hop_limit = p.hop_limit;
    reduced = false;
  };
}

-- ---- SIDs

abbrev pub or_zero : Option ℕ → ℕ
or_zero None = 0
or_zero (Some n) = n

-- a behaviour with its table and its policy
abbrev pub behaviour_with : BehaviourWord → ℕ → ℕ → Behaviour
behaviour_with words.End table policy = kinds.End
behaviour_with words.EndX table policy = kinds.EndX
behaviour_with words.EndT table policy = kinds.EndT table
behaviour_with words.Dx6 table policy = kinds.Dx6
behaviour_with words.Dx4 table policy = kinds.Dx4
behaviour_with words.Dt6 table policy = kinds.Dt6 table
behaviour_with words.Dt4 table policy = kinds.Dt4 table
behaviour_with words.Dt46 table policy = kinds.Dt46 table
behaviour_with words.B6 table policy = kinds.B6 policy
behaviour_with words.B6Red table policy = kinds.B6Red policy

abbrev pub is_psp : Flavour → Bool
is_psp Psp = true
is_psp Usp = false
is_psp Usd = false

abbrev pub is_usp : Flavour → Bool
is_usp Psp = false
is_usp Usp = true
is_usp Usd = false

abbrev pub is_usd : Flavour → Bool
is_usd Psp = false
is_usd Usp = false
is_usd Usd = true

abbrev pub or_none : {X : Type 0} → Option (List X) → List X
or_none None = []
or_none (Some xs) = xs

-- a title's number is its place among the titles, of which n stand before it
abbrev pub title_number : ℕ → Option (List ℕ) → Option ℕ
title_number n None = None
title_number n (Some title) = Some n

abbrev pub behind_title : ℕ → Option (List ℕ) → ℕ
behind_title n None = n
behind_title n (Some title) = n + 1

abbrev pub title_in : DescribedSid → Option (List ℕ)
title_in s = s.title

-- the entry of a SID, before whose title n others stand
abbrev pub joined_sid : List (List ℕ) → List (List ℕ) → List (List ℕ) → List Block → ℕ → DescribedSid → SidEntry
joined_sid nodes links policies blocks n s = record {
  node = number_of nodes s.node;
  prefix = s.prefix;
  behaviour = behaviour_with s.behaviour (or_zero s.table) (or_zero (option_map (number_of policies) s.policy));
  csid = s.csid;
  block_len = block_len_of (block_of blocks s.prefix);
  psp = list_any is_psp s.flavours;
  usp = list_any is_usp s.flavours;
  usd = list_any is_usd s.flavours;
  title = title_number n s.title;
  links = map (number_of links) (or_none s.links);
}

abbrev pub joined_sids : List (List ℕ) → List (List ℕ) → List (List ℕ) → List Block → ℕ → List DescribedSid → List SidEntry
joined_sids nodes links policies blocks n [] = []
joined_sids nodes links policies blocks n (s ∷ ss) =
    joined_sid nodes links policies blocks n s ∷ joined_sids nodes links policies blocks (behind_title n s.title) ss

-- ---- the whole

abbrev pub joined : Description → Network
joined said = record {
  blocks = map joined_block said.blocks;
  nodes = map joined_node said.nodes;
  links = map (joined_link (node_names said)) said.links;
  routes = map (joined_route (node_names said) (link_names said)) said.routes;
  policies = map joined_policy said.policies;
  titles = filter_map title_in said.sids;
  sids = joined_sids (node_names said) (link_names said) (policy_names said) (map joined_block said.blocks) 0 said.sids;
  hidden = [];
}
