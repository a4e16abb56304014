-- Need not be believed: helps proofs and other laws.
-- Terms beside those of `specs/NetworkJudging.antt`.
use Rattle.std.specs.Prelude.{ℕ, ◌+◌, Bool, ◌==◌, ◌&&◌, nat_le, List, [], ◌∷◌, length, IsTrue}
use Rattle.std.specs.List.{filter_map, list_all}
use Rattle.srv6_rules.specs.declared.sid.SidEntry.{SidEntry}
use Rattle.srv6_rules.specs.Behaviours.{behaviour_table}
use Rattle.net_model.specs.declared.limits.TheConstants.{MAX_BLOCKS, MAX_NODES, MAX_LINKS, MAX_ROUTES, MAX_POLICIES, MAX_SIDS, MAX_LINKS_OF_SET}
use Rattle.srv6_rules.specs.declared.numbers.TheConstants.{MAX_SEGMENTS}
use Rattle.net_model.specs.declared.parts.Block.{Block}
use Rattle.net_model.specs.declared.parts.NamedPolicy.{NamedPolicy}
use Rattle.net_model.specs.declared.parts.Link.{Link}
use Rattle.net_model.specs.declared.parts.Route.{Route}
use Rattle.net_model.specs.Network.{Network}
use Rattle.net_model.specs.NetworkRules.{is_name, block_of, block_len_of}
use Rattle.net_model.specs.NetworkRulesTerms.{is_address, is_prefix, is_prefix_of, is_mtu, is_table, is_csid_len, keeps_node, is_segment, keeps_outer, suits_table, is_title, title_of}

-- ---- what the parts hold before they are judged: counts, lengths, numbers and texts in their ranges

-- not more than so many items, each of which passes a test
abbrev pub few : {X : Type 0} → ℕ → (X → Bool) → List X → Bool
few most test items = nat_le (length items) most && list_all test items

abbrev pub block_in_range : Block → Bool
block_in_range b = is_prefix b.prefix && is_csid_len b.csid

abbrev pub link_in_range : Link → Bool
link_in_range l = is_name l.name && is_mtu l.mtu

abbrev pub route_in_range : Route → Bool
route_in_range r = is_table r.table && (is_prefix_of r.family r.prefix && nat_le (length r.via) MAX_LINKS_OF_SET)

abbrev pub policy_in_range : NamedPolicy → Bool
policy_in_range p =
    is_name p.name && (is_address p.policy.source.value && (few MAX_SEGMENTS is_segment p.policy.segments
    && keeps_outer p.policy.traffic_class p.policy.flow_label p.policy.hop_limit))

-- a SID tells the length of its block, and names a title that is there
abbrev pub sid_in_range : List Block → ℕ → SidEntry → Bool
sid_in_range blocks title_count s =
    nat_le 1 s.prefix.len && (is_prefix s.prefix && (suits_table (behaviour_table s.behaviour)
    && (nat_le (length s.links) MAX_LINKS_OF_SET && ((s.block_len == block_len_of (block_of blocks s.prefix))
    && is_title title_count s.title))))

-- these are the numbers from one number on, up to the one before another
abbrev pub are_numbers : ℕ → ℕ → List ℕ → Bool
are_numbers from to [] = from == to
are_numbers from to (n ∷ ns) = (n == from) && are_numbers (from + 1) to ns

-- titles are names, in the order of the SIDs that have them, one for each
pub record InRange (net : Network) : Type 0 where
  pub blocks : IsTrue (few MAX_BLOCKS block_in_range net.blocks)
  pub nodes : IsTrue (few MAX_NODES keeps_node net.nodes)
  pub links : IsTrue (few MAX_LINKS link_in_range net.links)
  pub routes : IsTrue (few MAX_ROUTES route_in_range net.routes)
  pub policies : IsTrue (few MAX_POLICIES policy_in_range net.policies)
  pub titles : IsTrue (list_all is_name net.titles)
  pub title_numbers : IsTrue (are_numbers 0 (length net.titles) (filter_map title_of net.sids))
  pub sids : IsTrue (few MAX_SIDS (sid_in_range net.blocks (length net.titles)) net.sids)
