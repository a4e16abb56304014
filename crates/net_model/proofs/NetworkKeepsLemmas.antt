-- The facts of a network that keeps the rules.
use Rattle.std.proofs.Common.{◌≡◌, ◌<◌, inl, inr, arith, ℕ, ◌≤◌, Bool, true, false, List, [], length, Option, Some, None, refl, sym, ap, ◌∙◌}
use Rattle.std.specs.Prelude.{IfSome, MatchBool}
use Rattle.std.specs.List.{slice_get}
use Rattle.std.proofs.lemmas.Bool.{and_parts, and_from, or_cases, or_left, or_right, cases_lt, not-true, leb-true, ltb-true, eqb-true, eqb-false, eq-eqb}
use Rattle.std.proofs.lemmas.List.{nil_from_length}
use Rattle.v6_addr.specs.Address.{PrefixValue, Holds}
use Rattle.v6_addr.specs.AddressTerms.{IsPrefix}
use Rattle.v6_addr.proofs.PublicLaws.{holds_address_is, Holds_nested}
use Rattle.srv6_rules.specs.declared.sid.SidEntry.{SidEntry}
use Rattle.srv6_rules.specs.declared.sid.Csid.{Csid}
use Rattle.srv6_rules.specs.declared.sid.Csid.TheVariants as csids
use Rattle.srv6_rules.specs.declared.family.Family.{Family}
use Rattle.srv6_rules.specs.declared.family.Family.TheVariants as families
use Rattle.srv6_rules.specs.Behaviours.{behaviour_goes_on, behaviour_takes_links, behaviour_table, behaviour_policy, behaviour_takes_flavours, is_plain}
use Rattle.net_model.specs.declared.limits.TheConstants.{LAST_TABLE}
use Rattle.net_model.specs.declared.parts.Block.{Block}
use Rattle.net_model.specs.declared.parts.BlockKind.{BlockKind}
use Rattle.net_model.specs.declared.parts.BlockKind.TheVariants.{Next, Replace}
use Rattle.net_model.specs.declared.parts.NamedPolicy.{NamedPolicy}
use Rattle.net_model.specs.declared.parts.Node.{Node}
use Rattle.net_model.specs.declared.parts.Link.{Link}
use Rattle.net_model.specs.declared.parts.Route.{Route}
use Rattle.net_model.specs.Network.{Network}
use Rattle.net_model.specs.NetworkRules.{same_bytes, same_prefix, same_node_name, same_node_address, same_link_name, same_route, same_sid, starts_at_node, starts_at, same_number, is_link_set, overlap, same_policy_name, suits_flavours, block_of, block_len_of, suits_next, suits_replace, suits_block, has_room, is_name}
use Rattle.net_model.specs.NetworkRulesTerms.{IsNetwork, is_network, is_address, is_prefix, keeps_node, keeps_link, ends_elsewhere, keeps_route, is_prefix_of, keeps_block, is_segment, keeps_policy, suits_links, suits_table, suits_policy, keeps_behaviour, keeps_compression, is_title, keeps_sid}
use Rattle.net_model.specs.Titles.{same_option, same_title}
use Rattle.net_model.specs.NetworkKeeps.{IsLinkSet, EndsElsewhere, IsUnflavoured, SuitsBehaviour, SuitsBlock, IsPrefixOf, IsTitleOf, KeepsBlock, KeepsNode, KeepsLink, KeepsRoute, KeepsPolicy, KeepsSid, Keeps}
use Rattle.net_model.proofs.ListLemmas.{passes_at, passes_among, same_number_of, same_bytes_from}
use Rattle.net_model.proofs.NetworkTitleLemmas.{are_distinct_titles}
use Rattle.net_model.proofs.EntryLemmas.{same_family_from}

prefix_from : (p : PrefixValue) → is_prefix p ≡ true → IsPrefix p
unfolding is_prefix is_address
prefix_from p h =
    let parts = and_parts _ _ h in
    let low = and_parts _ _ parts.1 in
    (leb-true _ _ parts.0, ltb-true _ _ low.0, eqb-true _ _ low.1)

starts_from : (node : ℕ) (o : Option Link) → starts_at_node node o ≡ true → (l : Link) × (o ≡ Some l) × (l.from ≡ node)
starts_from node None h = cc
starts_from node (Some l) h = (l, refl, eqb-true _ _ h)

pub link_set_from : (links : List Link) (node : ℕ) (set : List ℕ) → is_link_set links node set ≡ true → IsLinkSet links node set
link_set_from links node set h =
    let some = and_parts _ _ h in
    let most = and_parts _ _ some.1 in
    let each = and_parts _ _ most.1 in
    record {
      some = leb-true _ _ some.0;
      at_most = leb-true _ _ most.0;
      each = λ n c. starts_from node (slice_get links n) (passes_among (starts_at links node) set n each.1 c);
      once = λ i j n e f. same_number_of same_number set i j n n each.0 e f (eq-eqb n n refl) (eq-eqb n n refl);
    }

ends_from : (node_count from : ℕ) (to : Option ℕ) → ends_elsewhere node_count from to ≡ true → EndsElsewhere node_count from to
ends_from node_count from None h = tt
ends_from node_count from (Some to) h =
    let parts = and_parts _ _ h in
    (ltb-true _ _ parts.0, eqb-false _ _ (not-true _ parts.1))

links_from : (links : List Link) (node : ℕ) (takes : Bool) (set : List ℕ) → suits_links links node takes set ≡ true
    → MatchBool takes (IsLinkSet links node set) (set ≡ [])
links_from links node true set h = link_set_from links node set h
links_from links node false set h = nil_from_length set (eqb-true _ _ h)

table_from : (table : Option ℕ) → suits_table table ≡ true → IfSome table (λ number. number ≤ LAST_TABLE)
table_from None h = tt
table_from (Some number) h = leb-true _ _ h

policy_number_from : (count : ℕ) (policy : Option ℕ) → suits_policy count policy ≡ true → IfSome policy (λ number. number < count)
policy_number_from count None h = tt
policy_number_from count (Some number) h = ltb-true _ _ h

flavours_from : (s : SidEntry) (takes psp usp usd : Bool) → s.psp ≡ psp → s.usp ≡ usp → s.usd ≡ usd
    → suits_flavours takes psp usp usd ≡ true → takes ≡ false → IsUnflavoured s
flavours_from s true psp usp usd a b c h none = cc
flavours_from s false true usp usd a b c h none = cc
flavours_from s false false true usd a b c h none = cc
flavours_from s false false false true a b c h none = cc
flavours_from s false false false false a b c h none = record { psp = a; usp = b; usd = c }

suits_from : (net : Network) (s : SidEntry) → keeps_behaviour net s ≡ true → SuitsBehaviour net s
suits_from net s h =
    let table = and_parts _ _ h in
    let policy = and_parts _ _ table.1 in
    let links = and_parts _ _ policy.1 in
    record {
      table = table_from (behaviour_table s.behaviour) table.0;
      policy = policy_number_from (length net.policies) (behaviour_policy s.behaviour) policy.0;
      links = links_from net.links s.node (behaviour_takes_links s.behaviour) s.links links.0;
      flavours = flavours_from s (behaviour_takes_flavours s.behaviour) s.psp s.usp s.usd refl refl refl links.1;
    }

-- the compression of a SID and its block

next_from : (s : SidEntry) (b : Block) (kind : BlockKind) → b.kind ≡ kind
    → suits_next kind b s.prefix.len (behaviour_goes_on s.behaviour) ≡ true → SuitsBlock csids.Next s (Some b)
next_from s b Next is h =
    let parts = and_parts _ _ h in
    (b, refl, is, parts.0, elim (or_cases _ _ parts.1) [ inl short ↦ inl (eqb-true _ _ short) | inr long ↦ inr (eqb-true _ _ long) ])
next_from s b Replace is h = cc

replace_from : (s : SidEntry) (b : Block) (kind : BlockKind) → b.kind ≡ kind → suits_replace kind b s.prefix.len ≡ true
    → SuitsBlock csids.Replace s (Some b)
replace_from s b Next is h = cc
replace_from s b Replace is h = (b, refl, is, eqb-true _ _ h)

block_from : (s : SidEntry) (b : Block) (csid : Csid) → suits_block csid b s.prefix.len (behaviour_goes_on s.behaviour) ≡ true
    → SuitsBlock csid s (Some b)
block_from s b csids.Plain h = tt
block_from s b csids.Next h = next_from s b b.kind refl h
block_from s b csids.Replace h = replace_from s b b.kind refl h

plain_from : (s : SidEntry) (csid : Csid) → is_plain csid ≡ true → SuitsBlock csid s None
plain_from s csids.Plain h = tt
plain_from s csids.Next h = cc
plain_from s csids.Replace h = cc

compression_from : (s : SidEntry) (block : Option Block) → keeps_compression block s ≡ true
    → (s.block_len ≡ block_len_of block) × SuitsBlock s.csid s block
compression_from s None h = let parts = and_parts _ _ h in (eqb-true _ _ parts.0, plain_from s s.csid parts.1)
compression_from s (Some b) h = let parts = and_parts _ _ h in (eqb-true _ _ parts.0, block_from s b s.csid parts.1)

family_from : (family : Family) (p : PrefixValue) → is_prefix_of family p ≡ true → IsPrefixOf family p
family_from families.V6 p h = record { prefix = prefix_from p h; ipv4 = λ e. cc }
family_from families.V4 p h =
    let parts = and_parts _ _ h in
    record { prefix = prefix_from p parts.0; ipv4 = λ e. leb-true _ _ parts.1 }

-- blocks

keeps_block_from : (b : Block) → keeps_block b ≡ true → KeepsBlock b
keeps_block_from b h =
    let prefix = and_parts _ _ h in
    let rest = and_parts _ _ prefix.1 in
    let least = and_parts _ _ rest.0 in
    let most = and_parts _ _ least.1 in
    record {
      prefix = prefix_from b.prefix prefix.0;
      at_least = leb-true _ _ least.0;
      at_most = leb-true _ _ most.0;
      whole = eqb-true _ _ most.1;
      csid = elim (or_cases _ _ rest.1) [ inl short ↦ inl (eqb-true _ _ short) | inr long ↦ inr (eqb-true _ _ long) ];
    }

-- blocks that hold one address overlap
overlap_from : (b c : Block) (a : ℕ) → Holds b.prefix a → Holds c.prefix a → overlap b c ≡ true
overlap_from b c a of_b of_c =
    elim (cases_lt b.prefix.len c.prefix.len) [
      | inl shorter ↦ or_left _ _ ((holds_address_is b.prefix c.prefix.value).1 (Holds_nested b.prefix c.prefix a (omega arith) of_b of_c))
      | inr longer ↦ or_right _ _ ((holds_address_is c.prefix b.prefix.value).1 (Holds_nested c.prefix b.prefix a (omega arith) of_c of_b))
    ]

-- policies

policy_from : (p : NamedPolicy) → keeps_policy p ≡ true → KeepsPolicy p
unfolding is_address
policy_from p h =
    let name = and_parts _ _ h in
    let source = and_parts _ _ name.1 in
    let rest = and_parts _ _ source.1 in
    let some = and_parts _ _ rest.0 in
    let most = and_parts _ _ some.1 in
    let class = and_parts _ _ rest.1 in
    let label = and_parts _ _ class.1 in
    let hop = and_parts _ _ label.1 in
    record {
      name = name.0;
      source = ltb-true _ _ source.0;
      some = leb-true _ _ some.0;
      at_most = leb-true _ _ most.0;
      segment = λ i a e. ltb-true _ _ (passes_at is_segment p.policy.segments i a most.1 e);
      traffic_class = leb-true _ _ class.0;
      flow_label = leb-true _ _ label.0;
      above_zero = leb-true _ _ hop.0;
      hop_limit = leb-true _ _ hop.1;
    }

title_from : (title_count : ℕ) (title : Option ℕ) → is_title title_count title ≡ true → IsTitleOf title_count title
title_from title_count None h = tt
title_from title_count (Some t) h = ltb-true _ _ h

node_from : (n : Node) → keeps_node n ≡ true → KeepsNode n
unfolding is_address
node_from n h =
    let name = and_parts _ _ h in
    let rest = and_parts _ _ name.1 in
    record { name = name.0; address = ltb-true _ _ rest.0; allow = leb-true _ _ rest.1 }

link_from : (net : Network) (l : Link) → keeps_link (length net.nodes) l ≡ true → KeepsLink net l
link_from net l h =
    let parts = and_parts _ _ h in
    let name = and_parts _ _ parts.0 in
    let mtu = and_parts _ _ name.1 in
    let rest = and_parts _ _ parts.1 in
    record {
      name = name.0;
      from = ltb-true _ _ rest.0;
      to = ends_from _ _ l.to rest.1;
      at_least = leb-true _ _ mtu.0;
      at_most = leb-true _ _ mtu.1;
    }

route_from : (net : Network) (r : Route) → keeps_route (length net.nodes) net.links r ≡ true → KeepsRoute net r
route_from net r h =
    let node = and_parts _ _ h in
    let table = and_parts _ _ node.1 in
    let prefix = and_parts _ _ table.1 in
    record {
      node = ltb-true _ _ node.0;
      table = leb-true _ _ table.0;
      prefix = family_from r.family r.prefix prefix.0;
      via = link_set_from net.links r.node r.via prefix.1;
    }

sid_from : (net : Network) (s : SidEntry) → keeps_sid net s ≡ true → has_room net.sids s ≡ true → KeepsSid net s
sid_from net s h room =
    let node = and_parts _ _ h in
    let len = and_parts _ _ node.1 in
    let prefix = and_parts _ _ len.1 in
    let behaviour = and_parts _ _ prefix.1 in
    let rest = and_parts _ _ behaviour.1 in
    let compression = compression_from s (block_of net.blocks s.prefix) rest.0 in
    record {
      node = ltb-true _ _ node.0;
      len = leb-true _ _ len.0;
      prefix = prefix_from s.prefix prefix.0;
      behaviour = suits_from net s behaviour.0;
      block_len = compression.0;
      csid = compression.1;
      title = title_from (length net.titles) s.title rest.1;
      room = leb-true _ _ room;
    }

same_prefix_from : (p q : PrefixValue) → p ≡ q → same_prefix p q ≡ true
same_prefix_from p q e = and_from _ _ (eq-eqb _ _ (ap (λ r. r.value) e)) (eq-eqb _ _ (ap (λ r. r.len) e))

same_title_from : (o p : Option ℕ) (t : ℕ) → o ≡ Some t → p ≡ Some t → same_option o p ≡ true
same_title_from o p t e f = rw (e, f) (eq-eqb t t refl)

same_route_from : (q r : Route) → q.node ≡ r.node → q.table ≡ r.table → q.family ≡ r.family → q.prefix ≡ r.prefix → same_route q r ≡ true
same_route_from q r node table family prefix =
    and_from _ _ (eq-eqb _ _ node) (and_from _ _ (eq-eqb _ _ table)
    (and_from _ _ (same_family_from _ _ family) (same_prefix_from _ _ prefix)))

same_sid_from : (s t : SidEntry) → s.node ≡ t.node → s.prefix ≡ t.prefix → same_sid s t ≡ true
same_sid_from s t node prefix = and_from _ _ (eq-eqb _ _ node) (same_prefix_from _ _ prefix)

-- a network that keeps the rules has each of the facts
pub keeps_from_network : (net : Network) → IsNetwork net → Keeps net
unfolding is_network
keeps_from_network net h =
    let at_blocks = and_parts _ _ h in
    let at_nodes = and_parts _ _ at_blocks.1 in
    let at_links = and_parts _ _ at_nodes.1 in
    let at_routes = and_parts _ _ at_links.1 in
    let at_policies = and_parts _ _ at_routes.1 in
    let at_titles = and_parts _ _ at_policies.1 in
    let blocks = and_parts _ _ at_blocks.0 in
    let each_block = and_parts _ _ blocks.1 in
    let policies = and_parts _ _ at_policies.0 in
    let each_policy = and_parts _ _ policies.1 in
    let nodes = and_parts _ _ at_nodes.0 in
    let each_node = and_parts _ _ nodes.1 in
    let one_node = and_parts _ _ each_node.1 in
    let links = and_parts _ _ at_links.0 in
    let each_link = and_parts _ _ links.1 in
    let routes = and_parts _ _ at_routes.0 in
    let each_route = and_parts _ _ routes.1 in
    let titles = and_parts _ _ at_titles.0 in
    let sids = and_parts _ _ at_titles.1 in
    let each_sid = and_parts _ _ sids.1 in
    let one_sid = and_parts _ _ each_sid.1 in
    let room = and_parts _ _ one_sid.1 in
    record {
      block_count = leb-true _ _ blocks.0;
      node_count = leb-true _ _ nodes.0;
      link_count = leb-true _ _ links.0;
      route_count = leb-true _ _ routes.0;
      policy_count = leb-true _ _ policies.0;
      sid_count = leb-true _ _ sids.0;
      block = λ i b e. keeps_block_from b (passes_at keeps_block net.blocks i b each_block.0 e);
      node = λ i n e. node_from n (passes_at keeps_node net.nodes i n each_node.0 e);
      link = λ i l e. link_from net l (passes_at (keeps_link (length net.nodes)) net.links i l each_link.0 e);
      route = λ i r e. route_from net r (passes_at (keeps_route (length net.nodes) net.links) net.routes i r each_route.0 e);
      policy = λ i p e. policy_from p (passes_at keeps_policy net.policies i p each_policy.0 e);
      sid = λ i s e. sid_from net s (passes_at (keeps_sid net) net.sids i s each_sid.0 e)
          (passes_at (has_room net.sids) net.sids i s room.0 e);
      title = λ i t e. passes_at is_name net.titles i t titles.0 e;
      apart = λ i j a b c e f of_b of_c. same_number_of overlap net.blocks i j b c each_block.1 e f (overlap_from b c a of_b of_c)
          (overlap_from c b a of_c of_b);
      node_name = λ i j m n e f same. same_number_of same_node_name net.nodes i j m n one_node.0 e f (same_bytes_from _ _ same)
          (same_bytes_from _ _ (sym same));
      node_address = λ i j m n e f same. same_number_of same_node_address net.nodes i j m n one_node.1 e f (eq-eqb _ _ same)
          (eq-eqb _ _ (sym same));
      link_name = λ i j l m e f same. same_number_of same_link_name net.links i j l m each_link.1 e f (same_bytes_from _ _ same)
          (same_bytes_from _ _ (sym same));
      route_prefix = λ i j q r e f node table family prefix. same_number_of same_route net.routes i j q r each_route.1 e f
          (same_route_from q r node table family prefix) (same_route_from r q (sym node) (sym table) (sym family) (sym prefix));
      policy_name = λ i j p q e f same. same_number_of same_policy_name net.policies i j p q each_policy.1 e f
          (same_bytes_from _ _ same) (same_bytes_from _ _ (sym same));
      sid_prefix = λ i j s t e f node prefix. same_number_of same_sid net.sids i j s t one_sid.0 e f
          (same_sid_from s t node prefix) (same_sid_from t s (sym node) (sym prefix));
      sid_title = λ i j s t title e f a b. same_number_of same_title net.sids i j s t (are_distinct_titles net.sids ∙ room.1) e f
          (same_title_from _ _ title a b) (same_title_from _ _ title b a);
      title_name = λ i j t u e f same. same_number_of same_bytes net.titles i j t u titles.1 e f (same_bytes_from _ _ same)
          (same_bytes_from _ _ (sym same));
    }
