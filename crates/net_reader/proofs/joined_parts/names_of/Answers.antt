use Rattle.std.proofs.Common.{◌∙◌, List, map, ap}
use Rattle.net_syntax.specs.declared.node_table.DescribedNode.{DescribedNode}
use Rattle.net_syntax.specs.declared.link_table.DescribedLink.{DescribedLink}
use Rattle.net_syntax.specs.declared.policy_table.DescribedPolicy.{DescribedPolicy}
use Rattle.net_reader.proofs.joined_parts.names_of.Goals as goal

pub of-requires : goal.of-requires
of-requires c = rw c.as_slice.ensures c.requires.few_nodes

pub of-requires-2 : goal.of-requires-2
of-requires-2 c = rw c.as_slice-2.ensures c.requires.few_links

pub of-requires-3 : goal.of-requires-3
of-requires-3 c = rw c.as_slice-3.ensures c.requires.few_policies

pub returns-clause-nodes : goal.returns-clause-nodes
returns-clause-nodes c = c.in_ok-nodes.ensures ∙ ap (λ (ns : List DescribedNode). map (λ n. n.name) ns) c.as_slice.ensures

pub returns-clause-links : goal.returns-clause-links
returns-clause-links c = c.in_ok-links.ensures ∙ ap (λ (ls : List DescribedLink). map (λ l. l.name) ls) c.as_slice-2.ensures

pub returns-clause-policies : goal.returns-clause-policies
returns-clause-policies c = c.in_ok-policies.ensures ∙ ap (λ (ps : List DescribedPolicy). map (λ p. p.name) ps) c.as_slice-3.ensures
