-- The parts of a network from their lists.
use Rattle.std.proofs.Common.{◌≡◌, ℕ, List, [], map, refl}
use Rattle.std.specs.List.{filter_map}
use Rattle.srv6_rules.specs.declared.sid.SidEntry.{SidEntry}
use Rattle.net_model.specs.declared.parts.Block.{Block}
use Rattle.net_model.specs.declared.parts.Node.{Node}
use Rattle.net_model.specs.declared.parts.Link.{Link}
use Rattle.net_model.specs.declared.parts.Route.{Route}
use Rattle.net_model.specs.declared.parts.NamedPolicy.{NamedPolicy}
use Rattle.net_model.specs.Network.{Network}
use Rattle.net_syntax.specs.declared.description.Description.{Description}
use Rattle.net_reader.specs.Joining.{node_names, link_names, policy_names, joined_block, joined_node, joined_link, joined_route, joined_policy, title_in, joined_sids, joined}

abbrev pub parts_of : List Block → List Node → List Link → List Route → List NamedPolicy → List (List ℕ) → List SidEntry → Network
parts_of blocks nodes links routes policies titles sids = record {
  blocks = blocks;
  nodes = nodes;
  links = links;
  routes = routes;
  policies = policies;
  titles = titles;
  sids = sids;
  hidden = [];
}

pub joined_from : (said : Description) (ns ls ps : List (List ℕ)) (blocks : List Block) (nodes : List Node) (links : List Link)
    (routes : List Route) (policies : List NamedPolicy) (titles : List (List ℕ)) (sids : List SidEntry)
    → ns ≡ node_names said → ls ≡ link_names said → ps ≡ policy_names said → blocks ≡ map joined_block said.blocks
    → nodes ≡ map joined_node said.nodes → links ≡ map (joined_link ns) said.links → routes ≡ map (joined_route ns ls) said.routes
    → policies ≡ map joined_policy said.policies → titles ≡ filter_map title_in said.sids
    → sids ≡ joined_sids ns ls ps blocks 0 said.sids → parts_of blocks nodes links routes policies titles sids ≡ joined said
joined_from said ns ls ps blocks nodes links routes policies titles sids n l p b are_nodes are_links are_routes are_policies are_titles
    are_sids =
    rw (are_sids, are_titles, are_policies, are_routes, are_links, are_nodes, b, n, l, p) refl
