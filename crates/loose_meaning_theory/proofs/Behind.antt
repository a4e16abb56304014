-- What is found behind links in the graph of nodes and steps is found in the graph of the nodes alone, with the same number of lowerings.
use Rattle.std.proofs.Common.{◌≡◌, ℕ, zero, suc, ◌+◌, ◌<◌, max, ◌==◌, true, List, [], ◌∷◌, map, length, Option, Some, None, refl, sym, ◌∙◌, ap, arith}
use Rattle.std.specs.Option.{option_map, option_and_then}
use Rattle.net_model.specs.Network.{Network}
use Rattle.net_model.specs.NetworkKeeps.{Keeps}
use Rattle.walk_rules.specs.Way.{Way, NoWay, Over, Own, Into, way_of}
use Rattle.intent_traces.specs.declared.trace_steps.TraceStep.{TraceStep}
use Rattle.intent_traces.specs.Traces.{Crossed, left_behind}
use Rattle.choice_graph.specs.declared.vertices.Vertex.{Vertex}
use Rattle.choice_graph.specs.declared.vertices.Found.{Found}
use Rattle.choice_graph.specs.GraphWalks.{vertex_of, vertex_at}
use Rattle.choice_graph.specs.FoundInGraphs.{Finds, found_by, found_in, found_over, joined, lowered}
use Rattle.choice_graph.specs.FoundInGraphsTerms.{found_under}
use Rattle.choice_graph.proofs.GraphDepths.{found_deep, found_lost}
use Rattle.choice_graph.proofs.GraphJoins.{joined_with}
use Rattle.choice_graph.proofs.GraphOptions.{if_some, map_some, none_some, then_some}
use Rattle.loose_walks.specs.WalkStops.{ends_in}
use Rattle.loose_walks.specs.WayGraphs.{Numbers, arrived, graph_in, next_vertex, numbers_of, vertex_behind, vertex_by}
use Rattle.loose_walks.specs.WayGraphsTerms.{IsLeft, node_behind, node_or, node_vertex_by, nodes_in}
use Rattle.loose_walks.proofs.Making.{graph_is, row_get}
use Rattle.loose_walks.proofs.Quiet.{end_there, left_on}
use Rattle.loose_meaning_theory.specs.LongestWays.{most_behind, most_of}

-- what is found, as the graph of the nodes says it: all answers are one
abbrev pub flat : Found → Found
flat f = found_under (λ (a : ℕ). 0) f

-- a join of what is found behind members is one where it is found behind others, one for each
module _ (finds below : Finds) (one other : ℕ → ℕ)
    (all : (link : ℕ) (g : Found) → finds (one link) ≡ Some g → below (other link) ≡ Some (flat g)) where
  joined_both : (f : Found) (links : List ℕ) (h : Found) → joined finds f (map one links) ≡ Some h
      → joined below (flat f) (map other links) ≡ Some (flat h)
  joined_both f [] h e = ap (option_map flat) e
  joined_both f (link ∷ links) h e =
      let first = then_some (joined_with finds f (map one links)) (finds (one link)) h e in
      let g : Found = first.0 in
      let both =
      if_some (g.answer == f.answer) (joined finds (record { most = max f.most g.most; answer = f.answer }) (map one links)) h first.2 in
      let more = joined_both (record { most = max f.most g.most; answer = f.answer }) links h both.1 in
      ap (option_and_then (joined_with below (flat f) (map other links))) (all link g first.1) ∙ more

  over_both : (links : List ℕ) (h : Found) → found_over finds (map one links) ≡ Some h → found_over below (map other links) ≡ Some (flat h)
  over_both [] h e = absurd (none_some h e)
  over_both (link ∷ links) h e =
      let first = then_some (λ (f : Found). joined finds f (map one links)) (finds (one link)) h e in
      ap (option_and_then (λ (f : Found). joined below f (map other links))) (all link first.0 first.1)
      ∙ joined_both first.0 links h first.2

module _ (net : Network) (keeps : Keeps net) (a : ℕ) (steps : List TraceStep) where
  abbrev pub numbers : Numbers
  numbers = numbers_of net (length steps)

  abbrev pub graph : List Vertex
  graph = graph_in net a steps

  abbrev pub nodes : List Vertex
  nodes = nodes_in net a

  -- where something is found behind a link, it keeps to the steps and leads to a node
  pub record IsBehind (depth : ℕ) (ts : List TraceStep) (link : ℕ) (g : Found) : Type 0 where
    pub left : List TraceStep
    pub crossed : left_behind (ends_in net) ts (Crossed link) ≡ Some left
    pub node : ℕ
    pub ends : ends_in net link ≡ Some node
    pub there : node < length net.nodes
    pub found : found_in graph depth (numbers.vertex node (length left)) ≡ Some g

  pub link_parts : (depth : ℕ) (ts : List TraceStep) (link : ℕ) (g : Found) → found_in graph depth (next_vertex net numbers ts link) ≡ Some g
      → IsBehind depth ts link g
  link_parts depth ts link g h = by_parts (left_behind (ends_in net) ts (Crossed link)) refl (ends_in net link) refl h
    where
      lost : found_in graph depth numbers.lost ≡ None
      lost = found_lost graph depth numbers.lost (graph_is net a steps).lost

      by_parts : (o : Option (List TraceStep)) → left_behind (ends_in net) ts (Crossed link) ≡ o → (e : Option ℕ) → ends_in net link ≡ e
          → found_in graph depth (vertex_behind numbers o e) ≡ Some g → IsBehind depth ts link g
      by_parts None o_is e e_is h = absurd (none_some g (sym lost ∙ h))
      by_parts (Some us) o_is None e_is h = absurd (none_some g (sym lost ∙ h))
      by_parts (Some us) o_is (Some node) e_is h =
          record { left = us; crossed = o_is; node = node; ends = e_is; there = end_there net keeps link node e_is; found = h }

  -- at a vertex, by what is found behind links
  way_node : (depth : ℕ) (ts : List TraceStep)
      → ((link : ℕ) (g : Found) → found_in graph depth (next_vertex net numbers ts link) ≡ Some g
      → found_in nodes depth (node_behind net link) ≡ Some (flat g))
      → (w : Way) (f : Found) → found_by true (found_in graph depth) (vertex_by net numbers ts w) ≡ Some f
      → found_by true (found_in nodes depth) (node_vertex_by net w) ≡ Some (flat f)
  way_node depth ts all (NoWay reason) f e = absurd (none_some f e)
  way_node depth ts all Own f e = absurd (none_some f e)
  way_node depth ts all (Into n) f e = ap (option_map flat) e
  way_node depth ts all (Over set lower) f e =
      let m = map_some (lowered true) (found_over (found_in graph depth) (map (next_vertex net numbers ts) set)) f e in
      ap (option_map (lowered true))
      (over_both (found_in graph depth) (found_in nodes depth) (next_vertex net numbers ts) (node_behind net) all set m.0 m.1)
      ∙ ap (λ (x : Found). Some (flat x)) m.2

  -- what is found behind a link is so in the graph of the nodes
  pub link_node : (depth : ℕ) (ts : List TraceStep) → IsLeft steps ts → (link : ℕ) (g : Found)
      → found_in graph depth (next_vertex net numbers ts link) ≡ Some g → found_in nodes depth (node_behind net link) ≡ Some (flat g)
  link_node zero ts left link g h = absurd (none_some g h)
  link_node (suc depth) ts left link g h =
      let b = link_parts (suc depth) ts link g h in
      let us = b.left in
      let us_left : IsLeft steps us = left_on steps ts us (ends_in net) (Crossed link) left b.crossed in
      let way = way_of net (arrived b.node) a in
      let here : vertex_at graph (numbers.vertex b.node (length us)) ≡ vertex_by net numbers us way
      = (graph_is net a steps).at us b.node us_left b.there in
      let below : vertex_at nodes b.node ≡ node_vertex_by net way
      = ap vertex_of (row_get (λ n. node_vertex_by net (way_of net (arrived n) a)) 0 (length net.nodes) b.node b.there)
      ∙ (let z : 0 + b.node ≡ b.node = omega arith in ap (λ (n : ℕ). node_vertex_by net (way_of net (arrived n) a)) z) in
      ap (λ (e : Option ℕ). found_in nodes (suc depth) (node_or (length net.nodes) e)) b.ends
      ∙ ap (found_by true (found_in nodes depth)) below
      ∙ way_node depth us (link_node depth us us_left) way g (sym (ap (found_by true (found_in graph depth)) here) ∙ b.found)

  -- so the greatest number behind a link is that of the graph of the nodes
  pub most_is : (depth : ℕ) (ts : List TraceStep) → IsLeft steps ts → (link : ℕ) (g : Found)
      → found_in graph depth (next_vertex net numbers ts link) ≡ Some g → most_behind net a link ≡ g.most
  most_is depth ts left link g h =
      ap most_of (found_deep nodes depth (node_behind net link) (flat g) (link_node depth ts left link g h))
