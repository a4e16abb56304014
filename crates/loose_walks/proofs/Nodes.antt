-- The graph of nodes and steps left stands over that of the nodes.
use Rattle.std.proofs.Common.{◌≡◌, ℕ, zero, suc, ◌+◌, ◌-◌, ◌*◌, ◌/◌, ◌%◌, ◌<◌, ◌≤◌, ◌⊎◌, inl, inr, List, [], ◌∷◌, map, take, drop, length, Option, Some, None, refl, sym, ◌∙◌, ap, subst, arith, mod-lt, length-drop}
use Rattle.std.proofs.lemmas.Bool.{cases_lt}
use Rattle.std.proofs.lemmas.List.{take-append-drop}
use Rattle.std.proofs.lemmas.Nat.{div-add-mod', div_below, mod-mul-add}
use Rattle.std.proofs.lemmas.Option.{slice_get_past}
use Rattle.net_model.specs.Network.{Network}
use Rattle.net_model.specs.NetworkKeeps.{Keeps}
use Rattle.walk_rules.specs.Way.{Way, NoWay, Over, Own, Into, way_of}
use Rattle.intent_traces.specs.declared.trace_steps.TraceStep.{TraceStep}
use Rattle.intent_traces.specs.Traces.{Crossed, left_behind}
use Rattle.choice_graph.specs.declared.vertices.Vertex.{Vertex}
use Rattle.choice_graph.specs.declared.vertices.Vertex.TheVariants as vertices
use Rattle.choice_graph.specs.declared.vertices.FirstMove.{FirstMove}
use Rattle.choice_graph.specs.declared.vertices.Found.{Found}
use Rattle.choice_graph.specs.GraphWalks.{vertex_of, vertex_at}
use Rattle.choice_graph.specs.FoundInGraphs.{found_at, found_from}
use Rattle.choice_graph.specs.FoundInGraphsTerms.{HasLost, IsOver, StandsOver}
use Rattle.choice_graph.proofs.GraphDepths.{under_few}
use Rattle.choice_graph.proofs.PublicLaws.{few_from_law}
use Rattle.loose_walks.specs.WalkStops.{ends_in}
use Rattle.loose_walks.specs.WayGraphs.{arrived, vertex_behind, next_vertex, vertex_by, numbers_of, graph_in}
use Rattle.loose_walks.specs.WayGraphsTerms.{node_or, node_behind, node_vertex_by, nodes_in}
use Rattle.loose_walks.proofs.Quiet.{end_there}
use Rattle.loose_walks.proofs.Making.{row_length, row_get, rows_length, graph_is}

module _ (net : Network) (keeps : Keeps net) (a : ℕ) (steps : List TraceStep) where
  abbrev graph : List Vertex
  graph = graph_in net a steps

  abbrev under : ℕ → ℕ
  under v = v % length net.nodes

  abbrev answer_under : ℕ → ℕ
  answer_under answer = 0

  -- a link leads to a vertex that is lost, or to one over the node behind it
  link_over : (ts : List TraceStep) (link : ℕ)
      → (vertex_at graph (next_vertex net (numbers_of net (length steps)) ts link) ≡ vertices.Lost)
      ⊎ (under (next_vertex net (numbers_of net (length steps)) ts link) ≡ node_behind net link)
  link_over ts link = by_parts (left_behind (ends_in net) ts (Crossed link)) (ends_in net link) refl
    where
      by_parts : (o : Option (List TraceStep)) (e : Option ℕ) → ends_in net link ≡ e
          → (vertex_at graph (vertex_behind (numbers_of net (length steps)) o e) ≡ vertices.Lost)
          ⊎ (under (vertex_behind (numbers_of net (length steps)) o e) ≡ node_behind net link)
      by_parts None e is = inl (graph_is net a steps).lost
      by_parts (Some us) None is = inl (graph_is net a steps).lost
      by_parts (Some us) (Some node) is =
          inr (mod-mul-add (length us) (length net.nodes) node (end_there net keeps link node is)
          ∙ ap (node_or (length net.nodes)) (sym is))

  links_over : (ts : List TraceStep) (links : List ℕ)
      → HasLost graph (map (next_vertex net (numbers_of net (length steps)) ts) links)
      ⊎ (map under (map (next_vertex net (numbers_of net (length steps)) ts) links) ≡ map (node_behind net) links)
  links_over ts [] = inr refl
  links_over ts (link ∷ links) = by_parts (link_over ts link) (links_over ts links)
    where
      by_parts : (vertex_at graph (next_vertex net (numbers_of net (length steps)) ts link) ≡ vertices.Lost)
          ⊎ (under (next_vertex net (numbers_of net (length steps)) ts link) ≡ node_behind net link)
          → HasLost graph (map (next_vertex net (numbers_of net (length steps)) ts) links)
          ⊎ (map under (map (next_vertex net (numbers_of net (length steps)) ts) links) ≡ map (node_behind net) links)
          → HasLost graph (map (next_vertex net (numbers_of net (length steps)) ts) (link ∷ links))
          ⊎ (map under (map (next_vertex net (numbers_of net (length steps)) ts) (link ∷ links)) ≡ map (node_behind net) (link ∷ links))
      by_parts (inl lost) more = inl (0, omega arith, lost)
      by_parts (inr is) (inl lost) = inl (suc lost.0, (let l = lost.1 in omega arith), lost.2)
      by_parts (inr is) (inr all) =
          inr (ap (λ (k : ℕ). k ∷ map under (map (next_vertex net (numbers_of net (length steps)) ts) links)) is
          ∙ ap (λ (ks : List ℕ). node_behind net link ∷ ks) all)

  way_over : (ts : List TraceStep) (w : Way) → IsOver graph under answer_under (vertex_by net (numbers_of net (length steps)) ts w)
      (node_vertex_by net w)
  way_over ts (NoWay reason) = tt
  way_over ts Own = tt
  way_over ts (Into n) = refl
  way_over ts (Over set lower) = by_links (links_over ts set)
    where
      by_links : HasLost graph (map (next_vertex net (numbers_of net (length steps)) ts) set)
          ⊎ (map under (map (next_vertex net (numbers_of net (length steps)) ts) set) ≡ map (node_behind net) set)
          → HasLost graph (map (next_vertex net (numbers_of net (length steps)) ts) set)
          ⊎ (node_vertex_by net (Over set lower) ≡ vertices.Over (map under (map (next_vertex net (numbers_of net (length steps)) ts) set)))
      by_links (inl lost) = inl lost
      by_links (inr is) = inr (ap (λ (ks : List ℕ). vertices.Over ks) (sym is))

  stands : StandsOver under answer_under graph (nodes_in net a)
  stands v = by_place (cases_lt v (length graph))
    where
      by_place : (v < length graph) ⊎ (length graph ≤ v)
          → IsOver graph under answer_under (vertex_at graph v) (vertex_at (nodes_in net a) (under v))
      by_place (inr past) =
          subst (λ (s : Vertex). IsOver graph under answer_under s (vertex_at (nodes_in net a) (under v)))
          (sym (ap vertex_of (slice_get_past graph v past))) tt
      by_place (inl inside) =
          let long = rows_length net (numbers_of net (length steps)) a steps in
          let within : v < (length steps + 1) * length net.nodes = omega (arith, long) in
          let some : 0 < length net.nodes = some_nodes within in
          let left : ℕ = v / length net.nodes in
          let few : left < length steps + 1 = div_below v (length net.nodes) (length steps + 1) some within in
          let node : ℕ = v % length net.nodes in
          let there : node < length net.nodes = mod-lt v some in
          let ts : List TraceStep = drop (length steps - left) steps in
          let count : length ts ≡ left = (let l = length-drop (length steps - left) steps in omega (arith, l)) in
          let place : length ts * length net.nodes + node ≡ v
          = ap (λ (k : ℕ). k * length net.nodes + node) count ∙ div-add-mod' v (length net.nodes) in
          let own = (graph_is net a steps).at ts node (take (length steps - left) steps, sym (take-append-drop (length steps - left) steps))
          there in
          let here : vertex_at graph v ≡ vertex_by net (numbers_of net (length steps)) ts (way_of net (arrived node) a)
          = ap (vertex_at graph) (sym place) ∙ own in
          let zero_is : 0 + node ≡ node = omega arith in
          let below : vertex_at (nodes_in net a) node ≡ node_vertex_by net (way_of net (arrived node) a)
          = ap vertex_of (row_get (λ n. node_vertex_by net (way_of net (arrived n) a)) 0 (length net.nodes) node there)
          ∙ ap (λ (n : ℕ). node_vertex_by net (way_of net (arrived n) a)) zero_is in
          subst (λ (s : Vertex). IsOver graph under answer_under s (vertex_at (nodes_in net a) node)) (sym here)
          (subst (λ (s : Vertex). IsOver graph under answer_under
          (vertex_by net (numbers_of net (length steps)) ts (way_of net (arrived node) a)) s)
          (sym below) (way_over ts (way_of net (arrived node) a)))
        where
          some_nodes : v < (length steps + 1) * length net.nodes → 0 < length net.nodes
          some_nodes l = by_size (length net.nodes) l
            where
              by_size : (n : ℕ) → v < (length steps + 1) * n → 0 < n
              by_size zero l = absurd (omega arith)
              by_size (suc n) l = omega arith

  pub few_lowerings : (v : ℕ) (f : Found) → found_at graph v ≡ Some f → f.most < length net.nodes
  few_lowerings v f e =
      let l = under_few under answer_under graph (nodes_in net a) stands v f e in
      let long = row_length (λ node. node_vertex_by net (way_of net (arrived node) a)) 0 (length net.nodes) in
      omega (arith, l, long)

  pub few_lowerings_from : (start : FirstMove) (f : Found) → found_from graph start ≡ Some f → f.most ≤ length net.nodes
  few_lowerings_from start f e =
      let l = few_from_law under answer_under graph (nodes_in net a) stands start f e in
      let long = row_length (λ node. node_vertex_by net (way_of net (arrived node) a)) 0 (length net.nodes) in
      omega (arith, l, long)
