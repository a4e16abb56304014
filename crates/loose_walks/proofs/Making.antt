-- The graph of rows is one of the network.
use Rattle.std.proofs.Common.{◌≡◌, ℕ, zero, suc, ◌+◌, ◌*◌, ◌<◌, List, [], ◌∷◌, ◌++◌, length, slice_get, Some, refl, ◌∙◌, ap, arith, length-append}
use Rattle.std.proofs.lemmas.Option.{slice_get_past}
use Rattle.net_model.specs.Network.{Network}
use Rattle.walk_rules.specs.Way.{way_of}
use Rattle.intent_traces.specs.declared.trace_steps.TraceStep.{TraceStep}
use Rattle.choice_graph.specs.declared.vertices.Vertex.{Vertex}
use Rattle.choice_graph.specs.GraphWalks.{vertex_of, vertex_at}
use Rattle.choice_graph.proofs.GraphLists.{get_before, get_behind}
use Rattle.loose_walks.specs.WayGraphs.{Numbers, arrived, vertex_by, row_from, rows_of, numbers_of, graph_in}
use Rattle.loose_walks.specs.WayGraphsTerms.{IsLeft, IsGraph}

pub row_length : (value : ℕ → Vertex) (node count : ℕ) → length (row_from value node count) ≡ count
row_length value node zero = refl
row_length value node (suc count) = ap (λ (k : ℕ). suc k) (row_length value (suc node) count)

pub row_get : (value : ℕ → Vertex) (node count k : ℕ) → k < count → slice_get (row_from value node count) k ≡ Some (value (node + k))
row_get value node zero k l = absurd (omega arith)
row_get value node (suc count) zero l = let n : node ≡ node + 0 = omega arith in ap (λ (v : ℕ). Some (value v)) n
row_get value node (suc count) (suc k) l =
    row_get value (suc node) count k (omega arith)
    ∙ (let n : suc node + k ≡ node + suc k = omega arith in ap (λ (v : ℕ). Some (value v)) n)

module _ (net : Network) (numbers : Numbers) (a : ℕ) where
  pub rows_length : (ts : List TraceStep) → length (rows_of net numbers a ts) ≡ (length ts + 1) * length net.nodes
  rows_length [] =
      let one = row_length (λ node. vertex_by net numbers [] (way_of net (arrived node) a)) 0 (length net.nodes) in omega (arith, one)
  rows_length (t ∷ ts) =
      let value : ℕ → Vertex = λ node. vertex_by net numbers (t ∷ ts) (way_of net (arrived node) a) in
      let one = row_length value 0 (length net.nodes) in
      let more = rows_length ts in
      let whole = length-append (rows_of net numbers a ts) (row_from value 0 (length net.nodes)) in
      omega (arith, one, more, whole)

  own_row : (ts : List TraceStep) (node n : ℕ) → node < length net.nodes → n ≡ length ts * length net.nodes + node
      → slice_get (rows_of net numbers a ts) n ≡ Some (vertex_by net numbers ts (way_of net (arrived node) a))
  own_row [] node n l e =
      let same : n ≡ node = omega arith in
      ap (slice_get (rows_of net numbers a [])) same
      ∙ row_get (λ v. vertex_by net numbers [] (way_of net (arrived v) a)) 0 (length net.nodes) node l
      ∙ (let z : 0 + node ≡ node = omega arith in ap (λ (v : ℕ). Some (vertex_by net numbers [] (way_of net (arrived v) a))) z)
  own_row (t ∷ ts) node n l e =
      let value : ℕ → Vertex = λ v. vertex_by net numbers (t ∷ ts) (way_of net (arrived v) a) in
      let long = rows_length ts in
      let at : n ≡ length (rows_of net numbers a ts) + node = omega (arith, long) in
      get_behind (rows_of net numbers a ts) (row_from value 0 (length net.nodes)) n node at
      ∙ row_get value 0 (length net.nodes) node l
      ∙ (let z : 0 + node ≡ node = omega arith in ap (λ (v : ℕ). Some (value v)) z)

  rows_at : (finished ts : List TraceStep) (node n : ℕ) → node < length net.nodes → n ≡ length ts * length net.nodes + node
      → slice_get (rows_of net numbers a (finished ++ ts)) n ≡ Some (vertex_by net numbers ts (way_of net (arrived node) a))
  rows_at [] ts node n l e = own_row ts node n l e
  rows_at (t ∷ finished) ts node n l e =
      let value : ℕ → Vertex = λ v. vertex_by net numbers (t ∷ (finished ++ ts)) (way_of net (arrived v) a) in
      let long = rows_length (finished ++ ts) in
      let count = length-append finished ts in
      let whole : length (rows_of net numbers a (finished ++ ts)) ≡ (length finished + length ts + 1) * length net.nodes
      = long ∙ ap (λ (k : ℕ). (k + 1) * length net.nodes) count in
      let inside : n < length (rows_of net numbers a (finished ++ ts)) = omega (arith, whole) in
      get_before (rows_of net numbers a (finished ++ ts)) (row_from value 0 (length net.nodes)) n inside
      ∙ rows_at finished ts node n l e

pub graph_is : (net : Network) (destination : ℕ) (steps : List TraceStep)
    → IsGraph net destination steps (numbers_of net (length steps)) (graph_in net destination steps)
graph_is net a steps =
    record {
      at = at;
      lost = ap vertex_of (slice_get_past (graph_in net a steps) ((length steps + 1) * length net.nodes)
          (omega (arith, long)));
    }
  where
    long : length (graph_in net a steps) ≡ (length steps + 1) * length net.nodes
    long = rows_length net (numbers_of net (length steps)) a steps

    at : (ts : List TraceStep) (node : ℕ) → IsLeft steps ts → node < length net.nodes
        → vertex_at (graph_in net a steps) (length ts * length net.nodes + node)
        ≡ vertex_by net (numbers_of net (length steps)) ts (way_of net (arrived node) a)
    at ts node left there =
        ap vertex_of
        (ap (λ (xs : List TraceStep). slice_get (rows_of net (numbers_of net (length steps)) a xs) (length ts * length net.nodes + node)) left.1
        ∙ rows_at net (numbers_of net (length steps)) a left.0 ts node (length ts * length net.nodes + node) there refl)
