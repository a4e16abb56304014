-- What is found from a place in front of a graph, by the table of what is found in it.
use Rattle.std.proofs.Common.{◌≡◌, ℕ, ◌+◌, ◌-◌, ◌*◌, ◌<◌, ◌≤◌, List, drop, length, Option, ◌∙◌, ap, arith}
use Rattle.net_model.specs.Network.{Network}
use Rattle.net_model.specs.NetworkKeeps.{Keeps}
use Rattle.walk_rules.specs.declared.place.Place.{Place}
use Rattle.walk_rules.specs.Way.{Way, way_of}
use Rattle.intent_traces.specs.declared.trace_steps.TraceStep.{TraceStep}
use Rattle.choice_graph.specs.declared.vertices.Found.{Found}
use Rattle.choice_graph.specs.declared.vertices.Vertex.{Vertex}
use Rattle.choice_graph.specs.FoundInGraphs.{found_by}
use Rattle.choice_graph.specs.VertexTables.{AreFound, AreLow, known_at}
use Rattle.choice_graph.proofs.GraphTables.{found_low, start_found}
use Rattle.loose_walks.specs.WayGraphs.{Numbers, arrived, found_in, graph_in, lowers_by, numbers_of, rows_of, vertex_by, start_at}
use Rattle.loose_walks.specs.WayGraphsTerms.{node_vertex_by, nodes_in}
use Rattle.loose_walks.proofs.Making.{row_length, rows_length}
use Rattle.loose_walks.proofs.VertexNumbers.{small_product}

-- so many vertices that their numbers fit 32 bits, in an order of arguments by which a tactic finds them
pub few_rows : (net : Network) (numbers : Numbers) (a : ℕ) (ts : List TraceStep) → Keeps net → length ts ≤ 48
    → length (rows_of net numbers a ts) ≤ 12544
few_rows net numbers a ts keeps few =
    let long : length (rows_of net numbers a ts) ≡ (length ts + 1) * length net.nodes = rows_length net numbers a ts in
    let most : (length ts + 1) * length net.nodes ≤ 12544 = small_product (length ts + 1) (length net.nodes) (omega arith)
    keeps.node_count in
    omega (arith, long, most)

pub ruleset row_lengths = (few_rows, row_length)

pub few_nodes : (net : Network) → Keeps net → (a : ℕ) (vertices : List Vertex) → vertices ≡ nodes_in net a → length vertices < 4294967296
few_nodes net keeps a vertices e =
    let long : length vertices ≡ length net.nodes
    = ap length e ∙ row_length (λ node. node_vertex_by net (way_of net (arrived node) a)) 0 (length net.nodes) in
    let few : length net.nodes ≤ 256 = keeps.node_count in
    omega (arith, long, few)

pub found_few : (net : Network) → Keeps net → (a : ℕ) (vertices : List Vertex) → vertices ≡ nodes_in net a → (table items : List (Option Found))
    → AreFound vertices table → items ≡ table → length items < 4294967296
found_few net keeps a vertices e table items found same =
    let long : length items ≡ length vertices = ap length same ∙ found.one_each in
    let few = few_nodes net keeps a vertices e in
    omega (arith, long, few)

pub few_vertices : (net : Network) → Keeps net → (a : ℕ) (steps : List TraceStep) → length steps ≤ 48 → length (graph_in net a steps) ≤ 12544
few_vertices net keeps a steps few = few_rows net (numbers_of net (length steps)) a steps keeps few

pub graph_low : (net : Network) → Keeps net → (a : ℕ) (steps : List TraceStep) → length steps ≤ 48 → (table : List (Option Found))
    → AreFound (graph_in net a steps) table → AreLow table
graph_low net keeps a steps few table found =
    let most : length (graph_in net a steps) ≤ 12544 = few_vertices net keeps a steps few in
    found_low (graph_in net a steps) table (omega arith) found

pub from_place : (net : Network) (a : ℕ) (steps : List TraceStep) (left : ℕ) (place : Place) (table : List (Option Found)) (w : Way)
    (rest : List TraceStep) (count : ℕ) (result : Option Found)
    → AreFound (graph_in net a steps) table → w ≡ way_of net place a → rest ≡ drop (length steps - left) steps → count ≡ length steps
    → result ≡ found_by (lowers_by w) (known_at table) (vertex_by net (numbers_of net count) rest w)
    → result ≡ found_in net a steps left place
from_place net a steps left place table w rest count result found w_is rest_is count_is e =
    let way = way_of net place a in
    let behind = drop (length steps - left) steps in
    e
    ∙ ap (λ (v : Way). found_by (lowers_by v) (known_at table) (vertex_by net (numbers_of net count) rest v)) w_is
    ∙ ap (λ (ts : List TraceStep). found_by (lowers_by way) (known_at table) (vertex_by net (numbers_of net count) ts way)) rest_is
    ∙ ap (λ (n : ℕ). found_by (lowers_by way) (known_at table) (vertex_by net (numbers_of net n) behind way)) count_is
    ∙ start_found (graph_in net a steps) table (start_at net (numbers_of net (length steps)) behind place a) found
