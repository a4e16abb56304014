-- The graph of the places to which a packet comes on its way to one destination, with the steps that it has still to take.
use Rattle.std.specs.Prelude.{ℕ, zero, suc, ◌+◌, ◌-◌, ◌*◌, Bool, true, List, [], ◌∷◌, ◌++◌, map, drop, length, Option, Some, None}
use Rattle.srv6_rules.specs.declared.family.Family.TheVariants as families
use Rattle.net_model.specs.Network.{Network}
use Rattle.walk_rules.specs.declared.place.How.TheVariants.{Arrived}
use Rattle.walk_rules.specs.declared.place.Place.{Place}
use Rattle.walk_rules.specs.Way.{Way, NoWay, Over, Own, Into, way_of}
use Rattle.intent_traces.specs.declared.trace_steps.TraceStep.{TraceStep}
use Rattle.intent_traces.specs.Traces.{Crossed, left_behind}
use Rattle.choice_graph.specs.declared.vertices.Vertex.{Vertex}
use Rattle.choice_graph.specs.declared.vertices.Vertex.TheVariants as vertices
use Rattle.choice_graph.specs.declared.vertices.FirstMove.{FirstMove}
use Rattle.choice_graph.specs.declared.vertices.Found.{Found}
use Rattle.choice_graph.specs.FoundInGraphs.{found_from}
use Rattle.loose_walks.specs.WalkStops.{ends_in}

-- how vertices and answers are numbered: the vertex of a node with so many steps left; one at which every packet is lost; the answer of a
-- SID that is come to with so many steps left
pub record Numbers : Type 0 where
  pub vertex : ℕ → ℕ → ℕ
  pub lost : ℕ
  pub code : ℕ → ℕ → ℕ

-- where a packet stands that has come over a link
abbrev pub arrived : ℕ → Place
arrived node = record { node = node; how = Arrived 0; family = families.V6 }

-- the vertex behind a link, by the steps that are left there and the node where it ends
abbrev pub vertex_behind : Numbers → Option (List TraceStep) → Option ℕ → ℕ
vertex_behind numbers None end = numbers.lost
vertex_behind numbers (Some us) None = numbers.lost
vertex_behind numbers (Some us) (Some node) = numbers.vertex node (length us)

abbrev pub next_vertex : Network → Numbers → List TraceStep → ℕ → ℕ
next_vertex net numbers ts link = vertex_behind numbers (left_behind (ends_in net) ts (Crossed link)) (ends_in net link)

-- what a packet meets by the way that a place gives it
abbrev pub vertex_by : Network → Numbers → List TraceStep → Way → Vertex
vertex_by net numbers ts (NoWay reason) = vertices.Lost
vertex_by net numbers ts (Over set lower) = vertices.Over (map (next_vertex net numbers ts) set)
vertex_by net numbers ts Own = vertices.Lost
vertex_by net numbers ts (Into n) = vertices.Stop (numbers.code n (length ts))

abbrev pub lowers_by : Way → Bool
lowers_by (NoWay reason) = true
lowers_by (Over set lower) = lower
lowers_by Own = true
lowers_by (Into n) = true

-- what a packet that hasn't moved yet meets at a place
abbrev pub start_at : Network → Numbers → List TraceStep → Place → ℕ → FirstMove
start_at net numbers ts place destination =
    record { lowers = lowers_by (way_of net place destination); vertex = vertex_by net numbers ts (way_of net place destination) }

-- ---- such a graph

-- a value for each of so many nodes, from one on
abbrev pub row_from : (ℕ → Vertex) → ℕ → ℕ → List Vertex
row_from value node zero = []
row_from value node (suc count) = value node ∷ row_from value (suc node) count

-- what a packet meets that has come to a node
abbrev pub vertex_of_node : Network → Numbers → ℕ → List TraceStep → ℕ → Vertex
vertex_of_node net numbers destination ts node = vertex_by net numbers ts (way_of net (arrived node) destination)

-- a row of nodes for each number of steps left, from none up
abbrev pub rows_of : Network → Numbers → ℕ → List TraceStep → List Vertex
rows_of net numbers destination [] = row_from (vertex_of_node net numbers destination []) 0 (length net.nodes)
rows_of net numbers destination (t ∷ ts) =
    rows_of net numbers destination ts ++ row_from (vertex_of_node net numbers destination (t ∷ ts)) 0 (length net.nodes)

-- its numbers, for so many steps; nothing stands at the one behind the last row. An answer tells the SID and the steps that are left,
-- of which there are fewer than 64
abbrev pub numbers_of : Network → ℕ → Numbers
numbers_of net count = record {
  vertex = λ node left. left * length net.nodes + node;
  lost = (count + 1) * length net.nodes;
  code = λ n left. n * 64 + left;
}

abbrev pub graph_in : Network → ℕ → List TraceStep → List Vertex
graph_in net destination steps = rows_of net (numbers_of net (length steps)) destination steps

-- what all choices come to from a place in front of it, where so many of the steps are left
abbrev pub found_in : Network → ℕ → List TraceStep → ℕ → Place → Option Found
found_in net destination steps left place =
    found_from (graph_in net destination steps)
    (start_at net (numbers_of net (length steps)) (drop (length steps - left) steps) place destination)
