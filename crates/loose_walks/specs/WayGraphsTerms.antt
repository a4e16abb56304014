-- Need not be believed: helps proofs and other laws.
-- Terms beside those of `specs/WayGraphs.antt`.
use Rattle.std.specs.Prelude.{◌≡◌, ℕ, ◌+◌, ◌-◌, ◌*◌, ◌<◌, List, ◌++◌, map, length, Option, Some, None}
use Rattle.net_model.specs.Network.{Network}
use Rattle.walk_rules.specs.Way.{Way, NoWay, Over, Own, Into, way_of}
use Rattle.intent_traces.specs.declared.trace_steps.TraceStep.{TraceStep}
use Rattle.choice_graph.specs.declared.vertices.Vertex.{Vertex}
use Rattle.choice_graph.specs.declared.vertices.Vertex.TheVariants as vertices
use Rattle.choice_graph.specs.GraphWalks.{vertex_at}
use Rattle.loose_walks.specs.WalkStops.{ends_in}
use Rattle.loose_walks.specs.WayGraphs.{Numbers, arrived, vertex_by, row_from}

-- steps that are left of others
abbrev pub IsLeft : List TraceStep → List TraceStep → Type 0
IsLeft steps ts = (finished : List TraceStep) × (steps ≡ finished ++ ts)

-- a graph has, for each node and for all that can be left of the steps, what a packet meets that has come there over a link
pub record IsGraph (net : Network) (destination : ℕ) (steps : List TraceStep) (numbers : Numbers) (graph : List Vertex) : Type 0 where
  pub at : (ts : List TraceStep) (node : ℕ) → IsLeft steps ts → node < length net.nodes
      → vertex_at graph (numbers.vertex node (length ts)) ≡ vertex_by net numbers ts (way_of net (arrived node) destination)
  pub lost : vertex_at graph numbers.lost ≡ vertices.Lost

-- ---- while it is made

-- the vertex behind a link, by how many steps are left there
abbrev pub number_behind : ℕ → ℕ → Option ℕ → Option ℕ → ℕ
number_behind size lost None end = lost
number_behind size lost (Some left) None = lost
number_behind size lost (Some left) (Some node) = left * size + node

-- a SID into which a way leads is there
abbrev pub IsInto : Network → Way → Type 0
IsInto net (NoWay reason) = Unit {0}
IsInto net (Over set lower) = Unit {0}
IsInto net Own = Unit {0}
IsInto net (Into n) = n < length net.sids

-- ---- the graph of the nodes alone

-- the node behind a link; the number of nodes stands for out of the network
abbrev pub node_or : ℕ → Option ℕ → ℕ
node_or size None = size
node_or size (Some node) = node

abbrev pub node_behind : Network → ℕ → ℕ
node_behind net link = node_or (length net.nodes) (ends_in net link)

-- a packet stops at any SID, and goes over links whatever the steps say
abbrev pub node_vertex_by : Network → Way → Vertex
node_vertex_by net (NoWay reason) = vertices.Lost
node_vertex_by net (Over set lower) = vertices.Over (map (node_behind net) set)
node_vertex_by net Own = vertices.Lost
node_vertex_by net (Into n) = vertices.Stop 0

abbrev pub nodes_in : Network → ℕ → List Vertex
nodes_in net destination = row_from (λ node. node_vertex_by net (way_of net (arrived node) destination)) 0 (length net.nodes)
