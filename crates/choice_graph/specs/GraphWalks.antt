-- How a packet goes over a graph of vertices.
use Rattle.std.specs.Prelude.{ℕ, List, Option, Some, None}
use Rattle.std.specs.List.{slice_get}
use Rattle.choice_graph.specs.declared.vertices.Vertex.{Vertex}
use Rattle.choice_graph.specs.declared.vertices.Vertex.TheVariants.{Lost}

-- what is at a vertex; at a number that the graph doesn't have a packet is lost
abbrev pub vertex_of : Option Vertex → Vertex
vertex_of None = Lost
vertex_of (Some vertex) = vertex

abbrev pub vertex_at : List Vertex → ℕ → Vertex
vertex_at vertices v = vertex_of (slice_get vertices v)
