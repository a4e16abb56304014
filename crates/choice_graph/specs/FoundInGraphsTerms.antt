-- Need not be believed: helps proofs and other laws.
-- Terms beside those of `specs/FoundInGraphs.antt`.
use Rattle.std.specs.Prelude.{◌≡◌, ℕ, ◌<◌, ◌⊎◌, List, length, map, slice_index}
use Rattle.choice_graph.specs.declared.vertices.Vertex.{Vertex}
use Rattle.choice_graph.specs.declared.vertices.Vertex.TheVariants.{Lost, Stop, Over}
use Rattle.choice_graph.specs.declared.vertices.Found.{Found}
use Rattle.choice_graph.specs.GraphWalks.{vertex_at}

-- ---- one graph over another

-- what is found, with the answer under its answer
abbrev pub found_under : (ℕ → ℕ) → Found → Found
found_under answer_under f = record { most = f.most; answer = answer_under f.answer }

-- one of the vertices of a set is lost
abbrev pub HasLost : List Vertex → List ℕ → Type 0
HasLost vertices set = (place : ℕ) × (place < length set) × (vertex_at vertices (slice_index set place) ≡ Lost)

-- a vertex of a graph stands over one of a smaller graph: where it stops so does that one, and where it goes on, to no vertex that is lost,
-- that one goes to the vertices under its next ones. It may be lost where that one isn't.
abbrev pub IsOver : List Vertex → (ℕ → ℕ) → (ℕ → ℕ) → Vertex → Vertex → Type 0
IsOver vertices under answer_under Lost below = Unit {0}
IsOver vertices under answer_under (Stop answer) below = below ≡ Stop (answer_under answer)
IsOver vertices under answer_under (Over set) below = HasLost vertices set ⊎ (below ≡ Over (map under set))

-- a graph stands over another, as one of nodes and steps left over that of the nodes
abbrev pub StandsOver : (ℕ → ℕ) → (ℕ → ℕ) → List Vertex → List Vertex → Type 0
StandsOver under answer_under vertices nodes = (v : ℕ) → IsOver vertices under answer_under (vertex_at vertices v) (vertex_at nodes (under v))
