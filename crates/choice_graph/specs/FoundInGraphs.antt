-- What is found at a vertex: the answer of all choices, and the greatest number of lowerings among them.
use Rattle.std.specs.Prelude.{ℕ, zero, suc, ◌+◌, max, ◌==◌, Bool, true, if◌then◌else◌, List, [], ◌∷◌, length, Option, Some, None}
use Rattle.std.specs.Option.{option_map, option_and_then}
use Rattle.choice_graph.specs.declared.vertices.Vertex.{Vertex}
use Rattle.choice_graph.specs.declared.vertices.Vertex.TheVariants.{Lost, Stop, Over}
use Rattle.choice_graph.specs.declared.vertices.FirstMove.{FirstMove}
use Rattle.choice_graph.specs.declared.vertices.Found.{Found}
use Rattle.choice_graph.specs.GraphWalks.{vertex_at}

-- what is found at vertices, by their numbers
abbrev pub Finds : Type 0
Finds = ℕ → Option Found

-- what is found at one vertex and at further ones: all have one answer, and the greatest number counts
abbrev pub joined : Finds → Found → List ℕ → Option Found
joined finds f [] = Some f
joined finds f (w ∷ ws) =
    option_and_then (λ (g : Found). if g.answer == f.answer then joined finds (record { most = max f.most g.most; answer = f.answer })
    ws else None)
    (finds w)

-- at all vertices of a set, which isn't empty
abbrev pub found_over : Finds → List ℕ → Option Found
found_over finds [] = None
found_over finds (w ∷ ws) = option_and_then (λ f. joined finds f ws) (finds w)

-- with one lowering more where a move lowers
abbrev pub lowered : Bool → Found → Found
lowered lowers f = record { most = f.most + (if lowers then 1 else 0); answer = f.answer }

-- by what a packet meets, and what is found at the next vertices
abbrev pub found_by : Bool → Finds → Vertex → Option Found
found_by lowers finds Lost = None
found_by lowers finds (Stop answer) = Some (record { most = 0; answer = answer })
found_by lowers finds (Over set) = option_map (lowered lowers) (found_over finds set)

-- by ways of fewer than `depth` moves
abbrev pub found_in : List Vertex → ℕ → Finds
found_in vertices zero v = None
found_in vertices (suc depth) v = found_by true (found_in vertices depth) (vertex_at vertices v)

-- at a vertex of the graph: a way without a loop has fewer moves than there are vertices
abbrev pub found_at : List Vertex → Finds
found_at vertices v = found_in vertices (length vertices) v

-- from a start in front of the graph
abbrev pub found_from : List Vertex → FirstMove → Option Found
found_from vertices start = found_by start.lowers (found_at vertices) start.vertex
