-- Need not be believed: helps proofs and other laws.
-- Terms beside those of `specs/GraphWalks.antt`.
use Rattle.std.specs.Prelude.{◌≡◌, ℕ, zero, suc, ◌%◌, Bool, true, false, List, [], ◌∷◌, length, slice_index, Option, Some, None}
use Rattle.choice_graph.specs.declared.vertices.Vertex.{Vertex}
use Rattle.choice_graph.specs.declared.vertices.Vertex.TheVariants.{Lost, Stop, Over}
use Rattle.choice_graph.specs.declared.vertices.FirstMove.{FirstMove}
use Rattle.choice_graph.specs.GraphWalks.{vertex_at}

-- choices without an end, from the next one on
abbrev pub Picks : Type 0
Picks = ℕ → ℕ

-- the choices behind the first
abbrev pub later : Picks → Picks
later picks k = picks (suc k)

-- the member of a set that a choice takes
abbrev pub member_of : List ℕ → ℕ → ℕ
member_of set choice = slice_index set (choice % length set)

-- where a packet stops: with which answer, how often its hop limit can be lowered still, and the choices that it didn't ask for
pub record End : Type 0 where
  pub answer : ℕ
  pub hops_left : ℕ
  pub picks : Picks

-- over a set: to the member that the next choice takes, and on from there; an empty set leads nowhere
abbrev pub over : (Picks → ℕ → Option End) → Picks → List ℕ → Option End
over on picks [] = None
over on picks (w ∷ ws) = on (later picks) (member_of (w ∷ ws) (picks 0))

-- from what a packet meets at a vertex, where `on` says how it goes on from a next vertex
abbrev pub goes : (Picks → ℕ → Option End) → Picks → ℕ → Vertex → Option End
goes on picks hops_left Lost = None
goes on picks hops_left (Stop answer) = Some (record { answer = answer; hops_left = hops_left; picks = picks })
goes on picks hops_left (Over set) = over on picks set

-- no move is left
abbrev pub nowhere : Picks → ℕ → Option End
nowhere picks v = None

-- from a vertex of the graph, with a hop limit that can be lowered `hops_left` times; each move lowers it
abbrev pub walk : List Vertex → ℕ → Picks → ℕ → Option End
walk vertices zero picks v = goes nowhere picks zero (vertex_at vertices v)
walk vertices (suc hops_left) picks v = goes (walk vertices hops_left) picks (suc hops_left) (vertex_at vertices v)

-- from what it meets first, where the first move lowers or doesn't
abbrev pub walk_first : List Vertex → Bool → ℕ → Picks → Vertex → Option End
walk_first vertices false hops_left picks vertex = goes (walk vertices hops_left) picks hops_left vertex
walk_first vertices true zero picks vertex = goes nowhere picks zero vertex
walk_first vertices true (suc hops_left) picks vertex = goes (walk vertices hops_left) picks (suc hops_left) vertex

-- from a start in front of the graph
abbrev pub walk_from : List Vertex → ℕ → Picks → FirstMove → Option End
walk_from vertices hops_left picks start = walk_first vertices start.lowers hops_left picks start.vertex

abbrev pub answer_of : Option End → Option ℕ
answer_of None = None
answer_of (Some e) = Some e.answer

-- with so many lowerings all choices come to one answer
abbrev pub AlwaysComes : List Vertex → ℕ → ℕ → ℕ → Type 0
AlwaysComes vertices hops_left v answer = (picks : Picks) → answer_of (walk vertices hops_left picks v) ≡ Some answer

abbrev pub AlwaysComesFrom : List Vertex → ℕ → FirstMove → ℕ → Type 0
AlwaysComesFrom vertices hops_left start answer = (picks : Picks) → answer_of (walk_from vertices hops_left picks start) ≡ Some answer

-- choices from a list, which begins anew at its end
abbrev pub picks_of : List ℕ → Picks
picks_of choices k = slice_index choices (k % length choices)
