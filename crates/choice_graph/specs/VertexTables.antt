-- Need not be believed: helps proofs and other laws.
-- Tables of what is known of vertices, by their numbers.
use Rattle.std.specs.Prelude.{◌≡◌, ℕ, suc, ◌<◌, Bool, true, false, List, [], ◌∷◌, length, Option, Some, None}
use Rattle.std.specs.List.{slice_get}
use Rattle.choice_graph.specs.declared.vertices.Vertex.{Vertex}
use Rattle.choice_graph.specs.declared.vertices.Found.{Found}
use Rattle.choice_graph.specs.GraphWalks.{vertex_at}
use Rattle.choice_graph.specs.FoundInGraphs.{Finds, found_by, found_at}

abbrev pub known_or_none : Option (Option Found) → Option Found
known_or_none None = None
known_or_none (Some o) = o

-- what a table has of a vertex; of one that it doesn't have nothing is known
abbrev pub known_at : List (Option Found) → Finds
known_at table v = known_or_none (slice_get table v)

-- what the table has is found
abbrev pub IsSound : List Vertex → List (Option Found) → Type 0
IsSound vertices table = (v : ℕ) (f : Found) → known_at table v ≡ Some f → found_at vertices v ≡ Some f

-- the table has what is found at each vertex, no more and no less
pub record AreFound (vertices : List Vertex) (table : List (Option Found)) : Type 0 where
  pub one_each : length table ≡ length vertices
  pub found : (v : ℕ) → known_at table v ≡ found_at vertices v

-- ---- while the table is filled

-- one lowering more fits 32 bits
abbrev pub AreLow : List (Option Found) → Type 0
AreLow table = (v : ℕ) (f : Found) → known_at table v ≡ Some f → f.most < 4294967295

-- what isn't known of a vertex doesn't follow from what is known of its next ones
abbrev pub IsSettledAt : List Vertex → List (Option Found) → ℕ → Type 0
IsSettledAt vertices table v = known_at table v ≡ None → found_by true (known_at table) (vertex_at vertices v) ≡ None

-- how many vertices nothing is known of
abbrev pub unknown : List (Option Found) → ℕ
unknown [] = 0
unknown (None ∷ table) = suc (unknown table)
unknown (Some f ∷ table) = unknown table

-- what is true is added, or the table stays as it was
pub record Adds (vertices : List Vertex) (old new : List (Option Found)) (added : Bool) : Type 0 where
  pub sound : IsSound vertices new
  pub long : length new ≡ length old
  pub nothing : added ≡ false → new ≡ old
  pub fewer : added ≡ true → unknown new < unknown old
