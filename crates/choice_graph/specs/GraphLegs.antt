-- Need not be believed: helps proofs and other laws.
-- Ways one after the other: each from a start in a graph of its own, to an answer that is wanted.
use Rattle.std.specs.Prelude.{◌≡◌, ℕ, zero, suc, ◌+◌, ◌==◌, ◌&&◌, Bool, true, false, if◌then◌else◌, List, [], ◌∷◌, Option, Some, None}
use Rattle.std.specs.Option.{option_map, option_and_then}
use Rattle.choice_graph.specs.declared.vertices.Vertex.{Vertex}
use Rattle.choice_graph.specs.declared.vertices.FirstMove.{FirstMove}
use Rattle.choice_graph.specs.declared.vertices.Found.{Found}
use Rattle.choice_graph.specs.GraphWalksTerms.{Picks, End, walk_from}
use Rattle.choice_graph.specs.FoundInGraphs.{found_from}

-- the way to a SID, the answer that it has to have, and how often the execution there lowers the hop limit
pub record Leg : Type 0 where
  pub vertices : List Vertex
  pub start : FirstMove
  pub answer : ℕ
  pub lowers : ℕ

-- where a leg has come to its answer, with what the execution leaves of the hop limit: what follows decides
abbrev pub executed : (Picks → ℕ → Bool) → ℕ → ℕ → Picks → Bool
executed follows zero hops_left picks = follows picks hops_left
executed follows (suc more) zero picks = false
executed follows (suc more) (suc hops_left) picks = executed follows more hops_left picks

abbrev pub done_behind : (Picks → ℕ → Bool) → Leg → Option End → Bool
done_behind follows leg None = false
done_behind follows leg (Some e) = e.answer == leg.answer && executed follows leg.lowers e.hops_left e.picks

-- a packet with so many lowerings goes through all legs, one after the other, under these choices: none is chosen twice
abbrev pub goes_through : List Leg → Picks → ℕ → Bool
goes_through [] picks hops_left = true
goes_through (leg ∷ legs) picks hops_left = done_behind (goes_through legs) leg (walk_from leg.vertices hops_left picks leg.start)

-- whichever choices are taken
abbrev pub AlwaysGoesThrough : List Leg → ℕ → Type 0
AlwaysGoesThrough legs hops_left = (picks : Picks) → goes_through legs picks hops_left ≡ true

-- the need of a leg: the greatest number over all choices, with the execution, where all come to the answer that is wanted
abbrev pub leg_need : ℕ → ℕ → Found → Option ℕ
leg_need answer lowers f = if f.answer == answer then Some (f.most + lowers) else None

abbrev pub need_of : Leg → Option ℕ
need_of leg = option_and_then (leg_need leg.answer leg.lowers) (found_from leg.vertices leg.start)

-- the need of all legs is the sum of their needs
abbrev pub need : List Leg → Option ℕ
need [] = Some 0
need (leg ∷ legs) = option_and_then (λ n. option_map (λ m. n + m) (need legs)) (need_of leg)
