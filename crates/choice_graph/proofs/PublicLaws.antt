-- What the contracts of the laws say.
use Rattle.std.proofs.Common.{◌≡◌, ℕ, ◌+◌, ◌<◌, ◌≤◌, Bool, true, false, List, length, slice_index, Some, sym, ◌∙◌, ap, arith}
use Rattle.choice_graph.specs.declared.vertices.Vertex.{Vertex}
use Rattle.choice_graph.specs.declared.vertices.Vertex.TheVariants.{Lost, Stop, Over}
use Rattle.choice_graph.specs.declared.vertices.FirstMove.{FirstMove}
use Rattle.choice_graph.specs.declared.vertices.Found.{Found}
use Rattle.choice_graph.specs.FoundInGraphs.{found_at, found_by, found_from, found_over, lowered}
use Rattle.choice_graph.specs.FoundInGraphsTerms.{IsOver, StandsOver, found_under}
use Rattle.choice_graph.proofs.GraphOptions.{map_some, some_same, none_some}
use Rattle.choice_graph.proofs.GraphJoins.{by_under, over_taken}
use Rattle.choice_graph.proofs.GraphDepths.{fewer, found_lost, under_at, under_few}

pub few_at : (vertices : List Vertex) (v : ℕ) (f : Found) → found_at vertices v ≡ Some f → f.most < length vertices
few_at vertices v f e = fewer vertices (length vertices) v f e

module _ (under answer_under : ℕ → ℕ) (vertices nodes : List Vertex) (stands : StandsOver under answer_under vertices nodes) where
  pub under_from : (start below : FirstMove) (f : Found) → start.lowers ≡ below.lowers → IsOver vertices under answer_under start.vertex below.vertex
      → found_from vertices start ≡ Some f → found_from nodes below ≡ Some (found_under answer_under f)
  under_from start below f same is e =
      ap (λ (b : Bool). found_by b (found_at nodes) below.vertex) (sym same)
      ∙ by_under vertices under answer_under (found_at vertices) (found_at nodes) (under_at under answer_under vertices nodes stands)
      (found_lost vertices (length vertices)) start.lowers
      start.vertex below.vertex f is e

  pub few_from_law : (start : FirstMove) (f : Found) → found_from vertices start ≡ Some f → f.most ≤ length nodes
  few_from_law start f e = by_vertex start.lowers start.vertex e
    where
      by_vertex : (lowers : Bool) (vertex : Vertex) → found_by lowers (found_at vertices) vertex ≡ Some f → f.most ≤ length nodes
      by_vertex lowers Lost e = absurd (none_some f e)
      by_vertex lowers (Stop answer) e =
          let m : 0 ≡ f.most = ap (λ (x : Found). x.most) (some_same (record { most = 0; answer = answer }) f e) in omega arith
      by_vertex lowers (Over set) e =
          let m = map_some (lowered lowers) (found_over (found_at vertices) set) f e in
          let t = over_taken (found_at vertices) set m.0 m.1 in
          let l = under_few under answer_under vertices nodes stands (slice_index set t.place) m.0 t.here in
          by_lowers lowers m.0 m.2 l
        where
          by_lowers : (lowers : Bool) (g : Found) → lowered lowers g ≡ f → g.most < length nodes → f.most ≤ length nodes
          by_lowers true g same l = let k : g.most + 1 ≡ f.most = ap (λ (x : Found). x.most) same in omega arith
          by_lowers false g same l = let k : g.most + 0 ≡ f.most = ap (λ (x : Found). x.most) same in omega arith
