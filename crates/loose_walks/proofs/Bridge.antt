-- Where all choices come, by what is found in the graph.
use Rattle.std.proofs.Common.{◌≡◌, ℕ, ◌+◌, ◌-◌, ◌<◌, ◌≤◌, ◌↔◌, List, length, Option, Some, None, refl, sym, ◌∙◌, ap}
use Rattle.std.specs.Option.{option_map}
use Rattle.srv6_rules.specs.declared.family.Family.TheVariants as families
use Rattle.srv6_rules.specs.Packet.{Packet, V6}
use Rattle.net_model.specs.Network.{Network}
use Rattle.net_model.specs.NetworkKeeps.{Keeps}
use Rattle.walk_rules.specs.declared.place.Place.{Place}
use Rattle.walk_rules.specs.Relation.{IsPlace}
use Rattle.walk_rules.specs.Walk.{free_walk_of, choice_at}
use Rattle.intent_traces.specs.declared.trace_steps.TraceStep.{TraceStep}
use Rattle.choice_graph.specs.declared.vertices.Vertex.{Vertex}
use Rattle.choice_graph.specs.declared.vertices.FirstMove.{FirstMove}
use Rattle.choice_graph.specs.declared.vertices.Found.{Found}
use Rattle.choice_graph.specs.GraphWalksTerms.{End, walk_from, answer_of, picks_of, AlwaysComesFrom}
use Rattle.choice_graph.specs.FoundInGraphs.{found_from}
use Rattle.choice_graph.proofs.GraphComings.{lists_enough, complete_from, enough_from, needed_from}
use Rattle.loose_walks.specs.WalkStopsTerms.{coming, coming_of, answer_of_coming}
use Rattle.loose_walks.specs.WayGraphs.{Numbers, start_at}
use Rattle.loose_walks.specs.WayGraphsTerms.{IsLeft, IsGraph}
use Rattle.loose_walks.proofs.Simulating.{start_comes}

answers_same : (o : Option End) → answer_of_coming (option_map coming_of o) ≡ answer_of o
answers_same None = refl
answers_same (Some e) = refl

module _ (net : Network) (steps ts : List TraceStep) (numbers : Numbers) (graph : List Vertex) (place : Place) (p : Packet) where
  pub walks_are : (pick : ℕ → ℕ) (fuel : ℕ) → Keeps net → IsGraph net p.destination steps numbers graph → IsLeft steps ts
      → IsPlace net place → place.family ≡ families.V6 → p.hop_limit + 1 < fuel
      → option_map coming_of (walk_from graph (p.hop_limit - 1) pick (start_at net numbers ts place p.destination))
      ≡ coming net p.destination numbers.code ts (free_walk_of fuel net (Some place) (V6 p) pick 0)
  walks_are pick fuel keeps is left at family enough =
      start_comes net keeps p.destination steps numbers graph is place family at.1 fuel ts left p refl enough pick

  abbrev pub start : FirstMove
  start = start_at net numbers ts place p.destination

  pub choices_come : (fuel answer : ℕ) → Keeps net → IsGraph net p.destination steps numbers graph → IsLeft steps ts
      → IsPlace net place → place.family ≡ families.V6 → p.hop_limit + 1 < fuel
      → ((choices : List ℕ) → 0 < length choices → answer_of_coming (coming net p.destination numbers.code ts
      (free_walk_of fuel net (Some place) (V6 p) (choice_at choices) 0)) ≡ Some answer)
      ↔ ((f : Found) × (found_from graph start ≡ Some f) × (f.answer ≡ answer) × (f.most ≤ p.hop_limit - 1))
  choices_come fuel answer keeps is left at family enough = (there, back)
    where
      one : (choices : List ℕ)
          → answer_of_coming (coming net p.destination numbers.code ts (free_walk_of fuel net (Some place) (V6 p) (choice_at choices) 0))
          ≡ answer_of (walk_from graph (p.hop_limit - 1) (picks_of choices) start)
      one choices =
          ap answer_of_coming (sym (walks_are (choice_at choices) fuel keeps is left at family enough))
          ∙ answers_same (walk_from graph (p.hop_limit - 1) (picks_of choices) start)

      there : ((choices : List ℕ) → 0 < length choices → answer_of_coming (coming net p.destination numbers.code ts
          (free_walk_of fuel net (Some place) (V6 p) (choice_at choices) 0)) ≡ Some answer)
          → (f : Found) × (found_from graph start ≡ Some f) × (f.answer ≡ answer) × (f.most ≤ p.hop_limit - 1)
      there all =
          let always : AlwaysComesFrom graph (p.hop_limit - 1) start answer
          = (lists_enough graph (p.hop_limit - 1) start answer).0 (λ choices some. sym (one choices) ∙ all choices some) in
          let c = complete_from graph start (p.hop_limit - 1) answer always in
          (c.0, c.1, c.2, needed_from graph start c.0 c.1 (p.hop_limit - 1) answer always)

      back : (f : Found) × (found_from graph start ≡ Some f) × (f.answer ≡ answer) × (f.most ≤ p.hop_limit - 1)
          → (choices : List ℕ) → 0 < length choices → answer_of_coming (coming net p.destination numbers.code ts
          (free_walk_of fuel net (Some place) (V6 p) (choice_at choices) 0)) ≡ Some answer
      back f choices some =
          one choices ∙ enough_from graph start f.0 f.1 (p.hop_limit - 1) f.3 (picks_of choices) ∙ ap (λ (n : ℕ). Some n) f.2
