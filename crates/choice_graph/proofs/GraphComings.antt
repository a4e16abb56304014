-- What is found is where all choices come, from a start in front of a graph and from its vertices.
use Rattle.std.proofs.Common.{◌≡◌, ℕ, zero, suc, ◌%◌, ◌<◌, ◌≤◌, ◌⊎◌, inl, inr, ◌↔◌, Bool, true, false, List, [], ◌∷◌, length, slice_index, Option, Some, None, refl, sym, ◌∙◌, ap, arith, mod-eq_of_lt}
use Rattle.std.proofs.lemmas.Bool.{cases_lt}
use Rattle.choice_graph.specs.declared.vertices.Vertex.{Vertex}
use Rattle.choice_graph.specs.declared.vertices.Vertex.TheVariants.{Lost, Stop, Over}
use Rattle.choice_graph.specs.declared.vertices.FirstMove.{FirstMove}
use Rattle.choice_graph.specs.declared.vertices.Found.{Found}
use Rattle.choice_graph.specs.GraphWalks.{vertex_at}
use Rattle.choice_graph.specs.GraphWalksTerms.{Picks, later, member_of, End, over, goes, nowhere, walk, walk_first, walk_from, answer_of, AlwaysComes, AlwaysComesFrom, picks_of}
use Rattle.choice_graph.specs.FoundInGraphs.{found_at, found_from}
use Rattle.choice_graph.proofs.GraphOptions.{none_some, found_same}
use Rattle.choice_graph.proofs.GraphDepths.{found_fixed}
use Rattle.choice_graph.proofs.GraphWalking.{walk_is, Reaches, sound_first, sound_at, Tight, tight_first, tight_at, Behind, IsComplete, complete_first, complete_at}

module _ (vertices : List Vertex) (start : FirstMove) where
  pub sound_from : (f : Found) → found_from vertices start ≡ Some f → (hops_left : ℕ) → f.most ≤ hops_left → (picks : Picks)
      → Reaches f hops_left (walk_from vertices hops_left picks start)
  sound_from f e hops_left l picks = sound_first vertices start.lowers (found_at vertices) (sound_at vertices) start.vertex f e hops_left l picks

  pub tight_from : (f : Found) → found_from vertices start ≡ Some f → (rest : Picks)
      → Tight f (λ hops_left picks. walk_from vertices hops_left picks start) rest
  tight_from f e rest = tight_first vertices start.lowers (found_at vertices) (tight_at vertices) start.vertex f e rest

  pub complete_from : (hops_left answer : ℕ) → AlwaysComesFrom vertices hops_left start answer
      → (f : Found) × (found_from vertices start ≡ Some f) × (f.answer ≡ answer)
  complete_from hops_left answer always =
      complete_first vertices start.lowers hops_left (found_at vertices) start.vertex answer (behind start.lowers hops_left) always
    where
      behind : (lowers : Bool) (hops_left : ℕ) → Behind lowers hops_left (IsComplete vertices (found_at vertices))
      behind false hops_left = complete_at vertices hops_left
      behind true zero = tt
      behind true (suc hops_left) = complete_at vertices hops_left

  pub enough_from : (f : Found) → found_from vertices start ≡ Some f → (hops_left : ℕ) → f.most ≤ hops_left
      → AlwaysComesFrom vertices hops_left start f.answer
  enough_from f e hops_left l picks =
      let r = sound_from f e hops_left l picks in ap answer_of r.here ∙ ap (λ (a : ℕ). Some a) r.same

  pub needed_from : (f : Found) → found_from vertices start ≡ Some f → (hops_left answer : ℕ) → AlwaysComesFrom vertices hops_left start answer
      → f.most ≤ hops_left
  needed_from f e hops_left answer always = by_order (cases_lt hops_left f.most)
    where
      by_order : (hops_left < f.most) ⊎ (f.most ≤ hops_left) → f.most ≤ hops_left
      by_order (inr l) = l
      by_order (inl l) =
          let t = tight_from f e (λ k. 0) in
          absurd (none_some answer (ap answer_of (sym (t.lost hops_left l)) ∙ always t.picks))

  abbrev pub IsMost : Found → Type 0
  IsMost f = (hops_left : ℕ) → (f.most ≤ hops_left) ↔ AlwaysComesFrom vertices hops_left start f.answer

  pub most_from : (f : Found) → (found_from vertices start ≡ Some f) ↔ IsMost f
  most_from f = (there, back)
    where
      there : found_from vertices start ≡ Some f → IsMost f
      there e hops_left = (enough_from f e hops_left, needed_from f e hops_left f.answer)

      back : IsMost f → found_from vertices start ≡ Some f
      back is =
          let own : AlwaysComesFrom vertices f.most start f.answer = (is f.most).0 (omega arith) in
          let c = complete_from f.most f.answer own in
          let low : c.0.most ≤ f.most = needed_from c.0 c.1 f.most f.answer own in
          let his : AlwaysComesFrom vertices c.0.most start f.answer
          = λ picks. enough_from c.0 c.1 c.0.most (omega arith) picks ∙ ap (λ (a : ℕ). Some a) c.2 in
          let high : f.most ≤ c.0.most = (is c.0.most).1 his in
          let same : c.0 ≡ f = found_same c.0 f (omega arith) c.2 in
          c.1 ∙ ap (λ (x : Found). Some x) same

  pub none_from : (found_from vertices start ≡ None) ↔ ((hops_left answer : ℕ) → ¬ AlwaysComesFrom vertices hops_left start answer)
  none_from = (there, λ never. back never (found_from vertices start) refl)
    where
      there : found_from vertices start ≡ None → (hops_left answer : ℕ) → ¬ AlwaysComesFrom vertices hops_left start answer
      there e hops_left answer always =
          let c = complete_from hops_left answer always in none_some c.0 (sym e ∙ c.1)

      back : ((hops_left answer : ℕ) → ¬ AlwaysComesFrom vertices hops_left start answer) → (o : Option Found) → found_from vertices start ≡ o
          → found_from vertices start ≡ None
      back never None e = e
      back never (Some f) e = absurd (never f.most f.answer (enough_from f e f.most (omega arith)))

-- ---- vertices are starts whose first move lowers

module _ (vertices : List Vertex) (v : ℕ) where
  abbrev pub start_at : FirstMove
  start_at = record { lowers = true; vertex = vertex_at vertices v }

  always_at : (hops_left answer : ℕ) → AlwaysComesFrom vertices hops_left start_at answer ↔ AlwaysComes vertices hops_left v answer
  always_at hops_left answer = (
    λ always picks. ap answer_of (walk_is vertices hops_left picks v) ∙ always picks,
    λ always picks. ap answer_of (sym (walk_is vertices hops_left picks v)) ∙ always picks,
  )

  pub most_at : (f : Found) → (found_at vertices v ≡ Some f) ↔ ((hops_left : ℕ) → (f.most ≤ hops_left) ↔ AlwaysComes vertices hops_left v f.answer)
  most_at f = (
    λ e hops_left. (
      λ l. (always_at hops_left f.answer).0 (((most_from vertices start_at f).0 (found_fixed vertices v ∙ e) hops_left).0 l),
      λ always. ((most_from vertices start_at f).0 (found_fixed vertices v ∙ e) hops_left).1 ((always_at hops_left f.answer).1 always),
    ),
    λ is. sym (found_fixed vertices v) ∙ (most_from vertices start_at f).1
        (λ hops_left. (λ l. (always_at hops_left f.answer).1 ((is hops_left).0 l), λ always. (is hops_left).1 ((always_at hops_left f.answer).0 always))),
  )

  pub none_at : (found_at vertices v ≡ None) ↔ ((hops_left answer : ℕ) → ¬ AlwaysComes vertices hops_left v answer)
  none_at = (
    λ e hops_left answer always. (none_from vertices start_at).0 (found_fixed vertices v ∙ e) hops_left answer ((always_at hops_left answer).1 always),
    λ never. sym (found_fixed vertices v) ∙ (none_from vertices start_at).1
        (λ hops_left answer always. never hops_left answer ((always_at hops_left answer).0 always)),
  )

-- ---- lists of choices are enough

abbrev pub SameBelow : ℕ → Picks → Picks → Type 0
SameBelow n p q = (k : ℕ) → k < n → p k ≡ q k

over_same : (on to : Picks → ℕ → Option End) (p q : Picks) (set : List ℕ) → p 0 ≡ q 0
    → ((w : ℕ) → answer_of (on (later p) w) ≡ answer_of (to (later q) w))
    → answer_of (over on p set) ≡ answer_of (over to q set)
over_same on to p q [] e all = refl
over_same on to p q (w ∷ ws) e all =
    all (member_of (w ∷ ws) (p 0)) ∙ ap (λ (c : ℕ). answer_of (to (later q) (member_of (w ∷ ws) c))) e

module _ (vertices : List Vertex) where
  goes_same : (on to : Picks → ℕ → Option End) (p q : Picks) (hops_left : ℕ) (vertex : Vertex) → p 0 ≡ q 0
      → ((w : ℕ) → answer_of (on (later p) w) ≡ answer_of (to (later q) w))
      → answer_of (goes on p hops_left vertex) ≡ answer_of (goes to q hops_left vertex)
  goes_same on to p q hops_left Lost e all = refl
  goes_same on to p q hops_left (Stop answer) e all = refl
  goes_same on to p q hops_left (Over set) e all = over_same on to p q set e all

  walk_same : (hops_left : ℕ) (p q : Picks) (v : ℕ) → SameBelow (suc hops_left) p q
      → answer_of (walk vertices hops_left p v) ≡ answer_of (walk vertices hops_left q v)
  walk_same zero p q v same = goes_same nowhere nowhere p q zero (vertex_at vertices v) (same 0 (omega arith)) (λ w. refl)
  walk_same (suc hops_left) p q v same =
      goes_same (walk vertices hops_left) (walk vertices hops_left) p q (suc hops_left) (vertex_at vertices v) (same 0 (omega arith))
      (λ w. walk_same hops_left (later p) (later q) w (λ k l. same (suc k) (omega arith)))

  first_same : (lowers : Bool) (hops_left : ℕ) (p q : Picks) (vertex : Vertex) → SameBelow (suc (suc hops_left)) p q
      → answer_of (walk_first vertices lowers hops_left p vertex) ≡ answer_of (walk_first vertices lowers hops_left q vertex)
  first_same false hops_left p q vertex same =
      goes_same (walk vertices hops_left) (walk vertices hops_left) p q hops_left vertex (same 0 (omega arith))
      (λ w. walk_same hops_left (later p) (later q) w (λ k l. same (suc k) (omega arith)))
  first_same true zero p q vertex same = goes_same nowhere nowhere p q zero vertex (same 0 (omega arith)) (λ w. refl)
  first_same true (suc hops_left) p q vertex same =
      goes_same (walk vertices hops_left) (walk vertices hops_left) p q (suc hops_left) vertex (same 0 (omega arith))
      (λ w. walk_same hops_left (later p) (later q) w (λ k l. same (suc k) (omega arith)))

-- the first so many choices
abbrev pub front : Picks → ℕ → List ℕ
front picks zero = []
front picks (suc n) = picks 0 ∷ front (later picks) n

front_length : (picks : Picks) (n : ℕ) → length (front picks n) ≡ n
front_length picks zero = refl
front_length picks (suc n) = ap (λ (k : ℕ). suc k) (front_length (later picks) n)

front_at : (picks : Picks) (n k : ℕ) → k < n → slice_index (front picks n) k ≡ picks k
front_at picks zero k l = absurd (omega arith)
front_at picks (suc n) zero l = refl
front_at picks (suc n) (suc k) l = front_at (later picks) n k (omega arith)

front_picks : (picks : Picks) (n k : ℕ) → k < n → picks_of (front picks n) k ≡ picks k
front_picks picks n k l =
    let long : length (front picks n) ≡ n = front_length picks n in
    let inside : k < length (front picks n) = omega arith in
    let at : k % length (front picks n) ≡ k = mod-eq_of_lt inside in
    ap (slice_index (front picks n)) at ∙ front_at picks n k l

pub lists_enough : (vertices : List Vertex) (hops_left : ℕ) (start : FirstMove) (answer : ℕ)
    → ((choices : List ℕ) → 0 < length choices → answer_of (walk_from vertices hops_left (picks_of choices) start) ≡ Some answer)
    ↔ AlwaysComesFrom vertices hops_left start answer
lists_enough vertices hops_left start answer = (there, λ always choices l. always (picks_of choices))
  where
    there : ((choices : List ℕ) → 0 < length choices → answer_of (walk_from vertices hops_left (picks_of choices) start) ≡ Some answer)
        → AlwaysComesFrom vertices hops_left start answer
    there all picks =
        let n : ℕ = suc (suc hops_left) in
        let long : length (front picks n) ≡ n = front_length picks n in
        let some : 0 < length (front picks n) = omega arith in
        first_same vertices start.lowers hops_left picks (picks_of (front picks n)) start.vertex (λ k l. sym (front_picks picks n k l))
        ∙ all (front picks n) some
