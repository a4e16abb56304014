-- Legs one after the other: their needs add up, and where all choices go through all of them each is found.
use Rattle.std.proofs.Common.{◌≡◌, ℕ, zero, suc, ◌+◌, ◌-◌, ◌≤◌, ◌↔◌, ◌==◌, ◌&&◌, if◌then◌else◌, Bool, true, List, [], ◌∷◌, Option, Some, None, refl, sym, ◌∙◌, ap, arith, eqb-true, eq-eqb}
use Rattle.std.specs.Option.{option_map, option_and_then}
use Rattle.choice_graph.specs.declared.vertices.Found.{Found}
use Rattle.choice_graph.specs.GraphWalksTerms.{Picks, End, walk_from, answer_of, AlwaysComesFrom}
use Rattle.choice_graph.specs.FoundInGraphs.{found_from}
use Rattle.choice_graph.specs.GraphLegs.{Leg, executed, done_behind, goes_through, AlwaysGoesThrough, leg_need, need_of, need}
use Rattle.choice_graph.proofs.GraphOptions.{map_some, then_some, if_some, some_same, none_some, both_true, true_both}
use Rattle.choice_graph.proofs.GraphComings.{sound_from, tight_from, complete_from, needed_from}

-- ---- the lowerings of an execution

executed_add : (follows : Picks → ℕ → Bool) (lowers hops_left : ℕ) (picks : Picks)
    → executed follows lowers (lowers + hops_left) picks ≡ follows picks hops_left
executed_add follows zero hops_left picks = let n : 0 + hops_left ≡ hops_left = omega arith in ap (follows picks) n
executed_add follows (suc lowers) hops_left picks =
    (let n : suc lowers + hops_left ≡ suc (lowers + hops_left) = omega arith in ap (λ (k : ℕ). executed follows (suc lowers) k picks) n)
    ∙ executed_add follows lowers hops_left picks

executed_true : (follows : Picks → ℕ → Bool) (lowers hops_left : ℕ) (picks : Picks) → executed follows lowers hops_left picks ≡ true
    → (rest : ℕ) × (hops_left ≡ lowers + rest) × (follows picks rest ≡ true)
executed_true follows zero hops_left picks h = (hops_left, omega arith, h)
executed_true follows (suc lowers) zero picks h = absurd (cc)
executed_true follows (suc lowers) (suc hops_left) picks h =
    let r = executed_true follows lowers hops_left picks h in
    let e : hops_left ≡ lowers + r.0 = r.1 in
    (r.0, omega arith, r.2)

-- ---- one leg

pub record LegNeed (leg : Leg) (n : ℕ) : Type 0 where
  pub found : Found
  pub here : found_from leg.vertices leg.start ≡ Some found
  pub same : found.answer ≡ leg.answer
  pub sum : found.most + leg.lowers ≡ n

pub leg_need_law : (leg : Leg) (n : ℕ) → need_of leg ≡ Some n → LegNeed leg n
leg_need_law leg n e =
    let t = then_some (leg_need leg.answer leg.lowers) (found_from leg.vertices leg.start) n e in
    let i = if_some (t.0.answer == leg.answer) (Some (t.0.most + leg.lowers)) n t.2 in
    record {
      found = t.0;
      here = t.1;
      same = eqb-true t.0.answer leg.answer i.0;
      sum = some_same (t.0.most + leg.lowers) n i.1;
    }

pub need_leg : (leg : Leg) (f : Found) → found_from leg.vertices leg.start ≡ Some f → f.answer ≡ leg.answer
    → need_of leg ≡ Some (f.most + leg.lowers)
need_leg leg f e same =
    ap (option_and_then (leg_need leg.answer leg.lowers)) e
    ∙ ap (λ (b : Bool). if b then Some (f.most + leg.lowers) else None) (eq-eqb f.answer leg.answer same)

done_answer : (follows : Picks → ℕ → Bool) (leg : Leg) (o : Option End) → done_behind follows leg o ≡ true
    → answer_of o ≡ Some leg.answer
done_answer follows leg None h = absurd (cc)
done_answer follows leg (Some e) h =
    let b = both_true (e.answer == leg.answer) (executed follows leg.lowers e.hops_left e.picks) h in
    ap (λ (a : ℕ). Some a) (eqb-true e.answer leg.answer b.0)

-- ---- all legs

pub through_enough : (legs : List Leg) (n : ℕ) → need legs ≡ Some n → (hops_left : ℕ) → n ≤ hops_left → AlwaysGoesThrough legs hops_left
through_enough [] n e hops_left l picks = refl
through_enough (leg ∷ legs) n e hops_left l picks =
    let t = then_some (λ (k : ℕ). option_map (λ m. k + m) (need legs)) (need_of leg) n e in
    let m = map_some (λ (x : ℕ). t.0 + x) (need legs) n t.2 in
    let whole : t.0 + m.0 ≡ n = m.2 in
    let own = leg_need_law leg t.0 t.1 in
    let sum : own.found.most + leg.lowers ≡ t.0 = own.sum in
    let r = sound_from leg.vertices leg.start own.found own.here hops_left (omega arith) picks in
    let spent : hops_left ≤ r.end.hops_left + own.found.most = r.spent in
    let rest : ℕ = r.end.hops_left - leg.lowers in
    let split : r.end.hops_left ≡ leg.lowers + rest = omega arith in
    let more = through_enough legs m.0 m.1 rest (omega arith) r.end.picks in
    let goes_on : executed (goes_through legs) leg.lowers r.end.hops_left r.end.picks ≡ true
    = ap (λ (k : ℕ). executed (goes_through legs) leg.lowers k r.end.picks) split
    ∙ executed_add (goes_through legs) leg.lowers rest r.end.picks ∙ more in
    ap (done_behind (goes_through legs) leg) r.here
    ∙ true_both (r.end.answer == leg.answer) (executed (goes_through legs) leg.lowers r.end.hops_left r.end.picks)
    (eq-eqb r.end.answer leg.answer (r.same ∙ own.same)) goes_on

pub through_needed : (legs : List Leg) (hops_left : ℕ) → AlwaysGoesThrough legs hops_left → (n : ℕ) × (need legs ≡ Some n) × (n ≤ hops_left)
through_needed [] hops_left always = (0, refl, omega arith)
through_needed (leg ∷ legs) hops_left always =
    let comes : AlwaysComesFrom leg.vertices hops_left leg.start leg.answer
    = λ picks. done_answer (goes_through legs) leg (walk_from leg.vertices hops_left picks leg.start) (always picks) in
    let c = complete_from leg.vertices leg.start hops_left leg.answer comes in
    let f : Found = c.0 in
    let low : f.most ≤ hops_left = needed_from leg.vertices leg.start f c.1 hops_left leg.answer comes in
    let more : ℕ = hops_left - f.most in
    let split : f.most + more ≡ hops_left = omega arith in
    let first = rest_of f c.1 more split (λ k. 0) in
    let rest : ℕ = first.0 in
    let after : more ≡ leg.lowers + rest = first.1 in
    let all : AlwaysGoesThrough legs rest
    = λ picks. (let b = rest_of f c.1 more split picks in
    let same : b.0 ≡ rest = (let e : more ≡ leg.lowers + b.0 = b.1 in omega arith) in
    ap (goes_through legs picks) (sym same) ∙ b.2) in
    let others = through_needed legs rest all in
    let few : others.0 ≤ rest = others.2 in
    let own = need_leg leg f c.1 c.2 in (
      f.most + leg.lowers + others.0,
      ap (option_and_then (λ (k : ℕ). option_map (λ m. k + m) (need legs))) own
          ∙ ap (option_map (λ (m : ℕ). f.most + leg.lowers + m)) others.1,
      omega arith,
    )
  where
    rest_of : (f : Found) → found_from leg.vertices leg.start ≡ Some f → (more : ℕ) → f.most + more ≡ hops_left → (picks : Picks)
        → (rest : ℕ) × (more ≡ leg.lowers + rest) × (goes_through legs picks rest ≡ true)
    rest_of f e more split picks =
        let t = tight_from leg.vertices leg.start f e picks in
        let here : walk_from leg.vertices hops_left t.picks leg.start ≡ Some (record { answer = f.answer; hops_left = more; picks = picks })
        = ap (λ (k : ℕ). walk_from leg.vertices k t.picks leg.start) (sym split) ∙ t.exact more in
        let done : (f.answer == leg.answer && executed (goes_through legs) leg.lowers more picks) ≡ true
        = ap (done_behind (goes_through legs) leg) (sym here) ∙ always t.picks in
        let b = both_true (f.answer == leg.answer) (executed (goes_through legs) leg.lowers more picks) done in
        executed_true (goes_through legs) leg.lowers more picks b.1

pub need_some : (legs : List Leg) (n : ℕ) → (need legs ≡ Some n) ↔ ((hops_left : ℕ) → (n ≤ hops_left) ↔ AlwaysGoesThrough legs hops_left)
need_some legs n = (there, back)
  where
    there : need legs ≡ Some n → (hops_left : ℕ) → (n ≤ hops_left) ↔ AlwaysGoesThrough legs hops_left
    there e hops_left = (
      through_enough legs n e hops_left,
      λ always. (let c = through_needed legs hops_left always in
          let same : n ≡ c.0 = some_same n c.0 (sym e ∙ c.1) in
          let l : c.0 ≤ hops_left = c.2 in omega arith),
    )

    back : ((hops_left : ℕ) → (n ≤ hops_left) ↔ AlwaysGoesThrough legs hops_left) → need legs ≡ Some n
    back is =
        let c = through_needed legs n ((is n).0 (omega arith)) in
        let low : c.0 ≤ n = c.2 in
        let high : n ≤ c.0 = (is c.0).1 (through_enough legs c.0 c.1 c.0 (omega arith)) in
        let same : c.0 ≡ n = omega arith in
        c.1 ∙ ap (λ (k : ℕ). Some k) same

pub need_none : (legs : List Leg) → (need legs ≡ None) ↔ ((hops_left : ℕ) → ¬ AlwaysGoesThrough legs hops_left)
need_none legs = (there, λ never. back never (need legs) refl)
  where
    there : need legs ≡ None → (hops_left : ℕ) → ¬ AlwaysGoesThrough legs hops_left
    there e hops_left always = let c = through_needed legs hops_left always in none_some c.0 (sym e ∙ c.1)

    back : ((hops_left : ℕ) → ¬ AlwaysGoesThrough legs hops_left) → (o : Option ℕ) → need legs ≡ o → need legs ≡ None
    back never None e = e
    back never (Some n) e = absurd (never n (through_enough legs n e n (omega arith)))
