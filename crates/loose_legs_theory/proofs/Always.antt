-- All choices take a packet to the execution of a SID exactly where that is found in the graph.
use Rattle.std.proofs.Common.{◌≡◌, ℕ, suc, ◌+◌, ◌-◌, ◌*◌, ◌<◌, ◌≤◌, ◌==◌, Bool, true, false, if◌then◌else◌, List, [], ◌∷◌, ◌++◌, take, drop, length, Some, None, refl, sym, ◌∙◌, ap, subst, arith, length-append}
use Rattle.std.specs.Option.{option_map, option_and_then}
use Rattle.std.proofs.lemmas.List.{take-append-drop, length-drop}
use Rattle.srv6_rules.specs.declared.family.Family.TheVariants as families
use Rattle.srv6_rules.specs.Packet.{Packet, V6}
use Rattle.net_model.specs.Network.{Network}
use Rattle.net_model.specs.NetworkKeeps.{Keeps}
use Rattle.walk_rules.specs.declared.place.Place.{Place}
use Rattle.walk_rules.specs.declared.place.Outcome.{Outcome}
use Rattle.walk_rules.specs.Relation.{IsPlace}
use Rattle.walk_rules.specs.Treatment.{Gave, free_step_of}
use Rattle.walk_rules.specs.Walk.{Stage, choice_at, free_walk_of}
use Rattle.walk_rules.specs.Way.{Into}
use Rattle.intent_traces.specs.declared.trace_steps.TraceStep.{TraceStep}
use Rattle.intent_traces.specs.declared.trace_steps.TraceStep.TheVariants.{Links, Function, Reach}
use Rattle.intent_traces.specs.Traces.{Executed, count_left, left_behind}
use Rattle.choice_graph.specs.declared.vertices.Found.{Found}
use Rattle.choice_graph.specs.GraphWalksTerms.{walk_from}
use Rattle.choice_graph.proofs.GraphOptions.{some_same}
use Rattle.loose_walks.specs.WayGraphs.{found_in, graph_in, numbers_of, start_at}
use Rattle.loose_walks.specs.WayGraphsTerms.{IsLeft}
use Rattle.loose_walks.specs.WalkStops.{ends_in}
use Rattle.loose_walks.specs.WalkStopsTerms.{ComesTo, Coming, Stop, coming, coming_at, coming_by, coming_of, first_stop, hops_left_of}
use Rattle.loose_walks.proofs.Bridge.{walks_are}
use Rattle.loose_walks.proofs.Making.{graph_is}
use Rattle.loose_walks.proofs.Reaching.{came, code_parts, left_further, stop_left, where_found}
use Rattle.leg_table.specs.TransitsTerms.{with_hop_limit}
use Rattle.leg_table.specs.WalkTrace.{is_titled}
use Rattle.leg_table.proofs.StrictChoices.{row_from, length_row_from, row_agrees}
use Rattle.loose_spec.specs.LooseLegs.{left_after}
use Rattle.loose_legs_theory.specs.LooseSentences.{AlwaysExecutes, ExecutesAlong}
use Rattle.loose_spec.specs.LooseSteps.{steps_left}
use Rattle.loose_legs_theory.proofs.LooseSentenceStops.{StopFacts, stop_facts, stop_longer, same_walk}
use Rattle.loose_legs_theory.proofs.LooseSentenceTests.{IsTest}

-- ---- steps that are left

pub rest_left : (steps : List TraceStep) (rest : ℕ) → IsLeft steps (steps_left steps rest)
rest_left steps rest = (take (length steps - rest) steps, sym (take-append-drop (length steps - rest) steps))

drop_front : (finished us : List TraceStep) → drop (length finished) (finished ++ us) ≡ us
drop_front [] us = refl
drop_front (t ∷ finished) us = drop_front finished us

-- what is left of steps is told by its number
pub left_is_law : (steps us : List TraceStep) → IsLeft steps us → steps_left steps (length us) ≡ us
left_is_law steps us left =
    let long : length steps ≡ length left.0 + length us = ap length left.1 ∙ length-append left.0 us in
    let k : length steps - length us ≡ length left.0 = omega (arith, long) in
    ap (λ (n : ℕ). drop n steps) k ∙ ap (drop (length left.0)) left.1 ∙ drop_front left.0 us

pub left_length : (steps : List TraceStep) (rest : ℕ) → rest ≤ length steps → length (steps_left steps rest) ≡ rest
left_length steps rest few =
    let e = length-drop (length steps - rest) steps in
    omega (arith, e, few)

-- how many steps are left before an execution is told by how many are left behind it
pub after_count : (net : Network) (n left : ℕ) (ts : List TraceStep) → left_after net n ts ≡ Some left
    → length ts ≡ (if is_titled net n then suc left else left)
after_count net n left ts h = by_title (is_titled net n) h
  where
    by_steps : (ts : List TraceStep) → count_left (left_behind (ends_in net) ts (Executed n)) ≡ Some left → length ts ≡ suc left
    by_steps [] h = absurd (cc)
    by_steps (Links set ∷ ts) h = absurd (cc)
    by_steps (Reach node ∷ ts) h = absurd (cc)
    by_steps (Function m ∷ ts) h = by_test (m == n) h
      where
        by_test : (b : Bool) → count_left (if b then Some ts else None) ≡ Some left → suc (length ts) ≡ suc left
        by_test true h = ap suc (some_same (length ts) left h)
        by_test false h = absurd (cc)

    by_title : (b : Bool) → (if b then count_left (left_behind (ends_in net) ts (Executed n)) else Some (length ts)) ≡ Some left
        → length ts ≡ (if b then suc left else left)
    by_title true h = by_steps ts h
    by_title false h = some_same (length ts) left h

-- ---- all choices

module _ (net : Network) (keeps : Keeps net) (steps : List TraceStep) (few : length steps ≤ 48) (rest : ℕ) (place : Place)
    (is_place : IsPlace net place) (family : place.family ≡ families.V6) (p : Packet) (n : ℕ) (executes : ℕ → Outcome → Bool) (lowers : ℕ)
    (test : IsTest net p n executes lowers) where
  abbrev ts : List TraceStep
  ts = steps_left steps rest

  abbrev stages : (ℕ → ℕ) → ℕ → List Stage
  stages pick fuel = free_walk_of fuel net (Some place) (V6 p) pick 0

  abbrev enough : ℕ
  enough = p.hop_limit + 2

  abbrev code : ℕ → ℕ → ℕ
  code n left = n * 64 + left

  facts_of : (pick : ℕ → ℕ) (fuel : ℕ) (stop : Stop) → first_stop (ends_in net) ts (stages pick fuel) ≡ Some stop
      → StopFacts net p (λ us at. Unit {0}) stop
  facts_of pick fuel stop h =
      stop_facts net p (λ us at. Unit {0}) (λ ts us at set lower link node way left end holds. tt) fuel p.hop_limit place pick 0 ts stop tt
      h

  few_left : (pick : ℕ → ℕ) (fuel : ℕ) (stop : Stop) → first_stop (ends_in net) ts (stages pick fuel) ≡ Some stop
      → IsLeft steps stop.left × (length stop.left ≤ 48)
  few_left pick fuel stop h =
      let all = left_further steps ts stop.left (rest_left steps rest) (stop_left (ends_in net) ts (stages pick fuel) stop h) in
      let long : length steps ≡ length all.0 + length stop.left = ap length all.1 ∙ length-append all.0 stop.left in
      (all, omega (arith, long, few))

  coming_is : (pick : ℕ → ℕ) (fuel : ℕ) → p.hop_limit + 1 < fuel
      → option_map coming_of (walk_from (graph_in net p.destination steps) (p.hop_limit - 1) pick
      (start_at net (numbers_of net (length steps)) ts place p.destination))
      ≡ coming net p.destination code ts (stages pick fuel)
  coming_is pick fuel l =
      walks_are net steps ts (numbers_of net (length steps)) (graph_in net p.destination steps) place p pick fuel keeps
      (graph_is net p.destination steps) (rest_left steps rest) is_place family l

  -- a packet that is executed in stages comes to the SID in as many stages as are enough
  record Comes (pick : ℕ → ℕ) (left : ℕ) : Type 0 where
    before : ℕ
    comes : ComesTo net p.destination ts n before lowers (stages pick enough)
    behind : left_after net n (steps_left steps before) ≡ Some left
    low : before ≤ 48

  executes_comes : (pick : ℕ → ℕ) (fuel left : ℕ) → ExecutesAlong net executes ts n left (stages pick fuel) → Comes pick left
  executes_comes pick fuel left e =
      let stop = e.stop in
      let x = facts_of pick fuel stop e.first in
      let outcome : executes n (free_step_of net stop.stage.place (V6 (with_hop_limit x.hop p)) x.choice).outcome ≡ true
      = ap (λ (g : Gave). executes n g.outcome) (sym x.gave) ∙ e.outcome in
      let told = test.tells stop.stage.place x.hop x.choice outcome in
      let many = fuel + enough in
      let first : first_stop (ends_in net) ts (stages pick many) ≡ Some stop
      = stop_longer net fuel many (omega arith) (Some place) (V6 p) pick 0 ts stop e.first in
      let c : Coming = record { answer = code n (length stop.left); hops_left = hops_left_of stop.stage.before } in
      let there : coming net p.destination code ts (stages pick many) ≡ Some c
      = ap (option_and_then (coming_at net p.destination code)) first ∙ ap (coming_by code stop) told.0 in
      let same : coming net p.destination code ts (stages pick enough) ≡ Some c
      = sym (coming_is pick enough (omega arith)) ∙ coming_is pick many (omega arith) ∙ there in
      let got = came net p.destination code ts (stages pick enough) c same in
      let mine = few_left pick fuel stop e.first in
      let other = few_left pick enough got.stop got.first in
      let few_mine : length stop.left < 64 = omega (arith, mine.1) in
      let few_other : length got.stop.left < 64 = omega (arith, other.1) in
      let parts = code_parts got.sid n (length got.stop.left) (length stop.left) few_other few_mine got.answer in
      let hops_left : hops_left_of stop.stage.before ≡ x.hop - 1 = ap hops_left_of x.before in
      record {
        before = length stop.left;
        comes =
            record {
              stop = got.stop;
              first = got.first;
              into = got.into ∙ ap Into parts.0;
              steps = parts.1;
              hops_left = subst (λ (k : ℕ). lowers ≤ k) (sym (got.hops_left ∙ hops_left)) told.1;
            };
        behind = ap (left_after net n) (left_is_law steps stop.left mine.0) ∙ e.behind;
        low = mine.1;
      }

  -- what is found, and the steps that are left
  pub record IsFound (left : ℕ) : Type 0 where
    pub found : Found
    pub before : ℕ
    pub there : found_in net p.destination steps rest place ≡ Some found
    pub answer : found.answer ≡ n * 64 + before
    pub low : before < 64
    pub behind : left_after net n (steps_left steps before) ≡ Some left
    pub most : found.most + lowers ≤ p.hop_limit - 1

  choices_of : (ℕ → ℕ) → List ℕ
  choices_of pick = row_from pick 0 (suc enough)

  pick_same : (pick : ℕ → ℕ) → stages (choice_at (choices_of pick)) enough ≡ stages pick enough
  unfolding choices_of
  pick_same pick =
      same_walk enough net (Some place) (V6 p) (choice_at (choices_of pick)) pick 0
      (λ d from to. (let z : 0 + d ≡ d = omega arith in
      ap (choice_at (row_from pick 0 (suc enough))) (sym z) ∙ row_agrees pick (suc enough) d (omega arith) ∙ ap pick z))

  some_choices : (pick : ℕ → ℕ) → 0 < length (choices_of pick)
  unfolding choices_of
  some_choices pick = let e : length (row_from pick 0 (suc enough)) ≡ suc enough = length_row_from pick 0 (suc enough) in omega (arith, e)

  pub always_found : (left : ℕ) → AlwaysExecutes net executes ts n left p place → IsFound left
  always_found left all =
      let one = all (0 ∷ []) (omega arith) in
      let first = executes_comes (choice_at (0 ∷ [])) one.0 left one.1 in
      let got =
      (where_found net steps rest place p enough n first.before lowers keeps few (low first) is_place family (omega arith)).0
      (λ pick. each first pick) in
      record {
        found = got.0;
        before = first.before;
        there = got.1;
        answer = got.2;
        low = low first;
        behind = first.behind;
        most = got.3;
      }
    where
      low : (first : Comes (choice_at (0 ∷ [])) left) → first.before < 64
      low first = let l = first.low in omega (arith, l)

      each : (first : Comes (choice_at (0 ∷ [])) left) (pick : ℕ → ℕ)
          → ComesTo net p.destination ts n first.before lowers (stages pick enough)
      each first pick =
          let e = all (choices_of pick) (some_choices pick) in
          let c = executes_comes (choice_at (choices_of pick)) e.0 left e.1 in
          let a = after_count net n left (steps_left steps c.before) c.behind in
          let b = after_count net n left (steps_left steps first.before) first.behind in
          let s : length c.comes.stop.left ≡ c.before = c.comes.steps in
          let same : c.before ≡ first.before = counted c first (a ∙ sym b) in
          subst (λ (ss : List Stage). ComesTo net p.destination ts n first.before lowers ss) (pick_same pick)
          (subst (λ (k : ℕ). ComesTo net p.destination ts n k lowers (stages (choice_at (choices_of pick)) enough)) same c.comes)
        where
          within : (pick : ℕ → ℕ) (k : ℕ) → ComesTo net p.destination ts n k lowers (stages pick enough) → k ≤ length steps
          within pick k c =
              let l = (few_left pick enough c.stop c.first).0 in
              let long : length steps ≡ length l.0 + length c.stop.left = ap length l.1 ∙ length-append l.0 c.stop.left in
              let e : length c.stop.left ≡ k = c.steps in
              omega (arith, long, e)

          counted : (c : Comes (choice_at (choices_of pick)) left) (first : Comes (choice_at (0 ∷ [])) left)
              → length (steps_left steps c.before) ≡ length (steps_left steps first.before) → c.before ≡ first.before
          counted c first e =
              sym (left_length steps c.before (within (choice_at (choices_of pick)) c.before c.comes)) ∙ e
              ∙ left_length steps first.before (within (choice_at (0 ∷ [])) first.before first.comes)

  pub found_always : (left : ℕ) → IsFound left → AlwaysExecutes net executes ts n left p place
  found_always left f choices some =
      let c =
      (where_found net steps rest place p enough n f.before lowers keeps few f.low is_place family (omega arith)).1
      (f.found, f.there, f.answer, f.most) (choice_at choices) in
      let x = facts_of (choice_at choices) enough c.stop c.first in
      let hops_left : hops_left_of c.stop.stage.before ≡ x.hop - 1 = ap hops_left_of x.before in
      let high : lowers ≤ x.hop - 1 = subst (λ (k : ℕ). lowers ≤ k) hops_left c.hops_left in
      let left_is : steps_left steps f.before ≡ c.stop.left
      = ap (steps_left steps) (sym c.steps) ∙ left_is_law steps c.stop.left (few_left (choice_at choices) enough c.stop c.first).0 in (
        enough,
        record {
          stop = c.stop;
          first = c.first;
          outcome = ap (λ (g : Gave). executes n g.outcome) x.gave ∙ test.told c.stop.stage.place x.hop x.choice c.into high;
          behind = ap (left_after net n) (sym left_is) ∙ f.behind;
        },
      )
