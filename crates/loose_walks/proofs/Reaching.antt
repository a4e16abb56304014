-- Where all choices come to a SID with enough of the hop limit.
use Rattle.std.proofs.Common.{◌≡◌, ℕ, zero, suc, ◌+◌, ◌-◌, ◌*◌, ◌<◌, ◌≤◌, ◌↔◌, ◌==◌, true, List, [], ◌∷◌, ◌++◌, take, drop, length, Option, Some, None, refl, sym, ◌∙◌, ap, subst, arith, eqb-true, eq-eqb, append_assoc, length-append}
use Rattle.std.proofs.lemmas.List.{take-append-drop}
use Rattle.std.specs.Option.{option_map, option_and_then}
use Rattle.srv6_rules.specs.declared.family.Family.TheVariants as families
use Rattle.srv6_rules.specs.Packet.{Packet, V6}
use Rattle.net_model.specs.Network.{Network}
use Rattle.net_model.specs.NetworkKeeps.{Keeps}
use Rattle.walk_rules.specs.declared.place.Place.{Place}
use Rattle.walk_rules.specs.declared.place.Outcome.{Outcome}
use Rattle.walk_rules.specs.declared.place.Outcome.TheVariants as outcomes
use Rattle.walk_rules.specs.Relation.{IsPlace}
use Rattle.walk_rules.specs.Walk.{Stage, free_walk_of}
use Rattle.walk_rules.specs.Way.{Way, NoWay, Over, Own, Into, way_of}
use Rattle.intent_traces.specs.declared.trace_steps.TraceStep.{TraceStep}
use Rattle.intent_traces.specs.Traces.{Ends, Crossed, left_behind}
use Rattle.choice_graph.specs.declared.vertices.Vertex.{Vertex}
use Rattle.choice_graph.specs.declared.vertices.FirstMove.{FirstMove}
use Rattle.choice_graph.specs.declared.vertices.Found.{Found}
use Rattle.choice_graph.specs.GraphWalksTerms.{Picks, End, walk_from}
use Rattle.choice_graph.specs.FoundInGraphs.{found_from}
use Rattle.choice_graph.specs.GraphLegs.{Leg, executed, done_behind, goes_through, AlwaysGoesThrough, need_of, need}
use Rattle.choice_graph.proofs.GraphOptions.{then_some, some_same, none_some, both_true, true_both}
use Rattle.choice_graph.proofs.Legs.{leg_need_law, need_leg, through_enough, through_needed}
use Rattle.loose_walks.specs.WalkStops.{ends_in}
use Rattle.loose_walks.specs.WalkStopsTerms.{Stop, stop_by, first_stop, hops_left_of, Coming, coming_by, coming_at, coming, coming_of, ComesTo}
use Rattle.loose_walks.specs.WayGraphs.{found_in, graph_in, numbers_of, start_at}
use Rattle.loose_walks.specs.WayGraphsTerms.{IsLeft}
use Rattle.loose_walks.proofs.Quiet.{left_steps}
use Rattle.loose_walks.proofs.Bridge.{walks_are}
use Rattle.loose_walks.proofs.Making.{graph_is}

-- ---- a stop, taken apart

pub left_further : (ts us vs : List TraceStep) → IsLeft ts us → IsLeft us vs → IsLeft ts vs
left_further ts us vs first more =
    (first.0 ++ more.0, first.1 ∙ ap (λ (xs : List TraceStep). first.0 ++ xs) more.1 ∙ sym (append_assoc first.0 more.0 vs))

pub stop_left : (to : Ends) (ts : List TraceStep) (ss : List Stage) (stop : Stop) → first_stop to ts ss ≡ Some stop → IsLeft ts stop.left
stop_left to ts [] stop h = absurd (cc)
stop_left to ts (s ∷ ss) stop h = by_outcome s.gave.outcome h (λ us. stop_left to us ss stop)
  where
    here : Some (record { stage = s; left = ts }) ≡ Some stop → IsLeft ts stop.left
    here h = ([], ap (λ (x : Stop). x.left) (some_same (record { stage = s; left = ts }) stop h))

    by_outcome : (o : Outcome) → stop_by to (λ us. first_stop to us ss) ts s o ≡ Some stop
        → ((us : List TraceStep) → first_stop to us ss ≡ Some stop → IsLeft us stop.left) → IsLeft ts stop.left
    by_outcome (outcomes.Send link) h ih =
        let t = then_some (λ us. first_stop to us ss) (left_behind to ts (Crossed link)) stop h in
        left_further ts t.0 stop.left (left_steps to ts t.0 (Crossed link) t.1) (ih t.0 t.2)
    by_outcome (outcomes.Again n how) h ih = here h
    by_outcome (outcomes.Hand n how family) h ih = here h
    by_outcome outcomes.Local h ih = here h
    by_outcome (outcomes.Drop reason error) h ih = here h

-- what a coming tells
pub record Came (net : Network) (a : ℕ) (code : ℕ → ℕ → ℕ) (ts : List TraceStep) (ss : List Stage) (c : Coming) : Type 0 where
  pub stop : Stop
  pub sid : ℕ
  pub first : first_stop (ends_in net) ts ss ≡ Some stop
  pub into : way_of net stop.stage.place a ≡ Into sid
  pub answer : code sid (length stop.left) ≡ c.answer
  pub hops_left : hops_left_of stop.stage.before ≡ c.hops_left

pub came : (net : Network) (a : ℕ) (code : ℕ → ℕ → ℕ) (ts : List TraceStep) (ss : List Stage) (c : Coming) → coming net a code ts ss ≡ Some c
    → Came net a code ts ss c
came net a code ts ss c e =
    let t = then_some (coming_at net a code) (first_stop (ends_in net) ts ss) c e in
    by_way t.0 (way_of net t.0.stage.place a) refl t.1 t.2
  where
    by_way : (stop : Stop) (w : Way) → way_of net stop.stage.place a ≡ w → first_stop (ends_in net) ts ss ≡ Some stop
        → coming_by code stop w ≡ Some c → Came net a code ts ss c
    by_way stop (NoWay reason) is first h = absurd (cc)
    by_way stop (Over set lower) is first h = absurd (cc)
    by_way stop Own is first h = absurd (cc)
    by_way stop (Into n) is first h =
        let same = some_same (record { answer = code n (length stop.left); hops_left = hops_left_of stop.stage.before }) c h in
        record {
          stop = stop;
          sid = n;
          first = first;
          into = is;
          answer = ap (λ (x : Coming). x.answer) same;
          hops_left = ap (λ (x : Coming). x.hops_left) same;
        }

pub code_parts : (m n l r : ℕ) → l < 64 → r < 64 → m * 64 + l ≡ n * 64 + r → (m ≡ n) × (l ≡ r)
code_parts m n l r low few e = (omega arith, omega arith)

-- ---- a leg of one way, behind which nothing follows

exec_true : (k hops_left : ℕ) (picks : Picks) → executed (goes_through []) k hops_left picks ≡ true → k ≤ hops_left
exec_true zero hops_left picks h = omega arith
exec_true (suc k) zero picks h = absurd (cc)
exec_true (suc k) (suc hops_left) picks h = let l : k ≤ hops_left = exec_true k hops_left picks h in omega arith

exec_from : (k hops_left : ℕ) (picks : Picks) → k ≤ hops_left → executed (goes_through []) k hops_left picks ≡ true
exec_from zero hops_left picks l = refl
exec_from (suc k) zero picks l = absurd (omega arith)
exec_from (suc k) (suc hops_left) picks l = exec_from k hops_left picks (omega arith)

need_one : (leg : Leg) (f : Found) → found_from leg.vertices leg.start ≡ Some f → f.answer ≡ leg.answer
    → need (leg ∷ []) ≡ Some (f.most + leg.lowers + 0)
need_one leg f e same =
    ap (option_and_then (λ (k : ℕ). option_map (λ m. k + m) (Some 0))) (need_leg leg f e same)

-- ---- all choices

module _ (net : Network) (keeps : Keeps net) (steps ts : List TraceStep) (few : length steps ≤ 48) (left : IsLeft steps ts) (place : Place)
    (p : Packet)
    (is_place : IsPlace net place) (family : place.family ≡ families.V6) (fuel : ℕ) (enough : p.hop_limit + 1 < fuel)
  where
    abbrev graph : List Vertex
    graph = graph_in net p.destination steps

    abbrev start : FirstMove
    start = start_at net (numbers_of net (length steps)) ts place p.destination

    abbrev leg_to : ℕ → ℕ → ℕ → Leg
    leg_to n rest lowers = record { vertices = graph; start = start; answer = n * 64 + rest; lowers = lowers }

    abbrev stages : Picks → List Stage
    stages pick = free_walk_of fuel net (Some place) (V6 p) pick 0

    abbrev code : ℕ → ℕ → ℕ
    code n rest = n * 64 + rest

    walk_is : (pick : Picks)
        → option_map coming_of (walk_from graph (p.hop_limit - 1) pick start) ≡ coming net p.destination code ts (stages pick)
    walk_is pick =
        walks_are net steps ts (numbers_of net (length steps)) graph place p pick fuel keeps (graph_is net p.destination steps) left
        is_place family
        enough

    few_left : (stop : Stop) (ss : List Stage) → first_stop (ends_in net) ts ss ≡ Some stop → length stop.left ≤ 48
    few_left stop ss first =
        let l = stop_left (ends_in net) ts ss stop first in
        let all : length steps ≡ length left.0 + length ts = ap length left.1 ∙ length-append left.0 ts in
        let some : length ts ≡ length l.0 + length stop.left = ap length l.1 ∙ length-append l.0 stop.left in
        omega arith

    through_comes : (pick : Picks) (n rest lowers : ℕ) → rest < 64
        → goes_through (leg_to n rest lowers ∷ []) pick (p.hop_limit - 1) ≡ true → ComesTo net p.destination ts n rest lowers (stages pick)
    through_comes pick n rest lowers low h = by_end (walk_from graph (p.hop_limit - 1) pick start) refl h
      where
        by_end : (o : Option End) → walk_from graph (p.hop_limit - 1) pick start ≡ o
            → done_behind (goes_through []) (leg_to n rest lowers) o ≡ true → ComesTo net p.destination ts n rest lowers (stages pick)
        by_end None is h = absurd (cc)
        by_end (Some e) is h =
            let b = both_true (e.answer == n * 64 + rest) (executed (goes_through []) lowers e.hops_left e.picks) h in
            let c = came net p.destination code ts (stages pick) (coming_of e) (sym (walk_is pick) ∙ ap (option_map coming_of) is) in
            let short : length c.stop.left ≤ 48 = few_left c.stop (stages pick) c.first in
            let answer : c.sid * 64 + length c.stop.left ≡ n * 64 + rest = c.answer ∙ eqb-true e.answer (n * 64 + rest) b.0 in
            let same = code_parts c.sid n (length c.stop.left) rest (omega arith) low answer in
            let high : lowers ≤ e.hops_left = exec_true lowers e.hops_left e.picks b.1 in
            record {
              stop = c.stop;
              first = c.first;
              into = c.into ∙ ap (λ (m : ℕ). Into m) same.0;
              steps = same.1;
              hops_left = subst (λ (k : ℕ). lowers ≤ k) (sym c.hops_left) high;
            }

    comes_through : (pick : Picks) (n rest lowers : ℕ) → ComesTo net p.destination ts n rest lowers (stages pick)
        → goes_through (leg_to n rest lowers ∷ []) pick (p.hop_limit - 1) ≡ true
    comes_through pick n rest lowers c = by_end (walk_from graph (p.hop_limit - 1) pick start) refl
      where
        there : coming net p.destination code ts (stages pick)
            ≡ Some (record { answer = n * 64 + length c.stop.left; hops_left = hops_left_of c.stop.stage.before })
        there = ap (option_and_then (coming_at net p.destination code)) c.first ∙ ap (coming_by code c.stop) c.into

        by_end : (o : Option End) → walk_from graph (p.hop_limit - 1) pick start ≡ o
            → done_behind (goes_through []) (leg_to n rest lowers) (walk_from graph (p.hop_limit - 1) pick start) ≡ true
        by_end None is =
            absurd (none_some (record { answer = n * 64 + length c.stop.left; hops_left = hops_left_of c.stop.stage.before })
            (sym (ap (option_map coming_of) is) ∙ walk_is pick ∙ there))
        by_end (Some e) is =
            let same = some_same (coming_of e) (record { answer = n * 64 + length c.stop.left; hops_left = hops_left_of c.stop.stage.before })
            (sym (ap (option_map coming_of) is) ∙ walk_is pick ∙ there) in
            let answer : e.answer ≡ n * 64 + rest
            = ap (λ (x : Coming). x.answer) same ∙ ap (λ (k : ℕ). n * 64 + k) c.steps in
            let hops_left : e.hops_left ≡ hops_left_of c.stop.stage.before = ap (λ (x : Coming). x.hops_left) same in
            let high : lowers ≤ e.hops_left = subst (λ (k : ℕ). lowers ≤ k) (sym hops_left) c.hops_left in
            ap (done_behind (goes_through []) (leg_to n rest lowers)) is
            ∙ true_both (e.answer == n * 64 + rest) (executed (goes_through []) lowers e.hops_left e.picks)
            (eq-eqb e.answer (n * 64 + rest) answer)
            (exec_from lowers e.hops_left e.picks high)

    pub comes_found : (n rest lowers : ℕ) → rest < 64
        → ((pick : ℕ → ℕ) → ComesTo net p.destination ts n rest lowers (stages pick))
        ↔ ((f : Found) × (found_from graph start ≡ Some f) × (f.answer ≡ n * 64 + rest) × (f.most + lowers ≤ p.hop_limit - 1))
    comes_found n rest lowers low = (there, back)
      where
        there : ((pick : ℕ → ℕ) → ComesTo net p.destination ts n rest lowers (stages pick))
            → (f : Found) × (found_from graph start ≡ Some f) × (f.answer ≡ n * 64 + rest) × (f.most + lowers ≤ p.hop_limit - 1)
        there all =
            let leg = leg_to n rest lowers in
            let always : AlwaysGoesThrough (leg ∷ []) (p.hop_limit - 1) = λ picks. comes_through picks n rest lowers (all picks) in
            let t = through_needed (leg ∷ []) (p.hop_limit - 1) always in
            let own = then_some (λ (k : ℕ). option_map (λ m. k + m) (Some 0)) (need_of leg) t.0 t.1 in
            let sum : own.0 + 0 ≡ t.0 = some_same (own.0 + 0) t.0 own.2 in
            let few : t.0 ≤ p.hop_limit - 1 = t.2 in
            let one = leg_need_law leg own.0 own.1 in
            let most : one.found.most + lowers ≡ own.0 = one.sum in
            (one.found, one.here, one.same, omega (arith, sum, few, most))

        back : (f : Found) × (found_from graph start ≡ Some f) × (f.answer ≡ n * 64 + rest) × (f.most + lowers ≤ p.hop_limit - 1)
            → (pick : ℕ → ℕ) → ComesTo net p.destination ts n rest lowers (stages pick)
        back f pick =
            let leg = leg_to n rest lowers in
            let few : f.0.most + lowers ≤ p.hop_limit - 1 = f.3 in
            through_comes pick n rest lowers low
            (through_enough (leg ∷ []) (f.0.most + lowers + 0) (need_one leg f.0 f.1 f.2) (p.hop_limit - 1) (omega (arith, few)) pick)

pub where_found : (net : Network) (steps : List TraceStep) (left : ℕ) (place : Place) (p : Packet) (fuel n rest lowers : ℕ) → Keeps net
    → length steps ≤ 48 → rest < 64 → IsPlace net place → place.family ≡ families.V6 → p.hop_limit + 1 < fuel
    → ((pick : ℕ → ℕ) → ComesTo net p.destination (drop (length steps - left) steps) n rest lowers
    (free_walk_of fuel net (Some place) (V6 p) pick 0))
    ↔ ((f : Found) × (found_in net p.destination steps left place ≡ Some f) × (f.answer ≡ n * 64 + rest)
    × (f.most + lowers ≤ p.hop_limit - 1))
where_found net steps left place p fuel n rest lowers keeps few low is_place family enough =
    comes_found net keeps steps (drop (length steps - left) steps) few
    (take (length steps - left) steps, sym (take-append-drop (length steps - left) steps)) place p is_place family fuel enough n rest lowers
    low
