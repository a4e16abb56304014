-- Longest ways are tight: they come to the first SID with as little as may be left of the hop limit, and are longest from there on.
use Rattle.std.proofs.Common.{◌≡◌, ℕ, zero, suc, ◌+◌, ◌-◌, ◌*◌, ◌<◌, ◌≤◌, Bool, true, false, List, [], ◌∷◌, map, take, drop, length, Option, Some, None, slice_get, refl, sym, ◌∙◌, ap, subst, arith}
use Rattle.std.proofs.lemmas.Bool.{false≢true}
use Rattle.std.proofs.lemmas.List.{take-append-drop}
use Rattle.srv6_rules.specs.declared.family.Family.{Family}
use Rattle.srv6_rules.specs.declared.family.Family.TheVariants as families
use Rattle.srv6_rules.specs.Packet.{Packet, Content, V6, V4, Unreadable}
use Rattle.net_model.specs.Network.{Network}
use Rattle.net_model.specs.NetworkKeeps.{Keeps}
use Rattle.walk_rules.specs.declared.place.How.{How}
use Rattle.walk_rules.specs.declared.place.How.TheVariants.{Arrived}
use Rattle.walk_rules.specs.declared.place.Outcome.TheVariants as outcomes
use Rattle.walk_rules.specs.declared.place.Place.{Place}
use Rattle.walk_rules.specs.Treatment.{goes, free_step_of as step_of}
use Rattle.walk_rules.specs.Walk.{arrival, free_walk_of as walk_of, next_place}
use Rattle.walk_rules.specs.Way.{Way, Over, Into, way_of}
use Rattle.intent_reader.specs.declared.intent.Intent.{Intent}
use Rattle.intent_traces.specs.declared.trace_steps.TraceStep.{TraceStep}
use Rattle.intent_traces.specs.Traces as traces
use Rattle.choice_graph.specs.declared.vertices.Vertex.{Vertex}
use Rattle.choice_graph.specs.declared.vertices.Found.{Found}
use Rattle.choice_graph.specs.FoundInGraphs as finding
use Rattle.choice_graph.specs.FoundInGraphs.{found_by, found_in, found_over}
use Rattle.choice_graph.proofs.GraphOptions.{map_some, none_some, some_same}
use Rattle.loose_walks.specs.WayGraphs as graphs
use Rattle.loose_walks.specs.WayGraphs.{Numbers, arrived, graph_in, lowers_by, next_vertex, numbers_of, vertex_by}
use Rattle.loose_walks.specs.WayGraphsTerms.{IsLeft}
use Rattle.loose_walks.specs.WalkStops.{ends_in}
use Rattle.loose_walks.specs.WalkStopsTerms.{Stop}
use Rattle.loose_walks.proofs.Making.{graph_is}
use Rattle.loose_walks.proofs.Quiet.{left_on}
use Rattle.loose_walks.proofs.Simulating.{arrived_lowers}
use Rattle.leg_table.specs.StrictLegs.{place_behind, place_from}
use Rattle.leg_table.specs.Transits.{one_if}
use Rattle.leg_table.specs.TransitsTerms.{with_hop_limit}
use Rattle.loose_meaning_theory.specs.LongestWays.{AreLongest, HasMost, Longest, links_of}
use Rattle.loose_meaning_theory.proofs.LooseKindCourses.{Member, member_found}
use Rattle.loose_meaning_theory.proofs.LooseKindChoosing.{some_longest_law}
use Rattle.loose_meaning_theory.proofs.LooseKindStages.{longest_fewer, longest_stage}
use Rattle.loose_meaning_theory.proofs.StopWalks.{StopWalk, Trail}
use Rattle.loose_meaning_theory.proofs.Tight.{AreTight}

abbrev limit_of : Content → ℕ
limit_of (V6 p) = p.hop_limit
limit_of (V4 p) = 0
limit_of (Unreadable bytes reason) = 0

-- where a packet is that came over a link
arrival_parts : (o : Option ℕ) (place next : Place) → place.family ≡ families.V6 → arrival o place ≡ Some next
    → (node : ℕ) × (o ≡ Some node) × (next ≡ arrived node)
arrival_parts None place next v6 e = absurd (none_some next e)
arrival_parts (Some node) place next v6 e = (
  node,
  refl,
  sym (some_same (record { node = node; how = Arrived 0; family = place.family }) next e)
      ∙ ap (λ (f : Family). record { node = node; how = Arrived 0; family = f }) v6,
)

-- a packet goes on as an IPv6 packet
from_v6 : (net : Network) (intent : Intent) (via : Option ℕ) (place : Place) → place_from net intent via ≡ Some place
    → place.family ≡ families.V6
from_v6 net intent None place from = ap (λ (at : Place). at.family) (sym (some_same _ place from))
from_v6 net intent (Some v) place from =
    let got = map_some (place_behind v) (slice_get net.sids v) place from in ap (λ (at : Place). at.family) (sym got.2)

lower_all : (lower : Bool) (a b hop limit : ℕ) → lower ≡ true → hop + one_if lower ≡ limit → a + b ≤ hop → suc a + b ≤ limit
lower_all true a b hop limit e is few = omega (arith, is, few)
lower_all false a b hop limit e is few = absurd (false≢true e)

module _ (net : Network) where
  -- each link but the first lowers the hop limit
  trail_few : (links : List ℕ) (ts : List TraceStep) (place : Place) (p : Packet) (pick : ℕ → ℕ) (taken : ℕ) (stop : Stop)
      → place.family ≡ families.V6 → Trail net links ts place p pick taken stop
      → (lowers_by (way_of net place p.destination) ≡ true → length links + limit_of stop.stage.before ≤ p.hop_limit)
      × (length links + limit_of stop.stage.before ≤ suc p.hop_limit)
  trail_few [] ts place p pick taken stop v6 t =
      let same : limit_of stop.stage.before ≡ p.hop_limit = ap limit_of t.1 in (λ e. omega (arith, same), omega (arith, same))
  trail_few (link ∷ links) ts place p pick taken stop v6 (s, us, next, left, leads, rest) =
      let at = arrival_parts (ends_in net link) place next v6 leads in
      let q = with_hop_limit s.hop p in
      let more = trail_few links us next q pick (taken + 1) stop (ap (λ (l : Place). l.family) at.2) rest in
      let all : length links + limit_of stop.stage.before ≤ s.hop
      = more.0 (ap (λ (l : Place). lowers_by (way_of net l p.destination)) at.2 ∙ arrived_lowers net at.0 p.destination) in
      let low : s.hop ≤ p.hop_limit = s.low in (
        λ e. lower_all s.lower (length links) (limit_of stop.stage.before) s.hop p.hop_limit (sym (ap lowers_by s.way) ∙ e) s.lowers all,
        omega (arith, all, low),
      )

  -- what stands behind them is a longest way where the whole is
  trail_longest : (links : List ℕ) (ts : List TraceStep) (place : Place) (p : Packet) (pick : ℕ → ℕ) (taken : ℕ) (stop : Stop) (fuel : ℕ)
      → Trail net links ts place p pick taken stop
      → AreLongest net (walk_of (length links + fuel) net (Some place) (V6 p) pick taken)
      → AreLongest net (walk_of fuel net (Some stop.stage.place) stop.stage.before pick (taken + length links))
  trail_longest [] ts place p pick taken stop fuel t all =
      let n : 0 + fuel ≡ fuel = omega arith in
      let m : taken ≡ taken + 0 = omega arith in
      subst (λ (at : Place). AreLongest net (walk_of fuel net (Some at) stop.stage.before pick (taken + 0))) (sym t.0)
      (subst (λ (c : Content). AreLongest net (walk_of fuel net (Some place) c pick (taken + 0))) (sym t.1)
      (subst (λ (d : ℕ). AreLongest net (walk_of fuel net (Some place) (V6 p) pick d)) m
      (subst (λ (d : ℕ). AreLongest net (walk_of d net (Some place) (V6 p) pick taken)) n all)))
  trail_longest (link ∷ links) ts place p pick taken stop fuel (s, us, next, left, leads, rest) all =
      let q = with_hop_limit s.hop p in
      let n : suc (length links) + fuel ≡ suc (length links + fuel) = omega arith in
      let m : taken + 1 + length links ≡ taken + suc (length links) = omega arith in
      let first = longest_stage net (length links + fuel) place (V6 p) pick taken (goes (outcomes.Send link) (V6 q)) s.gives
      (subst (λ (d : ℕ). AreLongest net (walk_of d net (Some place) (V6 p) pick taken)) n all) in
      subst (λ (d : ℕ). AreLongest net (walk_of fuel net (Some stop.stage.place) stop.stage.before pick d)) m
      (trail_longest links us next q pick (taken + 1) stop fuel rest
      (subst (λ (o : Option Place). AreLongest net (walk_of (length links + fuel) net o (V6 q) pick (taken + 1))) leads first.1))

module _ (net : Network) (keeps : Keeps net) (d : ℕ) (steps : List TraceStep) where
  abbrev graph : List Vertex
  graph = graph_in net d steps

  abbrev numbers : Numbers
  numbers = numbers_of net (length steps)

  abbrev by_way : Place → ℕ → List TraceStep → Option Found
  by_way place depth ts =
      found_by (lowers_by (way_of net place d)) (found_in graph depth) (vertex_by net numbers ts (way_of net place d))

  -- what is found at a node to which a packet came over a link is found by the way from there
  way_behind : (depth : ℕ) (us : List TraceStep) (next : Place) (node : ℕ) → node < length net.nodes → (x : Found) → next ≡ arrived node
      → IsLeft steps us → found_in graph depth (numbers.vertex node (length us)) ≡ Some x → (less : ℕ) × (by_way next less us ≡ Some x)
  way_behind zero us next node there x at us_left found = absurd (none_some x found)
  way_behind (suc depth) us next node there x at us_left found =
      let w = way_of net (arrived node) d in (
        depth,
        ap (λ (l : Place). by_way l depth us) at
            ∙ ap (λ (b : Bool). found_by b (found_in graph depth) (vertex_by net numbers us w)) (arrived_lowers net node d)
            ∙ ap (found_by true (found_in graph depth)) (sym ((graph_is net d steps).at us node us_left there))
            ∙ found,
      )

  -- a longest way of which something is found takes the greatest number
  trail_most : (links : List ℕ) (ts : List TraceStep) (place : Place) (p : Packet) (pick : ℕ → ℕ) (taken n : ℕ) (stop : Stop) (depth : ℕ)
      (f : Found)
      → Trail net links ts place p pick taken stop → p.destination ≡ d → place.family ≡ families.V6 → IsLeft steps ts
      → by_way place depth ts ≡ Some f → way_of net stop.stage.place d ≡ Into n
      → AreLongest net (walk_of (length links) net (Some place) (V6 p) pick taken) → limit_of stop.stage.before + f.most ≡ p.hop_limit
  trail_most [] ts place p pick taken n stop depth f t to v6 left found into all =
      let way : way_of net place d ≡ Into n = ap (λ (at : Place). way_of net at d) (sym t.0) ∙ into in
      let is = sym (ap (λ (w : Way). found_by (lowers_by w) (found_in graph depth) (vertex_by net numbers ts w)) way) ∙ found in
      let none : 0 ≡ f.most = ap (λ (x : Found). x.most) (some_same (record { most = 0; answer = n * 64 + length ts }) f is) in
      let limit : limit_of stop.stage.before ≡ p.hop_limit = ap limit_of t.1 in
      omega (arith, none, limit)
  trail_most (link ∷ links) ts place p pick taken n stop depth f (s, us, next, crossed, leads, rest) to v6 left found into all =
      let q = with_hop_limit s.hop p in
      let way : way_of net place d ≡ Over s.set s.lower = ap (way_of net place) (sym to) ∙ s.way in
      let is = sym (ap (λ (w : Way). found_by (lowers_by w) (found_in graph depth) (vertex_by net numbers ts w)) way) ∙ found in
      let g = map_some (finding.lowered s.lower) (found_over (found_in graph depth) (map (next_vertex net numbers ts) s.set)) f is in
      let first = longest_stage net (length links) place (V6 p) pick taken (goes (outcomes.Send link) (V6 q)) s.gives all in
      let has : HasMost net d s.set link
      = subst (λ (a : ℕ). HasMost net a s.set link) to
      (subst (λ (w : Way). HasMost net p.destination (links_of w) link) s.way first.0) in
      let m = subst (λ (l : ℕ). Member net keeps d steps depth ts place s.set s.lower l f) s.member
      (member_found net keeps d steps depth ts left place v6 s.set s.lower (pick taken) f g.0 g.1 g.2) in
      let same : m.us ≡ us = some_same m.us us (sym m.crossed ∙ crossed) in
      let at : next ≡ arrived m.node = some_same next (arrived m.node) (sym leads ∙ m.leads) in
      let us_left : IsLeft steps us = left_on steps ts us (ends_in net) (traces.Crossed link) left crossed in
      let at_node : found_in graph depth (numbers.vertex m.node (length us)) ≡ Some m.found
      = ap (λ (vs : List TraceStep). found_in graph depth (numbers.vertex m.node (length vs))) (sym same) ∙ m.at_node in
      let behind = way_behind depth us next m.node m.there m.found at us_left at_node in
      let more = trail_most links us next q pick (taken + 1) n stop behind.0 m.found rest to (ap (λ (l : Place). l.family) at) us_left
      behind.1 into (subst (λ (o : Option Place). AreLongest net (walk_of (length links) net o (V6 q) pick (taken + 1))) leads first.1) in
      let lowers = s.lowers in
      let most = m.top has in
      omega (arith, more, lowers, most)

module _ (net : Network) (keeps : Keeps net) (intent : Intent) (steps : List TraceStep) where
  -- so many stages of a longest way, from where the packet goes on
  longest_of : (via : Option ℕ) (p : Packet) (pick : ℕ → ℕ) (taken : ℕ) (place : Place) (count : ℕ) → place_from net intent via ≡ Some place
      → count ≤ 2 * p.hop_limit → Longest net intent via p pick taken → AreLongest net (walk_of count net (Some place) (V6 p) pick taken)
  longest_of via p pick taken place count from few long =
      longest_fewer net count (2 * p.hop_limit) few (Some place) (V6 p) pick taken
      (subst (λ (o : Option Place). AreLongest net (walk_of (2 * p.hop_limit) net o (V6 p) pick taken)) from long)

  is_most : (position : ℕ) (via : Option ℕ) (place : Place) (f : Found) (p : Packet) (pick : ℕ → ℕ) (taken n : ℕ) (stop : Stop)
      → position ≤ length steps → place_from net intent via ≡ Some place
      → graphs.found_in net p.destination steps (length steps - position) place ≡ Some f → f.most + 1 < p.hop_limit
      → (w : StopWalk net (drop position steps) place p pick taken stop) → way_of net stop.stage.place p.destination ≡ Into n
      → Longest net intent via p pick taken → w.hop ≡ p.hop_limit - f.most
  is_most position via place f p pick taken n stop within from found low w into long =
      let v6 = from_v6 net intent via place from in
      let ts = drop position steps in
      let back : length steps - (length steps - position) ≡ position = omega (arith, within) in
      let here : by_way net keeps p.destination steps place (length (graph_in net p.destination steps)) ts ≡ Some f
      = ap (λ (m : ℕ). by_way net keeps p.destination steps place (length (graph_in net p.destination steps)) (drop m steps)) (sym back)
      ∙ found in
      let few = (trail_few net w.links ts place p pick taken stop v6 w.trail).1 in
      let hop : limit_of stop.stage.before ≡ w.hop = ap limit_of w.before in
      let is = trail_most net keeps p.destination steps w.links ts place p pick taken n stop (length (graph_in net p.destination steps)) f
      w.trail refl v6 (take position steps, sym (take-append-drop position steps)) here into
      (longest_of via p pick taken place (length w.links) from (omega (arith, few, low)) long) in
      omega (arith, is, hop)

  goes_on_law : (via : Option ℕ) (place next : Place) (ts : List TraceStep) (p r : Packet) (pick : ℕ → ℕ) (taken n : ℕ) (how : How) (stop : Stop)
      → place_from net intent via ≡ Some place → place_from net intent (Some n) ≡ Some next
      → (w : StopWalk net ts place p pick taken stop)
      → step_of net stop.stage.place (V6 (with_hop_limit w.hop p)) (pick (taken + length w.links)) ≡ goes (outcomes.Again n how) (V6 r)
      → next_place net stop.stage.place (outcomes.Again n how) ≡ Some next → 1 < w.hop → r.hop_limit ≡ w.hop - 1
      → Longest net intent via p pick taken → Longest net intent (Some n) r pick (taken + length w.links + 0)
  goes_on_law via place next ts p r pick taken n how stop from is_next w gives leads high less long =
      let few = (trail_few net w.links ts place p pick taken stop (from_v6 net intent via place from) w.trail).1 in
      let hop : limit_of stop.stage.before ≡ w.hop = ap limit_of w.before in
      let low : w.hop ≤ p.hop_limit = w.low in
      let m = 2 * p.hop_limit - length w.links - 1 in
      let count : length w.links + suc m ≤ 2 * p.hop_limit = omega (arith, few, hop, high, low) in
      let rest = trail_longest net w.links ts place p pick taken stop (suc m) w.trail
      (longest_of via p pick taken place (length w.links + suc m) from count long) in
      let there = subst (λ (c : Content). AreLongest net (walk_of (suc m) net (Some stop.stage.place) c pick (taken + length w.links)))
      w.before rest in
      let after = longest_stage net m stop.stage.place (V6 (with_hop_limit w.hop p)) pick (taken + length w.links)
      (goes (outcomes.Again n how) (V6 r)) gives there in
      subst (λ (o : Option Place). AreLongest net (walk_of (2 * r.hop_limit) net o (V6 r) pick (taken + length w.links + 0)))
      (leads ∙ sym is_next)
      (longest_fewer net (2 * r.hop_limit) m (omega (arith, few, hop, high, low, less))
      (next_place net stop.stage.place (outcomes.Again n how)) (V6 r) pick (taken + length w.links + 0) after.1)

  pub are_tight : AreTight net intent steps
  are_tight = record { some = some_longest_law net intent; most = is_most; on = goes_on_law }
