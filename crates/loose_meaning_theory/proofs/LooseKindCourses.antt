-- A packet's way to the SID that is found, stage by stage, under whichever choices, and how long it is under longest ones.
use Rattle.std.proofs.Common.{◌≡◌, ℕ, zero, suc, ◌+◌, ◌-◌, ◌*◌, ◌%◌, ◌<◌, ◌≤◌, ◌⊎◌, inl, inr, Bool, true, false, List, [], ◌∷◌, map, length, slice_index, Option, Some, refl, sym, ◌∙◌, ap, ap₂, subst, arith, mod-lt, zero-add, add-zero}
use Rattle.std.specs.Prelude.{nat_le}
use Rattle.std.specs.Option.{option_and_then, option_map}
use Rattle.std.proofs.lemmas.Bool.{false≢true}
use Rattle.std.proofs.lemmas.Bool.Decides.{leb_tells}
use Rattle.std.proofs.lemmas.List.{get_or-map, length-map}
use Rattle.srv6_rules.specs.declared.family.Family.{Family}
use Rattle.srv6_rules.specs.declared.family.Family.TheVariants as families
use Rattle.srv6_rules.specs.Packet.{Packet, V6}
use Rattle.net_model.specs.Network.{Network}
use Rattle.net_model.specs.NetworkKeeps.{Keeps}
use Rattle.walk_rules.specs.declared.place.How.TheVariants.{Arrived}
use Rattle.walk_rules.specs.declared.place.Place.{Place}
use Rattle.walk_rules.specs.declared.place.Outcome.TheVariants as outcomes
use Rattle.walk_rules.specs.Treatment.{free_step_of, goes, lowered, member_of, treated}
use Rattle.walk_rules.specs.Walk.{Stage, arrival, free_walk_of, next_place}
use Rattle.walk_rules.specs.Way.{Way, NoWay, Over, Own, Into, way_of}
use Rattle.walk_rules.proofs.PublicLaws.{sent_high, sent_low}
use Rattle.intent_traces.specs.declared.trace_steps.TraceStep.{TraceStep}
use Rattle.intent_traces.specs.Traces as traces
use Rattle.intent_traces.specs.Traces.{left_behind, left_by}
use Rattle.choice_graph.specs.declared.vertices.Vertex.{Vertex}
use Rattle.choice_graph.specs.declared.vertices.Found.{Found}
use Rattle.choice_graph.specs.FoundInGraphs.{found_by, found_from, found_in, found_over}
use Rattle.choice_graph.specs.FoundInGraphs as finding
use Rattle.choice_graph.proofs.GraphJoins.{over_agrees, over_taken}
use Rattle.choice_graph.proofs.GraphOptions.{map_some, none_some, some_same}
use Rattle.loose_walks.specs.WalkStops.{ends_in}
use Rattle.loose_walks.specs.WayGraphs.{Numbers, arrived, graph_in, lowers_by, next_vertex, numbers_of, vertex_by, start_at}
use Rattle.loose_walks.specs.WayGraphsTerms.{IsLeft}
use Rattle.loose_walks.proofs.Making.{graph_is}
use Rattle.loose_walks.proofs.Quiet.{left_on}
use Rattle.loose_walks.proofs.Simulating.{arrived_lowers}
use Rattle.leg_table.specs.Transits.{one_if}
use Rattle.leg_table.specs.TransitsTerms.{with_hop_limit}
use Rattle.leg_table.specs.WalkTrace.{Crossed, Handed}
use Rattle.leg_table.proofs.StrictHanding.{same_left}
use Rattle.leg_table.proofs.StrictTransits.{same_packet}
use Rattle.loose_meaning_theory.specs.LooseKind.{behind_event, hand_of}
use Rattle.loose_meaning_theory.specs.LongestWays.{AreLongest, HasMost, links_of, most_behind}
use Rattle.loose_meaning_theory.proofs.Behind.{link_parts, most_is}
use Rattle.loose_meaning_theory.proofs.LooseKindStages.{Hands, behind_none, behind_one, behind_links, first_hands, hand_stage, longest_stage, none_dropped}

-- the way of a packet to the SID that all choices come to: its links, where it ends and what steps are left there, by how much the hop
-- limit is lowered, and that a walk goes on from there
pub record Course (net : Network) (a : ℕ) (steps ts : List TraceStep) (place : Place) (p : Packet) (pick : ℕ → ℕ) (taken : ℕ) (f : Found)
    : Type 0 where
  pub sid : ℕ
  pub stop : Place
  pub left : List TraceStep
  pub lowered : ℕ
  pub links : List ℕ
  pub answer : f.answer ≡ sid * 64 + length left
  pub is_left : IsLeft steps left
  pub into : way_of net stop a ≡ Into sid
  pub family : stop.family ≡ families.V6
  pub leads : left_by (ends_in net) ts (map (λ (link : ℕ). traces.Crossed link) links) ≡ Some left
  pub few : lowered ≤ f.most
  pub quick : lowers_by (way_of net place a) ≡ true → length links ≤ lowered
  pub short : length links ≤ suc lowered
  pub below : 0 < p.hop_limit → lowered < p.hop_limit
  pub hands : (fuel : ℕ)
      → hand_of net (free_walk_of (length links + fuel) net (Some place) (V6 p) pick taken)
      ≡ option_map (behind_links links)
      (hand_of net (free_walk_of fuel net (Some stop) (V6 (with_hop_limit (p.hop_limit - lowered) p)) pick (taken + length links)))
  pub longest : (fuel : ℕ) → AreLongest net (free_walk_of (length links + fuel) net (Some place) (V6 p) pick taken)
      → (lowered ≡ f.most)
      × AreLongest net (free_walk_of fuel net (Some stop) (V6 (with_hop_limit (p.hop_limit - lowered) p)) pick (taken + length links))

-- the hop limit is high enough for every way, or the packet is handed over on its own
abbrev pub Passes : Network → Place → Packet → (ℕ → ℕ) → ℕ → Found → Type 0
Passes net place p pick taken f = (f.most < p.hop_limit) ⊎ ((h : Handed) × Hands net place (V6 p) pick taken h)

lowered_below : (lower : Bool) (p : Packet) (k : ℕ) → (lower ≡ true → 1 < p.hop_limit)
    → (0 < (lowered lower p).hop_limit → k < (lowered lower p).hop_limit) → 0 < p.hop_limit → one_if lower + k < p.hop_limit
lowered_below true p k high below some =
    let h = high refl in
    let l = below (omega arith) in
    omega (arith, h, l)
lowered_below false p k high below some = let l = below some in omega (arith, l)

pub lowered_most : (lower : Bool) (g : Found) → (finding.lowered lower g).most ≡ one_if lower + g.most
lowered_most true g = omega arith
lowered_most false g = omega arith

answer_kept : (lower : Bool) (g f : Found) → finding.lowered lower g ≡ f → g.answer ≡ f.answer
answer_kept lower g f same = ap (λ (x : Found). x.answer) same

lowered_quick : (lower : Bool) (count k : ℕ) → count ≤ k
    → (lower ≡ true → suc count ≤ one_if lower + k) × (suc count ≤ suc (one_if lower + k))
lowered_quick true count k l = (λ e. omega arith, omega arith)
lowered_quick false count k l = (λ e. absurd (false≢true e), omega arith)

leads_to : (net : Network) (place : Place) (link node : ℕ) → ends_in net link ≡ Some node → place.family ≡ families.V6
    → next_place net place (outcomes.Send link) ≡ Some (arrived node)
leads_to net place link node ends v6 =
    ap (λ (o : Option ℕ). arrival o place) ends ∙ ap (λ (x : Family). Some (record { node = node; how = Arrived 0; family = x })) v6

pub lowered_to : (lower : Bool) (p : Packet) → (lowered lower p).destination ≡ p.destination
lowered_to true p = refl
lowered_to false p = refl

module _ (net : Network) (keeps : Keeps net) (a : ℕ) (steps : List TraceStep) where
  abbrev graph : List Vertex
  graph = graph_in net a steps

  abbrev numbers : Numbers
  numbers = numbers_of net (length steps)

  -- a packet that has come to the SID
  pub here_course : (ts : List TraceStep) → IsLeft steps ts → (place : Place) → place.family ≡ families.V6 → (p : Packet) (pick : ℕ → ℕ)
      (taken n : ℕ) (f : Found)
      → way_of net place a ≡ Into n → record { most = 0; answer = n * 64 + length ts } ≡ f
      → (c : Course net a steps ts place p pick taken f) × (c.lowered ≡ 0) × (c.links ≡ [])
  here_course ts left place v6 p pick taken n f way same = (
    record {
      sid = n;
      stop = place;
      left = ts;
      lowered = 0;
      links = [];
      answer = ap (λ (x : Found). x.answer) (sym same);
      is_left = left;
      into = way;
      family = v6;
      leads = refl;
      few = omega arith;
      quick = λ e. omega arith;
      short = omega arith;
      below = λ some. some;
      hands = λ fuel. ap (hand_of net) (sym (stays fuel)) ∙ sym (behind_none _);
      longest = λ fuel all. (ap (λ (x : Found). x.most) same, subst (AreLongest net) (sym (stays fuel)) all);
    },
    refl,
    refl,
  )
    where
      stays : (fuel : ℕ)
          → free_walk_of fuel net (Some place) (V6 (with_hop_limit (p.hop_limit - 0) p)) pick (taken + 0)
          ≡ free_walk_of (0 + fuel) net (Some place) (V6 p) pick taken
      stays fuel =
          ap (λ (k : ℕ). free_walk_of fuel net (Some place) (V6 (with_hop_limit (p.hop_limit - 0) p)) pick k) (add-zero taken)
          ∙ ap (λ (q : Packet). free_walk_of fuel net (Some place) (V6 q) pick taken) (same_packet p)
          ∙ ap (λ (k : ℕ). free_walk_of k net (Some place) (V6 p) pick taken) (sym (zero-add fuel))

  -- a member of a set over which something is found: where it leads, and what is found behind it
  pub record Member (depth : ℕ) (ts : List TraceStep) (place : Place) (set : List ℕ) (lower : Bool) (link : ℕ) (f : Found) : Type 0 where
    pub us : List TraceStep
    pub is_left : IsLeft steps us
    pub crossed : left_behind (ends_in net) ts (traces.Crossed link) ≡ Some us
    pub node : ℕ
    pub there : node < length net.nodes
    pub leads : next_place net place (outcomes.Send link) ≡ Some (arrived node)
    pub found : Found
    pub here : found_in graph depth (next_vertex net numbers ts link) ≡ Some found
    pub at_node : found_in graph depth (numbers.vertex node (length us)) ≡ Some found
    pub answer : found.answer ≡ f.answer
    pub most : one_if lower + found.most ≤ f.most
    pub top : HasMost net a set link → one_if lower + found.most ≡ f.most

  -- the course of a packet that is sent over a member, by the one from where it leads
  pub sent_course : (depth : ℕ) (ts : List TraceStep) (place : Place) (p : Packet) → p.destination ≡ a → (pick : ℕ → ℕ) (taken : ℕ) (f : Found)
      (set : List ℕ) (lower : Bool) (link : ℕ)
      → way_of net place a ≡ Over set lower
      → (lower ≡ true → 1 < p.hop_limit)
      × (free_step_of net place (V6 p) (pick taken) ≡ goes (outcomes.Send link) (V6 (lowered lower p)))
      → (m : Member depth ts place set lower link f)
      → (c : Course net a steps m.us (arrived m.node) (lowered lower p) pick (taken + 1) m.found)
      → (s : Course net a steps ts place p pick taken f) × (s.lowered ≡ one_if lower + c.lowered) × (s.links ≡ link ∷ c.links)
  sent_course depth ts place p to_a pick taken f set lower link way sends m c = (
    record {
      sid = c.sid;
      stop = c.stop;
      left = c.left;
      lowered = one_if lower + c.lowered;
      links = link ∷ c.links;
      answer = sym m.answer ∙ c.answer;
      is_left = c.is_left;
      into = c.into;
      family = c.family;
      leads =
          ap (option_and_then (λ (us : List TraceStep). left_by (ends_in net) us (map (λ (l : ℕ). traces.Crossed l) c.links))) m.crossed
          ∙ c.leads;
      few = (let l = c.few in let k = m.most in omega (arith, l, k));
      quick = λ e. fast.0 (sym (ap lowers_by way) ∙ e);
      short = fast.1;
      below = lowered_below lower p c.lowered sends.0 c.below;
      hands = λ fuel.
          ap (λ (k : ℕ). hand_of net (free_walk_of k net (Some place) (V6 p) pick taken)) (count fuel)
          ∙ hand_stage net (length c.links + fuel) place (V6 p) pick taken (goes (outcomes.Send link) (V6 (lowered lower p))) sends.1
          ∙ ap (λ (o : Option Place). option_map (behind_event (Crossed link))
          (hand_of net (free_walk_of (length c.links + fuel) net o (V6 (lowered lower p)) pick (taken + 1)))) m.leads
          ∙ ap (option_map (behind_event (Crossed link))) (c.hands fuel)
          ∙ behind_one link c.links _
          ∙ ap (λ (ss : List Stage). option_map (behind_links (link ∷ c.links)) (hand_of net ss)) (goes_on_law fuel);
      longest = λ fuel all. long fuel
          (longest_stage net (length c.links + fuel) place (V6 p) pick taken (goes (outcomes.Send link) (V6 (lowered lower p))) sends.1
          (subst (λ (k : ℕ). AreLongest net (free_walk_of k net (Some place) (V6 p) pick taken)) (count fuel) all));
    },
    refl,
    refl,
  )
    where
      fast : (lower ≡ true → suc (length c.links) ≤ one_if lower + c.lowered) × (suc (length c.links) ≤ suc (one_if lower + c.lowered))
      fast = lowered_quick lower (length c.links) c.lowered (c.quick (arrived_lowers net m.node a))

      count : (fuel : ℕ) → length (link ∷ c.links) + fuel ≡ suc (length c.links + fuel)
      count fuel = omega arith

      goes_on_law : (fuel : ℕ)
          → free_walk_of fuel net (Some c.stop) (V6 (with_hop_limit ((lowered lower p).hop_limit - c.lowered) (lowered lower p))) pick
          (taken + 1 + length c.links)
          ≡ free_walk_of fuel net (Some c.stop) (V6 (with_hop_limit (p.hop_limit - (one_if lower + c.lowered)) p)) pick
          (taken + length (link ∷ c.links))
      goes_on_law fuel =
          let n : taken + 1 + length c.links ≡ taken + length (link ∷ c.links) = omega arith in
          ap₂ (λ (r : Packet) (k : ℕ). free_walk_of fuel net (Some c.stop) (V6 r) pick k) (same_left p lower c.lowered) n

      long : (fuel : ℕ)
          → HasMost net p.destination (links_of (way_of net place p.destination)) link
          × AreLongest net (free_walk_of (length c.links + fuel) net (next_place net place (outcomes.Send link)) (V6 (lowered lower p)) pick
          (taken + 1))
          → (one_if lower + c.lowered ≡ f.most)
          × AreLongest net (free_walk_of fuel net (Some c.stop) (V6 (with_hop_limit (p.hop_limit - (one_if lower + c.lowered)) p)) pick
          (taken + length (link ∷ c.links)))
      long fuel both =
          let most : HasMost net a set link
          = subst (λ (w : Way). HasMost net a (links_of w) link) way
          (subst (λ (d : ℕ). HasMost net d (links_of (way_of net place d)) link) to_a both.0) in
          let rest =
          c.longest fuel
          (subst (λ (o : Option Place). AreLongest net (free_walk_of (length c.links + fuel) net o (V6 (lowered lower p)) pick (taken + 1)))
          m.leads both.1) in
          (ap (λ (k : ℕ). one_if lower + k) rest.0 ∙ m.top most, subst (AreLongest net) (goes_on_law fuel) rest.1)

  -- the packet of a walk that passes is sent over a set
  pub over_sends : (place : Place) (p : Packet) → p.destination ≡ a → (set : List ℕ) (lower : Bool) (pick : ℕ → ℕ) (taken : ℕ) (f : Found)
      → way_of net place a ≡ Over set lower → one_if lower ≤ f.most → Passes net place p pick taken f
      → (lower ≡ true → 1 < p.hop_limit)
      × (free_step_of net place (V6 p) (pick taken) ≡ goes (outcomes.Send (member_of set (pick taken))) (V6 (lowered lower p)))
  over_sends place p to_a set false pick taken f way most passes =
      (λ e. absurd (false≢true e), ap (λ (w : Way). treated net place.node w p (pick taken)) (ap (way_of net place) to_a ∙ way))
  over_sends place p to_a set true pick taken f way most passes = by_limit (leb_tells p.hop_limit 1)
    where
      gives : free_step_of net place (V6 p) (pick taken) ≡ treated net place.node (Over set true) p (pick taken)
      gives = ap (λ (w : Way). treated net place.node w p (pick taken)) (ap (way_of net place) to_a ∙ way)

      never : p.hop_limit ≤ 1 → Passes net place p pick taken f → ⊥
      never low (inl high) = absurd (omega (arith, low, high, most))
      never low (inr hands) =
          none_dropped net place (V6 p) pick taken hands.0 _ (gives ∙ sent_low net place.node set p (pick taken) low) (λ later. refl)
          hands.1

      by_limit : ((nat_le p.hop_limit 1 ≡ true) × (p.hop_limit ≤ 1)) ⊎ ((nat_le p.hop_limit 1 ≡ false) × (1 < p.hop_limit))
          → (true ≡ true → 1 < p.hop_limit)
          × (free_step_of net place (V6 p) (pick taken) ≡ goes (outcomes.Send (member_of set (pick taken))) (V6 (lowered true p)))
      by_limit (inl low) = absurd (never low.1 passes)
      by_limit (inr high) = (λ e. high.1, gives ∙ sent_high net place.node set p (pick taken) high.1)

  -- it passes on
  passes_on : (place : Place) (p : Packet) (lower : Bool) (pick : ℕ → ℕ) (taken link : ℕ) (next : Place) (f g : Found)
      → free_step_of net place (V6 p) (pick taken) ≡ goes (outcomes.Send link) (V6 (lowered lower p))
      → next_place net place (outcomes.Send link) ≡ Some next → one_if lower + g.most ≤ f.most
      → Passes net place p pick taken f → Passes net next (lowered lower p) pick (taken + 1) g
  passes_on place p true pick taken link next f g gives leads most (inl high) = inl (omega (arith, most, high))
  passes_on place p false pick taken link next f g gives leads most (inl high) = inl (omega (arith, most, high))
  passes_on place p lower pick taken link next f g gives leads most (inr hands) =
      let first = first_hands net place (V6 p) pick taken hands.0 (goes (outcomes.Send link) (V6 (lowered lower p))) gives hands.1 in
      let got =
      map_some (behind_event (Crossed link))
      (hand_of net (free_walk_of first.0 net (next_place net place (outcomes.Send link)) (V6 (lowered lower p)) pick (taken + 1)))
      hands.0 first.1 in
      inr (
        got.0,
        (
          first.0,
          sym (ap (λ (o : Option Place). hand_of net (free_walk_of first.0 net o (V6 (lowered lower p)) pick (taken + 1))) leads) ∙ got.1,
        ),
      )

  -- where something is found over a set, so it is behind each member
  pub member_found : (depth : ℕ) (ts : List TraceStep) → IsLeft steps ts → (place : Place) → place.family ≡ families.V6
      → (set : List ℕ) (lower : Bool) (choice : ℕ) (f g : Found)
      → found_over (found_in graph depth) (map (next_vertex net numbers ts) set) ≡ Some g → finding.lowered lower g ≡ f
      → Member depth ts place set lower (member_of set choice) f
  member_found depth ts left place v6 set lower choice f g over same =
      let all = over_agrees (found_in graph depth) (map (next_vertex net numbers ts) set) g over in
      let top = over_taken (found_in graph depth) (map (next_vertex net numbers ts) set) g over in
      let long : length (map (next_vertex net numbers ts) set) ≡ length set = length-map set (next_vertex net numbers ts) in
      let place_in : top.place < length set = (let l = top.inside in omega (arith, l, long)) in
      let i : ℕ = choice % length set in
      let inside : i < length set = mod-lt choice (omega (arith, place_in)) in
      let at = all i (omega (arith, inside, long)) in
      let link : ℕ = member_of set choice in
      let here : found_in graph depth (next_vertex net numbers ts link) ≡ Some at.found
      = ap (found_in graph depth) (sym (get_or-map (next_vertex net numbers ts) set i 0 0 inside)) ∙ at.here in
      let b = link_parts net keeps a steps depth ts link at.found here in
      let most_f : one_if lower + g.most ≡ f.most = sym (lowered_most lower g) ∙ ap (λ (x : Found). x.most) same in
      let low : at.found.most ≤ g.most = at.within in
      record {
        us = b.left;
        is_left = left_on steps ts b.left (ends_in net) (traces.Crossed link) left b.crossed;
        crossed = b.crossed;
        node = b.node;
        there = b.there;
        leads = leads_to net place link b.node b.ends v6;
        found = at.found;
        here = here;
        at_node = b.found;
        answer = at.same ∙ answer_kept lower g f same;
        most = omega (arith, most_f, low);
        top = λ has.
            let first : found_in graph depth (next_vertex net numbers ts (slice_index set top.place)) ≡ Some g
            = ap (found_in graph depth) (sym (get_or-map (next_vertex net numbers ts) set top.place 0 0 place_in)) ∙ top.here in
            let m_top : most_behind net a (slice_index set top.place) ≡ g.most
            = most_is net keeps a steps depth ts left (slice_index set top.place) g first in
            let m_link : most_behind net a link ≡ at.found.most = most_is net keeps a steps depth ts left link at.found here in
            let most_of_all = has top.place place_in in
            omega (arith, most_f, low, m_top, m_link, most_of_all);
      }

  -- so it is at nodes to which a packet came over a link, where something is found by so many moves
  abbrev Holds : ℕ → Type 0
  Holds depth = (us : List TraceStep) → IsLeft steps us → (node : ℕ) → node < length net.nodes → (q : Packet) → q.destination ≡ a
      → (pick : ℕ → ℕ) (taken : ℕ) (g : Found) → found_in graph depth (numbers.vertex node (length us)) ≡ Some g
      → Passes net (arrived node) q pick taken g → Course net a steps us (arrived node) q pick taken g

  way_course : (depth : ℕ) → Holds depth → (ts : List TraceStep) → IsLeft steps ts → (place : Place) → place.family ≡ families.V6
      → (p : Packet) → p.destination ≡ a → (pick : ℕ → ℕ) (taken : ℕ) (f : Found) (w : Way) → way_of net place a ≡ w
      → found_by (lowers_by w) (found_in graph depth) (vertex_by net numbers ts w) ≡ Some f → Passes net place p pick taken f
      → Course net a steps ts place p pick taken f
  way_course depth holds ts left place v6 p to_a pick taken f (NoWay reason) way e passes = absurd (none_some f e)
  way_course depth holds ts left place v6 p to_a pick taken f Own way e passes = absurd (none_some f e)
  way_course depth holds ts left place v6 p to_a pick taken f (Into n) way e passes =
      (here_course ts left place v6 p pick taken n f way (some_same (record { most = 0; answer = n * 64 + length ts }) f e)).0
  way_course depth holds ts left place v6 p to_a pick taken f (Over set lower) way e passes =
      let g = map_some (finding.lowered lower) (found_over (found_in graph depth) (map (next_vertex net numbers ts) set)) f e in
      let m = member_found depth ts left place v6 set lower (pick taken) f g.0 g.1 g.2 in
      let sends = over_sends place p to_a set lower pick taken f way (let k = m.most in omega (arith, k)) passes in
      (sent_course depth ts place p to_a pick taken f set lower (member_of set (pick taken)) way sends m
      (holds m.us m.is_left m.node m.there (lowered lower p) (lowered_to lower p ∙ to_a) pick (taken + 1) m.found m.at_node
      (passes_on place p lower pick taken (member_of set (pick taken)) (arrived m.node) f m.found sends.1 m.leads m.most passes))).0

  arrived_course : (depth : ℕ) → Holds depth
  arrived_course zero us left node there q to_a pick taken g found passes = absurd (none_some g found)
  arrived_course (suc depth) us left node there q to_a pick taken g found passes =
      let way = way_of net (arrived node) a in
      way_course depth (arrived_course depth) us left (arrived node) refl q to_a pick taken g way refl
      (ap (λ (b : Bool). found_by b (found_in graph depth) (vertex_by net numbers us way)) (arrived_lowers net node a)
      ∙ ap (found_by true (found_in graph depth)) (sym ((graph_is net a steps).at us node left there))
      ∙ found)
      passes

  -- where something is found from a place, a packet that passes has a course
  pub course : (ts : List TraceStep) → IsLeft steps ts → (place : Place) → place.family ≡ families.V6 → (p : Packet) → p.destination ≡ a
      → (pick : ℕ → ℕ) (taken : ℕ) (f : Found) → found_from graph (start_at net numbers ts place a) ≡ Some f
      → Passes net place p pick taken f → Course net a steps ts place p pick taken f
  course ts left place v6 p to_a pick taken f found passes =
      way_course (length graph) (arrived_course (length graph)) ts left place v6 p to_a pick taken f (way_of net place a) refl found passes
