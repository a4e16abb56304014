-- The stages of a walk go as the walk over the graph does.
use Rattle.std.proofs.Common.{◌≡◌, ℕ, zero, suc, ◌+◌, ◌-◌, ◌<◌, ◌≤◌, Bool, true, false, if◌then◌else◌, List, [], map, length, slice_get, Option, Some, None, refl, sym, ◌∙◌, ap, subst, arith}
use Rattle.std.specs.Option.{option_map, option_and_then}
use Rattle.srv6_rules.specs.declared.family.Family.{Family}
use Rattle.srv6_rules.specs.declared.family.Family.TheVariants as families
use Rattle.srv6_rules.specs.declared.reason.Reason.TheVariants as reasons
use Rattle.srv6_rules.specs.Packet.{Packet, Content, V6}
use Rattle.srv6_rules.specs.Endpoint.{at_address}
use Rattle.net_model.specs.declared.net.Hit.{Hit}
use Rattle.net_model.specs.declared.net.Hit.TheVariants as hits
use Rattle.net_model.specs.Network.{Network}
use Rattle.net_model.specs.NetworkKeeps.{Keeps}
use Rattle.net_model.specs.Best.{lookup_of}
use Rattle.walk_rules.specs.declared.place.How.TheVariants.{Arrived}
use Rattle.walk_rules.specs.declared.place.Place.{Place}
use Rattle.walk_rules.specs.declared.place.Outcome.TheVariants as outcomes
use Rattle.walk_rules.specs.Way.{Way, NoWay, Over, Own, Into, way_of, way_by_hit, is_multicast_of}
use Rattle.walk_rules.specs.WayTerms.{IsWayFrom}
use Rattle.walk_rules.specs.Relation.{IsHow}
use Rattle.walk_rules.specs.Treatment.{Gave, treated, dropped, goes, lowered, member_of, free_step_of}
use Rattle.walk_rules.specs.Walk.{Stage, walk_by, free_walk_of, next_place, arrival, decisions}
use Rattle.walk_rules.proofs.PublicLaws.{way_from, sent_low, sent_high}
use Rattle.intent_traces.specs.declared.trace_steps.TraceStep.{TraceStep}
use Rattle.intent_traces.specs.Traces.{Crossed, left_behind}
use Rattle.choice_graph.specs.declared.vertices.Vertex.{Vertex}
use Rattle.choice_graph.specs.declared.vertices.Vertex.TheVariants as vertices
use Rattle.choice_graph.specs.GraphWalks.{vertex_at}
use Rattle.choice_graph.specs.GraphWalksTerms.{Picks, later, over, walk, walk_first, walk_from}
use Rattle.choice_graph.proofs.GraphWalking.{walk_is, over_nowhere, first_stop_law, Behind}
use Rattle.loose_walks.specs.WalkStops.{ends_in}
use Rattle.loose_walks.specs.WalkStopsTerms.{stop_by, first_stop, Coming, coming_by, coming_at, coming, coming_of, SendsNothing}
use Rattle.loose_walks.specs.WayGraphs.{Numbers, arrived, vertex_behind, next_vertex, vertex_by, lowers_by, start_at}
use Rattle.loose_walks.specs.WayGraphsTerms.{IsLeft, IsGraph}
use Rattle.loose_walks.proofs.Quiet.{quiet_stops, address_quiet, into_quiet, left_on, end_there, over_map}

first_lost : (graph : List Vertex) (lowers : Bool) (hops_left : ℕ) (picks : Picks) → walk_first graph lowers hops_left picks vertices.Lost ≡ None
first_lost graph false hops_left picks = refl
first_lost graph true zero picks = refl
first_lost graph true (suc hops_left) picks = refl

walk_lost : (graph : List Vertex) (hops_left : ℕ) (picks : Picks) (v : ℕ) → vertex_at graph v ≡ vertices.Lost → walk graph hops_left picks v ≡ None
walk_lost graph hops_left picks v lost =
    walk_is graph hops_left picks v ∙ ap (walk_first graph true hops_left picks) lost ∙ first_lost graph true hops_left picks

-- a packet that has come over a link lowers its hop limit with the next one
pub family_lowers : (net : Network) (node : ℕ) (family : Family) (destination : ℕ)
    → lowers_by (way_of net (record { node = node; how = Arrived 0; family = family }) destination) ≡ true
unfolding way_of
family_lowers net node family destination = by_kind (is_multicast_of family destination)
  where
    by_hit : (h : Hit) → lowers_by (way_by_hit net true h) ≡ true
    by_hit (hits.Sid n) = refl
    by_hit hits.Address = refl
    by_hit (hits.Route n) = refl
    by_hit hits.Nothing = refl

    by_kind : (b : Bool) → lowers_by (if b then NoWay reasons.Multicast
        else way_by_hit net true (lookup_of net node 0 family destination)) ≡ true
    by_kind true = refl
    by_kind false = by_hit (lookup_of net node 0 family destination)

pub arrived_lowers : (net : Network) (node destination : ℕ) → lowers_by (way_of net (arrived node) destination) ≡ true
arrived_lowers net node destination = family_lowers net node families.V6 destination

pub walk_none : (net : Network) (fuel : ℕ) (content : Content) (pick : ℕ → ℕ) (taken : ℕ)
    → free_walk_of fuel net None content pick taken ≡ []
unfolding walk_by
walk_none net zero content pick taken = refl
walk_none net (suc fuel) content pick taken = refl

-- the choices that are left
abbrev pub ArePicks : Picks → (ℕ → ℕ) → ℕ → Type 0
ArePicks picks pick taken = (k : ℕ) → picks k ≡ pick (taken + k)

picks_later : (picks : Picks) (pick : ℕ → ℕ) (taken : ℕ) → ArePicks picks pick taken → ArePicks (later picks) pick (taken + 1)
picks_later picks pick taken same k =
    let n : taken + suc k ≡ taken + 1 + k = omega arith in same (suc k) ∙ ap pick n

module _ (net : Network) (keeps : Keeps net) (a : ℕ) (steps : List TraceStep) (numbers : Numbers) (graph : List Vertex)
    (is : IsGraph net a steps numbers graph) where
  -- where stages come by what the first gives
  abbrev comes_by : ℕ → Place → Packet → (ℕ → ℕ) → ℕ → List TraceStep → Gave → Option Coming
  comes_by more place p pick taken ts gave =
      option_and_then (coming_at net a numbers.code)
      (stop_by (ends_in net)
      (λ us. first_stop (ends_in net) us
      (free_walk_of more net (next_place net place gave.outcome) gave.after pick (taken + decisions gave.outcome)))
      ts (record { place = place; before = V6 p; gave = gave }) gave.outcome)

  stage_comes : (more : ℕ) (place : Place) (p : Packet) (pick : ℕ → ℕ) (taken : ℕ) (ts : List TraceStep) (gave : Gave)
      → free_step_of net place (V6 p) (pick taken) ≡ gave
      → coming net a numbers.code ts (free_walk_of (suc more) net (Some place) (V6 p) pick taken)
      ≡ comes_by more place p pick taken ts gave
  unfolding walk_by
  stage_comes more place p pick taken ts gave e = ap (comes_by more place p pick taken ts) e

  quiet_comes : (more : ℕ) (place : Place) (p : Packet) (pick : ℕ → ℕ) (taken : ℕ) (ts : List TraceStep) (gave : Gave) (w : Way)
      → SendsNothing gave.outcome → way_of net place a ≡ w
      → comes_by more place p pick taken ts gave
      ≡ coming_by numbers.code (record { stage = record { place = place; before = V6 p; gave = gave }; left = ts }) w
  quiet_comes more place p pick taken ts gave w quiet way =
      ap (option_and_then (coming_at net a numbers.code))
      (quiet_stops (ends_in net)
      (λ us. first_stop (ends_in net) us
      (free_walk_of more net (next_place net place gave.outcome) gave.after pick (taken + decisions gave.outcome)))
      ts (record { place = place; before = V6 p; gave = gave }) gave.outcome quiet)
      ∙ ap (coming_by numbers.code (record { stage = record { place = place; before = V6 p; gave = gave }; left = ts })) way

  -- at a node to which a packet came over a link, with so much hops_left
  abbrev pub ArrivedHolds : ℕ → Type 0
  ArrivedHolds hops_left = (fuel : ℕ) → hops_left < fuel → (ts : List TraceStep) → IsLeft steps ts → (node : ℕ) → node < length net.nodes
      → (p : Packet) → p.destination ≡ a → p.hop_limit - 1 ≡ hops_left → (pick : ℕ → ℕ) (picks : Picks) (taken : ℕ) → ArePicks picks pick taken
      → option_map coming_of (walk graph hops_left picks (numbers.vertex node (length ts)))
      ≡ coming net a numbers.code ts (free_walk_of fuel net (Some (arrived node)) (V6 p) pick taken)

  -- behind a link
  behind_link : (hops_left more : ℕ) → hops_left < more → ArrivedHolds hops_left → (place : Place) → place.family ≡ families.V6
      → (ts : List TraceStep) → IsLeft steps ts → (link : ℕ) (q : Packet) → q.destination ≡ a → q.hop_limit - 1 ≡ hops_left
      → (pick : ℕ → ℕ) (picks : Picks) (taken : ℕ) → ArePicks picks pick taken
      → (o : Option (List TraceStep)) → left_behind (ends_in net) ts (Crossed link) ≡ o → (e : Option ℕ) → ends_in net link ≡ e
      → option_map coming_of (walk graph hops_left picks (vertex_behind numbers o e))
      ≡ option_and_then (coming_at net a numbers.code)
      (option_and_then (λ us. first_stop (ends_in net) us (free_walk_of more net (arrival e place) (V6 q) pick taken)) o)
  behind_link hops_left more l holds place family ts left link q to_a low pick picks taken same None o_is e e_is =
      ap (option_map coming_of) (walk_lost graph hops_left picks numbers.lost is.lost)
  behind_link hops_left more l holds place family ts left link q to_a low pick picks taken same (Some us) o_is None e_is =
      ap (option_map coming_of) (walk_lost graph hops_left picks numbers.lost is.lost)
      ∙ ap (λ (ss : List Stage). option_and_then (coming_at net a numbers.code) (first_stop (ends_in net) us ss))
      (sym (walk_none net more (V6 q) pick taken))
  behind_link hops_left more l holds place family ts left link q to_a low pick picks taken same (Some us) o_is (Some node) e_is =
      holds more l us (left_on steps ts us (ends_in net) (Crossed link) left o_is) node (end_there net keeps link node e_is) q to_a low
      pick picks taken same
      ∙ ap (λ (f : Family). coming net a numbers.code us
      (free_walk_of more net (Some (record { node = node; how = Arrived 0; family = f })) (V6 q) pick taken)) (sym family)

  -- over a set, where the packet is sent on the member that the choice names
  over_comes : (hops_left more : ℕ) → hops_left < more → ArrivedHolds hops_left → (place : Place) → place.family ≡ families.V6
      → (ts : List TraceStep) → IsLeft steps ts → (set : List ℕ) → 0 < length set → (p q : Packet) → q.destination ≡ a → q.hop_limit - 1 ≡ hops_left
      → (pick : ℕ → ℕ) (picks : Picks) (taken : ℕ) → ArePicks picks pick taken
      → option_map coming_of (over (walk graph hops_left) picks (map (next_vertex net numbers ts) set))
      ≡ comes_by more place p pick taken ts (goes (outcomes.Send (member_of set (pick taken))) (V6 q))
  over_comes hops_left more l holds place family ts left set some p q to_a low pick picks taken same =
      let n : taken + 0 ≡ taken = omega arith in
      let first : picks 0 ≡ pick taken = same 0 ∙ ap pick n in
      ap (option_map coming_of) (over_map (walk graph hops_left) picks (next_vertex net numbers ts) set some)
      ∙ ap (λ (c : ℕ). option_map coming_of (walk graph hops_left (later picks) (next_vertex net numbers ts (member_of set c)))) first
      ∙ behind_link hops_left more l holds place family ts left (member_of set (pick taken)) q to_a low pick (later picks) (taken + 1)
      (picks_later picks pick taken same)
      (left_behind (ends_in net) ts (Crossed (member_of set (pick taken)))) refl (ends_in net (member_of set (pick taken))) refl

  -- where a packet comes by the way that its place gives it
  way_comes : (place : Place) → place.family ≡ families.V6 → (w : Way) → IsWayFrom net place.node w → way_of net place a ≡ w
      → (hops_left more : ℕ) → Behind (lowers_by w) hops_left (λ r. (r < more) × ArrivedHolds r)
      → (ts : List TraceStep) → IsLeft steps ts → (p : Packet) → p.destination ≡ a → p.hop_limit - 1 ≡ hops_left
      → (pick : ℕ → ℕ) (picks : Picks) (taken : ℕ) → ArePicks picks pick taken
      → free_step_of net place (V6 p) (pick taken) ≡ treated net place.node w p (pick taken)
      → option_map coming_of (walk_first graph (lowers_by w) hops_left picks (vertex_by net numbers ts w))
      ≡ coming net a numbers.code ts (free_walk_of (suc more) net (Some place) (V6 p) pick taken)
  way_comes place family (NoWay reason) from way hops_left more behind ts left p to_a low pick picks taken same gives =
      ap (option_map coming_of) (first_lost graph true hops_left picks)
      ∙ sym (stage_comes more place p pick taken ts (treated net place.node (NoWay reason) p (pick taken)) gives
      ∙ quiet_comes more place p pick taken ts (treated net place.node (NoWay reason) p (pick taken)) (NoWay reason) tt way)
  way_comes place family Own from way hops_left more behind ts left p to_a low pick picks taken same gives =
      ap (option_map coming_of) (first_lost graph true hops_left picks)
      ∙ sym (stage_comes more place p pick taken ts (treated net place.node Own p (pick taken)) gives
      ∙ quiet_comes more place p pick taken ts (treated net place.node Own p (pick taken)) Own
      (address_quiet net place.node p (at_address p)) way)
  way_comes place family (Into n) from way hops_left more behind ts left p to_a low pick picks taken same gives =
      ap (option_map coming_of) (first_stop_law graph true hops_left picks (numbers.code n (length ts)))
      ∙ ap (λ (r : ℕ). Some (record { answer = numbers.code n (length ts); hops_left = r })) (sym low)
      ∙ sym (stage_comes more place p pick taken ts (treated net place.node (Into n) p (pick taken)) gives
      ∙ quiet_comes more place p pick taken ts (treated net place.node (Into n) p (pick taken)) (Into n)
      (into_quiet net place.node n (slice_get net.sids n) p) way)
  way_comes place family (Over set false) from way hops_left more behind ts left p to_a low pick picks taken same gives =
      over_comes hops_left more behind.0 behind.1 place family ts left set from.some p p to_a low pick picks taken same
      ∙ sym (stage_comes more place p pick taken ts (goes (outcomes.Send (member_of set (pick taken))) (V6 p)) gives)
  way_comes place family (Over set true) from way zero more behind ts left p to_a low pick picks taken same gives =
      let few : p.hop_limit ≤ 1 = omega arith in
      let gave : Gave = dropped net place.node reasons.HopLimit 0 (V6 p) in
      ap (option_map coming_of) (over_nowhere picks (map (next_vertex net numbers ts) set))
      ∙ sym (stage_comes more place p pick taken ts gave (gives ∙ sent_low net place.node set p (pick taken) few)
      ∙ quiet_comes more place p pick taken ts gave (Over set true) tt way)
  way_comes place family (Over set true) from way (suc hops_left) more behind ts left p to_a low pick picks taken same gives =
      let many : 1 < p.hop_limit = omega arith in
      let q : Packet = lowered true p in
      let less : p.hop_limit - 1 - 1 ≡ hops_left = omega arith in
      over_comes hops_left more behind.0 behind.1 place family ts left set from.some p q to_a less pick picks taken same
      ∙ sym (stage_comes more place p pick taken ts (goes (outcomes.Send (member_of set (pick taken))) (V6 q))
      (gives ∙ sent_high net place.node set p (pick taken) many))

  place_comes : (place : Place) → place.family ≡ families.V6 → IsHow net place.node place.how
      → (hops_left more : ℕ) → Behind (lowers_by (way_of net place a)) hops_left (λ r. (r < more) × ArrivedHolds r)
      → (ts : List TraceStep) → IsLeft steps ts → (p : Packet) → p.destination ≡ a → p.hop_limit - 1 ≡ hops_left
      → (pick : ℕ → ℕ) (picks : Picks) (taken : ℕ) → ArePicks picks pick taken
      → option_map coming_of (walk_from graph hops_left picks (start_at net numbers ts place a))
      ≡ coming net a numbers.code ts (free_walk_of (suc more) net (Some place) (V6 p) pick taken)
  place_comes place family how hops_left more behind ts left p to_a low pick picks taken same =
      way_comes place family (way_of net place a) (way_from net place a keeps how) refl hops_left more behind ts left p to_a low
      pick picks taken same
      (ap (λ (d : ℕ). treated net place.node (way_of net place d) p (pick taken)) to_a)

  arrived_from : (hops_left more : ℕ) → Behind true hops_left (λ r. (r < more) × ArrivedHolds r) → (ts : List TraceStep) → IsLeft steps ts
      → (node : ℕ) → node < length net.nodes
      → (p : Packet) → p.destination ≡ a → p.hop_limit - 1 ≡ hops_left → (pick : ℕ → ℕ) (picks : Picks) (taken : ℕ) → ArePicks picks pick taken
      → option_map coming_of (walk graph hops_left picks (numbers.vertex node (length ts)))
      ≡ coming net a numbers.code ts (free_walk_of (suc more) net (Some (arrived node)) (V6 p) pick taken)
  arrived_from hops_left more behind ts left node there p to_a low pick picks taken same =
      let lowers = arrived_lowers net node a in
      ap (option_map coming_of)
      (walk_is graph hops_left picks (numbers.vertex node (length ts))
      ∙ ap (walk_first graph true hops_left picks) (is.at ts node left there)
      ∙ ap (λ (b : Bool). walk_first graph b hops_left picks (vertex_by net numbers ts (way_of net (arrived node) a))) (sym lowers))
      ∙ place_comes (arrived node) refl tt hops_left more
      (subst (λ (b : Bool). Behind b hops_left (λ r. (r < more) × ArrivedHolds r)) (sym lowers) behind) ts left p to_a low pick picks taken same

  pub arrived_holds : (hops_left : ℕ) → ArrivedHolds hops_left
  arrived_holds zero zero l ts left node there p to_a low pick picks taken same = absurd (omega arith)
  arrived_holds zero (suc more) l ts left node there p to_a low pick picks taken same =
      arrived_from zero more tt ts left node there p to_a low pick picks taken same
  arrived_holds (suc hops_left) zero l ts left node there p to_a low pick picks taken same = absurd (omega arith)
  arrived_holds (suc hops_left) (suc more) l ts left node there p to_a low pick picks taken same =
      arrived_from (suc hops_left) more (omega arith, arrived_holds hops_left) ts left node there p to_a low pick picks taken same

  pub start_comes : (place : Place) → place.family ≡ families.V6 → IsHow net place.node place.how → (fuel : ℕ)
      → (ts : List TraceStep) → IsLeft steps ts → (p : Packet) → p.destination ≡ a → p.hop_limit + 1 < fuel → (pick : ℕ → ℕ)
      → option_map coming_of (walk_from graph (p.hop_limit - 1) pick (start_at net numbers ts place a))
      ≡ coming net a numbers.code ts (free_walk_of fuel net (Some place) (V6 p) pick 0)
  start_comes place family how zero ts left p to_a l pick = absurd (omega arith)
  start_comes place family how (suc more) ts left p to_a l pick =
      place_comes place family how (p.hop_limit - 1) more
      (behind (lowers_by (way_of net place a)) (p.hop_limit - 1) (omega arith)) ts left p to_a refl pick pick 0
      (λ k. (let n : k ≡ 0 + k = omega arith in ap pick n))
    where
      behind : (b : Bool) (hops_left : ℕ) → hops_left < more → Behind b hops_left (λ r. (r < more) × ArrivedHolds r)
      behind false hops_left l = (l, arrived_holds hops_left)
      behind true zero l = tt
      behind true (suc hops_left) l = (omega arith, arrived_holds hops_left)
