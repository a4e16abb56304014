-- The legs along steps of which some may be loose keep the laws of legs.
use Rattle.std.proofs.Common.{◌≡◌, ℕ, ◌+◌, ◌-◌, ◌/◌, ◌%◌, ◌<◌, ◌≤◌, true, ◌==◌, nat_le, List, [], length, drop, Option, Some, None, slice_get, Contains, refl, sym, ◌∙◌, ap, subst, arith, eqb-true, length-append}
use Rattle.std.specs.Prelude.{is_some}
use Rattle.std.specs.Option.{option_map}
use Rattle.std.proofs.lemmas.Bool.{and_parts, leb-true}
use Rattle.std.proofs.lemmas.List.{length-drop}
use Rattle.v6_addr.specs.Address.{PrefixValue}
use Rattle.srv6_rules.specs.declared.sid.SidEntry.{SidEntry}
use Rattle.srv6_rules.specs.Packet.{Packet, V6}
use Rattle.net_model.specs.Network.{Network}
use Rattle.net_model.specs.NetworkKeeps.{Keeps}
use Rattle.walk_rules.specs.declared.place.Place.{Place}
use Rattle.walk_rules.specs.Walk.{free_walk_of}
use Rattle.walk_rules.proofs.PublicLaws.{way_into}
use Rattle.intent_reader.specs.declared.intent.Intent.{Intent}
use Rattle.intent_reader.proofs.PublicLaws.{sid_costs_few}
use Rattle.list_pack.specs.declared.types.Leg.{Leg}
use Rattle.list_pack.specs.LegsValueTerms.{IsFinishOf, IsLegOf, IsVia, KeepsLaws, comes_to}
use Rattle.intent_traces.specs.declared.trace_steps.TraceStep.{TraceStep}
use Rattle.choice_graph.specs.declared.vertices.Found.{Found}
use Rattle.choice_graph.proofs.GraphOptions.{some_same}
use Rattle.loose_walks.specs.WayGraphs.{found_in, numbers_of, start_at}
use Rattle.loose_walks.specs.WalkStops.{ends_in}
use Rattle.loose_walks.specs.WalkStopsTerms.{first_stop}
use Rattle.loose_walks.proofs.Nodes.{few_lowerings_from}
use Rattle.loose_walks.proofs.Reaching.{stop_left, where_found}
use Rattle.leg_table.specs.StrictLegs.{place_behind, place_from}
use Rattle.leg_table.specs.PositionSids.{is_middle, sid_address}
use Rattle.leg_table.specs.StrictTable.{shape_of}
use Rattle.leg_table.proofs.FlatNets.{FlatFacts}
use Rattle.leg_table.proofs.Shapes.{shape_is, shapes_share}
use Rattle.leg_table.proofs.StrictLaws.{comes_by, shape_address, shape_middle}
use Rattle.loose_spec.specs.LooseLegs.{finish_of, leg_of, left_after}
use Rattle.loose_spec.specs.LooseSids.{is_sid_at, is_origin, is_via, may_be, sid_suits, step_before}
use Rattle.loose_spec.specs.LooseSteps.{node_at, stand_after, steps_left}
use Rattle.loose_legs_theory.specs.LooseStepsTerms.{AreSteps}
use Rattle.loose_legs_theory.proofs.Always.{left_is_law}
use Rattle.loose_legs_theory.proofs.LooseSentenceStops.{stop_facts}
use Rattle.loose_legs_theory.proofs.LooseSentenceWays.{Way, finish_way, leg_way, start_at_law}
use Rattle.loose_spec.specs.LooseLegsValue.{loose_legs_value, sids_of}
use Rattle.loose_legs_theory.proofs.LooseLegPositions.{sid_contained, sids_few, sids_ordered}
use Rattle.loose_legs_theory.proofs.LooseLegStanding.{Stands, crossed_stands, end_sid, first_of, first_drop, may_here, start_stands}

-- a packet to an address, with a hop limit
packet_to : ℕ → ℕ → Packet
packet_to destination limit =
    record {
      traffic_class = 0;
      flow_label = 0;
      next_header = 59;
      hop_limit = limit;
      source = 0;
      destination = destination;
      payload = [];
    }

module _ (net : Network) (keeps : Keeps net) (intent : Intent) (steps : List TraceStep) (are : AreSteps net intent steps) where
  abbrev A : ℕ → Option ℕ → ℕ → Type 0
  A = Way net keeps intent steps are

  -- ---- starts

  via_stands : (position : ℕ) (via : Option ℕ) (place : Place) → is_origin net intent steps position via ≡ true
      → place_from net intent via ≡ Some place → Stands net intent steps (drop position steps) place
  via_stands position None place start from =
      let parts = and_parts (nat_le position (length steps)) (position == 0) start in
      let zero_is : position ≡ 0 = eqb-true position 0 parts.1 in
      let at : intent.headend ≡ place.node = ap (λ (p : Place). p.node) (some_same _ place from) in
      start_stands net intent steps position place are.stands
      (λ node is opens.
      let here : intent.headend ≡ node
      = some_same intent.headend node (ap (λ (k : ℕ). node_at net intent steps k) (sym zero_is) ∙ is) in
      let same : place.node ≡ node = sym at ∙ here in
      first_may position node place same opens)
    where
      first_may : (position node : ℕ) (place : Place) → place.node ≡ node → is_some (stand_after net node (drop position steps)) ≡ true
          → may_be (slice_get steps position) (Some node) place.node ≡ true
      first_may position node place same opens =
          ap (λ (o : Option TraceStep). may_be o (Some node) place.node) (first_drop net intent steps steps position)
          ∙ ap (may_be (first_of (drop position steps)) (Some node)) same ∙ may_here net node (drop position steps) opens
  via_stands position (Some v) place start from =
      let parts = and_parts (nat_le position (length steps)) (is_via net intent steps position (Some v)) start in
      let at = and_parts (is_sid_at net intent steps position v) (is_middle net v) parts.1 in
      by_sid (slice_get net.sids v) at.0 from
    where
      by_sid : (o : Option SidEntry)
          → sid_suits v (slice_get steps position) (node_at net intent steps position) (step_before steps position) o ≡ true
          → option_map (place_behind v) o ≡ Some place → Stands net intent steps (drop position steps) place
      by_sid None at from = absurd (cc)
      by_sid (Some s) at from =
          let may = (and_parts (may_be (slice_get steps position) (node_at net intent steps position) s.node) _ at).0 in
          let same : s.node ≡ place.node = ap (λ (p : Place). p.node) (some_same (place_behind v s) place from) in
          start_stands net intent steps position place are.stands
          (λ node is opens. (ap (λ (k : ℕ). may_be (slice_get steps position) (Some node) k) (sym same)
          ∙ ap (λ (o : Option ℕ). may_be (slice_get steps position) o s.node) (sym is) ∙ may))

  -- ---- where a way ends

  record Ends (position next : ℕ) (left : ℕ) : Type 0 where
    within : left ≤ length steps - position
    is_sid : is_sid_at net intent steps (length steps - left) next ≡ true

  way_ends : (position : ℕ) (via : Option ℕ) (next : ℕ) (w : A position via next) → Ends position next w.left
  unfolding packet_to
  way_ends position via next w =
      let s = start_at_law net keeps intent steps are position via w.place w.start w.from in
      let a = sid_address net next in
      let p = packet_to a (w.found.most + 1) in
      let sid : w.found.answer / 64 ≡ next = w.sid in
      let c =
      (where_found net steps (length steps - position) w.place p (p.hop_limit + 2) next (w.found.answer % 64) 0 keeps are.few (omega arith)
      s.is_place s.family (omega arith)).1 (w.found, w.there, omega (arith, sid), omega arith) (λ d. 0) in
      let back : length steps - (length steps - position) ≡ position = (let l = s.within in omega (arith, l)) in
      let first : first_stop (ends_in net) (drop position steps) (free_walk_of (p.hop_limit + 2) net (Some w.place) (V6 p) (λ d. 0) 0)
      ≡ Some c.stop
      = ap (λ (k : ℕ). first_stop (ends_in net) (drop k steps) (free_walk_of (p.hop_limit + 2) net (Some w.place) (V6 p) (λ d. 0) 0))
      (sym back) ∙ c.first in
      let x =
      stop_facts net p (Stands net intent steps)
      (λ ts us at set lower link node way left end holds. crossed_stands net intent steps ts us at link node left end holds)
      (p.hop_limit + 2) p.hop_limit w.place (λ d. 0) 0 (drop position steps) c.stop (via_stands position via w.place w.start w.from)
      first in
      let there = way_into net c.stop.stage.place a next c.into in
      let stands : Stands net intent steps c.stop.left c.stop.stage.place = x.holds in
      let left_is : steps_left steps (w.found.answer % 64) ≡ c.stop.left
      = ap (steps_left steps) (sym c.steps) ∙ left_is_law steps c.stop.left stands.left in
      let behind : left_after net next c.stop.left ≡ Some w.left = ap (left_after net next) (sym left_is) ∙ w.behind in
      let e = end_sid net intent steps next w.left c.stop.left there.sid c.stop.stage.place there.is_there there.stands stands behind in
      let l = stop_left (ends_in net) (drop position steps) _ c.stop first in
      let long : length (drop position steps) ≡ length l.0 + length c.stop.left = ap length l.1 ∙ length-append l.0 c.stop.left in
      let all : length (drop position steps) ≡ length steps - position = length-drop position steps in
      let few : w.left ≤ length c.stop.left = e.few in
      record { within = omega (arith, long, all, few); is_sid = e.is_sid }

  few_hops : (position : ℕ) (via : Option ℕ) (next : ℕ) (w : A position via next) → w.found.most ≤ 256
  few_hops position via next w =
      let l =
      few_lowerings_from net keeps (sid_address net next) steps
      (start_at net (numbers_of net (length steps)) (drop (length steps - (length steps - position)) steps) w.place (sid_address net next))
      w.found w.there in
      let few : length net.nodes ≤ 256 = keeps.node_count in
      omega (arith, l, few)

  via_is_law : (position : ℕ) (via : Option ℕ) → is_origin net intent steps position via ≡ true
      → (position ≤ length steps) × IsVia (loose_legs_value net intent steps) position via
  via_is_law position None start =
      let parts = and_parts (nat_le position (length steps)) (position == 0) start in
      (leb-true position (length steps) parts.0, eqb-true position 0 parts.1)
  via_is_law position (Some v) start =
      let parts = and_parts (nat_le position (length steps)) (is_via net intent steps position (Some v)) start in
      let at = and_parts (is_sid_at net intent steps position v) (is_middle net v) parts.1 in (
        leb-true position (length steps) parts.0,
        (sid_contained net keeps intent steps position v at.0, shape_middle net.blocks (slice_get net.sids v) ∙ at.1),
      )

  -- ---- the laws

  law_leg : (position : ℕ) (via : Option ℕ) (next : ℕ) (leg : Leg) → leg_of net intent steps position via next ≡ Some leg
      → IsLegOf (loose_legs_value net intent steps) position via next leg
  law_leg position via next leg h =
      let g = leg_way net keeps intent steps are position via next leg h in
      let w = g.1 in
      let v = via_is_law position via w.start in
      let e = way_ends position via next w in
      let within : w.left ≤ length steps - position = e.within in
      let low : w.found.most ≤ 256 = few_hops position via next w in
      let here : position ≤ length steps = v.0 in
      subst (IsLegOf (loose_legs_value net intent steps) position via next) g.2
      (record {
        start = v.0;
        from_via = v.1;
        forward = omega (arith, within, here);
        within = omega arith;
        is_next = sid_contained net keeps intent steps (length steps - w.left) next e.is_sid;
        middle = shape_middle net.blocks (slice_get net.sids next) ∙ g.0;
        hops = omega (arith, low);
      })

  law_finish : (position : ℕ) (via : Option ℕ) (next lowered : ℕ) → finish_of net intent steps position via next ≡ Some lowered
      → IsFinishOf (loose_legs_value net intent steps) position via next lowered
  law_finish position via next lowered h =
      let g = finish_way net keeps intent steps are position via next lowered h in
      let w = g.1 in
      let v = via_is_law position via w.start in
      let e = way_ends position via next w in
      let low : w.found.most ≤ 256 = few_hops position via next w in
      let none : w.left ≡ 0 = g.3 in
      let most : w.found.most ≡ lowered = g.2 in
      let last : length steps - w.left ≡ length steps = omega (arith, none) in
      record {
        start = v.0;
        from_via = v.1;
        is_next =
            subst (λ (k : ℕ). Contains (sids_of net intent steps k) next) last
            (sid_contained net keeps intent steps (length steps - w.left) next e.is_sid);
        hops = omega (arith, low, most);
      }

  -- what comes to a SID is a way
  comes_way : (position : ℕ) (via : Option ℕ) (next : ℕ) → comes_to (loose_legs_value net intent steps) position via next ≡ true
      → A position via next
  comes_way position via next h =
      comes_by (loose_legs_value net intent steps) (A position via next) position via next
      (λ leg e. (leg_way net keeps intent steps are position via next leg e).1)
      (λ lowered e. (finish_way net keeps intent steps are position via next lowered e).1) h

  -- ways to one address are one
  same_found : (position : ℕ) (via : Option ℕ) (next other : ℕ) (w : A position via next) (v : A position via other)
      → sid_address net next ≡ sid_address net other → w.found ≡ v.found
  same_found position via next other w v address =
      let place : w.place ≡ v.place = some_same w.place v.place (sym w.from ∙ v.from) in
      some_same w.found v.found
      (sym w.there ∙ ap (λ (d : ℕ). found_in net d steps (length steps - position) w.place) address
      ∙ ap (found_in net (sid_address net other) steps (length steps - position)) place ∙ v.there)

  law_one : (position : ℕ) (via : Option ℕ) (next other : ℕ) → comes_to (loose_legs_value net intent steps) position via next ≡ true
      → comes_to (loose_legs_value net intent steps) position via other ≡ true → (shape_of net next).prefix ≡ (shape_of net other).prefix
      → next ≡ other
  law_one position via next other h k e =
      let w = comes_way position via next h in
      let v = comes_way position via other k in
      let address : sid_address net next ≡ sid_address net other
      = sym (shape_address net.blocks (slice_get net.sids next)) ∙ ap (λ (p : PrefixValue). p.value) e
      ∙ shape_address net.blocks (slice_get net.sids other) in
      sym w.sid ∙ ap (λ (f : Found). f.answer / 64) (same_found position via next other w v address) ∙ v.sid

  -- a leg lowers at the execution too, and a finish on the same way does not
  law_above : (position : ℕ) (via : Option ℕ) (next : ℕ) (leg : Leg) (lowered : ℕ) → leg_of net intent steps position via next ≡ Some leg
      → finish_of net intent steps position via next ≡ Some lowered → lowered < leg.hops
  law_above position via next leg lowered h k =
      let a = leg_way net keeps intent steps are position via next leg h in
      let b = finish_way net keeps intent steps are position via next lowered k in
      let hops : a.1.found.most + 1 ≡ leg.hops = ap (λ (l : Leg). l.hops) a.2 in
      let same : a.1.found.most ≡ b.1.found.most = ap (λ (f : Found). f.most) (same_found position via next next a.1 b.1 refl) in
      let most : b.1.found.most ≡ lowered = b.2 in
      omega (arith, hops, same, most)

  pub loose_laws : FlatFacts net → length net.sids ≤ 128 → KeepsLaws (loose_legs_value net intent steps)
  loose_laws facts few =
      record {
        steps = are.few;
        sid_cost = sid_costs_few intent.prefer;
        sids_count = λ position within. (let l = sids_few net keeps intent steps position in omega (arith, l, few));
        sids_order = λ position within. sids_ordered net keeps intent steps position;
        shapes = λ n is_sid. shape_is net keeps facts n;
        blocks = λ n m is_sid is_other same. shapes_share net keeps n m same;
        leg = law_leg;
        finish = law_finish;
        one_of_prefix = law_one;
        above_finish = law_above;
      }
