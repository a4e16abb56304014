-- Legs and finishes through binding SIDs are there exactly as their sentences say.
use Rattle.std.proofs.Common.{◌≡◌, ℕ, ◌+◌, ◌-◌, ◌<◌, ◌≤◌, ◌⊎◌, inl, inr, true, List, [], ◌∷◌, drop, length, Option, Some, None, slice_get, refl, sym, ap, ◌∙◌, subst, arith}
use Rattle.std.specs.Prelude.{◌↔◌}
use Rattle.std.proofs.lemmas.Bool.{and_from, and_parts, cases_lt}
use Rattle.std.proofs.lemmas.List.{length-drop}
use Rattle.std.proofs.lemmas.Option.{same_Some}
use Rattle.srv6_rules.specs.declared.family.Family.TheVariants as families
use Rattle.srv6_rules.specs.declared.sid.SidEntry.{SidEntry}
use Rattle.srv6_rules.specs.Behaviours.{goes_on}
use Rattle.srv6_rules.specs.Packet.{Packet, Content}
use Rattle.srv6_rules.specs.Endpoint.{Endpoint, Onward, at_sid}
use Rattle.net_model.specs.Network.{Network}
use Rattle.net_model.specs.NetworkKeeps.{Keeps}
use Rattle.walk_rules.specs.declared.place.Place.{Place}
use Rattle.walk_rules.specs.Treatment.{allow_of}
use Rattle.walk_rules.specs.Walk.{choice_at}
use Rattle.walk_rules.specs.Way.{Into, way_of}
use Rattle.intent_reader.specs.IntentRulesTerms.{IsIntent}
use Rattle.intent_reader.specs.declared.intent.Step.{Step}
use Rattle.intent_reader.specs.declared.intent.Intent.{Intent}
use Rattle.list_pack.specs.declared.types.Leg.{Leg}
use Rattle.leg_table.specs.StrictLegs.{leg_with}
use Rattle.leg_table.specs.StrictLegsTerms.{is_onward}
use Rattle.leg_table.specs.Transits.{Transit}
use Rattle.leg_table.specs.TransitsTerms.{with_hop_limit}
use Rattle.leg_table.specs.Transits as transits
use Rattle.leg_table.specs.PositionSids.{sid_address}
use Rattle.leg_table.specs.StepMatching.{left_after}
use Rattle.leg_table.specs.WalkTrace.{TraceEvent, executed}
use Rattle.leg_table.proofs.HopLimits.{steps_on}
use Rattle.leg_table.proofs.TransitFacts.{transit_facts_law}
use Rattle.leg_table.proofs.StrictArrivals.{into_stands}
use Rattle.binding_spec.specs.Machines.{End, left_by, end_with}
use Rattle.tunnel_walks_theory.specs.MachinesTerms.{Got}
use Rattle.tunnel_walks_theory.specs.TunnelChoices.{EndsWith, Reaches}
use Rattle.tunnel_walks_theory.specs.TunnelPacketsTerms.{Tunnelled, Met, met_bottom, met_by, met_move, open_at}
use Rattle.tunnel_walks_theory.proofs.PublicLaws.{map_parts, map_from, choices_one, choices_agree, one_each, met_joined, end_same}
use Rattle.binding_spec.specs.NetworkWorld.{look_at_sid, look_in, step_events}
use Rattle.tunnel_network_theory.specs.FirstExecutions.{MetOwn, met_of, met_content, met_below}
use Rattle.tunnel_network_theory.specs.NetworkTransits.{ended_at}
use Rattle.tunnel_network_theory.proofs.NetworkHanding.{left_same}
use Rattle.binding_spec.specs.declared.origin.Origin.{Origin}
use Rattle.binding_spec.specs.Origins.{leads_on, binding_origin}
use Rattle.binding_spec.specs.BindingLegsValue.{binding_leg}
use Rattle.binding_legs_theory.specs.BindingKind.{onward_of, own_limit}
use Rattle.binding_legs_theory.specs.BindingSentences.{may_go_on, takes_further, ComesTo, AlwaysComes, IsBindingLeg}
use Rattle.binding_legs_theory.proofs.BindingMeaningMachine.{network_world, GoesOnAs, met_machine, onward_goes}
use Rattle.binding_legs_theory.proofs.BindingMeaningBeginnings.{Begins, begins}
use Rattle.binding_legs_theory.proofs.BindingMeaningExecuted.{goes_on_from, left_executed, executed_left}
use Rattle.binding_legs_theory.proofs.Leading.{joined_at, transit_ends, ends_with, first_transit}
use Rattle.binding_legs_theory.proofs.BindingSentenceTests.{looked, origin_tests, tests_via, head_same}
use Rattle.binding_legs_theory.proofs.BindingMeaningStarting.{origins_one}
use Rattle.binding_legs_theory.proofs.OriginWays.{leg_parts, leg_from, leads_on_sid}
use Rattle.binding_legs_theory.proofs.BindingMeaningWays.{there}

-- ---- the one walk of what is met for all choices

module _ (net : Network) (keeps : Keeps net) (intent : Intent) (is_intent : IsIntent net intent) where
  abbrev MetEnd : Type 0
  MetEnd = End Step ℕ (Met Place Packet Content)

  abbrev limit_of : MetEnd → Option ℕ
  limit_of e = own_limit (met_content e.result) (met_below e.result)

  record OneMet (position : ℕ) (d : Tunnelled Place Packet) (n left : ℕ) (limit : ℕ) : Type 0 where
    end : MetEnd
    ends : EndsWith step_events (met_move (network_world net)) (drop position intent.steps) d end
    sids : end.sids ≡ n ∷ []
    left_is : length end.left ≡ left
    limit_is : limit_of end ≡ Some limit

  one_met : (position : ℕ) (p : Packet) (d : Tunnelled Place Packet) → GoesOnAs p d → (n left limit : ℕ)
      → AlwaysComes net (drop position intent.steps) (Some d) n left limit → OneMet position d n left limit
  one_met position p d goes n left limit all =
      let ts = drop position intent.steps in
      let reached : (choices : List ℕ) (h : ComesTo net ts d n left limit choices)
      → (g : Got TraceEvent ℕ (Met Place Packet Content)) × Reaches step_events (met_move (network_world net)) ts d (choice_at choices)
      = λ choices h.
      let m = h.meets in
      let a = map_parts met_of _ m.met (sym (met_machine net p d goes m.fuel (choice_at choices)) ∙ m.own) in (
        a.0,
        record {
          fuel = m.fuel;
          got = a.0;
          left = m.left;
          gives = a.1;
          along = ap (λ (m : MetOwn). left_by step_events ts m.trace) a.2 ∙ sym (left_same ts m.met.trace) ∙ m.along;
        },
      ) in
      let one = choices_one step_events (met_move (network_world net)) ts d (λ choices some. (reached choices (all choices some)).1) in
      let h = all (0 ∷ []) (omega arith) in
      let m = h.meets in
      let a = map_parts met_of _ m.met (sym (met_machine net p d goes m.fuel (choice_at (0 ∷ []))) ∙ m.own) in
      let same = choices_agree step_events (met_move (network_world net)) ts d
      (met_joined (network_world net) ts (joined_at net keeps intent is_intent position)) one (choice_at (0 ∷ []))
      (record {
        fuel = m.fuel;
        got = a.0;
        left = m.left;
        gives = a.1;
        along = ap (λ (m : MetOwn). left_by step_events ts m.trace) a.2 ∙ sym (left_same ts m.met.trace) ∙ m.along;
      }) in
      record {
        end = one.end;
        ends = (one.fuel, one.gives);
        sids = sym same.sids ∙ ap (λ (m : MetOwn). m.sids) a.2 ∙ h.sid;
        left_is = ap length (sym same.left) ∙ h.left_is;
        limit_is =
            ap (λ (x : Met Place Packet Content). own_limit (met_content x) (met_below x)) (sym same.result)
            ∙ ap (λ (m : MetOwn). own_limit m.content m.below) a.2 ∙ h.limit_is;
      }

  -- ---- a transit to a SID that takes the packet further

  module _ (position : ℕ) (via : Option ℕ) (p : Packet) (st : Origin) (b : Begins net keeps intent is_intent position via p st) (n : ℕ)
      (s : SidEntry) (at : slice_get net.sids n ≡ Some s) (r : Transit)
      (transit : transits.transit_of net p.destination (drop st.done intent.steps) st.place ≡ Some r) (is_sid : r.sid ≡ n) (left : ℕ)
      (left_is : left_after net n r.left ≡ Some left) (on : is_onward (at_sid s [] (with_hop_limit 2 p)) ≡ true) where
    into : way_of net r.place p.destination ≡ Into n
    into = (transit_facts_law net keeps p.destination (drop st.done intent.steps) st.place r b.facts.how b.facts.rest transit).into ∙ ap Into is_sid

    node : s.node ≡ r.place.node
    node =
        let stands = into_stands net keeps intent is_intent r.place p.destination n into in
        ap (λ (e : SidEntry). e.node) (same_Some _ _ (sym at ∙ stands.1)) ∙ stands.2

    family : r.place.family ≡ families.V6
    family =
        (transit_facts_law net keeps p.destination (drop st.done intent.steps) st.place r b.facts.how b.facts.rest transit).family ∙ b.facts.family

    abbrev allow : List ℕ
    allow = allow_of (slice_get net.nodes r.place.node)

    look_is : (o : Endpoint) → at_sid s allow (there p r) ≡ o
        → look_in net r.place n (slice_get net.sids n) (there p r) ≡ look_at_sid net r.place n s.behaviour o
    look_is o is =
        ap (λ (x : Option SidEntry). look_in net r.place n x (there p r)) at ∙ ap (look_at_sid net r.place n s.behaviour) is

    -- above the lowerings, the execution among them, all choices come to it
    pub comes_up : r.lowered + 1 < p.hop_limit
        → AlwaysComes net (drop position intent.steps) (Some b.deep) n left (p.hop_limit - (r.lowered + 1))
    comes_up high =
        let got = (steps_on s p on).high allow (p.hop_limit - r.lowered) (omega (arith, high)) in
        let from = goes_on_from net intent keeps r.place n s got.0 at node family in
        let behind = left_executed net n r.left left left_is in
        let e : MetEnd = end_with (n ∷ []) from.met behind.0 in
        let one_transit = transit_ends net keeps intent is_intent st p n r b.facts.how transit is_sid (omega (arith, high)) _ from.met
        (look_is (Onward got.0) got.1) from.looks behind.0 behind.1.left in
        let ends = b.met e (ends_with net keeps intent is_intent (drop st.done intent.steps) st.place p e one_transit) in
        λ choices some.
        let one = one_each step_events (met_move (network_world net)) ends.0 (drop position intent.steps) b.deep (choice_at choices) 0 e
        (met_joined (network_world net) (drop position intent.steps) (joined_at net keeps intent is_intent position)) ends.1 in
        let limit : got.0.hop_limit ≡ p.hop_limit - (r.lowered + 1) = got.2 ∙ omega arith in
        record {
          meets = record {
            fuel = ends.0;
            met = met_of one.got;
            left = behind.0;
            own = met_machine net p b.deep b.goes ends.0 (choice_at choices) ∙ map_from met_of one.gives refl;
            along = left_same (drop position intent.steps) one.got.trace ∙ one.along;
          };
          sid = one.sids;
          left_is = behind.2;
          limit_is =
              ap (λ (x : Met Place Packet Content). own_limit (met_content x) (met_below x)) one.result
              ∙ from.limit ∙ ap Some limit;
        }

    -- and only above them
    pub comes_down : (e : MetEnd) → 0 < p.hop_limit
        → EndsWith step_events (met_move (network_world net)) (drop st.done intent.steps) (open_at st.place p) e
        → r.lowered + 1 < p.hop_limit
    comes_down e positive ends =
        let f = first_transit net keeps intent is_intent st p e b.facts.how positive ends in
        let same : f.transit ≡ r = same_Some _ _ (sym f.is_transit ∙ transit) in
        let ended : ended_at r.left (met_by (network_world net) (look_in net r.place r.sid (slice_get net.sids r.sid) (there p r))) ≡ Some e
        = subst (λ (r : Transit). ended_at r.left (met_by (network_world net)
        (look_in net r.place r.sid (slice_get net.sids r.sid) (there p r))) ≡ Some e) same f.ended in
        let low : r.lowered < p.hop_limit = subst (λ (r : Transit). r.lowered < p.hop_limit) same f.low in
        by_limit (subst (λ (i : ℕ). ended_at r.left (met_by (network_world net)
        (look_in net r.place i (slice_get net.sids i) (there p r))) ≡ Some e) is_sid ended) low (cases_lt 1 (p.hop_limit - r.lowered))
      where
        by_limit : ended_at r.left (met_by (network_world net) (look_in net r.place n (slice_get net.sids n) (there p r))) ≡ Some e
            → r.lowered < p.hop_limit → (1 < p.hop_limit - r.lowered) ⊎ (p.hop_limit - r.lowered ≤ 1) → r.lowered + 1 < p.hop_limit
        by_limit ended low (inl high) = omega (arith, high)
        by_limit ended low (inr few) =
            let lost : None ≡ Some e
            = sym (ap (λ l. ended_at r.left (met_by (network_world net) l))
            (look_is _ ((steps_on s p on).low allow (p.hop_limit - r.lowered) few))) ∙ ended in
            absurd (cc)

  -- ---- legs

  -- transits to an address are those to the first address of a SID's prefix
  abbrev pub Same : ℕ → ℕ → Type 0
  Same address next = (s : SidEntry) → slice_get net.sids next ≡ Some s → (ts : List Step) (place : Place) → place.family ≡ families.V6
      → transits.transit_of net address ts place ≡ transits.transit_of net (sid_address net next) ts place

  further : (n : ℕ) (s : SidEntry) (p : Packet) → slice_get net.sids n ≡ Some s → takes_further (slice_get net.sids n) p ≡ true
      → is_onward (at_sid s [] (with_hop_limit 2 p)) ≡ true
  further n s p at on = (and_parts (goes_on s) _ (sym (ap (λ (o : Option SidEntry). takes_further o p) at) ∙ on)).1

  from_where : (ts : List Step) (o : Option (Tunnelled Place Packet)) (n left limit : ℕ) → AlwaysComes net ts o n left limit
      → (d : Tunnelled Place Packet) × (o ≡ Some d) × AlwaysComes net ts (Some d) n left limit
  from_where ts None n left limit h = absurd h
  from_where ts (Some d) n left limit h = (d, refl, h)

  module _ (address position : ℕ) (via : Option ℕ) (next : ℕ) (alike : Same address next) where
    -- a leg is as its sentence says
    leg_is : (leg : Leg) → binding_leg net intent position via next ≡ Some leg → IsBindingLeg net intent address position via next leg
    leg_is leg h =
        let l = leg_parts net intent position via next leg h in
        let r : Transit = l.way.transit in
        let st : Origin = l.way.origin in
        let s = leads_on_sid net next l.leads in
        let hops : r.lowered + 1 ≡ leg.hops = ap (λ (l : Leg). l.hops) l.is in
        let to : length intent.steps - l.left ≡ leg.to = ap (λ (l : Leg). l.to) l.is in
        record {
          origin = origin_tests net keeps intent position via st l.way.origins;
          leads = l.leads;
          within = omega (arith, to);
          taken = λ p is on positive.
              let b = begins net keeps intent is_intent position via p st l.way.origins in
              let transit = ap (λ (d : ℕ). transits.transit_of net d (drop st.done intent.steps) st.place) is
              ∙ alike s.0 s.1 (drop st.done intent.steps) st.place b.facts.family ∙ l.way.is_transit in
              let f = transit_facts_law net keeps p.destination (drop st.done intent.steps) st.place r b.facts.how b.facts.rest transit in
              let goes = further next s.0 p s.1 on in
              let behind = left_executed net next r.left l.left l.way.left_is in
              let few : l.left ≤ length intent.steps = left_few st.done r.left behind.0 l.left f.count f.left behind.2 behind.1.few in
              let left : l.left ≡ length intent.steps - leg.to = omega (arith, to, few) in (
                λ high.
                    let up = comes_up position via p st b next s.0 s.1 r transit l.way.sid l.left l.way.left_is goes
                    (omega (arith, high, hops)) in
                    subst (λ o. AlwaysComes net (drop position intent.steps) o next (length intent.steps - leg.to) (p.hop_limit - leg.hops))
                    (sym b.from)
                    (subst (λ (n : ℕ). AlwaysComes net (drop position intent.steps) (Some b.deep) next n (p.hop_limit - leg.hops)) left
                    (subst (λ (n : ℕ). AlwaysComes net (drop position intent.steps) (Some b.deep) next l.left (p.hop_limit - n)) hops up)),
                λ all.
                    let one = one_met position p b.deep b.goes next (length intent.steps - leg.to) (p.hop_limit - leg.hops)
                    (subst (λ o. AlwaysComes net (drop position intent.steps) o next (length intent.steps - leg.to)
                    (p.hop_limit - leg.hops))
                    b.from all) in
                    let high = comes_down position via p st b next s.0 s.1 r transit l.way.sid l.left l.way.left_is goes one.end positive
                    (b.met_back one.end one.ends) in
                    subst (λ (n : ℕ). n < p.hop_limit) hops high,
              );
        }
      where
        left_few : (done : ℕ) (ts us : List Step) (left count : ℕ) → ts ≡ drop count (drop done intent.steps) → length us ≡ left
            → length us ≤ length ts → left ≤ length intent.steps
        left_few done ts us left count from long few =
            let a = ap length from in
            let b = length-drop count (drop done intent.steps) in
            let c = length-drop done intent.steps in
            omega (arith, a, b, c, long, few)

    leg_same : (count lowered left : ℕ) (leg : Leg) → count - left ≡ leg.to → lowered + 1 ≡ leg.hops
        → Some (leg_with count lowered left) ≡ Some leg
    leg_same count lowered left leg to hops =
        ap (λ (n : ℕ). Some (record { to = n; hops = lowered + 1 })) to ∙ ap (λ (n : ℕ). Some (record { to = leg.to; hops = n })) hops

    abbrev behind_leg : Leg → ℕ
    behind_leg leg = length intent.steps - leg.to

    -- a packet that is taken further, and comes to the SID by a transit from an origin: there is the leg
    by_transit : (leg : Leg) → leg.to ≤ length intent.steps → leads_on net next ≡ true → (s : SidEntry) (at : slice_get net.sids next ≡ Some s)
        → (p : Packet) → p.destination ≡ address → p.hop_limit ≡ leg.hops + 1 → is_onward (at_sid s [] (with_hop_limit 2 p)) ≡ true
        → (d : Tunnelled Place Packet) → onward_of net intent via p ≡ Some d → OneMet position d next (behind_leg leg) (p.hop_limit - leg.hops)
        → (st : Origin) (origins : binding_origin net intent position via ≡ Some st) (r : Transit)
        → transits.transit_of net p.destination (drop st.done intent.steps) st.place ≡ Some r → r.sid ≡ next
        → left_after net next r.left ≡ Some (behind_leg leg) → (e : MetEnd)
        → EndsWith step_events (met_move (network_world net)) (drop st.done intent.steps) (open_at st.place p) e
        → binding_leg net intent position via next ≡ Some leg
    by_transit leg within leads s at p is limit on d from one st origins r transit is_sid left_is e ends =
        let b = begins net keeps intent is_intent position via p st origins in
        let left : ℕ = behind_leg leg in
        let positive : 0 < p.hop_limit = omega (arith, limit) in
        let deeper = comes_down position via p st b next s at r transit is_sid left left_is on e positive ends in
        let up = comes_up position via p st b next s at r transit is_sid left left_is on deeper in
        let other = one_met position p b.deep b.goes next left (p.hop_limit - (r.lowered + 1)) up in
        let there_ends = subst (λ (d : Tunnelled Place Packet). EndsWith step_events (met_move (network_world net))
        (drop position intent.steps) d
        other.end) (same_Some _ _ (sym b.from ∙ from)) other.ends in
        let same : other.end ≡ one.end
        = end_same step_events (met_move (network_world net)) there_ends.0 one.ends.0 (drop position intent.steps) d other.end one.end
        there_ends.1 one.ends.1 in
        let limits : p.hop_limit - (r.lowered + 1) ≡ p.hop_limit - leg.hops
        = same_Some _ _ (sym other.limit_is ∙ ap limit_of same ∙ one.limit_is) in
        let to_address = sym (ap (λ (d : ℕ). transits.transit_of net d (drop st.done intent.steps) st.place) is
        ∙ alike s at (drop st.done intent.steps) st.place b.facts.family) ∙ transit in
        leg_from net intent position via next left
        (record { origin = st; origins = origins; transit = r; is_transit = to_address; sid = is_sid; left_is = left_is }) leads
        ∙ leg_same (length intent.steps) r.lowered left leg (omega (arith, within)) (omega (arith, limits, limit, deeper))

    -- what its sentence says is a leg, where some packet to the address is taken further
    is_leg : ((s : SidEntry) → slice_get net.sids next ≡ Some s → goes_on s ≡ true → (limit : ℕ)
        → (p : Packet) × (p.destination ≡ address) × (p.hop_limit ≡ limit) × (is_onward (at_sid s [] (with_hop_limit 2 p)) ≡ true))
        → (leg : Leg) → IsBindingLeg net intent address position via next leg → binding_leg net intent position via next ≡ Some leg
    is_leg witness leg i =
        let s = leads_on_sid net next i.leads in
        let some = witness s.0 s.1 s.2 (leg.hops + 1) in
        let p : Packet = some.0 in
        let limit : p.hop_limit ≡ leg.hops + 1 = some.2 in
        let on : takes_further (slice_get net.sids next) p ≡ true
        = ap (λ (o : Option SidEntry). takes_further o p) s.1 ∙ and_from (goes_on s.0) _ s.2 some.3 in
        let positive : 0 < p.hop_limit = omega (arith, limit) in
        let all = from_where (drop position intent.steps) (onward_of net intent via p) next (behind_leg leg) (p.hop_limit - leg.hops)
        ((i.taken p some.1 on positive).0 (omega (arith, limit))) in
        by_packet leg i.within i.leads i.origin s.0 s.1 p some.1 limit some.3 all.0 all.1 all.2
      where
        by_end : (leg : Leg) → leg.to ≤ length intent.steps → leads_on net next ≡ true
            → (s : SidEntry) (at : slice_get net.sids next ≡ Some s)
            → (p : Packet) → p.destination ≡ address → p.hop_limit ≡ leg.hops + 1 → is_onward (at_sid s [] (with_hop_limit 2 p)) ≡ true
            → (d : Tunnelled Place Packet) → onward_of net intent via p ≡ Some d
            → (one : OneMet position d next (behind_leg leg) (p.hop_limit - leg.hops)) → (st : Origin)
            → (origins : binding_origin net intent position via ≡ Some st)
            → EndsWith step_events (met_move (network_world net)) (drop st.done intent.steps) (open_at st.place p) one.end
            → binding_leg net intent position via next ≡ Some leg
        by_end leg within leads s at p is limit on d from one st origins ends =
            let b = begins net keeps intent is_intent position via p st origins in
            let f = first_transit net keeps intent is_intent st p one.end b.facts.how (omega (arith, limit)) ends in
            let seen = looked net f.transit.place f.transit.sid f.transit.left one.end (slice_get net.sids f.transit.sid) (there p f.transit) f.ended in
            let is_sid : f.transit.sid ≡ next = head_same f.transit.sid next [] (sym seen.0 ∙ one.sids) in
            let by : left_by step_events f.transit.left (executed net next) ≡ Some one.end.left
            = subst (λ (n : ℕ). left_by step_events f.transit.left (executed net n) ≡ Some one.end.left) is_sid seen.1 in
            let left = executed_left net next f.transit.left one.end.left by in
            by_transit leg within leads s at p is limit on d from one st origins f.transit f.is_transit is_sid
            (left.1 ∙ ap Some one.left_is) one.end ends

        by_packet : (leg : Leg) → leg.to ≤ length intent.steps → leads_on net next ≡ true → may_go_on net intent position via ≡ true
            → (s : SidEntry) (at : slice_get net.sids next ≡ Some s)
            → (p : Packet) → p.destination ≡ address → p.hop_limit ≡ leg.hops + 1 → is_onward (at_sid s [] (with_hop_limit 2 p)) ≡ true
            → (d : Tunnelled Place Packet) → onward_of net intent via p ≡ Some d
            → AlwaysComes net (drop position intent.steps) (Some d) next (behind_leg leg) (p.hop_limit - leg.hops)
            → binding_leg net intent position via next ≡ Some leg
        by_packet leg within leads tests s at p is limit on d from all =
            let goes = onward_goes net intent via p d from in
            let one = one_met position p d goes next (behind_leg leg) (p.hop_limit - leg.hops) all in
            let via_is = tests_via net keeps intent position via tests in
            let st = origins_one net keeps intent is_intent (met_bottom (network_world net)) position via p via_is.0 via_is.1 d from one.end
            one.ends in
            by_end leg within leads s at p is limit on d from one st.origin st.origins st.on

    pub leg_exactly : ((s : SidEntry) → slice_get net.sids next ≡ Some s → goes_on s ≡ true → (limit : ℕ)
        → (p : Packet) × (p.destination ≡ address) × (p.hop_limit ≡ limit) × (is_onward (at_sid s [] (with_hop_limit 2 p)) ≡ true))
        → (leg : Leg) → (binding_leg net intent position via next ≡ Some leg) ↔ IsBindingLeg net intent address position via next leg
    leg_exactly witness leg = (leg_is leg, is_leg witness leg)
