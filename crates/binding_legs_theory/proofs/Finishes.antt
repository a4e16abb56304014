-- Finishes through binding SIDs are there exactly as their sentence says.
use Rattle.std.proofs.Common.{◌≡◌, ℕ, ◌+◌, ◌-◌, ◌<◌, true, false, List, [], ◌∷◌, ◌++◌, drop, length, Option, Some, slice_get, refl, sym, ap, ◌∙◌, subst, arith, append-nil}
use Rattle.std.specs.Prelude.{◌↔◌}
use Rattle.std.proofs.lemmas.Option.{same_Some}
use Rattle.srv6_rules.specs.declared.sid.SidEntry.{SidEntry}
use Rattle.srv6_rules.specs.CompressedSteps.{compression_of, shifts}
use Rattle.srv6_rules.specs.Packet.{Packet, Content, read_as}
use Rattle.srv6_rules.specs.Endpoint.{Exposed, at_sid}
use Rattle.net_model.specs.Network.{Network}
use Rattle.net_model.specs.NetworkKeeps.{Keeps}
use Rattle.walk_rules.specs.declared.place.Place.{Place}
use Rattle.walk_rules.specs.Treatment.{allow_of, exposed_from}
use Rattle.walk_rules.specs.Walk.{choice_at}
use Rattle.intent_reader.specs.IntentRulesTerms.{IsIntent}
use Rattle.intent_reader.specs.declared.intent.Step.{Step}
use Rattle.intent_reader.specs.declared.intent.Intent.{Intent}
use Rattle.leg_table.specs.StrictLegsTerms.{is_exposed, takes_out, has_packet_inside}
use Rattle.leg_table.specs.Transits.{Transit}
use Rattle.leg_table.specs.TransitsTerms.{with_hop_limit}
use Rattle.leg_table.specs.Transits as transits
use Rattle.leg_table.specs.PositionSids.{sid_address, hands_over}
use Rattle.leg_table.specs.StepMatching.{left_after}
use Rattle.leg_table.specs.WalkTrace.{TraceEvent, Handed, executed}
use Rattle.leg_table.proofs.HopLimits.{Shows, shows_inside}
use Rattle.leg_table.proofs.StrictWitnesses.{last_packet, last_packet_has}
use Rattle.binding_spec.specs.Machines.{End, left_by, end_with}
use Rattle.tunnel_walks_theory.specs.MachinesTerms.{Got}
use Rattle.tunnel_walks_theory.specs.TunnelChoices.{EndsWith}
use Rattle.tunnel_walks_theory.specs.TunnelPacketsTerms.{Tunnelled, Bared, Met, Onward, Under, Bare, met_by, met_move, own_bottom, own_move, open_at}
use Rattle.tunnel_walks_theory.specs.WalkRests.{RestEnds}
use Rattle.tunnel_walks_theory.proofs.PublicLaws.{map_parts, choices_one, choices_agree, own_joined, first_end}
use Rattle.binding_spec.specs.NetworkWorld.{look_at_sid, look_in, step_events}
use Rattle.tunnel_network_theory.specs.NetworkTransits.{ended_at}
use Rattle.tunnel_network_theory.proofs.NetworkHanding.{all_left, left_all}
use Rattle.binding_spec.specs.declared.origin.Origin.{Origin}
use Rattle.binding_spec.specs.Origins.{binding_origin}
use Rattle.binding_spec.specs.BindingLegsValue.{binding_finish}
use Rattle.binding_legs_theory.specs.BindingKind.{onward_of, hand_on}
use Rattle.binding_legs_theory.specs.BindingSentences.{may_go_on, IsHandedAt, IsBindingFinish}
use Rattle.binding_legs_theory.proofs.BindingMeaningMachine.{network_world, own_got, hand_on_law, hand_parts, hand_from, onward_goes}
use Rattle.binding_legs_theory.proofs.BindingMeaningBeginnings.{Begins, begins}
use Rattle.binding_legs_theory.proofs.BindingMeaningExecuted.{none_left, left_executed, executed_left}
use Rattle.binding_legs_theory.proofs.Leading.{joined_at, led, FirstTransit, first_transit}
use Rattle.binding_legs_theory.proofs.Sentences.{Same}
use Rattle.binding_legs_theory.proofs.BindingSentenceTests.{looked, origin_tests, tests_via, head_same}
use Rattle.binding_legs_theory.proofs.BindingMeaningStarting.{origins_one}
use Rattle.leg_table.proofs.PublicLaws.{last_sid}
use Rattle.binding_legs_theory.proofs.OriginWays.{finish_parts, finish_from}
use Rattle.binding_legs_theory.proofs.BindingMeaningWays.{there}

module _ (net : Network) (keeps : Keeps net) (intent : Intent) (is_intent : IsIntent net intent) where
  abbrev OwnEnd : Type 0
  OwnEnd = End Step ℕ (Bared Place Content)

  abbrev AllHanded : ℕ → Option (Tunnelled Place Packet) → ℕ → Type 0
  AllHanded position o n = (choices : List ℕ) → 0 < length choices → IsHandedAt net (drop position intent.steps) o n choices

  -- the one walk of what is handed over for all choices
  record OneHanded (position : ℕ) (via : Option ℕ) (p : Packet) (n : ℕ) : Type 0 where
    deep : Tunnelled Place Packet
    from : onward_of net intent via p ≡ Some deep
    end : OwnEnd
    ends : EndsWith step_events (own_move (network_world net)) (drop position intent.steps) deep end
    none : end.left ≡ []
    sids : end.sids ≡ n ∷ []

  one_handed : (position : ℕ) (via : Option ℕ) (p : Packet) (n : ℕ) → AllHanded position (onward_of net intent via p) n
      → OneHanded position via p n
  one_handed position via p n all =
      let ts = drop position intent.steps in
      let zero = all (0 ∷ []) (omega arith) in
      let some = hand_on_law net zero.fuel (onward_of net intent via p) (choice_at (0 ∷ [])) 0 zero.handed zero.own in
      let d : Tunnelled Place Packet = some.0 in
      let goes = onward_goes net intent via p d some.1 in
      let got : (choices : List ℕ) (h : IsHandedAt net ts (onward_of net intent via p) n choices)
      → (g : Got TraceEvent ℕ (Bared Place Content)) × (own_got net h.fuel d (choice_at choices) 0 ≡ Some g)
      × (left_by step_events ts g.trace ≡ Some []) × (g.sids ≡ n ∷ [])
      = λ choices h.
      let g = hand_parts net p d goes h.fuel (choice_at choices) 0 h.handed
      (sym (ap (λ o. hand_on net h.fuel o (choice_at choices) 0) some.1) ∙ h.own) in (
        g.0,
        g.1,
        ap (λ (h : Handed). left_by step_events ts h.trace) g.2 ∙ all_left ts h.handed.trace h.steps,
        ap (λ (h : Handed). h.sids) g.2 ∙ h.sids,
      ) in
      let one = choices_one step_events (own_move (network_world net)) ts d
      (λ choices more. let h = all choices more in
      let g = got choices h in
      record { fuel = h.fuel; got = g.0; left = []; gives = g.1; along = g.2 }) in
      let g = got (0 ∷ []) zero in
      let same = choices_agree step_events (own_move (network_world net)) ts d
      (own_joined (network_world net) ts (joined_at net keeps intent is_intent position)) one (choice_at (0 ∷ []))
      (record { fuel = zero.fuel; got = g.0; left = []; gives = g.1; along = g.2 }) in
      record {
        deep = d;
        from = some.1;
        end = one.end;
        ends = (one.fuel, one.gives);
        none = sym same.left;
        sids = sym same.sids ∙ g.3;
      }

  -- what is left behind an execution has more SIDs at most
  rest_sids : (left : List Step) (sids : List ℕ) (m : Met Place Packet Content) (e : OwnEnd) → RestEnds (network_world net) left sids m e
      → (more : List ℕ) × (sids ++ more ≡ e.sids)
  rest_sids left sids (Onward place own) e h = (h.0.sids, ap (λ (e : OwnEnd). e.sids) h.2)
  rest_sids left sids (Under place new own) e h = (h.0.sids, ap (λ (e : OwnEnd). e.sids) h.2)
  rest_sids left sids (Bare place inside) e h =
      ([], append-nil sids ∙ ap (λ (e : OwnEnd). e.sids) h)

  -- ---- a transit to a SID that exposes what is inside

  module _ (position : ℕ) (via : Option ℕ) (p : Packet) (st : Origin) (b : Begins net keeps intent is_intent position via p st) (n : ℕ)
      (s : SidEntry) (at : slice_get net.sids n ≡ Some s) (r : Transit)
      (transit : transits.transit_of net p.destination (drop st.done intent.steps) st.place ≡ Some r) (is_sid : r.sid ≡ n)
      (on : is_exposed (at_sid s [] p) ≡ true) where
    abbrev shows : Shows (λ allow limit. at_sid s allow (with_hop_limit limit p))
    shows = shows_inside s p on

    abbrev place : Place
    place = record { node = r.place.node; how = exposed_from n s.behaviour; family = shows.family }

    abbrev bare : Met Place Packet Content
    bare = Bare place (read_as shows.family shows.bytes)

    look_is : look_in net r.place n (slice_get net.sids n) (there p r)
        ≡ look_at_sid net r.place n s.behaviour (Exposed shows.family shows.bytes)
    look_is =
        ap (λ (x : Option SidEntry). look_in net r.place n x (there p r)) at
        ∙ ap (look_at_sid net r.place n s.behaviour) (shows.shown (allow_of (slice_get net.nodes r.place.node)) (p.hop_limit - r.lowered))

    -- above the lowerings it is handed over there for all choices
    handed_up : left_after net n r.left ≡ Some 0 → r.lowered < p.hop_limit → AllHanded position (onward_of net intent via p) n
    handed_up left_is low choices some =
        let behind = left_executed net n r.left 0 left_is in
        let w = led net keeps intent is_intent position via p st b n r transit is_sid low _ bare look_is refl behind.0 behind.1.left
        (choice_at choices) 0 in
        record {
          fuel = w.count + 0;
          handed = record { trace = w.trace; sids = n ∷ []; content = read_as shows.family shows.bytes };
          own = ap (λ o. hand_on net (w.count + 0) o (choice_at choices) 0) b.from
              ∙ hand_from net p b.deep b.goes (w.count + 0) (choice_at choices) 0 _ (w.passes 0);
          steps = left_all (drop position intent.steps) w.trace (w.along ∙ ap Some (none_left behind.0 behind.2));
          sids = refl;
        }

    -- and only above them
    handed_down : 0 < p.hop_limit → AllHanded position (onward_of net intent via p) n → r.lowered < p.hop_limit
    handed_down positive all =
        let one = one_handed position via p n all in
        let same : one.deep ≡ b.deep = same_Some _ _ (sym one.from ∙ b.from) in
        let f = first_end (network_world net) one.ends.0 (drop position intent.steps) one.deep one.end one.ends.1 in
        let met = b.met_back f.first (subst (λ (d : Tunnelled Place Packet).
        EndsWith step_events (met_move (network_world net)) (drop position intent.steps) d f.first) same (one.ends.0, f.gives)) in
        let g = first_transit net keeps intent is_intent st p f.first b.facts.how positive met in
        subst (λ (r : Transit). r.lowered < p.hop_limit) (same_Some _ _ (sym g.is_transit ∙ transit)) g.low

    -- then no step is left behind the execution
    none_behind : (first : End Step ℕ (Met Place Packet Content))
        → ended_at r.left (met_by (network_world net) (look_in net r.place n (slice_get net.sids n) (there p r))) ≡ Some first
        → (e : OwnEnd) → e.left ≡ [] → RestEnds (network_world net) first.left first.sids first.result e → left_after net n r.left ≡ Some 0
    none_behind first ended e none rest =
        let a = map_parts (end_with (n ∷ []) bare) (left_by step_events r.left (executed net n)) first
        (sym (ap (λ l. ended_at r.left (met_by (network_world net) l)) look_is) ∙ ended) in
        let whole = subst (λ (x : End Step ℕ (Met Place Packet Content)). RestEnds (network_world net) x.left x.sids x.result e)
        (sym a.2) rest in
        let empty : a.0 ≡ [] = ap (λ (e : OwnEnd). e.left) whole ∙ none in
        (executed_left net n r.left a.0 a.1).1 ∙ ap (λ (us : List Step). Some (length us)) empty

  -- ---- finishes

  exposes : (n : ℕ) (s : SidEntry) (p : Packet) → slice_get net.sids n ≡ Some s → has_packet_inside net n p ≡ true
      → is_exposed (at_sid s [] p) ≡ true
  exposes n s p at on = sym (ap (λ (o : Option SidEntry). takes_out o p) at) ∙ on

  module _ (address position : ℕ) (via : Option ℕ) (next : ℕ) (alike : Same net keeps intent is_intent address next)
      (alone : (s : SidEntry) → slice_get net.sids next ≡ Some s → shifts (compression_of s) address ≡ false) where
    finish_is : (lowered : ℕ) → binding_finish net intent position via next ≡ Some lowered
        → IsBindingFinish net intent address position via next lowered
    finish_is lowered h =
        let l = finish_parts net intent position via next lowered h in
        let r : Transit = l.way.transit in
        let st : Origin = l.way.origin in
        let s = last_sid net intent.inner next l.last in
        record {
          origin = origin_tests net keeps intent position via st l.way.origins;
          last = l.last;
          handed = λ p is on positive.
              let b = begins net keeps intent is_intent position via p st l.way.origins in
              let transit = ap (λ (d : ℕ). transits.transit_of net d (drop st.done intent.steps) st.place) is
              ∙ alike s.0 s.1 (drop st.done intent.steps) st.place b.facts.family ∙ l.way.is_transit in
              let shown = exposes next s.0 p s.1 on in (
                λ high. handed_up position via p st b next s.0 s.1 r transit l.way.sid shown l.way.left_is (omega (arith, high, l.is)),
                λ all. subst (λ (n : ℕ). n < p.hop_limit) l.is
                    (handed_down position via p st b next s.0 s.1 r transit l.way.sid shown positive all),
              );
        }

    -- what is handed over of a packet in which another begins came by such a transit
    record FoundTransit (p : Packet) : Type 0 where
      origin : Origin
      origins : binding_origin net intent position via ≡ Some origin
      transit : Transit
      is_transit : transits.transit_of net (sid_address net next) (drop origin.done intent.steps) origin.place ≡ Some transit
      is_sid : transit.sid ≡ next
      left_is : left_after net next transit.left ≡ Some 0
      low : transit.lowered < p.hop_limit

    found_by : (s : SidEntry) (at : slice_get net.sids next ≡ Some s) (p : Packet) → p.destination ≡ address
        → is_exposed (at_sid s [] p) ≡ true → (end : OwnEnd) → end.left ≡ [] → end.sids ≡ next ∷ [] → (st : Origin)
        → (origins : binding_origin net intent position via ≡ Some st) (first : End Step ℕ (Met Place Packet Content))
        → (g : FirstTransit net keeps intent is_intent st p first) → RestEnds (network_world net) first.left first.sids first.result end
        → FoundTransit p
    found_by s at p is shown end none sids st origins first g rest =
        let b = begins net keeps intent is_intent position via p st origins in
        let r : Transit = g.transit in
        let seen = looked net r.place r.sid r.left first (slice_get net.sids r.sid) (there p r) g.ended in
        let more = rest_sids first.left first.sids first.result end rest in
        let is_sid : r.sid ≡ next = head_same r.sid next more.0 (ap (λ (ns : List ℕ). ns ++ more.0) (sym seen.0) ∙ more.1 ∙ sids) in
        let ended : ended_at r.left (met_by (network_world net) (look_in net r.place next (slice_get net.sids next)
        (there p r))) ≡ Some first
        = subst (λ (i : ℕ). ended_at r.left (met_by (network_world net)
        (look_in net r.place i (slice_get net.sids i) (there p r))) ≡ Some first)
        is_sid g.ended in
        let left = none_behind position via p st b next s at r g.is_transit is_sid shown first ended end none rest in
        record {
          origin = st;
          origins = origins;
          transit = r;
          is_transit = sym (ap (λ (d : ℕ). transits.transit_of net d (drop st.done intent.steps) st.place) is
              ∙ alike s at (drop st.done intent.steps) st.place b.facts.family) ∙ g.is_transit;
          is_sid = is_sid;
          left_is = left;
          low = g.low;
        }

    found : (s : SidEntry) (at : slice_get net.sids next ≡ Some s) (p : Packet) → p.destination ≡ address → 0 < p.hop_limit
        → is_exposed (at_sid s [] p) ≡ true → may_go_on net intent position via ≡ true
        → AllHanded position (onward_of net intent via p) next → FoundTransit p
    found s at p is positive shown origin all =
        let one = one_handed position via p next all in
        let tests = tests_via net keeps intent position via origin in
        let st = origins_one net keeps intent is_intent
        (own_bottom (network_world net)) position via p tests.0 tests.1 one.deep one.from one.end
        one.ends in
        let b = begins net keeps intent is_intent position via p st.origin st.origins in
        let f = first_end (network_world net) st.on.0 (drop st.origin.done intent.steps) (open_at st.origin.place p) one.end st.on.1 in
        let g = first_transit net keeps intent is_intent st.origin p f.first b.facts.how positive (st.on.0, f.gives) in
        found_by s at p is shown one.end one.none one.sids st.origin st.origins f.first g f.rest

    at_least : (lowered : ℕ) → IsBindingFinish net intent address position via next lowered → (r : Transit) (st : Origin)
        → binding_origin net intent position via ≡ Some st → (s : SidEntry)
        → slice_get net.sids next ≡ Some s
        → transits.transit_of net (sid_address net next) (drop st.done intent.steps) st.place ≡ Some r → r.sid ≡ next
        → left_after net next r.left ≡ Some 0 → hands_over intent.inner s ≡ true → lowered < r.lowered + 1
    at_least lowered i r st origins s at transit is_sid left_is opens =
        let q : Packet = last_packet intent.inner address (r.lowered + 1) in
        let has = last_packet_has net next s intent.inner address (r.lowered + 1) at (alone s at) opens in
        let limit : q.hop_limit ≡ r.lowered + 1 = has.2 in
        let b = begins net keeps intent is_intent position via q st origins in
        let on = ap (λ (d : ℕ). transits.transit_of net d (drop st.done intent.steps) st.place) has.1
        ∙ alike s at (drop st.done intent.steps) st.place b.facts.family ∙ transit in
        let up = handed_up position via q st b next s at r on is_sid (exposes next s q at has.0) left_is (omega (arith, limit)) in
        subst (λ (n : ℕ). lowered < n) limit ((i.handed q has.1 has.0 (omega (arith, limit))).1 up)

    by_found : (lowered : ℕ) → IsBindingFinish net intent address position via next lowered → (s : SidEntry)
        → slice_get net.sids next ≡ Some s
        → hands_over intent.inner s ≡ true → (p : Packet) → p.hop_limit ≡ lowered + 1 → FoundTransit p
        → binding_finish net intent position via next ≡ Some lowered
    by_found lowered i s at opens p limit f =
        let least = at_least lowered i f.transit f.origin f.origins s at f.is_transit f.is_sid f.left_is opens in
        let low = f.low in
        finish_from net intent position via next
        (record { origin = f.origin; origins = f.origins; transit = f.transit; is_transit = f.is_transit; sid = f.is_sid; left_is = f.left_is }) i.last
        ∙ ap Some (omega (arith, low, limit, least))

    is_finish : (lowered : ℕ) → IsBindingFinish net intent address position via next lowered
        → binding_finish net intent position via next ≡ Some lowered
    is_finish lowered i =
        let s = last_sid net intent.inner next i.last in
        let p : Packet = last_packet intent.inner address (lowered + 1) in
        let has = last_packet_has net next s.0 intent.inner address (lowered + 1) s.1 (alone s.0 s.1) s.2 in
        let limit : p.hop_limit ≡ lowered + 1 = has.2 in
        let positive : 0 < p.hop_limit = omega (arith, limit) in
        let all = (i.handed p has.1 has.0 positive).0 (omega (arith, limit)) in
        by_found lowered i s.0 s.1 s.2 p limit (found s.0 s.1 p has.1 positive (exposes next s.0 p s.1 has.0) i.origin all)

    pub finish_exactly : (lowered : ℕ) → (binding_finish net intent position via next ≡ Some lowered)
        ↔ IsBindingFinish net intent address position via next lowered
    finish_exactly lowered = (finish_is lowered, is_finish lowered)
