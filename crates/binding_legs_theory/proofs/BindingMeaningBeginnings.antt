-- From where a packet goes on to its next SID: the walk from behind the SID that it executed last is one to its origin, and one from there.
use Rattle.std.proofs.Common.{◌≡◌, ℕ, suc, ◌+◌, ◌≤◌, true, ◌==◌, ◌&&◌, nat_le, List, [], length, take, drop, Option, Some, None, slice_get, refl, sym, ap, ◌∙◌, subst, arith, eqb-true}
use Rattle.std.specs.Option.{option_map, option_and_then}
use Rattle.std.proofs.lemmas.Bool.{and_parts, leb-true}
use Rattle.std.proofs.lemmas.List.{length-drop}
use Rattle.std.proofs.lemmas.Option.{same_Some}
use Rattle.std.proofs.Math.Seq.{take-add}
use Rattle.srv6_rules.specs.declared.family.Family.TheVariants as families
use Rattle.srv6_rules.specs.declared.sid.SidEntry.{SidEntry}
use Rattle.srv6_rules.specs.Behaviours.{behaviour_policy, behaviour_reduces, goes_on}
use Rattle.srv6_rules.specs.Packet.{Packet, Content}
use Rattle.srv6_rules.specs.Policies.{outer_by}
use Rattle.net_model.specs.declared.parts.NamedPolicy.{NamedPolicy}
use Rattle.net_model.specs.Network.{Network}
use Rattle.net_model.specs.NetworkKeeps.{Keeps}
use Rattle.walk_rules.specs.declared.place.Place.{Place}
use Rattle.walk_rules.proofs.PublicLaws.{sid_how}
use Rattle.intent_reader.specs.IntentRules.{stand_after}
use Rattle.intent_reader.specs.IntentRulesTerms.{IsIntent}
use Rattle.intent_reader.specs.declared.intent.Step.{Step}
use Rattle.intent_reader.specs.declared.intent.Intent.{Intent}
use Rattle.leg_table.specs.StrictLegs.{place_behind}
use Rattle.leg_table.specs.Realizes.{headend_place}
use Rattle.leg_table.specs.PositionSids.{is_sid_at, node_at}
use Rattle.leg_table.specs.WalkTrace.{TraceEvent}
use Rattle.leg_table.proofs.TransitFacts.{OriginFacts, origin_from, sid_at, stand_after_append}
use Rattle.leg_table.proofs.StrictArrivals.{drop_drop}
use Rattle.binding_spec.specs.OwnHands.{most_stages}
use Rattle.binding_spec.specs.Machines.{End, left_by, end_with}
use Rattle.tunnel_walks_theory.specs.MachinesTerms.{Got, got_after}
use Rattle.tunnel_walks_theory.specs.TunnelChoices.{EndsWith}
use Rattle.binding_spec.specs.TunnelPackets.{tunnel_of}
use Rattle.tunnel_walks_theory.specs.TunnelPacketsTerms.{Tunnelled, Bared, Met, open_at, pushed_at, met_move, met_bottom, AreJoined}
use Rattle.tunnel_walks_theory.specs.WalkRests.{opened_at, rest_open, open_move}
use Rattle.tunnel_walks_theory.proofs.PublicLaws.{if_parts, map_parts, behind_parts, behind_from, one_each, opens_on, open_joined, tunnel_opens}
use Rattle.binding_spec.specs.NetworkWorld.{step_events}
use Rattle.tunnel_network_theory.proofs.PublicLaws.{policy_head, tunnel_origins, steps_joined}
use Rattle.binding_spec.specs.declared.origin.Origin.{Origin}
use Rattle.binding_spec.specs.Origins.{origin_after, origin_pushed, origin_onward, origin_behind, binding_origin}
use Rattle.binding_legs_theory.specs.BindingKind.{under_policy, onward_by, onward_at, onward_of}
use Rattle.binding_legs_theory.proofs.BindingMeaningMachine.{network_world, own_got, GoesOnAs, Alone, Below}

none_before : {E N R : Type 0} (o : Option (Got E N R)) → o ≡ option_map (got_after [] []) o
none_before None = refl
none_before (Some g) = refl

module _ (net : Network) (keeps : Keeps net) (intent : Intent) (is_intent : IsIntent net intent) where
  abbrev steps_at : ℕ → List Step
  steps_at position = drop position intent.steps

  -- under a row of choices the walk comes to the origin, along the steps up to it
  pub record Opens (position : ℕ) (d : Tunnelled Place Packet) (st : Origin) (p : Packet) (pick : ℕ → ℕ) (taken : ℕ) : Type 0 where
    pub trace : List TraceEvent
    pub along : left_by step_events (steps_at position) trace ≡ Some (steps_at st.done)
    pub count : ℕ
    pub chosen : ℕ
    pub passes : (more : ℕ) → own_got net (count + more) d pick taken
        ≡ option_map (got_after trace []) (own_got net (suc more) (open_at st.place p) pick chosen)

  abbrev pub MetEnd : Type 0
  MetEnd = End Step ℕ (Met Place Packet Content)

  abbrev pub OwnEnd : Type 0
  OwnEnd = End Step ℕ (Bared Place Content)

  pub record Begins (position : ℕ) (via : Option ℕ) (p : Packet) (st : Origin) : Type 0 where
    pub deep : Tunnelled Place Packet
    pub from : onward_of net intent via p ≡ Some deep
    pub goes : GoesOnAs p deep
    pub facts : OriginFacts net intent st.done st.place
    pub after : position ≤ st.done
    pub met : (e : MetEnd) → EndsWith step_events (met_move (network_world net)) (steps_at st.done) (open_at st.place p) e
        → EndsWith step_events (met_move (network_world net)) (steps_at position) deep e
    pub met_back : (e : MetEnd) → EndsWith step_events (met_move (network_world net)) (steps_at position) deep e
        → EndsWith step_events (met_move (network_world net)) (steps_at st.done) (open_at st.place p) e
    pub opens : (pick : ℕ → ℕ) (taken : ℕ) → Opens position deep st p pick taken

  -- right behind a SID, or at the headend
  opens_there : (position : ℕ) (place : Place) (p : Packet) (pick : ℕ → ℕ) (taken : ℕ)
      → Opens position (open_at place p) (record { place = place; done = position }) p pick taken
  opens_there position place p pick taken =
      record {
        trace = [];
        along = refl;
        count = 1;
        chosen = taken;
        passes = λ more. let e : 1 + more ≡ suc more = omega arith in
            ap (λ (k : ℕ). own_got net k (open_at place p) pick taken) e
            ∙ none_before (own_got net (suc more) (open_at place p) pick taken);
      }

  begins_there : (position : ℕ) (via : Option ℕ) (p : Packet) (place : Place) → onward_of net intent via p ≡ Some (open_at place p)
      → OriginFacts net intent position place → Begins position via p (record { place = place; done = position })
  begins_there position via p place from facts =
      record {
        deep = open_at place p;
        from = from;
        goes = Alone place refl;
        facts = facts;
        after = omega arith;
        met = λ e h. h;
        met_back = λ e h. h;
        opens = λ pick taken. opens_there position place p pick taken;
      }

  -- a SID of the position that was executed last
  pub record At (position v : ℕ) : Type 0 where
    pub sid : SidEntry
    pub there : slice_get net.sids v ≡ Some sid
    pub facts : OriginFacts net intent position (place_behind v sid)

  pub at_sid : (position v : ℕ) → position ≤ length intent.steps → is_sid_at net intent position v ≡ true → At position v
  at_sid position v within at =
      let s = sid_at net intent position v at in
      record {
        sid = s.0;
        there = s.1;
        facts = origin_from net keeps intent is_intent position (place_behind v s.0) within s.2 (sid_how net v s.0 keeps s.1) refl;
      }

  pub joined : (position : ℕ) (place : Place) → OriginFacts net intent position place → AreJoined (network_world net) (steps_at position)
  joined position place facts = steps_joined net most_stages place.node (steps_at position) facts.rest

  -- ---- behind a header

  module _ (position v : ℕ) (s : SidEntry) (there : slice_get net.sids v ≡ Some s)
      (facts : OriginFacts net intent position (place_behind v s))
      (named : NamedPolicy) (e : End Step ℕ Place) where
    abbrev new : Packet
    new = outer_by named.policy (behaviour_reduces s.behaviour) families.V6 []

    abbrev origin : Origin
    origin = origin_after (length intent.steps) e

    module _ (alone : tunnel_of (network_world net) (steps_at position) (place_behind v s) new ≡ Some e) where
      -- where the header leads to
      pub record Leads : Type 0 where
        pub started : OriginFacts net intent origin.done e.result
        pub after : position ≤ origin.done
        pub left : e.left ≡ steps_at origin.done

      pub leads : Leads
      leads =
          let behind = tunnel_origins net keeps most_stages (steps_at position) (place_behind v s) new e
          (policy_head named.policy (behaviour_reduces s.behaviour)) ((keeps.sid v s there).node, facts.how) facts.rest alone in
          let within = facts.within in
          let few = behind.few in
          let a = length-drop position intent.steps in
          let b = length-drop behind.done (steps_at position) in
          let c : length e.left ≡ length (drop behind.done (steps_at position)) = ap length behind.left in
          let done : position + behind.done ≡ origin.done = omega (arith, within, few, a, b, c) in
          let stands : node_at net intent (position + behind.done) ≡ Some e.result.node
          = ap (stand_after net intent.headend) (take-add position behind.done intent.steps)
          ∙ stand_after_append net intent.headend (take position intent.steps) (take behind.done (steps_at position))
          ∙ ap (option_and_then (λ k. stand_after net k (take behind.done (steps_at position)))) facts.stands
          ∙ behind.lands in
          record {
            started = origin_from net keeps intent is_intent origin.done e.result (omega (arith, done, within, few, a))
                (subst (λ (n : ℕ). node_at net intent n ≡ Some e.result.node) done stands) behind.place.1 behind.family;
            after = omega (arith, done);
            left = behind.left ∙ drop_drop position behind.done intent.steps ∙ ap (λ (n : ℕ). drop n intent.steps) done;
          }

      begins_behind : (p : Packet) → onward_of net intent (Some v) p ≡ Some (pushed_at (place_behind v s) new p)
          → Begins position (Some v) p origin
      begins_behind p from =
          let l = leads in
          record {
            deep = pushed_at (place_behind v s) new p;
            from = from;
            goes = Below (place_behind v s) new refl;
            facts = l.started;
            after = l.after;
            met = λ e' on.
                behind_from (network_world net) (met_bottom (network_world net)) (steps_at position) (place_behind v s) new p e'
                (record {
                  origin = e;
                  alone = alone;
                  on = subst (λ (us : List Step). EndsWith step_events (met_move (network_world net)) us (open_at e.result p) e')
                      (sym l.left) on;
                });
            met_back = λ e' on.
                let back = behind_parts (network_world net) (met_bottom (network_world net)) (steps_at position)
                (place_behind v s) new p e' on in
                let same : back.origin ≡ e = same_Some _ _ (sym back.alone ∙ alone) in
                subst (λ (us : List Step). EndsWith step_events (met_move (network_world net)) us (open_at e.result p) e') l.left
                (subst (λ (x : End Step ℕ Place). EndsWith step_events (met_move (network_world net)) x.left
                (open_at x.result p) e') same back.on);
            opens = λ pick taken.
                let ends = tunnel_opens (network_world net) (steps_at position) (place_behind v s) new p e alone in
                let one = one_each step_events (open_move (network_world net)) ends.0 (steps_at position)
                (pushed_at (place_behind v s) new p)
                pick taken (end_with [] (opened_at e.result p) e.left)
                (open_joined (network_world net) (steps_at position) (joined position (place_behind v s) facts)) ends.1 in
                let on = opens_on (network_world net) ends.0 (pushed_at (place_behind v s) new p) pick taken one.got one.gives in
                record {
                  trace = one.got.trace;
                  along = one.along ∙ ap Some l.left;
                  count = on.count;
                  chosen = on.chosen;
                  passes = λ more.
                      on.passes more
                      ∙ ap (λ sids. rest_open (network_world net) more pick on.chosen one.got.trace sids one.got.result) one.sids
                      ∙ ap (rest_open (network_world net) more pick on.chosen one.got.trace []) one.result;
                };
          }

  -- ---- every origin

  pub begins : (position : ℕ) (via : Option ℕ) (p : Packet) (st : Origin) → binding_origin net intent position via ≡ Some st
      → Begins position via p st
  begins position None p st h =
      let a = if_parts (position == 0) (Some (record { place = headend_place intent; done = 0 })) st h in
      let zero : position ≡ 0 = eqb-true position 0 a.0 in
      let facts : OriginFacts net intent 0 (headend_place intent) = origin_from net keeps intent is_intent 0 (headend_place intent)
      (omega arith) refl tt refl in
      subst (λ (st : Origin). Begins position None p st) (same_Some _ _ a.1)
      (subst (λ (n : ℕ). Begins n None p (record { place = headend_place intent; done = 0 })) (sym zero)
      (begins_there 0 None p (headend_place intent) refl facts))
  begins position (Some v) p st h =
      let a = if_parts (nat_le position (length intent.steps) && is_sid_at net intent position v) _ st h in
      let b = and_parts (nat_le position (length intent.steps)) (is_sid_at net intent position v) a.0 in
      let at = at_sid position v (leb-true position (length intent.steps) b.0) b.1 in
      let c : origin_behind net intent position v (Some at.sid) ≡ Some st = ap (origin_behind net intent position v) (sym at.there) ∙ a.1 in
      let d = if_parts (goes_on at.sid) _ st c in
      by_policy at.sid at.there at.facts (behaviour_policy at.sid.behaviour) refl d.1
    where
      named_origin : (s : SidEntry) (there : slice_get net.sids v ≡ Some s) (facts : OriginFacts net intent position (place_behind v s))
          (o : Option NamedPolicy) → onward_of net intent (Some v) p ≡ under_policy v s p o
          → origin_pushed net intent position v s o ≡ Some st
          → Begins position (Some v) p st
      named_origin s there facts None from h = cc
      named_origin s there facts (Some named) from h =
          let e = map_parts (origin_after (length intent.steps)) _ st h in
          subst (λ (st : Origin). Begins position (Some v) p st) e.2 (begins_behind position v s there facts named e.0 e.1 p from)

      by_policy : (s : SidEntry) (there : slice_get net.sids v ≡ Some s) (facts : OriginFacts net intent position (place_behind v s))
          (o : Option ℕ) → behaviour_policy s.behaviour ≡ o → origin_onward net intent position v s o ≡ Some st
          → Begins position (Some v) p st
      by_policy s there facts None none h =
          subst (λ (st : Origin). Begins position (Some v) p st) (same_Some _ _ h)
          (begins_there position (Some v) p (place_behind v s) (ap (onward_at net v p) there ∙ ap (onward_by net v s p) none) facts)
      by_policy s there facts (Some number) some h =
          named_origin s there facts (slice_get net.policies number) (ap (onward_at net v p) there ∙ ap (onward_by net v s p) some) h
