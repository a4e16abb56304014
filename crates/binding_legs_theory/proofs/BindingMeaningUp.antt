-- Up from a leg and from a finish: a packet whose hop limit is above what the way needs is taken along it, under every row of choices.
use Rattle.std.proofs.Common.{◌++◌, ◌≡◌, ℕ, ◌+◌, ◌-◌, ◌<◌, true, false, List, [], ◌∷◌, drop, length, Option, Some, None, slice_get, refl, sym, ap, ◌∙◌, subst, arith}
use Rattle.std.proofs.lemmas.List.Elements.{All-cons, All-nil}
use Rattle.std.proofs.lemmas.Option.{same_Some}
use Rattle.srv6_rules.specs.declared.sid.SidEntry.{SidEntry}
use Rattle.srv6_rules.specs.Behaviours.{goes_on, exposes}
use Rattle.srv6_rules.specs.Policies.{inner_kind}
use Rattle.srv6_rules.specs.Packet.{Packet, Content, read_as}
use Rattle.net_model.specs.Network.{Network}
use Rattle.net_model.specs.NetworkKeeps.{Keeps}
use Rattle.walk_rules.specs.declared.place.Place.{Place}
use Rattle.walk_rules.specs.Treatment.{allow_of, exposed_from}
use Rattle.intent_reader.specs.IntentRulesTerms.{IsIntent}
use Rattle.intent_reader.specs.declared.intent.Step.{Step}
use Rattle.intent_reader.specs.declared.intent.Intent.{Intent}
use Rattle.sid_list_theory.specs.ListPlaces as lists
use Rattle.sid_list_theory.specs.ListPlaces.{Tunnel, active, next_of, form, stays_routed, Along}
use Rattle.sid_list_theory.proofs.PublicLaws.{along_onward, along_next, along_exposed}
use Rattle.list_pack.specs.declared.types.Leg.{Leg}
use Rattle.list_pack.specs.SidLists.{list_sid}
use Rattle.leg_table.proofs.StrictOptions.{kept_from, kept_same}
use Rattle.leg_table.proofs.FlatNets.{FlatFacts}
use Rattle.leg_table.specs.OneLegLaws.{LegKind, OnWay, IsTakenOn, HandsBy, after_leg, prefix_in}
use Rattle.leg_table.specs.Transits.{Transit}
use Rattle.leg_table.specs.StrictTable.{shape_by}
use Rattle.leg_table.specs.StepMatching.{matches}
use Rattle.leg_table.specs.WalkTrace.{Handed}
use Rattle.tunnel_walks_theory.specs.MachinesTerms.{got_after}
use Rattle.tunnel_walks_theory.specs.TunnelPacketsTerms.{Bare}
use Rattle.tunnel_walks_theory.proofs.PublicLaws.{map_from}
use Rattle.binding_spec.specs.NetworkWorld.{look_at_sid, look_in}
use Rattle.tunnel_network_theory.proofs.NetworkHanding.{left_all}
use Rattle.binding_spec.specs.declared.origin.Origin.{Origin}
use Rattle.binding_spec.specs.BindingLegsValue.{binding_leg, binding_finish}
use Rattle.binding_legs_theory.specs.BindingKind.{hand_on, binding_kind}
use Rattle.binding_legs_theory.proofs.BindingMeaningMachine.{own_got, hand_parts, hand_from, leads_on}
use Rattle.binding_legs_theory.proofs.BindingMeaningBeginnings.{begins}
use Rattle.binding_legs_theory.proofs.BindingMeaningExecuted.{none_left, goes_on_from, left_executed}
use Rattle.binding_legs_theory.proofs.Leading.{behind_is, led}
use Rattle.leg_table.proofs.PublicLaws.{last_sid}
use Rattle.binding_legs_theory.proofs.OriginWays.{leg_parts, finish_parts, leads_on_sid}
use Rattle.binding_legs_theory.proofs.BindingMeaningWays.{there, comes_to}

module _ (net : Network) (keeps : Keeps net) (facts : FlatFacts net) (intent : Intent) (is_intent : IsIntent net intent) (t : Tunnel) where
  abbrev k : LegKind
  k = binding_kind net intent

  abbrev allow : Transit → List ℕ
  allow r = allow_of (slice_get net.nodes r.place.node)

  -- ---- the SID that is active

  pub prefix_is : (n : ℕ) (s : SidEntry) → slice_get net.sids n ≡ Some s → prefix_in k n ≡ s.prefix
  prefix_is n s at = ap (λ (o : Option SidEntry). (shape_by net.blocks o).prefix) at

  pub active_is : (x : lists.ListPlace) (hop : ℕ) (p : Packet) (n : ℕ) (s : SidEntry) → slice_get net.sids n ≡ Some s
      → OnWay k t x hop p n → active x ≡ list_sid net s.prefix
  active_is x hop p n s at on = on.to ∙ ap (list_sid net) (prefix_is n s at)

  -- ---- from a leg

  pub leg_up_law : (x y : lists.ListPlace) (position : ℕ) (via : Option ℕ) (next : ℕ) (leg : Leg) (hop : ℕ) (p : Packet) (pick : ℕ → ℕ)
      (taken : ℕ)
      → binding_leg net intent position via next ≡ Some leg → OnWay k t x hop p next → next_of x ≡ Some y → leg.hops < hop
      → IsTakenOn k t y position via next leg hop p pick taken
  leg_up_law x y position via next leg hop p pick taken h on to high =
      let l = leg_parts net intent position via next leg h in
      let r : Transit = l.way.transit in
      let st : Origin = l.way.origin in
      let s = leads_on_sid net next l.leads in
      let b = begins net keeps intent is_intent position via p st l.way.origins in
      let c = comes_to net keeps facts intent is_intent t st x hop p next s.0 r b.facts on.along on.keeps s.1
      (active_is x hop p next s.0 s.1 on) l.way.is_transit l.way.sid in
      let hops : r.lowered + 1 ≡ leg.hops = ap (λ (l : Leg). l.hops) l.is in
      let ends : length intent.steps - l.left ≡ leg.to = ap (λ (l : Leg). l.to) l.is in
      let low : r.lowered < p.hop_limit = omega (arith, hops, high, c.limit) in
      let q = there p r in
      let same : c.sid ≡ s.0 = same_Some _ _ (sym c.is_there ∙ s.1) in
      let goes = ap goes_on same ∙ s.2 in
      let packet : Packet = form t y (stays_routed c.sid.psp x y c.along.routed) (hop - r.lowered - 1) in
      let given = along_onward c.sid (allow r) t x y (hop - r.lowered) q c.along c.on goes to (omega (arith, hops, high)) in
      let look = ap (λ (o : Option SidEntry). look_in net r.place next o q) c.is_there
      ∙ ap (look_at_sid net r.place next c.sid.behaviour) given in
      let from = goes_on_from net intent keeps r.place next c.sid packet c.is_there c.node c.family in
      let behind = left_executed net next r.left l.left l.way.left_is in
      let us : List Step = behind.0 in
      let us_rest = behind_is net keeps intent is_intent st r.left us next c.passed.count l.left c.passed.left behind.1 behind.2
      c.passed.within b.facts.within in
      let w = led net keeps intent is_intent position via p st b next r c.transit c.is_sid low _ from.met look from.looks us behind.1.left
      pick taken in
      let less : hop - r.lowered - 1 ≡ hop - leg.hops = omega (arith, hops) in
      record {
        lowered = leg.hops;
        few = omega arith;
        packet = packet;
        along = subst (λ (j : ℕ). Along t y j packet) less
            (along_next t x y (hop - r.lowered) (hop - r.lowered - 1) q c.sid.psp c.along to);
        allowed = refl;
        events = w.trace;
        leads = λ more.
            kept_same (matches (drop position intent.steps) (w.trace ++ more)) (matches (drop leg.to intent.steps) more)
            (leads_on (drop position intent.steps) us w.trace more w.along
            ∙ ap (λ (vs : List Step). matches vs more) (us_rest ∙ ap (λ (j : ℕ). drop j intent.steps) ends));
        count = w.count;
        chosen = w.chosen;
        passes = λ fuel h is.
            let got_there = hand_parts net packet from.deep from.goes fuel pick w.chosen h
            (sym (ap (λ o. hand_on net fuel o pick w.chosen) from.from) ∙ is) in
            let got : own_got net (w.count + fuel) b.deep pick taken ≡ Some (got_after w.trace (next ∷ []) got_there.0)
            = w.passes fuel ∙ from.rest fuel pick w.chosen w.trace (next ∷ [])
            ∙ map_from (got_after w.trace (next ∷ [])) got_there.1 refl in
            ap (λ o. hand_on net (w.count + fuel) o pick taken) b.from
            ∙ hand_from net p b.deep b.goes (w.count + fuel) pick taken _ got
            ∙ ap (λ (g : Handed). Some (after_leg w.trace next g)) got_there.2;
      }

  -- ---- from a finish

  pub finish_up_law : (x : lists.ListPlace) (position : ℕ) (via : Option ℕ) (next lowered : ℕ) (hop : ℕ) (p : Packet) (pick : ℕ → ℕ) (taken : ℕ)
      → t.inner ≡ intent.inner → binding_finish net intent position via next ≡ Some lowered → OnWay k t x hop p next
      → next_of x ≡ None → lowered < hop → HandsBy k t position via p (next ∷ []) [] pick taken
  finish_up_law x position via next lowered hop p pick taken family h on last high =
      let l = finish_parts net intent position via next lowered h in
      let r : Transit = l.way.transit in
      let st : Origin = l.way.origin in
      let s = last_sid net intent.inner next l.last in
      let b = begins net keeps intent is_intent position via p st l.way.origins in
      let c = comes_to net keeps facts intent is_intent t st x hop p next s.0 r b.facts on.along on.keeps s.1
      (active_is x hop p next s.0 s.1 on) l.way.is_transit l.way.sid in
      let low : r.lowered < p.hop_limit = omega (arith, l.is, high, c.limit) in
      let q = there p r in
      let same : c.sid ≡ s.0 = same_Some _ _ (sym c.is_there ∙ s.1) in
      let shows : exposes c.sid (inner_kind t.inner) ≡ true
      = ap (λ (e : SidEntry). exposes e (inner_kind t.inner)) same ∙ ap (λ f. exposes s.0 (inner_kind f)) family ∙ s.2 in
      let given = along_exposed c.sid (allow r) t x (hop - r.lowered) q c.along c.on last shows in
      let look = ap (λ (o : Option SidEntry). look_in net r.place next o q) c.is_there
      ∙ ap (look_at_sid net r.place next c.sid.behaviour) given in
      let behind = left_executed net next r.left 0 l.way.left_is in
      let at : Place = record { node = r.place.node; how = exposed_from next c.sid.behaviour; family = t.inner } in
      let inside : Content = read_as t.inner t.bytes in
      let w = led net keeps intent is_intent position via p st b next r c.transit c.is_sid low _
      (Bare at inside) look refl behind.0 behind.1.left pick taken in
      record {
        handed = record { trace = w.trace; sids = next ∷ []; content = inside };
        over = (
          w.count + 0,
          ap (λ o. hand_on net (w.count + 0) o pick taken) b.from
              ∙ hand_from net p b.deep b.goes (w.count + 0) pick taken _ (w.passes 0),
        );
        meets =
            kept_from (matches (drop position intent.steps) w.trace)
            (left_all (drop position intent.steps) w.trace (w.along ∙ ap Some (none_left behind.0 behind.2)));
        sids = refl;
        allowed = All-cons (λ (m : ℕ). k.barred m ≡ false) next [] refl (All-nil (λ (m : ℕ). k.barred m ≡ false));
        content = refl;
      }
