-- Over a leg and over a finish: what is handed over of a packet on its way comes from the list's next place, or from the SID at its end.
use Rattle.std.proofs.Common.{◌≡◌, ℕ, suc, ◌+◌, ◌-◌, ◌<◌, ◌≤◌, ◌⊎◌, inl, inr, true, List, [], ◌∷◌, drop, Option, Some, None, slice_get, refl, sym, ap, ◌∙◌, subst, arith}
use Rattle.std.proofs.lemmas.Bool.{cases_lt}
use Rattle.std.proofs.lemmas.Option.{same_Some}
use Rattle.srv6_rules.specs.declared.family.Family.{Family}
use Rattle.srv6_rules.specs.declared.sid.SidEntry.{SidEntry}
use Rattle.srv6_rules.specs.Behaviours.{exposes, goes_on}
use Rattle.srv6_rules.specs.Policies.{inner_kind}
use Rattle.srv6_rules.specs.Packet.{Packet}
use Rattle.srv6_rules.specs.Endpoint.{Endpoint, Onward, Exposed, at_sid}
use Rattle.net_model.specs.Network.{Network}
use Rattle.net_model.specs.NetworkKeeps.{Keeps}
use Rattle.walk_rules.specs.Treatment.{allow_of}
use Rattle.intent_reader.specs.IntentRulesTerms.{IsIntent}
use Rattle.intent_reader.specs.declared.intent.Intent.{Intent}
use Rattle.sid_list_theory.specs.ListPlaces as lists
use Rattle.sid_list_theory.specs.ListPlaces.{Tunnel, next_of, form, stays_routed, Along}
use Rattle.sid_list_theory.proofs.PublicLaws.{along_onward, along_tired, along_next, along_exposed}
use Rattle.list_pack.specs.declared.types.Leg.{Leg}
use Rattle.leg_table.proofs.FlatNets.{FlatFacts}
use Rattle.leg_table.proofs.StrictHanding.{Free, above_free}
use Rattle.leg_table.specs.OneLegLaws.{LegKind, OnWay, GoesOver, HandsOver}
use Rattle.leg_table.specs.Transits.{Transit}
use Rattle.leg_table.specs.WalkTrace.{Handed, executed}
use Rattle.leg_table.specs.StrictLegsValue.{AnyWay}
use Rattle.tunnel_walks_theory.specs.MachinesTerms.{got_after, got_by}
use Rattle.tunnel_walks_theory.specs.TunnelPacketsTerms.{open_at, own_by, own_move}
use Rattle.tunnel_walks_theory.proofs.PublicLaws.{map_parts, got_later}
use Rattle.binding_spec.specs.NetworkWorld.{look_at_sid, step_events}
use Rattle.tunnel_network_theory.specs.NetworkWalks.{handed_of}
use Rattle.binding_spec.specs.declared.origin.Origin.{Origin}
use Rattle.binding_spec.specs.BindingLegsValue.{binding_leg, binding_finish}
use Rattle.binding_legs_theory.specs.BindingKind.{hand_on, binding_kind}
use Rattle.binding_legs_theory.proofs.BindingMeaningMachine.{network_world, own_got, hand_parts, hand_from}
use Rattle.binding_legs_theory.proofs.BindingMeaningBeginnings.{Begins, begins}
use Rattle.binding_legs_theory.proofs.BindingMeaningExecuted.{goes_on_from, look_into, first_move}
use Rattle.binding_legs_theory.proofs.PassedOver.{OwnGot, passed}
use Rattle.leg_table.proofs.PublicLaws.{last_sid}
use Rattle.binding_legs_theory.proofs.OriginWays.{leg_parts, finish_parts, leads_on_sid}
use Rattle.binding_legs_theory.proofs.BindingMeaningWays.{there, Comes, comes_to}
use Rattle.binding_legs_theory.proofs.BindingMeaningUp.{active_is}

module _ (net : Network) (keeps : Keeps net) (facts : FlatFacts net) (intent : Intent) (is_intent : IsIntent net intent) (t : Tunnel) where
  abbrev k : LegKind
  k = binding_kind net intent

  abbrev allow : Transit → List ℕ
  allow r = allow_of (slice_get net.nodes r.place.node)

  -- what the SID at the end of the transit makes of the packet there
  abbrev pub given : (p : Packet) (r : Transit) → SidEntry → Endpoint
  given p r s = at_sid s (allow r) (there p r)

  -- where the walk that hands over comes to the SID
  pub record Reached (p : Packet) (r : Transit) (n : ℕ) (s : SidEntry) (pick : ℕ → ℕ) (h : Handed) : Type 0 where
    pub free : Free r.lowered p.hop_limit
    pub fuel : ℕ
    pub chosen : ℕ
    pub got : OwnGot
    pub gives : got_by step_events (own_got net fuel)
        (own_by (network_world net) (look_at_sid net r.place n s.behaviour (given p r s))) pick chosen ≡ Some got
    pub sids : got.sids ≡ h.sids

  pub reached : (position : ℕ) (via : Option ℕ) (p : Packet) (st : Origin) (b : Begins net keeps intent is_intent position via p st)
      → (x : lists.ListPlace) (hop n : ℕ) (r : Transit) (c : Comes net keeps facts intent is_intent t st x hop p n r)
      → (pick : ℕ → ℕ) (taken : ℕ) (h : Handed)
      → HandsOver k via p pick taken h → Reached p r n c.sid pick h
  reached position via p st b x hop n r c pick taken h over =
      let g = hand_parts net p b.deep b.goes over.0 pick taken h (sym (ap (λ o. hand_on net over.0 o pick taken) b.from) ∙ over.1) in
      let o = b.opens pick taken in
      let whole : own_got net (o.count + over.0) b.deep pick taken ≡ Some g.0
      = got_later step_events (own_move (network_world net)) over.0 (o.count + over.0) b.deep pick taken g.0 (omega arith) g.1 in
      let a = map_parts (got_after o.trace []) (own_got net (suc over.0) (open_at st.place p) pick o.chosen) g.0
      (sym (o.passes over.0) ∙ whole) in
      let w = passed net keeps (drop st.done intent.steps) st.place p r c.started.how c.started.rest c.transit
      (suc over.0) pick o.chosen a.0 a.1 in
      let q = there p r in
      let m = first_move net w.fuel r.place q pick w.chosen w.rest w.gives in
      record {
        free = w.free;
        fuel = m.0;
        chosen = w.chosen;
        got = w.rest;
        gives = ap (λ l. got_by step_events (own_got net m.0) (own_by (network_world net) l) pick w.chosen)
            (sym (look_into net r.place q n c.sid c.into c.is_there)) ∙ m.1;
        sids = w.sids ∙ ap (λ (g : OwnGot). g.sids) a.2 ∙ ap (λ (h : Handed). h.sids) g.2;
      }

  -- a packet that goes on is handed over from behind the SID
  pub record OverOnward (n : ℕ) (q : Packet) (pick : ℕ → ℕ) (h : Handed) : Type 0 where
    pub chosen : ℕ
    pub handed : Handed
    pub over : HandsOver k (Some n) q pick chosen handed
    pub sids : h.sids ≡ n ∷ handed.sids

  pub over_onward : (st : Origin) (x : lists.ListPlace) (hop : ℕ) (p : Packet) (n : ℕ) (r : Transit)
      → (c : Comes net keeps facts intent is_intent t st x hop p n r) → (q : Packet) → given p r c.sid ≡ Onward q
      → (pick : ℕ → ℕ) (h : Handed) → Reached p r n c.sid pick h → OverOnward n q pick h
  over_onward st x hop p n r c q is pick h w =
      let from = goes_on_from net intent keeps r.place n c.sid q c.is_there c.node c.family in
      let a = map_parts (got_after (executed net n) (n ∷ [])) (own_got net w.fuel from.deep pick w.chosen) w.got
      (sym (from.gives w.fuel pick w.chosen)
      ∙ ap (λ e. got_by step_events (own_got net w.fuel) (own_by (network_world net)
      (look_at_sid net r.place n c.sid.behaviour e)) pick w.chosen)
      (sym is) ∙ w.gives) in
      record {
        chosen = w.chosen;
        handed = handed_of a.0;
        over = (
          w.fuel,
          ap (λ o. hand_on net w.fuel o pick w.chosen) from.from ∙ hand_from net q from.deep from.goes w.fuel pick w.chosen a.0 a.1,
        );
        sids = sym w.sids ∙ ap (λ (g : OwnGot). g.sids) (sym a.2);
      }

  -- one that is exposed is handed over there
  pub over_exposed : (st : Origin) (x : lists.ListPlace) (hop : ℕ) (p : Packet) (n : ℕ) (r : Transit)
      → (c : Comes net keeps facts intent is_intent t st x hop p n r) → (f : Family) (bytes : List ℕ) → given p r c.sid ≡ Exposed f bytes
      → (pick : ℕ → ℕ) (h : Handed) → Reached p r n c.sid pick h → h.sids ≡ n ∷ []
  over_exposed st x hop p n r c f bytes is pick h w =
      let done = same_Some _ _
      (ap (λ e. got_by step_events (own_got net w.fuel) (own_by (network_world net)
      (look_at_sid net r.place n c.sid.behaviour e)) pick w.chosen)
      (sym is) ∙ w.gives) in
      sym w.sids ∙ ap (λ (g : OwnGot). g.sids) (sym done)

  -- a walk that hands over does not lose its packet
  pub not_lost : (st : Origin) (x : lists.ListPlace) (hop : ℕ) (p : Packet) (n : ℕ) (r : Transit)
      → (c : Comes net keeps facts intent is_intent t st x hop p n r) → (e : Endpoint) → given p r c.sid ≡ e
      → ((fuel : ℕ) (pick : ℕ → ℕ) (chosen : ℕ)
      → got_by step_events (own_got net fuel) (own_by (network_world net) (look_at_sid net r.place n c.sid.behaviour e)) pick chosen ≡ None)
      → (pick : ℕ → ℕ) (h : Handed) → Reached p r n c.sid pick h → ⊥
  not_lost st x hop p n r c e is lost pick h w =
      let same : None ≡ Some w.got
      = sym (lost w.fuel pick w.chosen)
      ∙ ap (λ e. got_by step_events (own_got net w.fuel) (own_by (network_world net)
      (look_at_sid net r.place n c.sid.behaviour e)) pick w.chosen)
      (sym is) ∙ w.gives in
      absurd (cc)

  -- ---- over a leg

  pub leg_over_law : (x y : lists.ListPlace) (position : ℕ) (via : Option ℕ) (next : ℕ) (leg : Leg) (hop : ℕ) (p : Packet) (pick : ℕ → ℕ)
      (taken : ℕ) (h : Handed)
      → binding_leg net intent position via next ≡ Some leg → OnWay k t x hop p next → next_of x ≡ Some y → HandsOver k via p pick taken h
      → GoesOver k AnyWay t y via next leg hop p pick taken h
  leg_over_law x y position via next leg hop p pick taken h is_leg on to over =
      let l = leg_parts net intent position via next leg is_leg in
      let r : Transit = l.way.transit in
      let st : Origin = l.way.origin in
      let s = leads_on_sid net next l.leads in
      let b = begins net keeps intent is_intent position via p st l.way.origins in
      let c = comes_to net keeps facts intent is_intent t st x hop p next s.0 r b.facts on.along on.keeps s.1
      (active_is net keeps facts intent is_intent t x hop p next s.0 s.1 on) l.way.is_transit l.way.sid in
      let same : c.sid ≡ s.0 = same_Some _ _ (sym c.is_there ∙ s.1) in
      let goes : goes_on c.sid ≡ true = ap goes_on same ∙ s.2 in
      let hops : r.lowered + 1 ≡ leg.hops = ap (λ (l : Leg). l.hops) l.is in
      by_limit st r c goes hops (reached position via p st b x hop next r c pick taken h over) (cases_lt 1 (hop - r.lowered))
    where
      by_limit : (st : Origin) (r : Transit) (c : Comes net keeps facts intent is_intent t st x hop p next r) → goes_on c.sid ≡ true
          → r.lowered + 1 ≡ leg.hops → Reached p r next c.sid pick h → (1 < hop - r.lowered) ⊎ (hop - r.lowered ≤ 1)
          → GoesOver k AnyWay t y via next leg hop p pick taken h
      by_limit st r c goes hops w (inl high) =
          let q = there p r in
          let packet : Packet = form t y (stays_routed c.sid.psp x y c.along.routed) (hop - r.lowered - 1) in
          let is = along_onward c.sid (allow r) t x y (hop - r.lowered) q c.along c.on goes to high in
          let o = over_onward st x hop p next r c packet is pick h w in
          let less : hop - r.lowered - 1 ≡ hop - leg.hops = omega (arith, hops) in
          record {
            lowered = leg.hops;
            high = omega (arith, hops, high);
            packet = packet;
            along = subst (λ (j : ℕ). Along t y j packet) less
                (along_next t x y (hop - r.lowered) (hop - r.lowered - 1) q c.sid.psp c.along to);
            chosen = o.chosen;
            handed = o.handed;
            over = o.over;
            sids = o.sids;
            longest = λ any. (refl, tt);
          }
      by_limit st r c goes hops w (inr low) =
          absurd (not_lost st x hop p next r c _
          (along_tired c.sid (allow r) t x y (hop - r.lowered) (there p r) c.along c.on goes to low)
          (λ fuel pick chosen. refl) pick h w)

  -- ---- over a finish

  pub finish_over_law : (x : lists.ListPlace) (position : ℕ) (via : Option ℕ) (next lowered : ℕ) (hop : ℕ) (p : Packet) (pick : ℕ → ℕ)
      (taken : ℕ) (h : Handed)
      → t.inner ≡ intent.inner → binding_finish net intent position via next ≡ Some lowered → OnWay k t x hop p next
      → next_of x ≡ None → HandsOver k via p pick taken h
      → (h.sids ≡ next ∷ []) × (AnyWay via p pick taken → 0 < hop → lowered < hop)
  finish_over_law x position via next lowered hop p pick taken h family is_finish on last over =
      let l = finish_parts net intent position via next lowered is_finish in
      let r : Transit = l.way.transit in
      let st : Origin = l.way.origin in
      let s = last_sid net intent.inner next l.last in
      let b = begins net keeps intent is_intent position via p st l.way.origins in
      let c = comes_to net keeps facts intent is_intent t st x hop p next s.0 r b.facts on.along on.keeps s.1
      (active_is net keeps facts intent is_intent t x hop p next s.0 s.1 on) l.way.is_transit l.way.sid in
      let same : c.sid ≡ s.0 = same_Some _ _ (sym c.is_there ∙ s.1) in
      let shows : exposes c.sid (inner_kind t.inner) ≡ true
      = ap (λ (e : SidEntry). exposes e (inner_kind t.inner)) same ∙ ap (λ f. exposes s.0 (inner_kind f)) family ∙ s.2 in
      let q = there p r in
      let is = along_exposed c.sid (allow r) t x (hop - r.lowered) q c.along c.on last shows in
      let w = reached position via p st b x hop next r c pick taken h over in (
        over_exposed st x hop p next r c t.inner t.bytes is pick h w,
        λ any positive.
            let free = subst (Free r.lowered) c.limit w.free in
            subst (λ (n : ℕ). n < hop) l.is (above_free r.lowered hop free positive),
      )
