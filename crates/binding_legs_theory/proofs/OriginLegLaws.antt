-- The legs of an intent through binding SIDs keep the laws of legs.
use Rattle.std.proofs.Common.{◌≡◌, ℕ, ◌+◌, ◌-◌, ◌<◌, ◌≤◌, Bool, true, false, ◌&&◌, List, [], ◌∷◌, length, drop, Option, Some, slice_get, Contains, refl, sym, ◌∙◌, ap, subst, arith}
use Rattle.std.proofs.lemmas.Bool.{false≢true}
use Rattle.v6_addr.specs.Address.{PrefixValue}
use Rattle.net_model.specs.Network.{Network}
use Rattle.net_model.specs.NetworkKeeps.{Keeps}
use Rattle.intent_reader.specs.IntentRulesTerms.{IsIntent}
use Rattle.intent_reader.specs.declared.intent.Intent.{Intent}
use Rattle.list_pack.specs.declared.types.Leg.{Leg}
use Rattle.list_pack.specs.LegsValueTerms.{comes_to, ascends, IsShape, IsInBlock, ShareBlock, IsLegOf, IsFinishOf, KeepsLaws, sid_before}
use Rattle.leg_table.specs.Transits.{Transit, transit_of}
use Rattle.leg_table.specs.PositionSids.{sid_address, sids_of}
use Rattle.leg_table.specs.StrictTable.{shape_of}
use Rattle.leg_table.specs.StrictLegsValue.{legs_value}
use Rattle.leg_table.proofs.PublicLaws.{are_sids, at_end_law, comes_by, transit_arrives, transit_few, shape_address}
use Rattle.binding_legs_theory.proofs.OriginWays.{WayTo, leg_parts, finish_parts}
use Rattle.std.proofs.lemmas.Option.{same_Some}
use Rattle.binding_spec.specs.declared.origin.Origin.{Origin}
use Rattle.binding_spec.specs.BindingLegsValue.{binding_finish, binding_leg, binding_legs_value, binding_shape}
use Rattle.binding_legs_theory.proofs.OriginPlaces.{IsStarted, facts_of, origin_is}

-- ---- what a search sees of SIDs

same_ascends : (net : Network) (intent : Intent) (xs : List ℕ) → ascends (legs_value net intent) xs ≡ true
    → ascends (binding_legs_value net intent) xs ≡ true
same_ascends net intent [] h = refl
same_ascends net intent (n ∷ []) h = refl
same_ascends net intent (n ∷ m ∷ ms) h =
    by_test (sid_before (legs_value net intent) n m) (same_ascends net intent (m ∷ ms)) h
  where
    by_test : (b : Bool)
        → (ascends (legs_value net intent) (m ∷ ms) ≡ true → ascends (binding_legs_value net intent) (m ∷ ms) ≡ true)
        → (b && ascends (legs_value net intent) (m ∷ ms)) ≡ true
        → (b && ascends (binding_legs_value net intent) (m ∷ ms)) ≡ true
    by_test true on h = on h
    by_test false on h = absurd (false≢true h)

same_in_block : (net : Network) (n : ℕ) → IsInBlock (shape_of net n) → IsInBlock (binding_shape net n)
same_in_block net n b = record { length = b.length; longer = b.longer }

same_shape : (net : Network) (n : ℕ) → IsShape (shape_of net n) → IsShape (binding_shape net n)
same_shape net n s =
    record { compressed = s.compressed; in_block = λ h. same_in_block net n (s.in_block h); replace = s.replace }

same_share : (net : Network) (n m : ℕ) → ShareBlock (shape_of net n) (shape_of net m)
    → ShareBlock (binding_shape net n) (binding_shape net m)
same_share net n m s = record { lbl = s.lbl; csid = s.csid; length = s.length }

-- ---- transits from origins

module _ (net : Network) (keeps : Keeps net) (intent : Intent) (is_intent : IsIntent net intent) where
  -- where a transit ends
  record Ends (position : ℕ) (via : Option ℕ) (next left : ℕ) (n : WayTo net intent position via next left) : Type 0 where
    started : IsStarted net keeps intent is_intent position via n.origin
    to : ℕ
    to_is : length intent.steps - left ≡ to
    from : position ≤ to
    within : to ≤ length intent.steps
    there : Contains (sids_of net intent to) next
    few : n.transit.lowered ≤ 48

  ends : (position : ℕ) (via : Option ℕ) (next left : ℕ) (n : WayTo net intent position via next left) → Ends position via next left n
  ends position via next left n =
      let started = origin_is net keeps intent is_intent position via n.origin n.origins in
      let is = started.origins.is_origin in
      let f = facts_of net intent n.origin.done n.origin.place is in
      let arrives = transit_arrives net keeps intent is_intent n.origin.done n.origin.place f next n.transit n.is_transit n.sid left n.left_is in
      let at = at_end_law net keeps intent is_intent n.origin.done next left arrives in
      let from = started.origins.from in
      record {
        started = started;
        to = at.0;
        to_is = at.1;
        from = omega (arith, from, at.2);
        within = at.3;
        there = ((are_sids net keeps intent at.0).each next).1 at.4;
        few = transit_few net keeps intent is_intent n.origin.done n.origin.place f (sid_address net next) n.transit n.is_transit;
      }

  law_leg : (position : ℕ) (via : Option ℕ) (next : ℕ) (leg : Leg) → binding_leg net intent position via next ≡ Some leg
      → IsLegOf (binding_legs_value net intent) position via next leg
  law_leg position via next leg h =
      let got = leg_parts net intent position via next leg h in
      let e = ends position via next got.left got.way in
      let few = e.few in
      let from = e.from in
      let within = e.within in
      let is = e.to_is in
      subst (IsLegOf (binding_legs_value net intent) position via next) got.is
      (record {
        start = e.started.within;
        from_via = e.started.is_via;
        forward = omega (arith, is, from);
        within = omega (arith, is, within);
        is_next = subst (λ (to : ℕ). Contains (sids_of net intent to) next) (sym e.to_is) e.there;
        middle = got.leads;
        hops = omega (arith, few);
      })

  law_finish : (position : ℕ) (via : Option ℕ) (next lowered : ℕ) → binding_finish net intent position via next ≡ Some lowered
      → IsFinishOf (binding_legs_value net intent) position via next lowered
  law_finish position via next lowered h =
      let got = finish_parts net intent position via next lowered h in
      let e = ends position via next 0 got.way in
      let few = e.few in
      let is = e.to_is in
      let low = got.is in
      let last : length intent.steps ≡ e.to = omega (arith, is) in
      record {
        start = e.started.within;
        from_via = e.started.is_via;
        is_next = subst (λ (to : ℕ). Contains (sids_of net intent to) next) (sym last) e.there;
        hops = omega (arith, low, few);
      }

  -- what comes to a SID is a transit
  comes_transit : (position : ℕ) (via : Option ℕ) (next : ℕ) → comes_to (binding_legs_value net intent) position via next ≡ true
      → (left : ℕ) × WayTo net intent position via next left
  comes_transit position via next h =
      comes_by (binding_legs_value net intent) ((left : ℕ) × WayTo net intent position via next left) position via next
      (λ leg e. let got = leg_parts net intent position via next leg e in (got.left, got.way))
      (λ lowered e. (0, (finish_parts net intent position via next lowered e).way)) h

  -- transits to SIDs with one first address are one
  same_transits : (position : ℕ) (via : Option ℕ) (next other left behind : ℕ) (n : WayTo net intent position via next left)
      → (m : WayTo net intent position via other behind) → sid_address net next ≡ sid_address net other → n.transit ≡ m.transit
  same_transits position via next other left behind n m address =
      let origin : n.origin ≡ m.origin = same_Some n.origin m.origin (sym n.origins ∙ m.origins) in
      same_Some n.transit m.transit
      (sym n.is_transit
      ∙ ap (λ (d : ℕ). transit_of net d (drop n.origin.done intent.steps) n.origin.place) address
      ∙ ap (λ (s : Origin). transit_of net (sid_address net other) (drop s.done intent.steps) s.place) origin
      ∙ m.is_transit)

  law_one : (position : ℕ) (via : Option ℕ) (next other : ℕ) → comes_to (binding_legs_value net intent) position via next ≡ true
      → comes_to (binding_legs_value net intent) position via other ≡ true → (shape_of net next).prefix ≡ (shape_of net other).prefix
      → next ≡ other
  law_one position via next other h k e =
      let n = comes_transit position via next h in
      let m = comes_transit position via other k in
      let address : sid_address net next ≡ sid_address net other
      = sym (shape_address net.blocks (slice_get net.sids next)) ∙ ap (λ (p : PrefixValue). p.value) e
      ∙ shape_address net.blocks (slice_get net.sids other) in
      sym n.1.sid ∙ ap (λ (r : Transit). r.sid) (same_transits position via next other n.0 m.0 n.1 m.1 address) ∙ m.1.sid

  -- a leg lowers at the execution too, and a finish on the same transit does not
  law_above : (position : ℕ) (via : Option ℕ) (next : ℕ) (leg : Leg) (lowered : ℕ) → binding_leg net intent position via next ≡ Some leg
      → binding_finish net intent position via next ≡ Some lowered → lowered < leg.hops
  law_above position via next leg lowered h k =
      let a = leg_parts net intent position via next leg h in
      let b = finish_parts net intent position via next lowered k in
      let hops : a.way.transit.lowered + 1 ≡ leg.hops = ap (λ (l : Leg). l.hops) a.is in
      let same : a.way.transit.lowered ≡ b.way.transit.lowered
      = ap (λ (r : Transit). r.lowered) (same_transits position via next next a.left 0 a.way b.way refl) in
      let low = b.is in
      omega (arith, hops, same, low)

  -- what holds of all SIDs is as for strict legs
  pub binding_laws : KeepsLaws (legs_value net intent) → KeepsLaws (binding_legs_value net intent)
  binding_laws strict =
      record {
        steps = strict.steps;
        sid_cost = strict.sid_cost;
        sids_count = strict.sids_count;
        sids_order = λ position within. same_ascends net intent (sids_of net intent position) (strict.sids_order position within);
        shapes = λ n is_sid. same_shape net n (strict.shapes n is_sid);
        blocks = λ n m is_sid is_other same. same_share net n m (strict.blocks n m is_sid is_other same);
        leg = law_leg;
        finish = law_finish;
        one_of_prefix = law_one;
        above_finish = law_above;
      }
