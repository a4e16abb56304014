-- A leg and a finish by look-ups are there exactly where all choices take a packet so.
use Rattle.std.proofs.Common.{◌≡◌, ℕ, ◌+◌, ◌-◌, ◌%◌, ◌^◌, ◌<◌, ◌≤◌, Bool, true, false, ◌==◌, ◌&&◌, not, List, length, drop, Option, Some, None, slice_get, refl, sym, ◌∙◌, ap, subst, arith}
use Rattle.std.specs.Prelude.{◌↔◌}
use Rattle.std.proofs.lemmas.Bool.{and_parts, eq-eqb}
use Rattle.std.proofs.lemmas.List.{length-drop}
use Rattle.srv6_rules.specs.declared.family.Family.TheVariants as families
use Rattle.srv6_rules.specs.declared.sid.SidEntry.{SidEntry}
use Rattle.srv6_rules.specs.CompressedSteps.{compression_of, shifts, is_next}
use Rattle.srv6_rules.specs.Compressed.{argument_of}
use Rattle.v6_addr.specs.AddressTerms.{IsPrefix}
use Rattle.srv6_rules.specs.Packet.{Packet, V6}
use Rattle.net_model.specs.Network.{Network}
use Rattle.net_model.specs.NetworkKeeps.{Keeps}
use Rattle.walk_rules.specs.declared.place.Place.{Place}
use Rattle.walk_rules.specs.Way.{Into, way_of}
use Rattle.walk_rules.specs.Treatment.{free_step_of as step_of}
use Rattle.walk_rules.specs.Walk as walks
use Rattle.intent_reader.specs.IntentRulesTerms.{IsIntent}
use Rattle.intent_reader.specs.declared.intent.Step.{Step}
use Rattle.intent_reader.specs.declared.intent.Intent.{Intent}
use Rattle.list_pack.specs.declared.types.Leg.{Leg}
use Rattle.leg_table.specs.StepMatching.{left_after}
use Rattle.leg_table.specs.AllChoices.{ForAllChoices, seen_at, AtPlace}
use Rattle.leg_table.specs.Transits.{Transit, transit_of}
use Rattle.leg_table.specs.TransitsTerms.{with_hop_limit, TransitEnds}
use Rattle.leg_table.specs.PositionSids.{is_middle, is_last, first_address, sid_address}
use Rattle.leg_table.specs.StrictLegs.{place_from}
use Rattle.leg_table.specs.StrictLegsTerms.{is_origin, leg_of, finish_of, is_again, is_hand, is_left, has_limit, stage_executes, stage_exposes, IsTaken, IsHanded, IsLeg, IsFinish, shifts_by, IsAddressOf, IsLastAddressOf}
use Rattle.leg_table.proofs.StrictChoices.{choices_every}
use Rattle.leg_table.proofs.StrictTransits.{every_transit}
use Rattle.leg_table.proofs.FlatNets.{FlatFacts}
use Rattle.leg_table.proofs.StrictAlike.{address_alike}
use Rattle.leg_table.proofs.TransitFacts.{transit_facts_law, OriginFacts, start_facts}
use Rattle.leg_table.proofs.StrictExecutions.{step_again_names, step_hand_names, Ends_test, executes_is, exposes_is}
use Rattle.leg_table.proofs.StrictWitnesses.{some_packet, some_packet_has, last_packet, last_packet_has}
use Rattle.leg_table.proofs.NextTransits.{NextTransit, middle_sid, last_sid, left_after_le, leg_transit, leg_from, finish_transit, finish_from}

-- a SID does not shift the first address of its prefix
pub value_alone : (s : SidEntry) → IsPrefix s.prefix → shifts (compression_of s) s.prefix.value ≡ false
unfolding argument_of
value_alone s is =
    let none : ((s.prefix.value % 2 ^ (128 - s.prefix.len)) == 0) ≡ true = eq-eqb (s.prefix.value % 2 ^ (128 - s.prefix.len)) 0 is.2 in
    ap (λ (b : Bool). is_next s.csid && not b) none ∙ never (is_next s.csid)
  where
    never : (b : Bool) → (b && false) ≡ false
    never true = refl
    never false = refl

-- what is so at a place is so at a place that is there
pub place_from_law : (o : Option Place) (P : Place → Type 0) → AtPlace o P → (place : Place) × (o ≡ Some place) × P place
place_from_law None P h = absurd h
place_from_law (Some place) P h = (place, refl, h)

module _ (net : Network) (keeps : Keeps net) (intent : Intent) (is_intent : IsIntent net intent) where
  -- a way for all choices is a transit by look-ups
  choices_transit : (end : List Step → walks.Stage → Bool) (position : ℕ) (place : Place) (p : Packet) → OriginFacts net intent position place
      → 0 < p.hop_limit
      → ForAllChoices net end (drop position intent.steps) place (V6 p)
      ↔ TransitEnds net end p (transit_of net p.destination (drop position intent.steps) place)
  choices_transit end position place p f positive =
      let a = choices_every net end (drop position intent.steps) place (V6 p) in
      let b = every_transit net end keeps (drop position intent.steps) place p f.how f.rest positive in
      (λ h. b.0 (a.0 h), λ h. a.1 (b.1 h))

  left_count : (position : ℕ) (via : Option ℕ) (next : ℕ) → (n : NextTransit net intent position via next)
      → n.left ≤ length intent.steps - position
  left_count position via next n =
      let s = start_facts net keeps intent is_intent position via n.place n.start n.from in
      let f = transit_facts_law net keeps (sid_address net next) (drop position intent.steps) n.place n.transit s.how s.rest n.is_transit in
      let a = left_after_le net next n.transit.left n.left n.left_is in
      let b : length n.transit.left ≡ length (drop position intent.steps) - f.count
      = ap length f.left ∙ length-drop f.count (drop position intent.steps) in
      let c = length-drop position intent.steps in
      omega arith

  from_place : (via : Option ℕ) (place : Place) (P : Place → Type 0) → place_from net intent via ≡ Some place → P place
      → AtPlace (place_from net intent via) P
  from_place via place P e h = subst (λ o. AtPlace o P) (sym e) h

  -- the ends of a transit that is there
  ends_at : (end : List Step → walks.Stage → Bool) (p : Packet) (o : Option Transit) (r : Transit) → o ≡ Some r
      → TransitEnds net end p o ↔ TransitEnds net end p (Some r)
  ends_at end p o r e = (λ h. subst (TransitEnds net end p) e h, λ h. subst (TransitEnds net end p) (sym e) h)

  transit_is_there : (end : List Step → walks.Stage → Bool) (p : Packet) (o : Option Transit) → TransitEnds net end p o → (r : Transit) × (o ≡ Some r)
  transit_is_there end p None h = absurd h
  transit_is_there end p (Some r) h = (r, refl)

  -- transits to an address are those to the first address of a SID's prefix
  abbrev Same : ℕ → ℕ → Type 0
  Same address next = (s : SidEntry) → slice_get net.sids next ≡ Some s → (ts : List Step) (place : Place) → place.family ≡ families.V6
      → transit_of net address ts place ≡ transit_of net (sid_address net next) ts place

  -- and the SID does not shift a packet there
  abbrev Alone : ℕ → ℕ → Type 0
  Alone address next = (s : SidEntry) → slice_get net.sids next ≡ Some s → shifts (compression_of s) address ≡ false

  transit_taken : (address : ℕ) (position : ℕ) (via : Option ℕ) (next : ℕ) (n : NextTransit net intent position via next) → Same address next
      → is_middle net next ≡ true
      → IsTaken net address (drop position intent.steps) next n.left (n.transit.lowered + 1) n.place
  transit_taken address position via next n same middle p to on positive =
      let s = start_facts net keeps intent is_intent position via n.place n.start n.from in
      let sid = middle_sid net next middle in
      let is_transit = same sid.0 sid.1 (drop position intent.steps) n.place s.family ∙ n.is_transit in
      let f = transit_facts_law net keeps address (drop position intent.steps) n.place n.transit s.how s.rest is_transit in
      let into : way_of net n.transit.place p.destination ≡ Into next
      = ap (way_of net n.transit.place) to ∙ (f.into ∙ ap Into n.sid) in
      let behind = p.hop_limit - (n.transit.lowered + 1) in
      let is = executes_is net n.transit.place p next sid.0 n.transit.left (p.hop_limit - n.transit.lowered) n.left behind into sid.1 on in
      let end = stage_executes net next n.left behind in
      let all = choices_transit end position n.place p s positive in
      let there : transit_of net p.destination (drop position intent.steps) n.place ≡ Some n.transit
      = ap (λ (d : ℕ). transit_of net d (drop position intent.steps) n.place) to ∙ is_transit in
      let at = ends_at end p (transit_of net p.destination (drop position intent.steps) n.place) n.transit there in (
        λ high. all.1 (at.1 (omega (arith, high), is.1 (omega (arith, high), n.left_is, omega (arith, high)))),
        λ h. let r = at.0 (all.0 h) in let got = is.0 r.1 in high n.transit.lowered p.hop_limit got.0,
      )
    where
      high : (k h : ℕ) → 1 < h - k → k + 1 < h
      high k h e = omega arith

  leg_is : (address position : ℕ) (via : Option ℕ) (next : ℕ) (leg : Leg) → Same address next
      → leg_of net intent position via next ≡ Some leg → IsLeg net intent address position via next leg
  leg_is address position via next leg same h =
      let got = leg_transit net intent position via next leg h in
      let n = got.0 in
      let few = left_count position via next n in
      subst (IsLeg net intent address position via next) got.2
      (record {
        start = n.start;
        middle = got.1;
        within = omega arith;
        taken =
            let e : length intent.steps - (length intent.steps - n.left) ≡ n.left = omega (arith, few) in
            from_place via n.place (IsTaken net address (drop position intent.steps) next
            (length intent.steps - (length intent.steps - n.left))
            (n.transit.lowered + 1)) n.from
            (subst (λ (left : ℕ). IsTaken net address (drop position intent.steps) next left (n.transit.lowered + 1) n.place) (sym e)
            (transit_taken address position via next n same got.1));
      })

  -- a packet that all choices take so shows the transit
  taken_transit : (address position : ℕ) (via : Option ℕ) (next left hops : ℕ) (place : Place) → Same address next
      → is_origin net intent position via ≡ true
      → is_middle net next ≡ true
      → place_from net intent via ≡ Some place → IsTaken net address (drop position intent.steps) next left hops place
      → (n : NextTransit net intent position via next) × (n.left ≡ left) × (n.transit.lowered + 1 ≡ hops)
  taken_transit address position via next left hops place same start middle from taken =
      let sid = middle_sid net next middle in
      let has = some_packet_has net next sid.0 address (hops + 1) sid.1 sid.2 in
      let p = some_packet address (hops + 1) in
      let s = start_facts net keeps intent is_intent position via place start from in
      let positive : 0 < p.hop_limit = subst (λ (h : ℕ). 0 < h) (sym has.2) (omega arith) in
      let above : hops < p.hop_limit = subst (λ (h : ℕ). hops < h) (sym has.2) (omega arith) in
      let behind = p.hop_limit - hops in
      let end = stage_executes net next left behind in
      let ends = (choices_transit end position place p s positive).0 ((taken p has.1 has.0 positive).0 above) in
      let got = transit_is_there end p (transit_of net p.destination (drop position intent.steps) place) ends in
      let r = got.0 in
      let there : transit_of net address (drop position intent.steps) place ≡ Some r
      = ap (λ (d : ℕ). transit_of net d (drop position intent.steps) place) (sym has.1) ∙ got.1 in
      let is_transit = sym (same sid.0 sid.1 (drop position intent.steps) place s.family) ∙ there in
      let f = transit_facts_law net keeps address (drop position intent.steps) place r s.how s.rest there in
      let at = (ends_at end p (transit_of net p.destination (drop position intent.steps) place) r got.1).0 ends in
      let into : way_of net r.place p.destination ≡ Into r.sid = ap (way_of net r.place) has.1 ∙ f.into in
      let q = with_hop_limit (p.hop_limit - r.lowered) p in
      let gave = step_of net r.place (V6 q) 0 in
      let test = Ends_test gave.outcome (stage_executes net next left behind r.left (seen_at r.place (V6 q) gave)) at.1 in
      let first = and_parts (is_again next gave.outcome) (is_left left (left_after net next r.left) && has_limit behind gave.after) test in
      let named : r.sid ≡ next = step_again_names net r.place q next r.sid into first.0 in
      let is =
      executes_is net r.place p next sid.0 r.left (p.hop_limit - r.lowered) left behind (into ∙ ap Into named) sid.1 has.0 in
      let got2 = is.0 at.1 in (
        record { start = start; place = place; from = from; transit = r; is_transit = is_transit; sid = named; left = left; left_is = got2.1 },
        refl,
        same_hops r.lowered hops p.hop_limit has.2 got2.0 got2.2,
      )
    where
      same_hops : (k hops limit : ℕ) → limit ≡ hops + 1 → 1 < limit - k → limit - k - 1 ≡ limit - hops → k + 1 ≡ hops
      same_hops k hops limit e f g = omega arith

  is_leg : (address position : ℕ) (via : Option ℕ) (next : ℕ) (leg : Leg) → Same address next
      → IsLeg net intent address position via next leg
      → leg_of net intent position via next ≡ Some leg
  is_leg address position via next leg same h =
      let at = place_from_law (place_from net intent via)
      (IsTaken net address (drop position intent.steps) next (length intent.steps - leg.to) leg.hops) h.taken in
      let got = taken_transit address position via next (length intent.steps - leg.to) leg.hops at.0 same h.start h.middle at.1 at.2 in
      let to : length intent.steps - got.0.left ≡ leg.to = same_to (length intent.steps) leg.to got.0.left h.within got.1 in
      leg_from net intent position via next got.0 h.middle
      ∙ ap Some (same_leg (length intent.steps - got.0.left) leg.to (got.0.transit.lowered + 1) leg.hops to got.2)
    where
      same_to : (count to left : ℕ) → to ≤ count → left ≡ count - to → count - left ≡ to
      same_to count to left e f = omega arith

      same_leg : (a b c d : ℕ) → a ≡ b → c ≡ d → Path Leg (record { to = a; hops = c }) (record { to = b; hops = d })
      same_leg a b c d e f = cc

  transit_handed : (address position : ℕ) (via : Option ℕ) (next : ℕ) (n : NextTransit net intent position via next) → Same address next
      → is_last net intent.inner next ≡ true
      → IsHanded net address (drop position intent.steps) next n.left n.transit.lowered n.place
  transit_handed address position via next n same last p to on positive =
      let s = start_facts net keeps intent is_intent position via n.place n.start n.from in
      let sid = last_sid net intent.inner next last in
      let is_transit = same sid.0 sid.1 (drop position intent.steps) n.place s.family ∙ n.is_transit in
      let f = transit_facts_law net keeps address (drop position intent.steps) n.place n.transit s.how s.rest is_transit in
      let into : way_of net n.transit.place p.destination ≡ Into next
      = ap (way_of net n.transit.place) to ∙ (f.into ∙ ap Into n.sid) in
      let behind = p.hop_limit - n.transit.lowered in
      let is = exposes_is net n.transit.place p next sid.0 n.transit.left (p.hop_limit - n.transit.lowered) n.left behind into sid.1 on in
      let end = stage_exposes net next n.left behind in
      let all = choices_transit end position n.place p s positive in
      let there : transit_of net p.destination (drop position intent.steps) n.place ≡ Some n.transit
      = ap (λ (d : ℕ). transit_of net d (drop position intent.steps) n.place) to ∙ is_transit in
      let at = ends_at end p (transit_of net p.destination (drop position intent.steps) n.place) n.transit there in
      (λ high. all.1 (at.1 (high, is.1 (n.left_is, refl))), λ h. (at.0 (all.0 h)).0)

  finish_is : (address position : ℕ) (via : Option ℕ) (next lowered : ℕ) → Same address next
      → finish_of net intent position via next ≡ Some lowered → IsFinish net intent address position via next lowered
  finish_is address position via next lowered same h =
      let got = finish_transit net intent position via next lowered h in
      let n = got.0 in
      subst (IsFinish net intent address position via next) got.2
      (record {
        start = n.start;
        last = got.1;
        handed =
            from_place via n.place (IsHanded net address (drop position intent.steps) next 0 n.transit.lowered) n.from
            (subst (λ (left : ℕ). IsHanded net address (drop position intent.steps) next left n.transit.lowered n.place) got.3
            (transit_handed address position via next n same got.1));
      })

  handed_transit : (address position : ℕ) (via : Option ℕ) (next left lowered : ℕ) (place : Place) → Same address next → Alone address next
      → is_origin net intent position via ≡ true
      → is_last net intent.inner next ≡ true
      → place_from net intent via ≡ Some place → IsHanded net address (drop position intent.steps) next left lowered place
      → (n : NextTransit net intent position via next) × (n.left ≡ left) × (n.transit.lowered ≡ lowered)
  handed_transit address position via next left lowered place same alone start last from handed =
      let sid = last_sid net intent.inner next last in
      let has = last_packet_has net next sid.0 intent.inner address (lowered + 1) sid.1 (alone sid.0 sid.1) sid.2 in
      let p = last_packet intent.inner address (lowered + 1) in
      let s = start_facts net keeps intent is_intent position via place start from in
      let positive : 0 < p.hop_limit = subst (λ (h : ℕ). 0 < h) (sym has.2) (omega arith) in
      let above : lowered < p.hop_limit = subst (λ (h : ℕ). lowered < h) (sym has.2) (omega arith) in
      let behind = p.hop_limit - lowered in
      let end = stage_exposes net next left behind in
      let ends = (choices_transit end position place p s positive).0 ((handed p has.1 has.0 positive).0 above) in
      let got = transit_is_there end p (transit_of net p.destination (drop position intent.steps) place) ends in
      let r = got.0 in
      let there : transit_of net address (drop position intent.steps) place ≡ Some r
      = ap (λ (d : ℕ). transit_of net d (drop position intent.steps) place) (sym has.1) ∙ got.1 in
      let is_transit = sym (same sid.0 sid.1 (drop position intent.steps) place s.family) ∙ there in
      let f = transit_facts_law net keeps address (drop position intent.steps) place r s.how s.rest there in
      let at = (ends_at end p (transit_of net p.destination (drop position intent.steps) place) r got.1).0 ends in
      let into : way_of net r.place p.destination ≡ Into r.sid = ap (way_of net r.place) has.1 ∙ f.into in
      let q = with_hop_limit (p.hop_limit - r.lowered) p in
      let gave = step_of net r.place (V6 q) 0 in
      let test = Ends_test gave.outcome (stage_exposes net next left behind r.left (seen_at r.place (V6 q) gave)) at.1 in
      let first = and_parts (is_hand next gave.outcome) (is_left left (left_after net next r.left) && has_limit behind (V6 q)) test in
      let named : r.sid ≡ next = step_hand_names net r.place q next r.sid into first.0 in
      let is =
      exposes_is net r.place p next sid.0 r.left (p.hop_limit - r.lowered) left behind (into ∙ ap Into named) sid.1 has.0 in
      let got2 = is.0 at.1 in (
        record { start = start; place = place; from = from; transit = r; is_transit = is_transit; sid = named; left = left; left_is = got2.0 },
        refl,
        same_lowered r.lowered lowered p.hop_limit has.2 at.0 got2.1,
      )
    where
      same_lowered : (k lowered limit : ℕ) → limit ≡ lowered + 1 → k < limit → limit - k ≡ limit - lowered → k ≡ lowered
      same_lowered k lowered limit e f g = omega arith

  is_finish : (address position : ℕ) (via : Option ℕ) (next lowered : ℕ) → Same address next → Alone address next
      → IsFinish net intent address position via next lowered
      → finish_of net intent position via next ≡ Some lowered
  is_finish address position via next lowered same alone h =
      let at = place_from_law (place_from net intent via) (IsHanded net address (drop position intent.steps) next 0 lowered) h.handed in
      let got = handed_transit address position via next 0 lowered at.0 same alone h.start h.last at.1 at.2 in
      finish_from net intent position via next got.0 h.last got.1 ∙ ap Some got.2

  itself : (next : ℕ) → Same (sid_address net next) next
  itself next s there ts place v6 = refl

  -- for packets to the first address of the SID's prefix
  pub leg_meaning : (position : ℕ) (via : Option ℕ) (next : ℕ) (leg : Leg)
      → (leg_of net intent position via next ≡ Some leg) ↔ IsLeg net intent (sid_address net next) position via next leg
  leg_meaning position via next leg = (
    leg_is (sid_address net next) position via next leg (itself next),
    is_leg (sid_address net next) position via next leg (itself next),
  )

  first_alone : (next : ℕ) → Alone (sid_address net next) next
  first_alone next s there =
      subst (λ (a : ℕ). shifts (compression_of s) a ≡ false) (ap first_address (sym there))
      (value_alone s (keeps.sid next s there).prefix)

  pub finish_meaning : (position : ℕ) (via : Option ℕ) (next lowered : ℕ)
      → (finish_of net intent position via next ≡ Some lowered) ↔ IsFinish net intent (sid_address net next) position via next lowered
  finish_meaning position via next lowered = (
    finish_is (sid_address net next) position via next lowered (itself next),
    is_finish (sid_address net next) position via next lowered (itself next) (first_alone next),
  )

  -- in a flat network for packets to any address of the prefix
  module _ (facts : FlatFacts net) where
    pub leg_each : (position : ℕ) (via : Option ℕ) (next address : ℕ) (leg : Leg) → IsAddressOf net next address
        → (leg_of net intent position via next ≡ Some leg) ↔ IsLeg net intent address position via next leg
    leg_each position via next address leg is =
        let same : Same address next = λ s there. address_alike net facts next s there address is in
        (leg_is address position via next leg same, is_leg address position via next leg same)

    pub finish_each : (position : ℕ) (via : Option ℕ) (next address lowered : ℕ) → IsLastAddressOf net next address
        → (finish_of net intent position via next ≡ Some lowered) ↔ IsFinish net intent address position via next lowered
    finish_each position via next address lowered is =
        let same : Same address next = λ s there. address_alike net facts next s there address is.is_address in
        let alone : Alone address next = λ s there. ap (λ (o : Option SidEntry). shifts_by o address) (sym there) ∙ is.alone in (
          finish_is address position via next lowered same,
          is_finish address position via next lowered same alone,
        )
