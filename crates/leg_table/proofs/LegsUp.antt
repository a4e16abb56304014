-- Up from a leg, and from a finish: where an encapsulated packet comes to.
use Rattle.std.proofs.Common.{◌≡◌, ℕ, suc, ◌+◌, ◌-◌, ◌<◌, ◌≤◌, inr, Bool, true, false, ◌&&◌, ◌||◌, List, [], ◌∷◌, ◌++◌, length, drop, Option, Some, None, slice_get, refl, sym, ◌∙◌, ap, subst, arith, append_assoc}
use Rattle.std.specs.Option.{option_map}
use Rattle.std.proofs.lemmas.List.{length-drop}
use Rattle.std.specs.Prelude.{is_some}
use Rattle.std.proofs.lemmas.Bool.{false≢true}
use Rattle.std.proofs.lemmas.List.Elements.{All-nil, All-cons}
use Rattle.srv6_rules.specs.declared.sid.Behaviour.{Behaviour}
use Rattle.srv6_rules.specs.declared.sid.Behaviour.TheVariants as behaviours
use Rattle.srv6_rules.specs.Behaviours.{behaviour_exposes, behaviour_policy, behaviour_takes_flavours, is_packet_inside, exposes}
use Rattle.srv6_rules.specs.Policies.{inner_kind}
use Rattle.srv6_rules.specs.declared.family.Family.TheVariants as families
use Rattle.srv6_rules.specs.declared.sid.SidEntry.{SidEntry}
use Rattle.srv6_rules.specs.Packet.{Packet, V6, read_as}
use Rattle.net_model.specs.Network.{Network}
use Rattle.net_model.specs.NetworkKeeps.{Keeps, KeepsSid}
use Rattle.walk_rules.specs.declared.place.Place.{Place}
use Rattle.walk_rules.specs.Way.{Into, way_of}
use Rattle.walk_rules.specs.Treatment.{goes, free_step_of as step_of, onward_from}
use Rattle.walk_rules.specs.declared.place.Outcome.TheVariants as outcomes
use Rattle.walk_rules.specs.Walk.{free_walk_of as walk_of}
use Rattle.walk_rules.proofs.PublicLaws.{way_into}
use Rattle.intent_reader.specs.IntentRulesTerms.{IsIntent}
use Rattle.intent_reader.specs.declared.intent.Step.{Step}
use Rattle.intent_reader.specs.declared.intent.Intent.{Intent}
use Rattle.sid_list_theory.specs.ListPlaces as lists
use Rattle.sid_list_theory.specs.ListPlaces.{Tunnel, active, next_of, StandsOn, Along}
use Rattle.sid_list_theory.proofs.PublicLaws.{along_hop, along_sent}
use Rattle.list_pack.specs.declared.types.Leg.{Leg}
use Rattle.list_pack.specs.SidLists.{list_sid}
use Rattle.leg_table.proofs.FlatNets.{FlatFacts}
use Rattle.leg_table.specs.WalkTrace.{TraceEvent, executed, Handed, after_events, after_execution, handed_over}
use Rattle.leg_table.specs.StepMatching.{matches}
use Rattle.leg_table.specs.Transits.{transit_of}
use Rattle.leg_table.specs.TransitsTerms.{with_hop_limit}
use Rattle.leg_table.specs.PositionSids.{binds, is_binding, sid_binds, prefix_by, prefix_at, hands_over}
use Rattle.leg_table.specs.StrictLegs.{place_behind, place_from}
use Rattle.leg_table.specs.StrictLegsTerms.{leg_of, finish_of}
use Rattle.leg_table.specs.NestLegsTerms.{PlaceKeeps}
use Rattle.leg_table.specs.OneLegLaws.{LegKind, OnWay, IsTakenOn, HandsBy}
use Rattle.leg_table.specs.StrictLegsValue.{strict_kind}
use Rattle.leg_table.proofs.StrictAlike.{address_alike}
use Rattle.leg_table.proofs.StrictOptions.{kept_from, kept_same, some_same}
use Rattle.leg_table.proofs.TransitFacts.{TransitFacts, transit_facts_law, OriginFacts, start_facts}
use Rattle.leg_table.proofs.NextTransits.{NextTransit, leg_transit, finish_transit, middle_sid, last_sid}
use Rattle.leg_table.proofs.ListPlaces.{address_at}
use Rattle.leg_table.proofs.PathNames.{shape_prefix}
use Rattle.leg_table.proofs.StrictArrivals.{drop_drop}
use Rattle.leg_table.proofs.StrictHanding.{handed_stage, handed_behind, transit_walk}
use Rattle.leg_table.proofs.StrictExecutions.{step_parts}
use Rattle.leg_table.proofs.Segments.{behind_again, mid_onward, last_exposes, left_behind, behind_alone}

-- the steps left after a transit and an execution are the last ones of the intent
pub rest_is : (steps ts us : List Step) (position count left : ℕ) → ts ≡ drop count (drop position steps)
    → us ≡ drop (length ts - length us) ts → length us ≡ left
    → count ≤ length (drop position steps) → position ≤ length steps → length us ≤ length ts → us ≡ drop (length steps - left) steps
rest_is steps ts us position count left e f g h p few =
    let a = ap length e in
    let b = length-drop count (drop position steps) in
    let c = length-drop position steps in
    let d : position + count + (length ts - length us) ≡ length steps - left = omega arith in
    f ∙ ap (drop (length ts - length us)) (e ∙ drop_drop position count steps)
    ∙ drop_drop (position + count) (length ts - length us) steps
    ∙ ap (λ (k : ℕ). drop k steps) d

-- ---- a SID that exposes a packet binds no policy

policy_exposes : (b : Behaviour) (usd : Bool) (kind : ℕ) → (behaviour_takes_flavours b ≡ false → usd ≡ false)
    → (behaviour_exposes b kind || (usd && is_packet_inside kind)) ≡ true → is_some (behaviour_policy b) ≡ false
policy_exposes behaviours.End usd kind plain shows = refl
policy_exposes behaviours.EndX usd kind plain shows = refl
policy_exposes (behaviours.EndT table) usd kind plain shows = refl
policy_exposes behaviours.Dx6 usd kind plain shows = refl
policy_exposes behaviours.Dx4 usd kind plain shows = refl
policy_exposes (behaviours.Dt6 table) usd kind plain shows = refl
policy_exposes (behaviours.Dt4 table) usd kind plain shows = refl
policy_exposes (behaviours.Dt46 table) usd kind plain shows = refl
policy_exposes (behaviours.B6 policy) usd kind plain shows =
    absurd (false≢true (sym (ap (λ (u : Bool). u && is_packet_inside kind) (plain refl)) ∙ shows))
policy_exposes (behaviours.B6Red policy) usd kind plain shows =
    absurd (false≢true (sym (ap (λ (u : Bool). u && is_packet_inside kind) (plain refl)) ∙ shows))

pub last_unbound : (net : Network) (s : SidEntry) (kind : ℕ) → KeepsSid net s → exposes s kind ≡ true → binds s ≡ false
last_unbound net s kind keeps shows =
    policy_exposes s.behaviour s.usd kind (λ plain. (keeps.behaviour.flavours plain).usd) shows

module _ (net : Network) (keeps : Keeps net) (facts : FlatFacts net) (intent : Intent) (is_intent : IsIntent net intent)
    (tunnel : Tunnel) where
  -- where the packet comes to by the transit to the next SID, whose place in the list it stands at
  pub record Transits-to (position : ℕ) (via : Option ℕ) (next : ℕ) (x : lists.ListPlace) (hop : ℕ) (p : Packet)
      (n : NextTransit net intent position via next)
      : Type 0 where
    pub start : OriginFacts net intent position n.place
    pub transit : transit_of net p.destination (drop position intent.steps) n.place ≡ Some n.transit
    pub transit_facts : TransitFacts net p.destination (drop position intent.steps) n.place n.transit
    pub into : way_of net n.transit.place p.destination ≡ Into next
    pub on : (s : SidEntry) → slice_get net.sids next ≡ Some s → StandsOn s (active x)
    pub along : (k : ℕ) → hop - n.transit.lowered ≡ k → Along tunnel x k (with_hop_limit (p.hop_limit - n.transit.lowered) p)
    pub hop_limit : p.hop_limit ≡ hop

  pub transits_to : (position : ℕ) (via : Option ℕ) (next : ℕ) (x : lists.ListPlace) (hop : ℕ) (p : Packet)
      (n : NextTransit net intent position via next)
      → (s : SidEntry) → slice_get net.sids next ≡ Some s → active x ≡ list_sid net (prefix_at net next) → Along tunnel x hop p
      → PlaceKeeps net x → Transits-to position via next x hop p n
  transits_to position via next x hop p n s there is along nests =
      let start = start_facts net keeps intent is_intent position via n.place n.start n.from in
      let ts = drop position intent.steps in
      let same : active x ≡ list_sid net s.prefix = is ∙ ap (λ o. list_sid net (prefix_by o)) there in
      let to = address_at net keeps facts tunnel x hop p next s along nests there same in
      let transit = address_alike net facts next s there p.destination to ts n.place start.family ∙ n.is_transit in
      let f = transit_facts_law net keeps p.destination ts n.place n.transit start.how start.rest transit in
      let limit = along_hop tunnel x hop p along in
      record {
        start = start;
        transit = transit;
        transit_facts = f;
        into = f.into ∙ ap Into n.sid;
        on = λ t at.
            subst (StandsOn t) (sym (is ∙ ap (λ o. list_sid net (prefix_by o)) at)) (facts.suits.stands next t at);
        along = λ k e.
            subst (λ (h : ℕ). Along tunnel x h (with_hop_limit (p.hop_limit - n.transit.lowered) p))
            (ap (λ (h : ℕ). h - n.transit.lowered) limit ∙ e)
            (along_sent tunnel x hop (p.hop_limit - n.transit.lowered) p along);
        hop_limit = limit;
      }

  none_left : (us : List Step) → length us ≡ 0 → matches us [] ≡ true
  none_left [] h = refl
  none_left (u ∷ us) h = absurd (omega arith)

  abbrev k : LegKind
  k = strict_kind net intent

  pub to_sid : (x : lists.ListPlace) (hop : ℕ) (p : Packet) (next : ℕ) → OnWay k tunnel x hop p next
      → active x ≡ list_sid net (prefix_at net next)
  to_sid x hop p next on = on.to ∙ ap (list_sid net) (shape_prefix net next)

  -- up from a finish
  pub finish_up_law : (x : lists.ListPlace) (position : ℕ) (via : Option ℕ) (next lowered : ℕ) (hop : ℕ) (p : Packet) (pick : ℕ → ℕ) (taken : ℕ)
      → tunnel.inner ≡ intent.inner → finish_of net intent position via next ≡ Some lowered → OnWay k tunnel x hop p next
      → next_of x ≡ None → lowered < hop → HandsBy k tunnel position via p (next ∷ []) [] pick taken
  finish_up_law x position via next lowered hop p pick taken family h on end high =
      let got = finish_transit net intent position via next lowered h in
      let n = got.0 in
      let ts = drop position intent.steps in
      let sid = last_sid net intent.inner next got.1 in
      let a = transits_to position via next x hop p n sid.0 sid.1 (to_sid x hop p next on) on.along on.keeps in
      let low : n.transit.lowered < p.hop_limit = omega (arith, high, got.2, a.hop_limit) in
      let w = transit_walk net keeps ts n.place p n.transit a.start.how a.start.rest a.transit (inr low) in
      let q = with_hop_limit (p.hop_limit - n.transit.lowered) p in
      let shows = ap (λ f. hands_over f sid.0) family ∙ sid.2 in
      let stage = last_exposes net tunnel x (hop - n.transit.lowered) q (a.along (hop - n.transit.lowered) refl) n.transit.place next
      (pick (taken + w.count)) sid.0 a.into sid.1 (a.on sid.0 sid.1) end shows in
      let left = left_behind net next n.transit.left 0 (n.left_is ∙ ap Some got.3) in
      record {
        handed = record {
          trace = w.events pick taken ++ executed net next;
          sids = next ∷ [];
          content = read_as tunnel.inner tunnel.bytes;
        };
        over = (
          w.count + 1,
          ap (λ (o : Option Place). handed_over net (walk_of (w.count + 1) net o (V6 p) pick taken)) n.from
              ∙ w.walk pick taken 1
              ∙ ap (option_map (after_events (w.events pick taken)))
              (handed_stage net 0 n.transit.place (V6 q) pick (taken + w.count) _ stage),
        );
        meets =
            kept_from (matches ts (w.events pick taken ++ executed net next))
            (w.meets_them pick taken (executed net next)
            ∙ behind_alone net next n.transit.left left.0 left.1
            ∙ none_left left.0 left.2);
        sids = refl;
        allowed = All-cons (λ (m : ℕ). is_binding net m ≡ false) next []
            (ap sid_binds sid.1 ∙ last_unbound net sid.0 (inner_kind intent.inner) (keeps.sid next sid.0 sid.1) sid.2)
            (All-nil (λ (m : ℕ). is_binding net m ≡ false));
        content = refl;
      }

  -- what is handed over after the execution at a SID that is not the last
  behind : (at : Place) (next : ℕ) (sid : SidEntry) (fuel : ℕ) (q r : Packet) (pick : ℕ → ℕ) (taken : ℕ) (place : Place) (h : Handed)
      → at.family ≡ families.V6 → slice_get net.sids next ≡ Some sid → way_of net at q.destination ≡ Into next
      → step_of net at (V6 q) (pick taken) ≡ goes (outcomes.Again next (onward_from next sid.behaviour)) (V6 r)
      → place_from net intent (Some next) ≡ Some place
      → handed_over net (walk_of fuel net (Some place) (V6 r) pick (taken + 0)) ≡ Some h
      → handed_over net (walk_of (suc fuel) net (Some at) (V6 q) pick taken) ≡ Some (after_execution net next h)
  behind at next sid fuel q r pick taken place h v6 there into gives from handed =
      let stands = way_into net at q.destination next into in
      let same : stands.sid ≡ sid = some_same stands.sid sid (sym stands.is_there ∙ there) in
      let node : sid.node ≡ at.node = ap (λ (t : SidEntry). t.node) (sym same) ∙ stands.stands in
      handed_behind net fuel at place (V6 q) (V6 r) pick taken next (onward_from next sid.behaviour) h gives
      (behind_again net at next sid node v6 ∙ (sym (ap (option_map (place_behind next)) there) ∙ from)) handed

  -- up from a leg
  pub leg_up_law : (x y : lists.ListPlace) (position : ℕ) (via : Option ℕ) (next : ℕ) (leg : Leg) (hop : ℕ) (p : Packet) (pick : ℕ → ℕ)
      (taken : ℕ)
      → leg_of net intent position via next ≡ Some leg → OnWay k tunnel x hop p next → next_of x ≡ Some y → leg.hops < hop
      → IsTakenOn k tunnel y position via next leg hop p pick taken
  leg_up_law x y position via next leg hop p pick taken h on to high =
      let got = leg_transit net intent position via next leg h in
      let n = got.0 in
      let ts = drop position intent.steps in
      let sid = middle_sid net next got.1 in
      let a = transits_to position via next x hop p n sid.0 sid.1 (to_sid x hop p next on) on.along on.keeps in
      let hops : n.transit.lowered + 1 ≡ leg.hops = ap (λ (l : Leg). l.hops) got.2 in
      let ends : length intent.steps - n.left ≡ leg.to = ap (λ (l : Leg). l.to) got.2 in
      let low : n.transit.lowered < p.hop_limit = omega (arith, hops, high, a.hop_limit) in
      let w = transit_walk net keeps ts n.place p n.transit a.start.how a.start.rest a.transit (inr low) in
      let q = with_hop_limit (p.hop_limit - n.transit.lowered) p in
      let stage = mid_onward net tunnel x (hop - n.transit.lowered) q (a.along (hop - n.transit.lowered) refl) n.transit.place next
      (pick (taken + w.count)) sid.0 a.into sid.1 (a.on sid.0 sid.1) sid.2 y to (omega (arith, hops, high)) in
      let less : hop - n.transit.lowered - 1 ≡ hop - leg.hops = omega (arith, hops) in
      let left = left_behind net next n.transit.left n.left n.left_is in
      let us_rest = rest_is intent.steps n.transit.left left.0 position a.transit_facts.count n.left a.transit_facts.left left.1.rest left.2
      a.transit_facts.within a.start.within left.1.few in
      let from : place_from net intent (Some next) ≡ Some (place_behind next sid.0) = ap (option_map (place_behind next)) sid.1 in
      let events = w.events pick taken in
      record {
        lowered = leg.hops;
        few = omega arith;
        packet = stage.0;
        along = subst (λ (j : ℕ). Along tunnel y j stage.0) less stage.2;
        allowed = ap sid_binds sid.1 ∙ (step_parts sid.0 sid.2).1;
        events = events ++ executed net next;
        leads = λ more.
            kept_same (matches ts ((events ++ executed net next) ++ more)) (matches (drop leg.to intent.steps) more)
            (ap (matches ts) (append_assoc events (executed net next) more)
            ∙ w.meets_them pick taken (executed net next ++ more)
            ∙ left.1.same more
            ∙ ap (λ (us : List Step). matches us more) (us_rest ∙ ap (λ (j : ℕ). drop j intent.steps) ends));
        count = w.count + 1;
        chosen = taken + w.count + 0;
        passes = λ fuel h is.
            let more : w.count + 1 + fuel ≡ w.count + suc fuel = omega arith in
            let there : handed_over net (walk_of fuel net (Some (place_behind next sid.0)) (V6 stage.0) pick (taken + w.count + 0)) ≡ Some h
            = sym (ap (λ (o : Option Place). handed_over net (walk_of fuel net o (V6 stage.0) pick (taken + w.count + 0))) from) ∙ is in
            ap (λ (m : ℕ). handed_over net (walk_of m net (place_from net intent via) (V6 p) pick taken)) more
            ∙ ap (λ (o : Option Place). handed_over net (walk_of (w.count + suc fuel) net o (V6 p) pick taken)) n.from
            ∙ w.walk pick taken (suc fuel)
            ∙ ap (option_map (after_events events))
            (behind n.transit.place next sid.0 fuel q stage.0 pick (taken + w.count) (place_behind next sid.0) h
            (a.transit_facts.family ∙ a.start.family) sid.1 a.into stage.1 from there)
            ∙ ap (λ (es : List TraceEvent). Some (record { trace = es; sids = next ∷ h.sids; content = h.content }))
            (sym (append_assoc events (executed net next) h.trace));
      }
