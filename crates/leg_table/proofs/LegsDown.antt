-- Down to a leg, or to a finish: what becomes of a packet on its way along a list that is handed over for all choices.
use Rattle.std.proofs.Common.{◌≡◌, ℕ, ◌+◌, ◌-◌, ◌<◌, ◌≤◌, true, ◌==◌, ◌&&◌, List, [], length, drop, Option, Some, None, slice_get, refl, sym, ◌∙◌, ap, subst, arith, append-nil, false, not, ◌++◌}
use Rattle.std.specs.Prelude.{nat_le, is_some}
use Rattle.std.specs.Option.{option_map}
use Rattle.std.proofs.lemmas.Bool.{and_from, and_parts, eq-eqb, le-leb, false≢true}
use Rattle.v6_addr.specs.Address.{PrefixValue}
use Rattle.srv6_rules.specs.declared.family.Family.{Family}
use Rattle.srv6_rules.specs.declared.sid.SidEntry.{SidEntry}
use Rattle.srv6_rules.specs.Packet.{Packet, V6, read_as}
use Rattle.srv6_rules.specs.Endpoint.{Exposed, at_sid, Endpoint, Onward, Delivered, Refused}
use Rattle.net_model.specs.Network.{Network}
use Rattle.net_model.specs.NetworkRulesTerms.{IsNetwork}
use Rattle.net_flatness.specs.Flat.{IsFlat}
use Rattle.net_model.specs.NetworkKeeps.{Keeps}
use Rattle.net_model.proofs.PublicLaws.{keeps_from_network}
use Rattle.walk_rules.specs.declared.place.Place.{Place}
use Rattle.walk_rules.specs.Walk.{free_walk_of as walk_of}
use Rattle.walk_rules.specs.Treatment.{onward_from, exposed_from, treated_at_sid, allow_of, Gave, goes, free_step_of as step_of}
use Rattle.intent_reader.specs.IntentRulesTerms.{IsIntent}
use Rattle.intent_reader.specs.declared.intent.Step.{Step}
use Rattle.intent_reader.specs.declared.intent.Intent.{Intent}
use Rattle.sid_list_theory.specs.ListPlaces as lists
use Rattle.sid_list_theory.specs.ListPlaces.{Tunnel, Along, active, next_of}
use Rattle.sid_list_theory.proofs.PublicLaws.{along_exposes, along_only}
use Rattle.list_pack.specs.SidLists.{list_sid, IsSidPrefix}
use Rattle.list_pack.specs.LegsValueTerms.{IsVia}
use Rattle.leg_table.proofs.FlatNets.{FlatFacts}
use Rattle.leg_table.specs.WalkTrace.{executed, Handed, handed_over}
use Rattle.leg_table.specs.StepMatching.{matches, left_after}
use Rattle.leg_table.specs.Transits.{Transit}
use Rattle.leg_table.specs.TransitsTerms.{with_hop_limit}
use Rattle.leg_table.specs.PositionSids.{is_sid_at, is_middle, sid_goes_on, sid_exposes, hands_over, sid_address, binds, takes_step, sid_binds, is_binding}
use Rattle.leg_table.specs.StrictLegs.{place_behind, place_from, leg_with}
use Rattle.leg_table.specs.StrictLegsTerms.{is_origin}
use Rattle.leg_table.specs.NestLegsTerms.{PlaceKeeps}
use Rattle.leg_table.specs.OneLegLaws.{LegKind, AlwaysHands, BecomesOf, Ended, Moved}
use Rattle.leg_table.specs.Realizes.{headend_place}
use Rattle.leg_table.specs.StrictLegsValue.{legs_value, strict_kind, AnyWay}
use Rattle.leg_table.proofs.StrictExecutions.{stage_into}
use Rattle.leg_table.proofs.StrictOptions.{kept_from, kept_parts}
use Rattle.leg_table.proofs.TransitFacts.{transit_facts_law, start_facts}
use Rattle.leg_table.proofs.NextTransits.{NextTransit, leg_from, finish_from, middle_sid}
use Rattle.leg_table.proofs.StrictLaws.{shape_middle}
use Rattle.leg_table.proofs.PathNames.{shape_prefix}
use Rattle.leg_table.proofs.StrictPositions.{are_sids}
use Rattle.leg_table.proofs.LegsOver.{again_over, transit_over, hand_over, from_place, Hands_over, none_dropped}
use Rattle.leg_table.proofs.Segments.{behind_again, meets_behind, behind_alone, LeftBehind}
use Rattle.leg_table.proofs.LegsUp.{rest_is}
use Rattle.leg_table.proofs.AllHands.{Unbound, no_steps, Hands, moved_goes}
use Rattle.leg_table.proofs.StrictComings as comings
use Rattle.std.proofs.lemmas.List.Elements.{All-head, All-tail}
use Rattle.srv6_rules.specs.Behaviours.{goes_on, behaviour_policy}
use Rattle.walk_rules.specs.declared.place.Outcome.TheVariants as outcomes
use Rattle.walk_rules.proofs.PublicLaws.{onward_each}
use Rattle.leg_table.proofs.HopLimits.{onward_moves}

module _ (net : Network) (network : IsNetwork net) (flat : IsFlat net) (facts : FlatFacts net) (intent : Intent)
    (is_intent : IsIntent net intent) (tunnel : Tunnel) (family : tunnel.inner ≡ intent.inner) where
  keeps : Keeps net
  keeps = keeps_from_network net network

  -- where a packet comes to
  abbrev Comes : ℕ → Option ℕ → lists.ListPlace → PrefixValue → ℕ → Packet → Place → Type 0
  Comes = comings.Comes net network flat facts intent is_intent tunnel family

  abbrev k : LegKind
  k = strict_kind net intent

  -- ---- where the packet starts from

  starts : (position : ℕ) (via : Option ℕ) → position ≤ length intent.steps → IsVia (legs_value net intent) position via
      → is_origin net intent position via ≡ true
  starts position None within at =
      and_from (nat_le position (length intent.steps)) (position == 0) (le-leb position (length intent.steps) within) (eq-eqb position 0 at)
  starts position (Some n) within at =
      and_from (nat_le position (length intent.steps)) (is_sid_at net intent position n && is_middle net n)
      (le-leb position (length intent.steps) within)
      (and_from (is_sid_at net intent position n) (is_middle net n) (((are_sids net keeps intent position).each n).0 at.0)
      (sym (shape_middle net.blocks (slice_get net.sids n)) ∙ at.1))

  from : (position : ℕ) (via : Option ℕ) → is_origin net intent position via ≡ true
      → (place : Place) × (place_from net intent via ≡ Some place)
  from position None start = (headend_place intent, refl)
  from position (Some n) start =
      let via = and_parts (nat_le position (length intent.steps)) (is_sid_at net intent position n && is_middle net n) start in
      let s = middle_sid net n (and_parts (is_sid_at net intent position n) (is_middle net n) via.1).1 in
      (place_behind n s.0, ap (option_map (place_behind n)) s.1)

  -- under every row of choices, from that place
  abbrev HandsFrom : Option Place → Packet → List Step → Type 0
  HandsFrom o p ts =
      (pick : ℕ → ℕ) → (h : Handed) × ((fuel : ℕ) × (handed_over net (walk_of fuel net o (V6 p) pick 0) ≡ Some h))
      × (matches ts h.trace ≡ true) × Unbound net h.sids

  of_kept : (via : Option ℕ) (p : Packet) (position : ℕ) → AlwaysHands k via p position
      → HandsFrom (place_from net intent via) p (drop position intent.steps)
  of_kept via p position hands =
      λ pick. let h = hands.1 pick in (h.0, h.1, (kept_parts (matches (drop position intent.steps) h.0.trace) hands.0 h.2).0, h.3)

  to_kept : (via : Option ℕ) (p : Packet) (position : ℕ) → HandsFrom (place_from net intent via) p (drop position intent.steps)
      → AlwaysHands k via p position
  to_kept via p position hands =
      ([], λ pick. (let h = hands pick in (h.0, h.1, kept_from (matches (drop position intent.steps) h.0.trace) h.2, h.3)))

  -- the packet where it comes to
  abbrev there_packet : Packet → Transit → Packet
  there_packet p r = with_hop_limit (p.hop_limit - r.lowered) p

  -- it goes on from there
  record Goes-on (x y : lists.ListPlace) (hop : ℕ) (p : Packet) (transit : Transit) (sid : SidEntry) (r : Packet) : Type 0 where
    pub middle : takes_step sid ≡ true
    pub high : 1 < hop - transit.lowered
    pub next : next_of x ≡ Some y
    pub along : Along tunnel y (hop - transit.lowered - 1) r
    pub gives : (choice : ℕ) → step_of net transit.place (V6 (there_packet p transit)) choice
        ≡ goes (outcomes.Again transit.sid (onward_from transit.sid sid.behaviour)) (V6 r)
    pub rest : List Step
    pub behind : LeftBehind net transit.sid transit.left rest
    pub hands : Hands net (place_behind transit.sid sid) (V6 r) rest

  -- a binding SID is not executed
  binds_not : (position : ℕ) (via : Option ℕ) (x : lists.ListPlace) (q : PrefixValue) (hop : ℕ) (p : Packet) (place : Place)
      → (c : Comes position via x q hop p place) → (number : ℕ) → behaviour_policy c.sid.behaviour ≡ Some number → (after : Packet)
      → step_of net c.transit.place (V6 (there_packet p c.transit)) 0
      ≡ goes (outcomes.Again c.transit.sid (onward_from c.transit.sid c.sid.behaviour)) (V6 after) → ⊥
  binds_not position via x q hop p place c number binding after gives =
      let n = c.transit.sid in
      let zeros : ℕ → ℕ = λ d. 0 in
      let hand = c.hands zeros in
      let over = again_over net c.transit.place (place_behind n c.sid) (V6 (there_packet p c.transit)) (V6 after) zeros 0 hand.0 n
      (onward_from n c.sid.behaviour) gives (behind_again net c.transit.place n c.sid c.stands c.is_v6) hand.1 in
      let first = All-head (λ (m : ℕ). is_binding net m ≡ false) n over.0.sids
      (subst (Unbound net) (sym (ap (λ (h : Handed). h.sids) over.2)) hand.3) in
      let is : is_binding net n ≡ true = ap sid_binds c.there ∙ ap (λ (o : Option ℕ). is_some o) binding in
      absurd (false≢true (sym first ∙ is))

  -- what is handed over after the execution
  goes_over : (position : ℕ) (via : Option ℕ) (x : lists.ListPlace) (q : PrefixValue) (hop : ℕ) (p r : Packet) (place : Place)
      → (c : Comes position via x q hop p place)
      → ((choice : ℕ) → step_of net c.transit.place (V6 (there_packet p c.transit)) choice
      ≡ goes (outcomes.Again c.transit.sid (onward_from c.transit.sid c.sid.behaviour)) (V6 r))
      → (pick : ℕ → ℕ)
      → (k : Handed) × Hands_over net (place_behind c.transit.sid c.sid) (V6 r) pick 0 k
      × (matches c.transit.left (executed net c.transit.sid ++ k.trace) ≡ true) × Unbound net k.sids
  goes_over position via x q hop p r place c gives pick =
      let n = c.transit.sid in
      let hand = c.hands pick in
      let over = again_over net c.transit.place (place_behind n c.sid) (V6 (there_packet p c.transit)) (V6 r) pick 0 hand.0 n
      (onward_from n c.sid.behaviour) (gives (pick 0)) (behind_again net c.transit.place n c.sid c.stands c.is_v6) hand.1 in (
        over.0,
        (over.1.0, over.1.1),
        ap (λ (h : Handed). matches c.transit.left h.trace) over.2 ∙ hand.2,
        All-tail (λ (m : ℕ). is_binding net m ≡ false) n over.0.sids
            (subst (Unbound net) (sym (ap (λ (h : Handed). h.sids) over.2)) hand.3),
      )

  goes_onwards : (position : ℕ) (via : Option ℕ) (x y : lists.ListPlace) (q : PrefixValue) (hop : ℕ) (p r : Packet) (place : Place)
      → (c : Comes position via x q hop p place) → takes_step c.sid ≡ true → 1 < hop - c.transit.lowered → next_of x ≡ Some y
      → Along tunnel y (hop - c.transit.lowered - 1) r
      → ((choice : ℕ) → step_of net c.transit.place (V6 (there_packet p c.transit)) choice
      ≡ goes (outcomes.Again c.transit.sid (onward_from c.transit.sid c.sid.behaviour)) (V6 r))
      → Goes-on x y hop p c.transit c.sid r
  goes_onwards position via x y q hop p r place c middle high next along gives =
      let over = goes_over position via x q hop p r place c gives in
      let zeros : ℕ → ℕ = λ d. 0 in
      let behind = meets_behind net c.transit.sid c.transit.left (over zeros).0.trace (over zeros).2 in
      record {
        middle = middle;
        high = high;
        next = next;
        along = along;
        gives = gives;
        rest = behind.0;
        behind = behind.1;
        hands = λ pick. let o = over pick in (o.0, o.1, sym (behind.1.same o.0.trace) ∙ o.2, o.3);
      }

  -- ---- the packet is exposed at the SID that it comes to

  ended : (position : ℕ) (via : Option ℕ) (x : lists.ListPlace) (q : PrefixValue) (hop : ℕ) (p : Packet) (place : Place)
      → is_origin net intent position via ≡ true → place_from net intent via ≡ Some place
      → (c : Comes position via x q hop p place) → (f : Family) (bytes : List ℕ)
      → at_sid c.sid (allow_of (slice_get net.nodes c.transit.place.node)) (there_packet p c.transit) ≡ Exposed f bytes
      → BecomesOf k AnyWay tunnel x q position via hop p
  ended position via x q hop p place start from c f bytes shown =
      let n = c.transit.sid in
      let zeros : ℕ → ℕ = λ d. 0 in
      let ts = drop position intent.steps in
      let shows = along_exposes c.sid _ tunnel x (hop - c.transit.lowered) (there_packet p c.transit) f bytes c.along c.on shown in
      let gives = λ (choice : ℕ). stage_into net c.transit.place (there_packet p c.transit) n c.sid choice c.into c.there
      ∙ ap (treated_at_sid net c.transit.place.node n c.sid.behaviour (there_packet p c.transit)) shown in
      let hand = c.hands zeros in
      let at = hand_over net c.transit.place (V6 (there_packet p c.transit)) (read_as f bytes) zeros 0 hand.0 n (exposed_from n c.sid.behaviour) f
      (gives 0) hand.1 in
      let met : matches c.transit.left (executed net n) ≡ true = ap (matches c.transit.left) (sym at.1) ∙ hand.2 in
      let behind = meets_behind net n c.transit.left [] (ap (matches c.transit.left) (append-nil (executed net n)) ∙ met) in
      let none : matches behind.0 [] ≡ true = sym (behind_alone net n c.transit.left behind.0 behind.1) ∙ met in
      let left : left_after net n c.transit.left ≡ Some 0 = behind.1.left ∙ ap Some (no_steps behind.0 none) in
      let nr : NextTransit net intent position via n
      = record { start = start; place = place; from = from; transit = c.transit; is_transit = c.is_transit; sid = refl; left = 0; left_is = left } in
      let opens : hands_over intent.inner c.sid ≡ true = ap (λ (g : Family). hands_over g c.sid) (sym family) ∙ shows.1 in
      Ended n c.transit.lowered (finish_from net intent position via n nr (ap (sid_exposes intent.inner) c.there ∙ opens) refl)
      (shape_prefix net n ∙ c.prefix) c.low shows.0
      (λ pick taken h over.
      let started = from_place net keeps facts intent is_intent tunnel via p pick taken h place from over in
      let rest = transit_over net ts place p c.transit pick taken h c.walked started in
      let end = hand_over net c.transit.place (V6 (there_packet p c.transit)) (read_as f bytes) pick (taken + c.walked.count) rest.0 n
      (exposed_from n c.sid.behaviour) f (gives (pick (taken + c.walked.count))) rest.1 in
      sym (ap (λ (k : Handed). k.sids) rest.2) ∙ end.0)

  -- ---- it goes on

  moved : (position : ℕ) (via : Option ℕ) (x y : lists.ListPlace) (q : PrefixValue) (hop : ℕ) (p r : Packet) (place : Place)
      → is_origin net intent position via ≡ true → place_from net intent via ≡ Some place
      → (c : Comes position via x q hop p place) → Goes-on x y hop p c.transit c.sid r → BecomesOf k AnyWay tunnel x q position via hop p
  moved position via x y q hop p r place start from c g =
      let n = c.transit.sid in
      let left = length g.rest in
      let nr : NextTransit net intent position via n
      = record {
        start = start;
        place = place;
        from = from;
        transit = c.transit;
        is_transit = c.is_transit;
        sid = refl;
        left = left;
        left_is = g.behind.left;
      } in
      let s = start_facts net keeps intent is_intent position via place start from in
      let f = transit_facts_law net keeps (sid_address net n) (drop position intent.steps) place c.transit s.how s.rest c.is_transit in
      let rest = rest_is intent.steps c.transit.left g.rest position f.count left f.left g.behind.rest refl f.within s.within g.behind.few in
      let on : place_from net intent (Some n) ≡ Some (place_behind n c.sid) = ap (option_map (place_behind n)) c.there in
      let high = g.high in
      let less : hop - c.transit.lowered - 1 ≡ hop - (c.transit.lowered + 1) = omega arith in
      Moved n (leg_with (length intent.steps) c.transit.lowered left) y r
      (leg_from net intent position via n nr (ap sid_goes_on c.there ∙ g.middle)) (shape_prefix net n ∙ c.prefix)
      (omega (arith, high)) g.next (subst (λ (j : ℕ). Along tunnel y j r) less g.along)
      (to_kept (Some n) r (length intent.steps - left)
      (subst (λ (us : List Step). HandsFrom (place_from net intent (Some n)) r us) rest
      (subst (λ (o : Option Place). HandsFrom o r g.rest) (sym on) g.hands)))
      (λ pick taken h any over.
      let started = from_place net keeps facts intent is_intent tunnel via p pick taken h place from over in
      let rest = transit_over net (drop position intent.steps) place p c.transit pick taken h c.walked started in
      let again = again_over net c.transit.place (place_behind n c.sid) (V6 (there_packet p c.transit)) (V6 r) pick (taken + c.walked.count)
      rest.0 n (onward_from n c.sid.behaviour) (g.gives (pick (taken + c.walked.count)))
      (behind_again net c.transit.place n c.sid c.stands c.is_v6) rest.1 in (
        taken + c.walked.count + 0,
        again.0,
        tt,
        (
          again.1.0,
          ap (λ (o : Option Place). handed_over net (walk_of again.1.0 net o (V6 r) pick (taken + c.walked.count + 0))) on ∙ again.1.1,
        ),
        sym (ap (λ (k : Handed). k.sids) rest.2) ∙ sym (ap (λ (k : Handed). k.sids) again.2),
      ))

  -- ---- what comes of the packet where it comes to: it is exposed, or goes on

  becomes : (position : ℕ) (via : Option ℕ) (x : lists.ListPlace) (q : PrefixValue) (hop : ℕ) (p : Packet) (place : Place)
      → is_origin net intent position via ≡ true → place_from net intent via ≡ Some place
      → (c : Comes position via x q hop p place) → BecomesOf k AnyWay tunnel x q position via hop p
  becomes position via x q hop p place start from c = by_end (at_sid c.sid allow b) refl
    where
      b : Packet
      b = there_packet p c.transit

      allow : List ℕ
      allow = allow_of (slice_get net.nodes c.transit.place.node)

      n : ℕ
      n = c.transit.sid

      zeros : ℕ → ℕ
      zeros d = 0

      gives : (e : Endpoint) → at_sid c.sid allow b ≡ e → (choice : ℕ)
          → step_of net c.transit.place (V6 b) choice ≡ treated_at_sid net c.transit.place.node n c.sid.behaviour b e
      gives e is choice =
          stage_into net c.transit.place b n c.sid choice c.into c.there ∙ ap (treated_at_sid net c.transit.place.node n c.sid.behaviour b) is

      onward : (r : Packet) → at_sid c.sid allow b ≡ Onward r → BecomesOf k AnyWay tunnel x q position via hop p
      onward r is =
          let only = along_only c.sid allow tunnel x (hop - c.transit.lowered) b r c.along c.on is in
          let moves = onward_moves c.sid b allow r is in
          let goes-it = moved_goes c.sid x c.on b moves in
          let Stage : Gave → Type 0
          = λ gave. ((choice : ℕ) → step_of net c.transit.place (V6 b) choice ≡ gave) → BecomesOf k AnyWay tunnel x q position via hop p in
          onward_each net c.transit.place.node n c.sid.behaviour b r Stage
          (λ none all. moved position via x only.1 q hop p r place start from c (goes_onwards position via x only.1 q hop p r place c
          (and_from (goes_on c.sid) (not (binds c.sid)) goes-it (ap (λ (o : Option ℕ). not (is_some o)) none)) only.0 only.2 only.3 all))
          (λ number named binding policy fits all. absurd (binds_not position via x q hop p place c number binding _ (all 0)))
          (λ reason all. absurd (none_dropped net c.transit.place (V6 b) (V6 b) zeros 0 (c.hands zeros).0 _ (all 0) (λ later. refl)
          (c.hands zeros).1))
          (gives (Onward r) is)

      by_end : (e : Endpoint) → at_sid c.sid allow b ≡ e → BecomesOf k AnyWay tunnel x q position via hop p
      by_end (Onward r) is = onward r is
      by_end (Exposed f bytes) is = ended position via x q hop p place start from c f bytes is
      by_end (Delivered r) is =
          absurd (none_dropped net c.transit.place (V6 b) (V6 b) zeros 0 (c.hands zeros).0 _ (gives (Delivered r) is 0) (λ later. refl)
          (c.hands zeros).1)
      by_end (Refused reason at) is =
          absurd (none_dropped net c.transit.place (V6 b) (V6 b) zeros 0 (c.hands zeros).0 _ (gives (Refused reason at) is 0) (λ later. refl)
          (c.hands zeros).1)

  pub leg_down : (x : lists.ListPlace) (q : PrefixValue) (position : ℕ) (via : Option ℕ) (hop : ℕ) (p : Packet)
      → position ≤ length intent.steps → IsVia (legs_value net intent) position via → Along tunnel x hop p → PlaceKeeps net x
      → active x ≡ list_sid net q → IsSidPrefix net q → 0 < hop → AlwaysHands k via p position
      → BecomesOf k AnyWay tunnel x q position via hop p
  leg_down x q position via hop p within at along nests to named positive hands =
      let start = starts position via within at in
      let place = from position via start in
      let c = comings.comes net network flat facts intent is_intent tunnel family position via x q hop p place.0 start place.1 along
      nests to named positive (subst (λ (o : Option Place). HandsFrom o p (drop position intent.steps)) place.1
      (of_kept via p position hands)) in
      becomes position via x q hop p place.0 start place.1 c
