-- Down to a leg or to a finish: what becomes of a packet at a place of a list that is handed over along the steps under every row of
-- choices.
use Rattle.std.proofs.Common.{◌≡◌, ℕ, ◌+◌, ◌-◌, ◌<◌, ◌≤◌, true, false, List, [], ◌∷◌, drop, length, All, Option, Some, None, slice_get, refl, sym, ap, ◌∙◌, subst, arith}
use Rattle.std.proofs.lemmas.List.Elements.{All-cons, All-nil}
use Rattle.std.proofs.lemmas.Option.{same_Some}
use Rattle.v6_addr.specs.Address.{PrefixValue}
use Rattle.srv6_rules.specs.declared.family.Family.{Family}
use Rattle.srv6_rules.specs.declared.sid.SidEntry.{SidEntry}
use Rattle.srv6_rules.specs.Packet.{Packet, Content, read_as}
use Rattle.srv6_rules.specs.Endpoint.{Endpoint, Onward, Exposed, Delivered, Refused}
use Rattle.net_model.specs.Network.{Network}
use Rattle.net_model.specs.NetworkRulesTerms.{IsNetwork}
use Rattle.net_model.specs.NetworkKeeps.{Keeps}
use Rattle.net_model.proofs.PublicLaws.{keeps_from_network}
use Rattle.net_flatness.specs.Flat.{IsFlat}
use Rattle.walk_rules.specs.declared.place.Place.{Place}
use Rattle.walk_rules.specs.Treatment.{allow_of, exposed_from}
use Rattle.intent_reader.specs.IntentRulesTerms.{IsIntent}
use Rattle.intent_reader.specs.declared.intent.Step.{Step}
use Rattle.intent_reader.specs.declared.intent.Intent.{Intent}
use Rattle.sid_list_theory.specs.ListPlaces as lists
use Rattle.sid_list_theory.specs.ListPlaces.{Tunnel, active, Along}
use Rattle.sid_list_theory.proofs.PublicLaws.{along_hop, along_exposes, along_only}
use Rattle.list_pack.specs.SidLists.{list_sid, IsSidPrefix}
use Rattle.list_pack.specs.LegsValueTerms.{IsVia}
use Rattle.leg_table.proofs.StrictOptions.{kept_from, kept_parts}
use Rattle.leg_table.proofs.AllHands.{moved_goes}
use Rattle.leg_table.proofs.FlatNets.{FlatFacts}
use Rattle.leg_table.proofs.HopLimits.{onward_moves}
use Rattle.leg_table.proofs.ListPlaces.{own_here_law, address_at}
use Rattle.leg_table.proofs.StrictAlike.{address_alike}
use Rattle.leg_table.proofs.TransitFacts.{transit_facts_law}
use Rattle.leg_table.proofs.Segments.{into_prefix}
use Rattle.leg_table.proofs.StrictArrivals.{into_stands}
use Rattle.leg_table.specs.StrictLegs.{leg_with}
use Rattle.leg_table.specs.NestLegsTerms.{PlaceKeeps}
use Rattle.leg_table.specs.OneLegLaws.{LegKind, AlwaysHands, HandsOver, BecomesOf, Ended, Moved, prefix_in}
use Rattle.leg_table.specs.Transits as transits
use Rattle.leg_table.specs.PositionSids.{sid_address, sid_exposes, hands_over}
use Rattle.leg_table.specs.WalkTrace.{Handed, executed}
use Rattle.leg_table.specs.StepMatching.{left_after, matches}
use Rattle.leg_table.specs.StrictLegsValue.{AnyWay}
use Rattle.binding_spec.specs.Machines.{End, left_by, end_with}
use Rattle.tunnel_walks_theory.specs.TunnelChoices.{EndsWith, ForAllRows}
use Rattle.tunnel_walks_theory.specs.TunnelPacketsTerms.{Tunnelled, Bared, Met, Bare, open_at, own_bottom, own_move, met_by}
use Rattle.tunnel_walks_theory.specs.WalkRests.{bared_at, RestEnds}
use Rattle.tunnel_walks_theory.proofs.PublicLaws.{map_parts, choices_one, choices_rows, choices_agree, one_each, own_joined, first_end}
use Rattle.binding_spec.specs.NetworkWorld.{look_at_sid, look_in, step_events}
use Rattle.tunnel_network_theory.specs.NetworkTransits.{ended_at}
use Rattle.tunnel_network_theory.specs.NetworkWalks.{handed_of}
use Rattle.tunnel_network_theory.proofs.NetworkHanding.{all_left, left_all}
use Rattle.binding_spec.specs.declared.origin.Origin.{Origin}
use Rattle.binding_spec.specs.Origins.{sid_leads_on}
use Rattle.binding_spec.specs.BindingLegsValue.{binding_legs_value}
use Rattle.binding_legs_theory.specs.BindingKind.{onward_of, hand_on, binding_kind}
use Rattle.binding_legs_theory.proofs.BindingMeaningMachine.{network_world, GoesOnAs, hand_on_law, hand_parts, hand_from, onward_goes}
use Rattle.binding_legs_theory.proofs.BindingMeaningBeginnings.{OwnEnd, Begins, begins}
use Rattle.binding_legs_theory.proofs.BindingMeaningExecuted.{goes_on_from, executed_left}
use Rattle.binding_legs_theory.proofs.OriginWays.{WayTo, leg_from, finish_from}
use Rattle.binding_legs_theory.proofs.BindingMeaningWays.{there, Comes, comes_by}
use Rattle.binding_legs_theory.proofs.Leading.{joined_at, behind_is, FirstTransit, first_transit}
use Rattle.binding_legs_theory.proofs.BindingMeaningStarting.{OriginsOne, origins_one}
use Rattle.binding_legs_theory.proofs.BindingMeaningUp.{prefix_is}
use Rattle.binding_legs_theory.proofs.BindingMeaningOver.{given, Reached, reached, over_onward, over_exposed}

-- no SID is barred
pub none_barred : (net : Network) (intent : Intent) (ns : List ℕ) → All (λ n. (binding_kind net intent).barred n ≡ false) ns
none_barred net intent [] = All-nil (λ (m : ℕ). (binding_kind net intent).barred m ≡ false)
none_barred net intent (n ∷ ns) =
    All-cons (λ (m : ℕ). (binding_kind net intent).barred m ≡ false) n ns refl (none_barred net intent ns)

module _ (net : Network) (keeps : Keeps net) (intent : Intent) (is_intent : IsIntent net intent) where
  abbrev k : LegKind
  k = binding_kind net intent

  -- ---- one walk

  -- the one walk of a packet that is handed over under every row of choices, with no step left
  pub record HandsOne (position : ℕ) (via : Option ℕ) (p : Packet) : Type 0 where
    pub deep : Tunnelled Place Packet
    pub from : onward_of net intent via p ≡ Some deep
    pub goes : GoesOnAs p deep
    pub end : OwnEnd net keeps intent is_intent
    pub ends : EndsWith step_events (own_move (network_world net)) (drop position intent.steps) deep end
    pub none : end.left ≡ []

  pub hands_one : (position : ℕ) (via : Option ℕ) (p : Packet) → AlwaysHands k via p position → HandsOne position via p
  hands_one position via p hands =
      let ts = drop position intent.steps in
      let all = hands.1 in
      let zeros : ℕ → ℕ = λ n. 0 in
      let some = hand_on_law net (all zeros).1.0 (onward_of net intent via p) zeros 0 (all zeros).0 (all zeros).1.1 in
      let d : Tunnelled Place Packet = some.0 in
      let goes = onward_goes net intent via p d some.1 in
      let rows : ForAllRows step_events (own_move (network_world net)) ts d = λ pick.
      let a = all pick in
      let g = hand_parts net p d goes a.1.0 pick 0 a.0 (sym (ap (λ o. hand_on net a.1.0 o pick 0) some.1) ∙ a.1.1) in
      record {
        fuel = a.1.0;
        got = g.0;
        left = [];
        gives = g.1;
        along = ap (λ (h : Handed). left_by step_events ts h.trace) g.2
            ∙ all_left ts a.0.trace (kept_parts (matches ts a.0.trace) hands.0 a.2).0;
      } in
      let one = choices_one step_events (own_move (network_world net)) ts d
      ((choices_rows step_events (own_move (network_world net)) ts d).1 rows) in
      let same = choices_agree step_events (own_move (network_world net)) ts d
      (own_joined (network_world net) ts (joined_at net keeps intent is_intent position)) one zeros (rows zeros) in
      record { deep = d; from = some.1; goes = goes; end = one.end; ends = (one.fuel, one.gives); none = sym same.left }

  -- and back
  pub one_hands : (j : ℕ) (via : Option ℕ) (p : Packet) (d : Tunnelled Place Packet) → onward_of net intent via p ≡ Some d → GoesOnAs p d
      → (e : OwnEnd net keeps intent is_intent) → EndsWith step_events (own_move (network_world net)) (drop j intent.steps) d e
      → e.left ≡ []
      → AlwaysHands k via p j
  one_hands j via p d from goes e ends none = (
    [],
    λ pick.
        let one = one_each step_events (own_move (network_world net)) ends.0 (drop j intent.steps) d pick 0 e
        (own_joined (network_world net) (drop j intent.steps) (joined_at net keeps intent is_intent j)) ends.1 in (
          handed_of one.got,
          (ends.0, ap (λ o. hand_on net ends.0 o pick 0) from ∙ hand_from net p d goes ends.0 pick 0 one.got one.gives),
          kept_from (matches (drop j intent.steps) one.got.trace)
              (left_all (drop j intent.steps) one.got.trace (one.along ∙ ap Some none)),
          none_barred net intent one.got.sids,
        ),
  )

-- ---- what becomes of the packet

module _ (net : Network) (network : IsNetwork net) (flat : IsFlat net) (facts : FlatFacts net) (intent : Intent)
    (is_intent : IsIntent net intent) (t : Tunnel) (family : t.inner ≡ intent.inner) where
  keeps : Keeps net
  keeps = keeps_from_network net network

  abbrev MetEnd : Type 0
  MetEnd = End Step ℕ (Met Place Packet Content)

  abbrev After : lists.ListPlace → PrefixValue → ℕ → Option ℕ → ℕ → Packet → Type 0
  After x q position via hop p = BecomesOf (binding_kind net intent) AnyWay t x q position via hop p

  -- the one walk from its origin on: the transit to the first execution, and what is left behind it
  record FirstRest (st : Origin) (p : Packet) (e : End Step ℕ (Bared Place Content)) : Type 0 where
    first : MetEnd
    transits : FirstTransit net keeps intent is_intent st p first
    rest : RestEnds (network_world net) first.left first.sids first.result e

  first_rest : (position : ℕ) (via : Option ℕ) (p : Packet) (e : End Step ℕ (Bared Place Content))
      → (s : OriginsOne net keeps intent is_intent (own_bottom (network_world net)) position via p e) → 0 < p.hop_limit
      → FirstRest s.origin p e
  first_rest position via p e s positive =
      let b = begins net keeps intent is_intent position via p s.origin s.origins in
      let f = first_end (network_world net) s.on.0 (drop s.origin.done intent.steps) (open_at s.origin.place p) e s.on.1 in
      record {
        first = f.first;
        transits = first_transit net keeps intent is_intent s.origin p f.first b.facts.how positive (s.on.0, f.gives);
        rest = f.rest;
      }

  module _ (position : ℕ) (via : Option ℕ) (x : lists.ListPlace) (q : PrefixValue) (hop : ℕ) (p : Packet)
      (e : End Step ℕ (Bared Place Content)) (none : e.left ≡ []) (s : OriginsOne net keeps intent is_intent
      (own_bottom (network_world net)) position via p e)
      (f : FirstRest s.origin p e) (c : Comes net keeps facts intent is_intent t s.origin x hop p f.transits.transit.sid f.transits.transit)
      (prefix : c.sid.prefix ≡ q) (own_transit : transits.transit_of net (sid_address net f.transits.transit.sid)
      (drop s.origin.done intent.steps) s.origin.place
      ≡ Some f.transits.transit) where
    abbrev n : ℕ
    n = f.transits.transit.sid

    abbrev steps : List Step
    steps = intent.steps

    abbrev beginning : Begins net keeps intent is_intent position via p s.origin
    beginning = begins net keeps intent is_intent position via p s.origin s.origins

    abbrev point : Endpoint
    point = given net keeps facts intent is_intent t p f.transits.transit c.sid

    to_sid : (pick : ℕ → ℕ) (taken : ℕ) (h : Handed) → HandsOver (binding_kind net intent) via p pick taken h
        → Reached net keeps facts intent is_intent t p f.transits.transit n c.sid pick h
    to_sid pick taken h over =
        reached net keeps facts intent is_intent t position via p s.origin beginning x hop n f.transits.transit c pick taken h over

    ended_by : (o : Endpoint) → point ≡ o
        → ended_at f.transits.transit.left (met_by (network_world net) (look_at_sid net f.transits.transit.place n c.sid.behaviour o)) ≡ Some f.first
    ended_by o is =
        ap (λ o. ended_at f.transits.transit.left (met_by (network_world net) (look_at_sid net f.transits.transit.place n c.sid.behaviour o))) (sym is)
        ∙ ap (λ (o : Option SidEntry). ended_at f.transits.transit.left (met_by (network_world net)
        (look_in net f.transits.transit.place n o (there p f.transits.transit)))) (sym c.is_there)
        ∙ f.transits.ended

    is_named_law : prefix_in (binding_kind net intent) n ≡ q
    is_named_law = prefix_is net keeps facts intent is_intent t n c.sid c.is_there ∙ prefix

    less : f.transits.transit.lowered < hop
    less = subst (λ (h : ℕ). f.transits.transit.lowered < h) c.limit f.transits.low

    abbrev way_of_law : (left : ℕ) → left_after net n f.transits.transit.left ≡ Some left → WayTo net intent position via n left
    way_of_law left is =
        record { origin = s.origin; origins = s.origins; transit = f.transits.transit; is_transit = own_transit; sid = refl; left_is = is }

    -- it is exposed
    ended : (g : Family) (bytes : List ℕ) → point ≡ Exposed g bytes → After x q position via hop p
    ended g bytes is =
        let shows = along_exposes c.sid (allow_of (slice_get net.nodes f.transits.transit.place.node)) t x (hop - f.transits.transit.lowered)
        (there p f.transits.transit) g bytes c.along c.on is in
        let at : Place = record { node = f.transits.transit.place.node; how = exposed_from n c.sid.behaviour; family = g } in
        let inside : Content = read_as g bytes in
        let m : Met Place Packet Content = Bare at inside in
        let a = map_parts (end_with (n ∷ []) m) (left_by step_events f.transits.transit.left (executed net n)) f.first
        (ended_by (Exposed g bytes) is) in
        let rest : end_with (n ∷ []) (bared_at at inside) a.0 ≡ e
        = subst (λ (first : MetEnd). RestEnds (network_world net) first.left first.sids first.result e) (sym a.2) f.rest in
        let empty : a.0 ≡ [] = ap (λ (e : End Step ℕ (Bared Place Content)). e.left) rest ∙ none in
        let behind = executed_left net n f.transits.transit.left a.0 a.1 in
        let left : left_after net n f.transits.transit.left ≡ Some 0 = behind.1 ∙ ap (λ (us : List Step). Some (length us)) empty in
        let opens : hands_over intent.inner c.sid ≡ true = ap (λ (g : Family). hands_over g c.sid) (sym family) ∙ shows.1 in
        let last = ap (sid_exposes intent.inner) c.is_there ∙ opens in
        Ended n f.transits.transit.lowered (finish_from net intent position via n (way_of_law 0 left) last) is_named_law less shows.0
        (λ pick taken h over.
        over_exposed net keeps facts intent is_intent t s.origin x hop p n f.transits.transit c g bytes is pick h (to_sid pick taken h over))

    -- it goes on
    moved : (r : Packet) → point ≡ Onward r → After x q position via hop p
    moved r is =
        let b = there p f.transits.transit in
        let allow = allow_of (slice_get net.nodes f.transits.transit.place.node) in
        let only = along_only c.sid allow t x (hop - f.transits.transit.lowered) b r c.along c.on is in
        let goes = moved_goes c.sid x c.on b (onward_moves c.sid b allow r is) in
        let from = goes_on_from net intent keeps f.transits.transit.place n c.sid r c.is_there c.node c.family in
        let done = sym (ap (ended_at f.transits.transit.left) from.looks) ∙ ended_by (Onward r) is in
        let a = map_parts (end_with (n ∷ []) from.met) (left_by step_events f.transits.transit.left (executed net n)) f.first done in
        let rest = from.ends a.0 (n ∷ []) e
        (subst (λ (first : MetEnd). RestEnds (network_world net) first.left first.sids first.result e) (sym a.2) f.rest) in
        let empty : rest.0.left ≡ [] = ap (λ (e : End Step ℕ (Bared Place Content)). e.left) rest.2 ∙ none in
        let behind = executed_left net n f.transits.transit.left a.0 a.1 in
        let left = length a.0 in
        let leads = ap sid_leads_on c.is_there ∙ goes in
        let rest_is = behind_is net keeps intent is_intent s.origin f.transits.transit.left a.0 n c.passed.count left c.passed.left behind.0 refl
        c.passed.within c.started.within in
        let high = only.0 in
        let shorter : hop - f.transits.transit.lowered - 1 ≡ hop - (f.transits.transit.lowered + 1) = omega arith in
        Moved n (leg_with (length steps) f.transits.transit.lowered left) only.1 r
        (leg_from net intent position via n left (way_of_law left behind.1) leads) is_named_law
        (omega (arith, high)) only.2
        (subst (λ (j : ℕ). Along t only.1 j r) shorter only.3)
        (one_hands net keeps intent is_intent (length steps - left) (Some n) r from.deep from.from from.goes rest.0
        (subst (λ (us : List Step). EndsWith step_events (own_move (network_world net)) us from.deep rest.0) rest_is rest.1) empty)
        (λ pick taken h any over.
        let o = over_onward net keeps facts intent is_intent t s.origin x hop p n f.transits.transit c r is pick h (to_sid pick taken h over) in
        (o.chosen, o.handed, tt, o.over, o.sids))

    becomes : After x q position via hop p
    becomes = by_point point refl
      where
        by_point : (o : Endpoint) → point ≡ o → After x q position via hop p
        by_point (Onward r) is = moved r is
        by_point (Exposed g bytes) is = ended g bytes is
        by_point (Delivered r) is = let lost : None ≡ Some f.first = ended_by (Delivered r) is in absurd (cc)
        by_point (Refused reason at) is = let lost : None ≡ Some f.first = ended_by (Refused reason at) is in absurd (cc)

  pub leg_down : (x : lists.ListPlace) (q : PrefixValue) (position : ℕ) (via : Option ℕ) (hop : ℕ) (p : Packet)
      → position ≤ length intent.steps → IsVia (binding_legs_value net intent) position via → Along t x hop p → PlaceKeeps net x
      → active x ≡ list_sid net q → IsSidPrefix net q → 0 < hop → AlwaysHands (binding_kind net intent) via p position
      → After x q position via hop p
  leg_down x q position via hop p within at along nests to named positive hands =
      let one = hands_one net keeps intent is_intent position via p hands in
      let s = origins_one net keeps intent is_intent
      (own_bottom (network_world net)) position via p within at one.deep one.from one.end one.ends in
      let limit = along_hop t x hop p along in
      let f = first_rest position via p one.end s (omega (arith, positive, limit)) in
      let b = begins net keeps intent is_intent position via p s.origin s.origins in
      let ts = drop s.origin.done intent.steps in
      let facts' = transit_facts_law net keeps p.destination ts s.origin.place f.transits.transit b.facts.how b.facts.rest f.transits.is_transit in
      let stands = into_stands net keeps intent is_intent f.transits.transit.place p.destination f.transits.transit.sid facts'.into in
      let own = own_here_law net keeps facts t x hop p named.0 named.1 along nests named.2 (to ∙ ap (list_sid net) (sym named.3)) in
      let prefix : stands.0.prefix ≡ q
      = sym (into_prefix net network flat f.transits.transit.place named.0 f.transits.transit.sid p.destination named.1 stands.0 named.2 stands.1 own
      facts'.into)
      ∙ named.3 in
      let same : active x ≡ list_sid net stands.0.prefix = to ∙ ap (list_sid net) (sym prefix) in
      let address = address_at net keeps facts t x hop p f.transits.transit.sid stands.0 along nests stands.1 same in
      let c = comes_by net keeps facts intent is_intent t s.origin x hop p f.transits.transit.sid stands.0 f.transits.transit b.facts along stands.1 same
      f.transits.is_transit refl in
      let sid : c.sid ≡ stands.0 = same_Some _ _ (sym c.is_there ∙ stands.1) in
      becomes position via x q hop p one.end one.none s f c (ap (λ (s : SidEntry). s.prefix) sid ∙ prefix)
      (sym (address_alike net facts f.transits.transit.sid stands.0 stands.1 p.destination address ts s.origin.place b.facts.family)
      ∙ f.transits.is_transit)
