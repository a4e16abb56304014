-- Over a leg, and over a finish: what is handed over of a packet on it, whose hop limit is above what it needs.
use Rattle.std.proofs.Common.{◌≡◌, ℕ, ◌+◌, ◌-◌, ◌<◌, ◌≤◌, ◌⊎◌, inl, inr, Bool, true, false, List, [], ◌∷◌, drop, Option, Some, None, slice_get, refl, sym, ◌∙◌, ap, subst, arith}
use Rattle.std.specs.Prelude.{is_some, nat_le}
use Rattle.std.specs.Option.{option_map}
use Rattle.std.proofs.lemmas.Bool.{false≢true, cases_lt}
use Rattle.std.proofs.lemmas.Bool.Decides.{leb_tells}
use Rattle.srv6_rules.specs.declared.family.Family.{Family}
use Rattle.srv6_rules.specs.declared.family.Family.TheVariants as families
use Rattle.srv6_rules.specs.declared.sid.SidEntry.{SidEntry}
use Rattle.srv6_rules.specs.Packet.{Packet, Content, V6}
use Rattle.net_model.specs.Network.{Network}
use Rattle.net_model.specs.NetworkKeeps.{Keeps}
use Rattle.walk_rules.specs.declared.place.How.{How}
use Rattle.walk_rules.specs.declared.place.Place.{Place}
use Rattle.walk_rules.specs.declared.place.Outcome.TheVariants as outcomes
use Rattle.walk_rules.specs.Way.{Way, Over, Into, way_of}
use Rattle.walk_rules.specs.Treatment.{Gave, goes, member_of, lowered, treated, free_step_of as step_of, onward_from}
use Rattle.walk_rules.specs.Relation.{IsHow}
use Rattle.walk_rules.specs.Walk.{free_walk_of as walk_of, next_place}
use Rattle.walk_rules.proofs.PublicLaws.{sent_high, sent_low, way_into}
use Rattle.intent_reader.specs.IntentRules.{stand_after}
use Rattle.intent_reader.specs.IntentRulesTerms.{IsIntent}
use Rattle.intent_reader.specs.declared.intent.Step.{Step}
use Rattle.intent_reader.specs.declared.intent.Intent.{Intent}
use Rattle.sid_list_theory.specs.ListPlaces as lists
use Rattle.sid_list_theory.specs.ListPlaces.{Tunnel, active, next_of, StandsOn, Along}
use Rattle.list_pack.specs.declared.types.Leg.{Leg}
use Rattle.leg_table.proofs.FlatNets.{FlatFacts}
use Rattle.leg_table.specs.WalkTrace.{Crossed, executed, Handed, after_events, after_execution, handed_first, handed_over}
use Rattle.leg_table.specs.Transits.{Transit, transit_of}
use Rattle.leg_table.specs.TransitsTerms.{with_hop_limit}
use Rattle.leg_table.specs.PositionSids.{takes_step, hands_over}
use Rattle.leg_table.specs.StrictLegs.{place_behind, place_from}
use Rattle.leg_table.specs.StrictLegsTerms.{leg_of, finish_of}
use Rattle.leg_table.specs.OneLegLaws.{LegKind, HandsOver, OnWay, GoesOver}
use Rattle.leg_table.specs.StrictLegsValue.{strict_kind, AnyWay}
use Rattle.leg_table.proofs.StrictOptions.{map_some, some_same}
use Rattle.leg_table.proofs.StrictTransits.{arrived}
use Rattle.leg_table.proofs.NextTransits.{leg_transit, finish_transit, middle_sid, last_sid}
use Rattle.leg_table.proofs.TransitFacts.{transit_each}
use Rattle.leg_table.proofs.StrictHanding.{Free, free_on, above_free, TransitWalk, transit_walk, same_destination, first_stage, handed_more}
use Rattle.leg_table.proofs.Segments.{behind_again, mid_onward, mid_low, last_exposes}
use Rattle.leg_table.proofs.LegsUp.{transits_to, to_sid}

-- a walk that hands over
abbrev pub Hands_over : Network → Place → Content → (ℕ → ℕ) → ℕ → Handed → Type 0
Hands_over net place content pick taken h = (fuel : ℕ) × (handed_over net (walk_of fuel net (Some place) content pick taken) ≡ Some h)

module _ (net : Network) where
  -- nothing is handed over after a stage that drops
  pub none_dropped : (place : Place) (content after : Content) (pick : ℕ → ℕ) (taken : ℕ) (h : Handed) (gave : Gave)
      → step_of net place content (pick taken) ≡ gave → ((later : Option Handed) → handed_first net gave gave.outcome later ≡ None)
      → Hands_over net place content pick taken h → ⊥
  none_dropped place content after pick taken h gave gives none hands =
      let first = first_stage net hands.0 place content pick taken h gave gives hands.1 in
      let same : None ≡ Some h = sym (none _) ∙ first.1 in
      absurd (cc)

  -- after a stage that sends
  sent_over : (place : Place) (content after : Content) (pick : ℕ → ℕ) (taken : ℕ) (h : Handed) (link : ℕ) (to : Place)
      → step_of net place content (pick taken) ≡ goes (outcomes.Send link) after → next_place net place (outcomes.Send link) ≡ Some to
      → Hands_over net place content pick taken h → (k : Handed) × Hands_over net to after pick (taken + 1) k
  sent_over place content after pick taken h link to gives leads hands =
      let first = first_stage net hands.0 place content pick taken h (goes (outcomes.Send link) after) gives hands.1 in
      let got = map_some (after_events (Crossed link ∷ []))
      (handed_over net (walk_of first.0 net (next_place net place (outcomes.Send link)) after pick (taken + 1))) h first.1 in
      (got.0, (first.0, sym (ap (λ (o : Option Place). handed_over net (walk_of first.0 net o after pick (taken + 1))) leads) ∙ got.1))

  -- after an execution
  pub again_over : (place next : Place) (content after : Content) (pick : ℕ → ℕ) (taken : ℕ) (h : Handed) (n : ℕ) (how : How)
      → step_of net place content (pick taken) ≡ goes (outcomes.Again n how) after → next_place net place (outcomes.Again n how) ≡ Some next
      → Hands_over net place content pick taken h
      → (k : Handed) × Hands_over net next after pick (taken + 0) k × (after_execution net n k ≡ h)
  again_over place next content after pick taken h n how gives leads hands =
      let first = first_stage net hands.0 place content pick taken h (goes (outcomes.Again n how) after) gives hands.1 in
      let got = map_some (after_execution net n)
      (handed_over net (walk_of first.0 net (next_place net place (outcomes.Again n how)) after pick (taken + 0))) h first.1 in (
        got.0,
        (
          first.0,
          sym (ap (λ (o : Option Place). handed_over net (walk_of first.0 net o after pick (taken + 0))) leads)
              ∙ got.1,
        ),
        got.2,
      )

  -- after a transit
  pub transit_over : (ts : List Step) (place : Place) (p : Packet) (r : Transit) (pick : ℕ → ℕ) (taken : ℕ) (h : Handed)
      → (w : TransitWalk net ts place p r) → Hands_over net place (V6 p) pick taken h
      → (k : Handed) × Hands_over net r.place (V6 (with_hop_limit (p.hop_limit - r.lowered) p)) pick (taken + w.count) k
      × (after_events (w.events pick taken) k ≡ h)
  transit_over ts place p r pick taken h w hands =
      let more = handed_more net hands.0 w.count (Some place) (V6 p) pick taken h hands.1 in
      let swap : hands.0 + w.count ≡ w.count + hands.0 = omega arith in
      let whole = sym (ap (λ (k : ℕ). handed_over net (walk_of k net (Some place) (V6 p) pick taken)) swap) ∙ more in
      let got = map_some (after_events (w.events pick taken)) _ h (sym (w.walk pick taken hands.0) ∙ whole) in
      (got.0, (hands.0, got.1), got.2)

  -- at an execution that hands over
  pub hand_over : (place : Place) (content after : Content) (pick : ℕ → ℕ) (taken : ℕ) (h : Handed) (n : ℕ) (how : How) (family : Family)
      → step_of net place content (pick taken) ≡ goes (outcomes.Hand n how family) after → Hands_over net place content pick taken h
      → (h.sids ≡ n ∷ []) × (h.trace ≡ executed net n) × (h.content ≡ after)
  hand_over place content after pick taken h n how family gives hands =
      let first = first_stage net hands.0 place content pick taken h (goes (outcomes.Hand n how family) after) gives hands.1 in
      let same = some_same _ h first.1 in
      (sym (ap (λ (k : Handed). k.sids) same), sym (ap (λ (k : Handed). k.trace) same), sym (ap (λ (k : Handed). k.content) same))

module _ (net : Network) (keeps : Keeps net) where
  -- the stage over links: a walk that hands over is sent on
  over_sends : (place : Place) (p : Packet) (set : List ℕ) (lower : Bool) (pick : ℕ → ℕ) (taken : ℕ) (h : Handed)
      → way_of net place p.destination ≡ Over set lower → Hands_over net place (V6 p) pick taken h
      → (lower ≡ true → 1 < p.hop_limit)
      × (step_of net place (V6 p) (pick taken) ≡ goes (outcomes.Send (member_of set (pick taken))) (V6 (lowered lower p)))
  over_sends place p set false pick taken h way hands =
      (λ e. absurd (false≢true e), ap (λ (w : Way). treated net place.node w p (pick taken)) way)
  over_sends place p set true pick taken h way hands = by_limit (leb_tells p.hop_limit 1)
    where
      gives : step_of net place (V6 p) (pick taken) ≡ treated net place.node (Over set true) p (pick taken)
      gives = ap (λ (w : Way). treated net place.node w p (pick taken)) way

      by_limit : ((nat_le p.hop_limit 1 ≡ true) × (p.hop_limit ≤ 1)) ⊎ ((nat_le p.hop_limit 1 ≡ false) × (1 < p.hop_limit))
          → (true ≡ true → 1 < p.hop_limit)
          × (step_of net place (V6 p) (pick taken) ≡ goes (outcomes.Send (member_of set (pick taken))) (V6 (lowered true p)))
      by_limit (inl low) =
          absurd (none_dropped net place (V6 p) (V6 p) pick taken h _ (gives ∙ sent_low net place.node set p (pick taken) low.1)
          (λ later. refl) hands)
      by_limit (inr high) = (λ e. high.1, gives ∙ sent_high net place.node set p (pick taken) high.1)

  -- a transit of a walk that hands over lets the packet through
  pub transit_free : (ts : List Step) (place : Place) (p : Packet) (r : Transit) → IsHow net place.node place.how
      → is_some (stand_after net place.node ts) ≡ true → transit_of net p.destination ts place ≡ Some r
      → (pick : ℕ → ℕ) (taken : ℕ) (h : Handed) → Hands_over net place (V6 p) pick taken h → Free r.lowered p.hop_limit
  transit_free ts place p r how stands transit pick taken h hands =
      transit_each net keeps p.destination
      (λ ts place r. (q : Packet) → q.destination ≡ p.destination → (pick : ℕ → ℕ) (taken : ℕ) (h : Handed)
      → Hands_over net place (V6 q) pick taken h → Free r.lowered q.hop_limit)
      (λ ts place n into q to pick taken h hands. inl refl)
      (λ step ts place set lower to r sent rest q is pick taken h hands.
      let sends = over_sends place q set lower pick taken h (ap (way_of net place) is ∙ sent.way) hands in
      let on = sent_over net place (V6 q) (V6 (lowered lower q)) pick taken h (member_of set (pick taken)) (arrived to place) sends.1
      (sent.leads (pick taken)) hands in
      free_on lower r.lowered q sends.0
      (rest (lowered lower q) (same_destination net keeps q lower ∙ is) pick (taken + 1) on.0 on.1))
      ts place r how stands transit p refl pick taken h hands

-- after the execution of a middle SID that is not the last
pub record Behind (net : Network) (tunnel : Tunnel) (next : ℕ) (sid : SidEntry) (y : lists.ListPlace) (limit : ℕ) (pick : ℕ → ℕ) (taken : ℕ)
    (h : Handed) : Type 0 where
  pub high : 1 < limit
  pub packet : Packet
  pub along : Along tunnel y (limit - 1) packet
  pub handed : Handed
  pub hands : Hands_over net (place_behind next sid) (V6 packet) pick (taken + 0) handed
  pub behind : after_execution net next handed ≡ h

pub mid_over : (net : Network) (tunnel : Tunnel) (at : Place) (next : ℕ) (sid : SidEntry) (x y : lists.ListPlace) (limit : ℕ) (q : Packet)
    → Along tunnel x limit q → way_of net at q.destination ≡ Into next → slice_get net.sids next ≡ Some sid → StandsOn sid (active x)
    → takes_step sid ≡ true → next_of x ≡ Some y → at.family ≡ families.V6
    → (pick : ℕ → ℕ) (taken : ℕ) (h : Handed) → Hands_over net at (V6 q) pick taken h → Behind net tunnel next sid y limit pick taken h
mid_over net tunnel at next sid x y limit q along into there on takes to v6 pick taken h hands = by_limit (cases_lt 1 limit)
  where
    by_limit : (1 < limit) ⊎ (limit ≤ 1) → Behind net tunnel next sid y limit pick taken h
    by_limit (inl high) =
        let stands = way_into net at q.destination next into in
        let same : stands.sid ≡ sid = some_same stands.sid sid (sym stands.is_there ∙ there) in
        let node : sid.node ≡ at.node = ap (λ (t : SidEntry). t.node) (sym same) ∙ stands.stands in
        let stage = mid_onward net tunnel x limit q along at next (pick taken) sid into there on takes y to high in
        let rest = again_over net at (place_behind next sid) (V6 q) (V6 stage.0) pick taken h next (onward_from next sid.behaviour) stage.1
        (behind_again net at next sid node v6) hands in
        record { high = high; packet = stage.0; along = stage.2; handed = rest.0; hands = rest.1; behind = rest.2 }
    by_limit (inr low) =
        absurd (none_dropped net at (V6 q) (V6 q) pick taken h _
        (mid_low net tunnel x limit q along at next (pick taken) sid into there on takes y to low) (λ later. refl) hands)

module _ (net : Network) (keeps : Keeps net) (facts : FlatFacts net) (intent : Intent) (is_intent : IsIntent net intent)
    (tunnel : Tunnel) where
  abbrev k : LegKind
  k = strict_kind net intent

  -- a walk that hands over, from the place where the packet goes on
  pub from_place : (via : Option ℕ) (p : Packet) (pick : ℕ → ℕ) (taken : ℕ) (h : Handed) (place : Place)
      → place_from net intent via ≡ Some place → HandsOver k via p pick taken h → Hands_over net place (V6 p) pick taken h
  from_place via p pick taken h place from over =
      (over.0, sym (ap (λ (o : Option Place). handed_over net (walk_of over.0 net o (V6 p) pick taken)) from) ∙ over.1)

  -- over a finish
  pub finish_over_law : (x : lists.ListPlace) (position : ℕ) (via : Option ℕ) (next lowered : ℕ) (hop : ℕ) (p : Packet) (pick : ℕ → ℕ)
      (taken : ℕ) (h : Handed)
      → tunnel.inner ≡ intent.inner → finish_of net intent position via next ≡ Some lowered → OnWay k tunnel x hop p next
      → next_of x ≡ None → HandsOver k via p pick taken h
      → (h.sids ≡ next ∷ []) × (AnyWay via p pick taken → 0 < hop → lowered < hop)
  finish_over_law x position via next lowered hop p pick taken h family e on end over =
      let got = finish_transit net intent position via next lowered e in
      let n = got.0 in
      let ts = drop position intent.steps in
      let sid = last_sid net intent.inner next got.1 in
      let to = to_sid net keeps facts intent is_intent tunnel x hop p next on in
      let a = transits_to net keeps facts intent is_intent tunnel position via next x hop p n sid.0 sid.1 to on.along on.keeps in
      let started = from_place via p pick taken h n.place n.from over in
      let free = transit_free net keeps ts n.place p n.transit a.start.how a.start.rest a.transit pick taken h started in
      let w = transit_walk net keeps ts n.place p n.transit a.start.how a.start.rest a.transit free in
      let rest = transit_over net ts n.place p n.transit pick taken h w started in
      let q = with_hop_limit (p.hop_limit - n.transit.lowered) p in
      let shows = ap (λ f. hands_over f sid.0) family ∙ sid.2 in
      let stage = last_exposes net tunnel x (hop - n.transit.lowered) q (a.along (hop - n.transit.lowered) refl) n.transit.place next
      (pick (taken + w.count)) sid.0 a.into sid.1 (a.on sid.0 sid.1) end shows in
      let hand = hand_over net n.transit.place (V6 q) _ pick (taken + w.count) rest.0 next _ _ stage rest.1 in (
        sym (ap (λ (k : Handed). k.sids) rest.2) ∙ hand.0,
        λ any positive.
            let low = above_free n.transit.lowered p.hop_limit free (omega (arith, a.hop_limit, positive)) in
            omega (arith, got.2, a.hop_limit, low),
      )

  -- over a leg
  pub leg_over_law : (x y : lists.ListPlace) (position : ℕ) (via : Option ℕ) (next : ℕ) (leg : Leg) (hop : ℕ) (p : Packet) (pick : ℕ → ℕ)
      (taken : ℕ) (h : Handed)
      → leg_of net intent position via next ≡ Some leg → OnWay k tunnel x hop p next → next_of x ≡ Some y
      → HandsOver k via p pick taken h → GoesOver k AnyWay tunnel y via next leg hop p pick taken h
  leg_over_law x y position via next leg hop p pick taken h e on to over =
      let got = leg_transit net intent position via next leg e in
      let n = got.0 in
      let ts = drop position intent.steps in
      let sid = middle_sid net next got.1 in
      let is = to_sid net keeps facts intent is_intent tunnel x hop p next on in
      let a = transits_to net keeps facts intent is_intent tunnel position via next x hop p n sid.0 sid.1 is on.along on.keeps in
      let hops : n.transit.lowered + 1 ≡ leg.hops = ap (λ (l : Leg). l.hops) got.2 in
      let started = from_place via p pick taken h n.place n.from over in
      let free = transit_free net keeps ts n.place p n.transit a.start.how a.start.rest a.transit pick taken h started in
      let w = transit_walk net keeps ts n.place p n.transit a.start.how a.start.rest a.transit free in
      let rest = transit_over net ts n.place p n.transit pick taken h w started in
      let q = with_hop_limit (p.hop_limit - n.transit.lowered) p in
      let at = a.along (hop - n.transit.lowered) refl in
      let m = mid_over net tunnel n.transit.place next sid.0 x y (hop - n.transit.lowered) q at a.into sid.1 (a.on sid.0 sid.1) sid.2 to
      (a.transit_facts.family ∙ a.start.family) pick (taken + w.count) rest.0 rest.1 in
      let less : hop - n.transit.lowered - 1 ≡ hop - leg.hops = omega (arith, hops) in
      let above = m.high in
      let from : place_from net intent (Some next) ≡ Some (place_behind next sid.0) = ap (option_map (place_behind next)) sid.1 in
      record {
        lowered = leg.hops;
        high = omega (arith, hops, above);
        packet = m.packet;
        along = subst (λ (j : ℕ). Along tunnel y j m.packet) less m.along;
        chosen = taken + w.count + 0;
        handed = m.handed;
        over = (
          m.hands.0,
          ap (λ (o : Option Place). handed_over net (walk_of m.hands.0 net o (V6 m.packet) pick (taken + w.count + 0))) from ∙ m.hands.1,
        );
        sids = sym (ap (λ (k : Handed). k.sids) rest.2) ∙ sym (ap (λ (k : Handed). k.sids) m.behind);
        longest = λ any. (refl, tt);
      }
