-- Where a packet at a place of a list comes by the way to the next SID.
use Rattle.std.proofs.Common.{◌≡◌, ℕ, ◌+◌, ◌-◌, ◌*◌, ◌/◌, ◌%◌, ◌≤◌, List, take, drop, length, Option, Some, slice_get, refl, sym, ◌∙◌, ap, subst, arith, length-append}
use Rattle.std.proofs.lemmas.List.{take-append-drop}
use Rattle.srv6_rules.specs.declared.family.Family.TheVariants as families
use Rattle.srv6_rules.specs.declared.sid.SidEntry.{SidEntry}
use Rattle.srv6_rules.specs.Packet.{Packet, V6}
use Rattle.net_model.specs.Network.{Network}
use Rattle.net_model.specs.NetworkKeeps.{Keeps}
use Rattle.walk_rules.specs.declared.place.Place.{Place}
use Rattle.walk_rules.specs.Walk.{free_walk_of}
use Rattle.walk_rules.specs.Way.{Into, way_of}
use Rattle.intent_reader.specs.declared.intent.Intent.{Intent}
use Rattle.sid_list_theory.specs.ListPlaces as lists
use Rattle.sid_list_theory.specs.ListPlaces.{Along, StandsOn, Tunnel, active}
use Rattle.sid_list_theory.proofs.PublicLaws.{along_hop, along_sent}
use Rattle.list_pack.specs.SidLists.{list_sid}
use Rattle.intent_traces.specs.declared.trace_steps.TraceStep.{TraceStep}
use Rattle.choice_graph.specs.declared.vertices.Found.{Found}
use Rattle.choice_graph.specs.FoundInGraphs.{found_from}
use Rattle.loose_walks.specs.WayGraphs.{found_in, graph_in, numbers_of, start_at}
use Rattle.loose_walks.specs.WayGraphsTerms.{IsLeft}
use Rattle.leg_table.specs.StrictLegs.{place_from}
use Rattle.leg_table.specs.NestLegsTerms.{PlaceKeeps}
use Rattle.leg_table.specs.OneLegLaws.{HandsOver, LegKind, OnWay}
use Rattle.leg_table.specs.TransitsTerms.{with_hop_limit}
use Rattle.leg_table.specs.PositionSids.{prefix_at, prefix_by, sid_address}
use Rattle.leg_table.specs.WalkTrace.{Handed}
use Rattle.leg_table.proofs.FlatNets.{FlatFacts}
use Rattle.leg_table.proofs.ListPlaces.{address_at}
use Rattle.leg_table.proofs.StrictOptions.{map_some}
use Rattle.leg_table.proofs.PathNames.{shape_prefix}
use Rattle.loose_spec.specs.LooseLegs.{left_after}
use Rattle.loose_spec.specs.LooseSteps.{steps_left}
use Rattle.loose_legs_theory.specs.LooseStepsTerms.{AreSteps}
use Rattle.loose_legs_theory.proofs.Always.{left_is_law}
use Rattle.loose_legs_theory.proofs.LooseSentenceWays as ways
use Rattle.loose_legs_theory.proofs.Sames.{address_alike, found_same}
use Rattle.loose_legs_theory.proofs.LooseSentenceWays.{start_at_law}
use Rattle.loose_meaning_theory.specs.LooseKind.{hand_of, loose_kind}
use Rattle.loose_meaning_theory.proofs.LooseKindCourses.{Course, Passes, course}
use Rattle.loose_meaning_theory.proofs.LooseKindStages.{Hands, behind_links, hand_more}

-- an answer told apart
answer_parts : (answer sid left next : ℕ) → answer ≡ sid * 64 + left → left ≤ 48 → answer / 64 ≡ next → (sid ≡ next) × (answer % 64 ≡ left)
answer_parts answer sid left next is few same = (omega (arith, is, few, same), omega (arith, is, few))

module _ (net : Network) (keeps : Keeps net) (facts : FlatFacts net) (intent : Intent) (steps : List TraceStep) (are : AreSteps net intent steps)
    (tunnel : Tunnel) where
  abbrev k : LegKind
  k = loose_kind net intent steps

  pub to_sid : (x : lists.ListPlace) (hop : ℕ) (p : Packet) (next : ℕ) → OnWay k tunnel x hop p next
      → active x ≡ list_sid net (prefix_at net next)
  to_sid x hop p next on = on.to ∙ ap (list_sid net) (shape_prefix net next)

  few_left : (us : List TraceStep) → IsLeft steps us → length us ≤ 48
  few_left us left =
      let long : length steps ≡ length left.0 + length us = ap length left.1 ∙ length-append left.0 us in
      let few = are.few in
      omega (arith, long, few)

  from_position : (position : ℕ) (place : Place) (a : ℕ) (f : Found) → position ≤ length steps
      → found_in net a steps (length steps - position) place ≡ Some f
      → found_from (graph_in net a steps) (start_at net (numbers_of net (length steps)) (drop position steps) place a) ≡ Some f
  from_position position place a f within found =
      let n : length steps - (length steps - position) ≡ position = omega (arith, within) in
      ap (λ (m : ℕ). found_from (graph_in net a steps) (start_at net (numbers_of net (length steps)) (drop m steps) place a)) (sym n)
      ∙ found

  rest_of : (position : ℕ) → IsLeft steps (drop position steps)
  rest_of position = (take position steps, sym (take-append-drop position steps))

  -- what is found for the first address of the next SID is found for a packet at a place of that SID
  pub start_found : (position : ℕ) (via : Option ℕ) (next : ℕ) (x : lists.ListPlace) (hop : ℕ) (p : Packet)
      (w : ways.Way net keeps intent steps are position via next)
      → (s : SidEntry) → slice_get net.sids next ≡ Some s → active x ≡ list_sid net (prefix_at net next) → Along tunnel x hop p
      → PlaceKeeps net x
      → (w.place.family ≡ families.V6)
      × (found_from (graph_in net p.destination steps)
      (start_at net (numbers_of net (length steps)) (drop position steps) w.place p.destination) ≡ Some w.found)
  start_found position via next x hop p w s there is along nests =
      let same : active x ≡ list_sid net s.prefix = is ∙ ap (λ (o : Option SidEntry). list_sid net (prefix_by o)) there in
      let to = address_at net keeps facts tunnel x hop p next s along nests there same in
      let alike = address_alike net facts next s there p.destination to in
      let start = start_at_law net keeps intent steps are position via w.place w.start w.from in
      let found =
      found_same net p.destination (sid_address net next) alike steps (length steps - position) w.place start.family ∙ w.there in
      (start.family, from_position position w.place p.destination w.found start.within found)

  -- the way of a packet that passes from there
  abbrev pub WayOf : (position : ℕ) (via : Option ℕ) (next : ℕ) (p : Packet) (w : ways.Way net keeps intent steps are position via next)
      (pick : ℕ → ℕ) (taken : ℕ) → Type 0
  WayOf position via next p w pick taken = Course net p.destination steps (drop position steps) w.place p pick taken w.found

  pub way_of_law : (position : ℕ) (via : Option ℕ) (next : ℕ) (x : lists.ListPlace) (hop : ℕ) (p : Packet)
      (w : ways.Way net keeps intent steps are position via next) (pick : ℕ → ℕ) (taken : ℕ)
      → (s : SidEntry) → slice_get net.sids next ≡ Some s → active x ≡ list_sid net (prefix_at net next) → Along tunnel x hop p
      → PlaceKeeps net x → Passes net w.place p pick taken w.found → WayOf position via next p w pick taken
  way_of_law position via next x hop p w pick taken s there is along nests passes =
      let found = start_found position via next x hop p w s there is along nests in
      course net keeps p.destination steps (drop position steps) (rest_of position) w.place found.0 p refl pick taken w.found found.1 passes

  -- by its way the packet comes to the next SID, whose place in the list it stands at
  pub record ComesAt (position : ℕ) (via : Option ℕ) (next : ℕ) (x : lists.ListPlace) (hop : ℕ) (p : Packet)
      (w : ways.Way net keeps intent steps are position via next) (pick : ℕ → ℕ) (taken : ℕ) (c : WayOf position via next p w pick taken)
      : Type 0 where
    pub into : way_of net c.stop p.destination ≡ Into next
    pub behind : left_after net next c.left ≡ Some w.left
    pub on : (s : SidEntry) → slice_get net.sids next ≡ Some s → StandsOn s (active x)
    pub along : Along tunnel x (hop - c.lowered) (with_hop_limit (p.hop_limit - c.lowered) p)
    pub hop_limit : p.hop_limit ≡ hop

  pub comes_at : (position : ℕ) (via : Option ℕ) (next : ℕ) (x : lists.ListPlace) (hop : ℕ) (p : Packet)
      (w : ways.Way net keeps intent steps are position via next) (pick : ℕ → ℕ) (taken : ℕ)
      → active x ≡ list_sid net (prefix_at net next) → Along tunnel x hop p → (c : WayOf position via next p w pick taken)
      → ComesAt position via next x hop p w pick taken c
  comes_at position via next x hop p w pick taken is along c =
      let parts = answer_parts w.found.answer c.sid (length c.left) next c.answer (few_left c.left c.is_left) w.sid in
      let limit = along_hop tunnel x hop p along in
      record {
        into = c.into ∙ ap Into parts.0;
        behind = ap (left_after net next) (sym (ap (steps_left steps) parts.1 ∙ left_is_law steps c.left c.is_left)) ∙ w.behind;
        on = λ u at.
            subst (StandsOn u) (sym (is ∙ ap (λ (o : Option SidEntry). list_sid net (prefix_by o)) at)) (facts.suits.stands next u at);
        along =
            subst (λ (h : ℕ). Along tunnel x h (with_hop_limit (p.hop_limit - c.lowered) p)) (ap (λ (h : ℕ). h - c.lowered) limit)
            (along_sent tunnel x hop (p.hop_limit - c.lowered) p along);
        hop_limit = limit;
      }

  -- a walk that hands over, from the place where the packet goes on
  pub from_place : (via : Option ℕ) (p : Packet) (pick : ℕ → ℕ) (taken : ℕ) (h : Handed) (place : Place)
      → place_from net intent via ≡ Some place → HandsOver k via p pick taken h → Hands net place (V6 p) pick taken h
  from_place via p pick taken h place from over = (
    over.0,
    sym (ap (λ (o : Option Place). hand_of net (free_walk_of over.0 net o (V6 p) pick taken)) from) ∙ over.1,
  )

  pub over_place : (via : Option ℕ) (p : Packet) (pick : ℕ → ℕ) (taken : ℕ) (h : Handed) (place : Place)
      → place_from net intent via ≡ Some place → Hands net place (V6 p) pick taken h → HandsOver k via p pick taken h
  over_place via p pick taken h place from hands =
      (hands.0, ap (λ (o : Option Place). hand_of net (free_walk_of hands.0 net o (V6 p) pick taken)) from ∙ hands.1)

-- what is handed over of a packet on its course is handed over from where it comes to the SID
pub course_over : (net : Network) (a : ℕ) (steps ts : List TraceStep) (place : Place) (p : Packet) (pick : ℕ → ℕ) (taken : ℕ) (f : Found)
    → (c : Course net a steps ts place p pick taken f) → (h : Handed) → Hands net place (V6 p) pick taken h
    → (g : Handed) × Hands net c.stop (V6 (with_hop_limit (p.hop_limit - c.lowered) p)) pick (taken + length c.links) g
    × (behind_links c.links g ≡ h)
course_over net a steps ts place p pick taken f c h hands =
    let more = hand_more net hands.0 (length c.links + hands.0) (omega arith) (Some place) (V6 p) pick taken h hands.1 in
    let got = map_some (behind_links c.links) _ h (sym (c.hands hands.0) ∙ more) in
    (got.0, (hands.0, got.1), got.2)
