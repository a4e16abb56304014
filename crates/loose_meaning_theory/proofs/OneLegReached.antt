-- Where a packet comes to along a leg or a finish: the SID is executed next there, whichever equal next hops are chosen.
use Rattle.std.proofs.Common.{◌≡◌, ℕ, ◌+◌, ◌-◌, ◌*◌, ◌/◌, ◌%◌, ◌≤◌, List, take, drop, length, Option, Some, slice_get, sym, ◌∙◌, ap, subst, arith}
use Rattle.std.proofs.lemmas.List.{take-append-drop}
use Rattle.srv6_rules.specs.declared.family.Family.TheVariants as families
use Rattle.srv6_rules.specs.declared.sid.SidEntry.{SidEntry}
use Rattle.srv6_rules.specs.Packet.{Packet, V6}
use Rattle.net_model.specs.Network.{Network}
use Rattle.net_model.specs.NetworkKeeps.{Keeps}
use Rattle.walk_rules.specs.Walk.{Stage, free_walk_of as walk_of}
use Rattle.walk_rules.specs.Way.{Into, way_of}
use Rattle.intent_reader.specs.declared.intent.Intent.{Intent}
use Rattle.sid_list_theory.specs.ListPlaces as lists
use Rattle.sid_list_theory.specs.ListPlaces.{Tunnel, Along, StandsOn, active}
use Rattle.sid_list_theory.proofs.PublicLaws.{along_hop, along_sent}
use Rattle.list_pack.specs.SidLists.{list_sid}
use Rattle.intent_traces.specs.declared.trace_steps.TraceStep.{TraceStep}
use Rattle.loose_walks.specs.WayGraphs.{found_in}
use Rattle.loose_walks.specs.WayGraphsTerms.{IsLeft}
use Rattle.loose_walks.specs.WalkStops.{ends_in}
use Rattle.loose_walks.specs.WalkStopsTerms.{Stop, first_stop, hops_left_of}
use Rattle.loose_walks.proofs.Reaching.{left_further, stop_left, where_found}
use Rattle.leg_table.proofs.FlatNets.{FlatFacts}
use Rattle.leg_table.proofs.StrictHanding.{walk_same}
use Rattle.leg_table.proofs.ListPlaces.{address_at}
use Rattle.leg_table.proofs.PathNames.{shape_prefix}
use Rattle.leg_table.specs.NestLegsTerms.{PlaceKeeps}
use Rattle.leg_table.specs.OneLegLaws.{LegKind, OnWay}
use Rattle.leg_table.specs.TransitsTerms.{with_hop_limit}
use Rattle.leg_table.specs.PositionSids.{prefix_by, sid_address}
use Rattle.loose_spec.specs.LooseLegs.{left_after}
use Rattle.loose_spec.specs.LooseSteps.{steps_left}
use Rattle.loose_legs_theory.specs.LooseStepsTerms.{AreSteps}
use Rattle.loose_legs_theory.proofs.Always.{left_is_law}
use Rattle.loose_legs_theory.proofs.Sames.{address_alike, found_same}
use Rattle.loose_legs_theory.proofs.LooseSentenceWays.{Way, start_at_law}
use Rattle.loose_meaning_theory.specs.LooseKind.{loose_kind}
use Rattle.loose_meaning_theory.proofs.StopWalks.{StopWalk, stop_walk}

module _ (net : Network) (keeps : Keeps net) (facts : FlatFacts net) (intent : Intent) (steps : List TraceStep) (are : AreSteps net intent steps)
    (tunnel : Tunnel) where
  abbrev k : LegKind
  k = loose_kind net intent steps

  -- the way to a next SID
  abbrev pub WayTo : ℕ → Option ℕ → ℕ → Type 0
  WayTo = Way net keeps intent steps are

  -- the active SID, by the SID that is there
  pub active_is : (x : lists.ListPlace) (hop : ℕ) (p : Packet) (next : ℕ) (s : SidEntry) → slice_get net.sids next ≡ Some s
      → OnWay k tunnel x hop p next → active x ≡ list_sid net s.prefix
  active_is x hop p next s there on =
      on.to ∙ ap (list_sid net) (shape_prefix net next) ∙ ap (λ (o : Option SidEntry). list_sid net (prefix_by o)) there

  -- where a row of choices takes the packet: to the SID that is active at its place in the list, with so many steps left behind it
  pub record Reached (position : ℕ) (via : Option ℕ) (next : ℕ) (w : WayTo position via next) (x : lists.ListPlace) (p : Packet)
      (s : SidEntry) (pick : ℕ → ℕ) (taken : ℕ)
      : Type 0 where
    pub stop : Stop
    pub walked : StopWalk net (drop position steps) w.place p pick taken stop
    pub into : way_of net stop.stage.place p.destination ≡ Into next
    pub is_v6 : stop.stage.place.family ≡ families.V6
    pub left : left_after net next stop.left ≡ Some w.left
    pub last : IsLeft steps stop.left
    pub hops_left : p.hop_limit - 1 - w.found.most ≤ walked.hop - 1
    pub on : StandsOn s (active x)
    pub along : Along tunnel x walked.hop (with_hop_limit walked.hop p)

  -- what is found on the way to the packet's own destination is what is found on the way to the SID's first address
  pub found_there : (position : ℕ) (via : Option ℕ) (next : ℕ) (w : WayTo position via next) (x : lists.ListPlace) (hop : ℕ) (p : Packet)
      (s : SidEntry)
      → slice_get net.sids next ≡ Some s → active x ≡ list_sid net s.prefix → Along tunnel x hop p → PlaceKeeps net x
      → found_in net p.destination steps (length steps - position) w.place ≡ Some w.found
  found_there position via next w x hop p s there same along nests =
      let to = address_at net keeps facts tunnel x hop p next s along nests there same in
      found_same net p.destination (sid_address net next) (address_alike net facts next s there p.destination to) steps
      (length steps - position) w.place (start_at_law net keeps intent steps are position via w.place w.start w.from).family
      ∙ w.there

  pub reached : (position : ℕ) (via : Option ℕ) (next : ℕ) (w : WayTo position via next) (x : lists.ListPlace) (hop : ℕ) (p : Packet)
      (s : SidEntry) (pick : ℕ → ℕ) (taken : ℕ)
      → slice_get net.sids next ≡ Some s → active x ≡ list_sid net s.prefix → Along tunnel x hop p → PlaceKeeps net x
      → w.found.most ≤ p.hop_limit - 1 → Reached position via next w x p s pick taken
  reached position via next w x hop p s pick taken there same along nests few =
      let st = start_at_law net keeps intent steps are position via w.place w.start w.from in
      let picks : ℕ → ℕ = λ d. pick (taken + d) in
      let fuel = p.hop_limit + 2 in
      let sid : w.found.answer / 64 ≡ next = w.sid in
      let answer : w.found.answer ≡ next * 64 + w.found.answer % 64 = omega (arith, sid) in
      let all : w.found.most + (p.hop_limit - 1 - w.found.most) ≤ p.hop_limit - 1 = omega (arith, few) in
      let c =
      (where_found net steps (length steps - position) w.place p fuel next (w.found.answer % 64) (p.hop_limit - 1 - w.found.most) keeps
      are.few (omega arith) st.is_place st.family (omega arith)).1
      (w.found, found_there position via next w x hop p s there same along nests, answer, all) picks in
      let back : length steps - (length steps - position) ≡ position = (let l = st.within in omega (arith, l)) in
      let first : first_stop (ends_in net) (drop position steps) (walk_of fuel net (Some w.place) (V6 p) pick taken) ≡ Some c.stop
      = ap (λ (ss : List Stage). first_stop (ends_in net) (drop position steps) ss)
      (sym (walk_same net fuel (Some w.place) (V6 p) picks pick 0 taken (λ d. at d)))
      ∙ ap (λ (m : ℕ). first_stop (ends_in net) (drop m steps) (walk_of fuel net (Some w.place) (V6 p) picks 0)) (sym back)
      ∙ c.first in
      let sw = stop_walk net fuel (drop position steps) w.place p pick taken c.stop first in
      let last = left_further steps (drop position steps) c.stop.left (take position steps, sym (take-append-drop position steps))
      (stop_left (ends_in net) (drop position steps) (walk_of fuel net (Some w.place) (V6 p) pick taken) c.stop first) in
      let left_is : steps_left steps (w.found.answer % 64) ≡ c.stop.left
      = ap (steps_left steps) (sym c.steps) ∙ left_is_law steps c.stop.left last in
      let limit = along_hop tunnel x hop p along in
      record {
        stop = c.stop;
        walked = sw;
        into = c.into;
        is_v6 = sw.family ∙ st.family;
        left = ap (left_after net next) (sym left_is) ∙ w.behind;
        last = last;
        hops_left = subst (λ (m : ℕ). p.hop_limit - 1 - w.found.most ≤ m) (ap hops_left_of sw.before) c.hops_left;
        on = subst (StandsOn s) (sym same) (facts.suits.stands next s there);
        along = along_sent tunnel x hop sw.hop p along;
      }
    where
      at : (d : ℕ) → pick (taken + (0 + d)) ≡ pick (taken + d)
      at d = ap pick (omega arith)
