-- Over a leg, and over a finish: what is handed over of a packet on it, and how far it was lowered on a longest way.
use Rattle.std.proofs.Common.{◌≡◌, ℕ, suc, ◌+◌, ◌-◌, ◌*◌, ◌<◌, ◌≤◌, ◌⊎◌, inl, inr, true, List, [], ◌∷◌, drop, length, Option, Some, None, slice_get, refl, sym, ◌∙◌, ap, subst, arith}
use Rattle.std.specs.Option.{option_map}
use Rattle.std.proofs.lemmas.Bool.{cases_lt}
use Rattle.srv6_rules.specs.declared.family.Family.{Family}
use Rattle.srv6_rules.specs.declared.family.Family.TheVariants as families
use Rattle.srv6_rules.specs.declared.sid.SidEntry.{SidEntry}
use Rattle.srv6_rules.specs.Packet.{Packet, V6}
use Rattle.net_model.specs.Network.{Network}
use Rattle.net_model.specs.NetworkKeeps.{Keeps}
use Rattle.walk_rules.specs.declared.place.Place.{Place}
use Rattle.walk_rules.specs.declared.place.Outcome.TheVariants as outcomes
use Rattle.walk_rules.specs.Treatment.{free_step_of, goes, onward_from}
use Rattle.walk_rules.specs.Walk.{free_walk_of, next_place}
use Rattle.walk_rules.specs.Way.{Into, way_of}
use Rattle.walk_rules.proofs.PublicLaws.{way_into}
use Rattle.intent_reader.specs.declared.intent.Intent.{Intent}
use Rattle.sid_list_theory.specs.ListPlaces as lists
use Rattle.sid_list_theory.specs.ListPlaces.{Along, StandsOn, Tunnel, active, next_of}
use Rattle.sid_list_theory.proofs.PublicLaws.{along_hop}
use Rattle.list_pack.specs.declared.types.Leg.{Leg}
use Rattle.intent_traces.specs.declared.trace_steps.TraceStep.{TraceStep}
use Rattle.leg_table.specs.StrictLegs.{place_behind, place_from}
use Rattle.leg_table.specs.OneLegLaws.{GoesOver, HandsOver, LegKind, OnWay}
use Rattle.leg_table.specs.TransitsTerms.{with_hop_limit}
use Rattle.leg_table.specs.PositionSids.{hands_over, takes_step}
use Rattle.leg_table.specs.WalkTrace.{Handed}
use Rattle.leg_table.proofs.FlatNets.{FlatFacts}
use Rattle.leg_table.proofs.NextTransits.{last_sid, middle_sid}
use Rattle.leg_table.proofs.StrictOptions.{some_same}
use Rattle.leg_table.proofs.Segments.{behind_again, last_exposes, mid_low, mid_onward}
use Rattle.loose_spec.specs.LooseLegs.{finish_of, leg_of}
use Rattle.loose_legs_theory.specs.LooseStepsTerms.{AreSteps}
use Rattle.loose_legs_theory.proofs.LooseSentenceWays.{finish_way, leg_way}
use Rattle.loose_meaning_theory.specs.LooseKind.{behind_execution, loose_kind}
use Rattle.loose_meaning_theory.specs.LongestWays.{AreLongest, Longest}
use Rattle.loose_meaning_theory.proofs.LooseKindArrivals.{comes_at, course_over, from_place, over_place, to_sid, way_of_law}
use Rattle.loose_meaning_theory.proofs.LooseKindCourses.{Course}
use Rattle.choice_graph.specs.declared.vertices.Found.{Found}
use Rattle.loose_meaning_theory.proofs.LooseKindStages.{Hands, again_over, behind_links, first_hands, longest_fewer, longest_stage, none_dropped}

-- the execution of a middle SID that is not the last of a list: the stage, and where the packet stands after it
pub record Onward (net : Network) (tunnel : Tunnel) (at : Place) (next : ℕ) (sid : SidEntry) (y : lists.ListPlace) (limit : ℕ) (q : Packet)
    (choice : ℕ)
    : Type 0 where
  pub packet : Packet
  pub gives : free_step_of net at (V6 q) choice ≡ goes (outcomes.Again next (onward_from next sid.behaviour)) (V6 packet)
  pub leads : next_place net at (outcomes.Again next (onward_from next sid.behaviour)) ≡ Some (place_behind next sid)
  pub along : Along tunnel y (limit - 1) packet

pub middle_onward : (net : Network) (tunnel : Tunnel) (at : Place) (next : ℕ) (sid : SidEntry) (x y : lists.ListPlace) (limit : ℕ)
    (q : Packet) (choice : ℕ)
    → Along tunnel x limit q → way_of net at q.destination ≡ Into next → slice_get net.sids next ≡ Some sid → StandsOn sid (active x)
    → takes_step sid ≡ true → next_of x ≡ Some y → at.family ≡ families.V6 → 1 < limit → Onward net tunnel at next sid y limit q choice
middle_onward net tunnel at next sid x y limit q choice along into there on takes to v6 high =
    let stands = way_into net at q.destination next into in
    let same : stands.sid ≡ sid = some_same stands.sid sid (sym stands.is_there ∙ there) in
    let node : sid.node ≡ at.node = ap (λ (t : SidEntry). t.node) (sym same) ∙ stands.stands in
    let stage = mid_onward net tunnel x limit q along at next choice sid into there on takes y to high in
    record { packet = stage.0; gives = stage.1; leads = behind_again net at next sid node v6; along = stage.2 }

-- the SIDs of what is handed over behind links and an execution
sids_behind : (links : List ℕ) (n : ℕ) (h g last : Handed) → behind_links links g ≡ h → behind_execution n last ≡ g → h.sids ≡ n ∷ last.sids
sids_behind links n h g last one two = sym (ap (λ (x : Handed). x.sids) one) ∙ sym (ap (λ (x : Handed). x.sids) two)

module _ (net : Network) (tunnel : Tunnel) (at : Place) (next : ℕ) (sid : SidEntry) (x y : lists.ListPlace) (limit : ℕ) (q : Packet)
    (along : Along tunnel x limit q) (into : way_of net at q.destination ≡ Into next) (there : slice_get net.sids next ≡ Some sid)
    (on : StandsOn sid (active x)) (takes : takes_step sid ≡ true) (to : next_of x ≡ Some y) (pick : ℕ → ℕ) (taken : ℕ) where
  -- what is handed over of a packet at a middle SID was executed there
  pub middle_high : (h : Handed) → Hands net at (V6 q) pick taken h → 1 < limit
  middle_high h hands = by_limit (cases_lt 1 limit)
    where
      by_limit : (1 < limit) ⊎ (limit ≤ 1) → 1 < limit
      by_limit (inl high) = high
      by_limit (inr low) =
          absurd (none_dropped net at (V6 q) pick taken h _
          (mid_low net tunnel x limit q along at next (pick taken) sid into there on takes y to low) (λ later. refl) hands)

  -- and is handed over from behind it
  pub middle_over : (o : Onward net tunnel at next sid y limit q (pick taken)) → (h : Handed) → Hands net at (V6 q) pick taken h
      → (g : Handed) × Hands net (place_behind next sid) (V6 o.packet) pick (taken + 0) g × (behind_execution next g ≡ h)
  middle_over o h hands =
      again_over net at (place_behind next sid) (V6 q) (V6 o.packet) pick taken h next (onward_from next sid.behaviour) o.gives o.leads
      hands

module _ (net : Network) (keeps : Keeps net) (facts : FlatFacts net) (intent : Intent) (steps : List TraceStep) (are : AreSteps net intent steps)
    (tunnel : Tunnel) where
  abbrev k : LegKind
  k = loose_kind net intent steps

  -- a longest way, from the place where the packet goes on
  longest_from : (via : Option ℕ) (p : Packet) (pick : ℕ → ℕ) (taken : ℕ) (place : Place) (count : ℕ)
      → place_from net intent via ≡ Some place → count ≤ 2 * p.hop_limit → Longest net intent via p pick taken
      → AreLongest net (free_walk_of (count + (2 * p.hop_limit - count)) net (Some place) (V6 p) pick taken)
  longest_from via p pick taken place count from few all =
      let n : 2 * p.hop_limit ≡ count + (2 * p.hop_limit - count) = omega (arith, few) in
      subst (λ (m : ℕ). AreLongest net (free_walk_of m net (Some place) (V6 p) pick taken)) n
      (subst (λ (o : Option Place). AreLongest net (free_walk_of (2 * p.hop_limit) net o (V6 p) pick taken)) from all)

  -- a longest way by a course to a SID, and on from behind it
  longest_behind : (ts : List TraceStep) (via : Option ℕ) (place : Place) (p : Packet) (pick : ℕ → ℕ) (taken : ℕ) (f : Found)
      (c : Course net p.destination steps ts place p pick taken f) (next : ℕ) (sid : SidEntry) (y : lists.ListPlace) (limit : ℕ)
      (o : Onward net tunnel c.stop next sid y limit (with_hop_limit (p.hop_limit - c.lowered) p) (pick (taken + length c.links)))
      → limit ≡ p.hop_limit - c.lowered → 1 < limit → place_from net intent via ≡ Some place
      → place_from net intent (Some next) ≡ Some (place_behind next sid) → Longest net intent via p pick taken
      → (c.lowered ≡ f.most) × Longest net intent (Some next) o.packet pick (taken + length c.links + 0)
  longest_behind ts via place p pick taken f c next sid y limit o is above from from_next all =
      let q = with_hop_limit (p.hop_limit - c.lowered) p in
      let chosen = taken + length c.links in
      let how = onward_from next sid.behaviour in
      let short = c.short in
      let hop_after : o.packet.hop_limit ≡ limit - 1 = along_hop tunnel y (limit - 1) o.packet o.along in
      let more : ℕ = 2 * p.hop_limit - length c.links - 1 in
      let count : 2 * p.hop_limit - length c.links ≡ suc more = omega (arith, short, above, is) in
      let long =
      c.longest (2 * p.hop_limit - length c.links)
      (longest_from via p pick taken place (length c.links) from (omega (arith, short, above, is)) all) in
      let after =
      longest_stage net more c.stop (V6 q) pick chosen (goes (outcomes.Again next how) (V6 o.packet)) o.gives
      (subst (λ (n : ℕ). AreLongest net (free_walk_of n net (Some c.stop) (V6 q) pick chosen)) count long.1) in
      let few : 2 * o.packet.hop_limit ≤ more = omega (arith, hop_after, short, above, is) in (
        long.0,
        subst (λ (at : Option Place). AreLongest net (free_walk_of (2 * o.packet.hop_limit) net at (V6 o.packet) pick (chosen + 0)))
            (o.leads ∙ sym from_next)
            (longest_fewer net (2 * o.packet.hop_limit) more few (next_place net c.stop (outcomes.Again next how)) (V6 o.packet) pick
            (chosen + 0) after.1),
      )

  -- over a finish
  pub finish_over_law : (x : lists.ListPlace) (position : ℕ) (via : Option ℕ) (next lowered : ℕ) (hop : ℕ) (p : Packet) (pick : ℕ → ℕ)
      (taken : ℕ) (h : Handed)
      → tunnel.inner ≡ intent.inner → finish_of net intent steps position via next ≡ Some lowered → OnWay k tunnel x hop p next
      → next_of x ≡ None → HandsOver k via p pick taken h
      → (h.sids ≡ next ∷ []) × (Longest net intent via p pick taken → 0 < hop → lowered < hop)
  finish_over_law x position via next lowered hop p pick taken h family e on end over =
      let got = finish_way net keeps intent steps are position via next lowered e in
      let w = got.1 in
      let sid = last_sid net intent.inner next got.0 in
      let is = to_sid net keeps facts intent steps are tunnel x hop p next on in
      let started = from_place net keeps facts intent steps are tunnel via p pick taken h w.place w.from over in
      let c =
      way_of_law net keeps facts intent steps are tunnel position via next x hop p w pick taken sid.0 sid.1 is on.along on.keeps
      (inr (h, started)) in
      let a = comes_at net keeps facts intent steps are tunnel position via next x hop p w pick taken is on.along c in
      let rest = course_over net p.destination steps (drop position steps) w.place p pick taken w.found c h started in
      let q = with_hop_limit (p.hop_limit - c.lowered) p in
      let shows = ap (λ (f : Family). hands_over f sid.0) family ∙ sid.2 in
      let stage =
      last_exposes net tunnel x (hop - c.lowered) q a.along c.stop next (pick (taken + length c.links)) sid.0 a.into sid.1
      (a.on sid.0 sid.1) end shows in
      let first = first_hands net c.stop (V6 q) pick (taken + length c.links) rest.0 _ stage rest.1 in
      let last = some_same _ rest.0 first.1 in (
        sym (ap (λ (g : Handed). g.sids) rest.2) ∙ sym (ap (λ (g : Handed). g.sids) last),
        λ all positive.
            let limit = a.hop_limit in
            let low : c.lowered < p.hop_limit = c.below (omega (arith, limit, positive)) in
            let short = c.short in
            let long =
            c.longest (2 * p.hop_limit - length c.links)
            (longest_from via p pick taken w.place (length c.links) w.from (omega (arith, low, short)) all) in
            let most : w.found.most ≡ lowered = got.2 in
            let all_lowered : c.lowered ≡ w.found.most = long.0 in
            omega (arith, most, all_lowered, low, limit),
      )

  -- over a leg
  pub leg_over_law : (x y : lists.ListPlace) (position : ℕ) (via : Option ℕ) (next : ℕ) (leg : Leg) (hop : ℕ) (p : Packet) (pick : ℕ → ℕ)
      (taken : ℕ) (h : Handed)
      → leg_of net intent steps position via next ≡ Some leg → OnWay k tunnel x hop p next → next_of x ≡ Some y
      → HandsOver k via p pick taken h → GoesOver k (Longest net intent) tunnel y via next leg hop p pick taken h
  leg_over_law x y position via next leg hop p pick taken h e on to over =
      let got = leg_way net keeps intent steps are position via next leg e in
      let w = got.1 in
      let sid = middle_sid net next got.0 in
      let is = to_sid net keeps facts intent steps are tunnel x hop p next on in
      let started = from_place net keeps facts intent steps are tunnel via p pick taken h w.place w.from over in
      let c =
      way_of_law net keeps facts intent steps are tunnel position via next x hop p w pick taken sid.0 sid.1 is on.along on.keeps
      (inr (h, started)) in
      let a = comes_at net keeps facts intent steps are tunnel position via next x hop p w pick taken is on.along c in
      let rest = course_over net p.destination steps (drop position steps) w.place p pick taken w.found c h started in
      let q = with_hop_limit (p.hop_limit - c.lowered) p in
      let chosen = taken + length c.links in
      let limit = a.hop_limit in
      let stands = a.on sid.0 sid.1 in
      let above =
      middle_high net tunnel c.stop next sid.0 x y (hop - c.lowered) q a.along a.into sid.1 stands sid.2 to pick chosen rest.0 rest.1 in
      let o =
      middle_onward net tunnel c.stop next sid.0 x y (hop - c.lowered) q (pick chosen) a.along a.into sid.1 stands sid.2 to c.family
      above in
      let m =
      middle_over net tunnel c.stop next sid.0 x y (hop - c.lowered) q a.along a.into sid.1 stands sid.2 to pick chosen o rest.0
      rest.1 in
      let less : hop - c.lowered - 1 ≡ hop - (c.lowered + 1) = omega arith in
      let from : place_from net intent (Some next) ≡ Some (place_behind next sid.0) = ap (option_map (place_behind next)) sid.1 in
      let hops : w.found.most + 1 ≡ leg.hops = ap (λ (l : Leg). l.hops) got.2 in
      record {
        lowered = c.lowered + 1;
        high = omega (arith, above);
        packet = o.packet;
        along = subst (λ (j : ℕ). Along tunnel y j o.packet) less o.along;
        chosen = chosen + 0;
        handed = m.0;
        over =
            over_place net keeps facts intent steps are tunnel (Some next) o.packet pick (chosen + 0) m.0 (place_behind next sid.0) from
            m.1;
        sids = sids_behind c.links next h rest.0 m.0 rest.2 m.2;
        longest = λ all.
            let long =
            longest_behind (drop position steps) via w.place p pick taken w.found c next sid.0 y (hop - c.lowered) o
            (ap (λ (n : ℕ). n - c.lowered) (sym limit)) above w.from from all in
            let all_lowered : c.lowered ≡ w.found.most = long.0 in
            (omega (arith, hops, all_lowered), long.1);
      }
