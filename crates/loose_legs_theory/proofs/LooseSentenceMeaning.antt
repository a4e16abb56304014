-- A leg and a finish by look-ups alone are there exactly where all choices take a packet so.
use Rattle.std.proofs.Common.{◌≡◌, ℕ, suc, ◌+◌, ◌-◌, ◌*◌, ◌/◌, ◌%◌, ◌<◌, ◌≤◌, ◌↔◌, Bool, true, false, if◌then◌else◌, List, length, drop, Option, Some, slice_get, refl, sym, ◌∙◌, ap, subst, arith}
use Rattle.std.proofs.lemmas.List.{length-drop}
use Rattle.srv6_rules.specs.declared.sid.SidEntry.{SidEntry}
use Rattle.srv6_rules.specs.CompressedSteps.{compression_of, shifts}
use Rattle.srv6_rules.specs.Packet.{Packet}
use Rattle.net_model.specs.Network.{Network}
use Rattle.net_model.specs.NetworkKeeps.{Keeps}
use Rattle.walk_rules.specs.declared.place.Place.{Place}
use Rattle.walk_rules.specs.declared.place.Outcome.{Outcome}
use Rattle.intent_reader.specs.declared.intent.Intent.{Intent}
use Rattle.list_pack.specs.declared.types.Leg.{Leg}
use Rattle.intent_traces.specs.declared.trace_steps.TraceStep.{TraceStep}
use Rattle.choice_graph.specs.declared.vertices.Found.{Found}
use Rattle.choice_graph.proofs.GraphOptions.{some_same}
use Rattle.loose_walks.specs.WayGraphs.{found_in}
use Rattle.leg_table.specs.AllChoices.{AtPlace}
use Rattle.leg_table.specs.StrictLegs.{place_from}
use Rattle.leg_table.specs.StrictLegsTerms.{has_next_segment, has_packet_inside, is_again, is_hand}
use Rattle.leg_table.specs.PositionSids.{first_address, is_last, is_middle, sid_address}
use Rattle.leg_table.specs.WalkTrace.{is_titled}
use Rattle.leg_table.proofs.NextTransits.{middle_sid, last_sid}
use Rattle.leg_table.proofs.StrictWitnesses.{some_packet, some_packet_has, last_packet, last_packet_has}
use Rattle.leg_table.proofs.LegLemmas.{place_from_law, value_alone}
use Rattle.loose_spec.specs.LooseLegs.{finish_of, leg_of, left_after}
use Rattle.loose_legs_theory.specs.LooseSentences.{AlwaysExecutes, IsFinish, IsHanded, IsLeg, IsTaken}
use Rattle.loose_spec.specs.LooseSids.{is_origin}
use Rattle.loose_spec.specs.LooseSteps.{steps_left}
use Rattle.loose_legs_theory.specs.LooseStepsTerms.{AreSteps}
use Rattle.loose_legs_theory.proofs.Always.{after_count, always_found, found_always}
use Rattle.loose_legs_theory.proofs.Sames.{AreAlike, found_same}
use Rattle.loose_legs_theory.proofs.LooseSentenceTests.{IsTest, again_test, hand_test}
use Rattle.loose_legs_theory.proofs.LooseSentenceWays.{Way, start_at_law, leg_way, leg_from, finish_way, finish_from}

pub first_alone : (net : Network) → Keeps net → (next : ℕ) (s : SidEntry) → slice_get net.sids next ≡ Some s
    → shifts (compression_of s) (sid_address net next) ≡ false
first_alone net keeps next s there =
    subst (λ (a : ℕ). shifts (compression_of s) a ≡ false) (ap first_address (sym there)) (value_alone s (keeps.sid next s there).prefix)

module _ (net : Network) (keeps : Keeps net) (intent : Intent) (steps : List TraceStep) (are : AreSteps net intent steps) where
  abbrev W : ℕ → Option ℕ → ℕ → Type 0
  W = Way net keeps intent steps are

  -- ---- all choices

  module _ (position : ℕ) (via : Option ℕ) (next : ℕ) (executes : ℕ → Outcome → Bool) (lowers address : ℕ)
      (alike : AreAlike net address (sid_address net next)) where
    drop_is : position ≤ length steps → steps_left steps (length steps - position) ≡ drop position steps
    drop_is within =
        let k : length steps - (length steps - position) ≡ position = omega (arith, within) in
        ap (λ (n : ℕ). drop n steps) k

    -- all choices execute exactly where the way is found with few enough lowerings
    pub way_always : (w : W position via next) (p : Packet) → IsTest net p next executes lowers → p.destination ≡ address
        → w.found.most + lowers ≤ p.hop_limit - 1 → AlwaysExecutes net executes (drop position steps) next w.left p w.place
    way_always w p test to few =
        let s = start_at_law net keeps intent steps are position via w.place w.start w.from in
        let there : found_in net p.destination steps (length steps - position) w.place ≡ Some w.found
        = ap (λ (d : ℕ). found_in net d steps (length steps - position) w.place) to
        ∙ found_same net address (sid_address net next) alike steps (length steps - position) w.place s.family ∙ w.there in
        let sid : w.found.answer / 64 ≡ next = w.sid in
        let answer : w.found.answer ≡ next * 64 + w.found.answer % 64 = omega (arith, sid) in
        subst (λ (ts : List TraceStep). AlwaysExecutes net executes ts next w.left p w.place) (drop_is s.within)
        (found_always net keeps steps are.few (length steps - position) w.place s.is_place s.family p next executes lowers test w.left
        (record {
          found = w.found;
          before = w.found.answer % 64;
          there = there;
          answer = answer;
          low = omega arith;
          behind = w.behind;
          most = few;
        }))

    pub always_way : (place : Place) (left : ℕ) (p : Packet) → is_origin net intent steps position via ≡ true
        → place_from net intent via ≡ Some place → IsTest net p next executes lowers → p.destination ≡ address
        → AlwaysExecutes net executes (drop position steps) next left p place
        → (w : W position via next) × (w.place ≡ place) × (w.left ≡ left) × (w.found.most + lowers ≤ p.hop_limit - 1)
    always_way place left p start from test to all =
        let s = start_at_law net keeps intent steps are position via place start from in
        let f =
        always_found net keeps steps are.few (length steps - position) place s.is_place s.family p next executes lowers test left
        (subst (λ (ts : List TraceStep). AlwaysExecutes net executes ts next left p place) (sym (drop_is s.within)) all) in
        let there : found_in net (sid_address net next) steps (length steps - position) place ≡ Some f.found
        = sym (found_same net address (sid_address net next) alike steps (length steps - position) place s.family)
        ∙ ap (λ (d : ℕ). found_in net d steps (length steps - position) place) (sym to) ∙ f.there in
        let sid : f.found.answer / 64 ≡ next = omega (arith, f.answer, f.low) in
        let before : f.found.answer % 64 ≡ f.before = omega (arith, f.answer, f.low) in (
          record {
            start = start;
            place = place;
            from = from;
            found = f.found;
            there = there;
            sid = sid;
            left = left;
            behind = ap (λ (k : ℕ). left_after net next (steps_left steps k)) before ∙ f.behind;
          },
          refl,
          refl,
          f.most,
        )

  -- the steps left behind an execution are no more than the steps
  left_few : (position : ℕ) (via : Option ℕ) (next : ℕ) (w : W position via next) → w.left ≤ length steps
  left_few position via next w =
      let count = after_count net next w.left (steps_left steps (w.found.answer % 64)) w.behind in
      let long : length (steps_left steps (w.found.answer % 64)) ≡ length steps - (length steps - w.found.answer % 64)
      = length-drop (length steps - w.found.answer % 64) steps in
      by_title (is_titled net next) (sym count ∙ long)
    where
      by_title : (b : Bool) → (if b then suc w.left else w.left) ≡ length steps - (length steps - w.found.answer % 64)
          → w.left ≤ length steps
      by_title true e = omega (arith, e)
      by_title false e = omega (arith, e)

  -- from one place all choices come to one
  one_way : (position : ℕ) (via : Option ℕ) (next : ℕ) (w v : W position via next) → w.place ≡ v.place → w.found.most ≡ v.found.most
  one_way position via next w v same =
      ap (λ (f : Found). f.most)
      (some_same w.found v.found
      (sym w.there ∙ ap (found_in net (sid_address net next) steps (length steps - position)) same ∙ v.there))

  module _ (position : ℕ) (via : Option ℕ) (next address : ℕ) (alike : AreAlike net address (sid_address net next)) where
    -- ---- legs

    taken_by : (w : W position via next) (s : SidEntry) → slice_get net.sids next ≡ Some s
        → IsTaken net address (drop position steps) next w.left (w.found.most + 1) w.place
    taken_by w s there p to on positive =
        let test = again_test net p next s there on in (
          λ high. way_always position via next is_again 1 address alike w p test to (omega (arith, high)),
          λ all. below (always_way position via next is_again 1 address alike w.place w.left p w.start w.from test to all),
        )
      where
        below : (v : W position via next) × (v.place ≡ w.place) × (v.left ≡ w.left) × (v.found.most + 1 ≤ p.hop_limit - 1)
            → w.found.most + 1 < p.hop_limit
        below v = let e = one_way position via next v.0 w v.1 in omega (arith, e, v.3, positive)

    leg_is : (leg : Leg) → leg_of net intent steps position via next ≡ Some leg → IsLeg net intent steps address position via next leg
    leg_is leg h =
        let g = leg_way net keeps intent steps are position via next leg h in
        let w = g.1 in
        let s = middle_sid net next g.0 in
        let few : w.left ≤ length steps = left_few position via next w in
        let back : length steps - (length steps - w.left) ≡ w.left = omega (arith, few) in
        subst (IsLeg net intent steps address position via next) g.2
        (record {
          start = w.start;
          middle = g.0;
          within = omega arith;
          taken =
              subst (λ (o : Option Place). AtPlace o (IsTaken net address (drop position steps) next
              (length steps - (length steps - w.left)) (w.found.most + 1))) (sym w.from)
              (subst (λ (left : ℕ). IsTaken net address (drop position steps) next left (w.found.most + 1) w.place) (sym back)
              (taken_by w s.0 s.1));
        })

    -- even one packet shows it
    pub leg_one : (place : Place) (left : ℕ) (p : Packet) → is_origin net intent steps position via ≡ true → is_middle net next ≡ true
        → place_from net intent via ≡ Some place → p.destination ≡ address → has_next_segment net next p ≡ true → 0 < p.hop_limit
        → AlwaysExecutes net is_again (drop position steps) next left p place
        → (w : W position via next) × (w.place ≡ place) × (w.left ≡ left) × (w.found.most + 1 < p.hop_limit)
    leg_one place left p start middle from to on positive all =
        let s = middle_sid net next middle in
        let x = always_way position via next is_again 1 address alike place left p start from (again_test net p next s.0 s.1 on) to all in
        let m : x.0.found.most + 1 ≤ p.hop_limit - 1 = x.3 in
        (x.0, x.1, x.2, omega (arith, m, positive))

    is_leg : (leg : Leg) → IsLeg net intent steps address position via next leg → leg_of net intent steps position via next ≡ Some leg
    is_leg leg h =
        let at =
        place_from_law (place_from net intent via) (IsTaken net address (drop position steps) next (length steps - leg.to) leg.hops) h.taken in
        let s = middle_sid net next h.middle in
        let one = some_packet_has net next s.0 address (leg.hops + 1) s.1 s.2 in
        let p = some_packet address (leg.hops + 1) in
        let positive : 0 < p.hop_limit = subst (λ (k : ℕ). 0 < k) (sym one.2) (omega arith) in
        let above : leg.hops < p.hop_limit = subst (λ (k : ℕ). leg.hops < k) (sym one.2) (omega arith) in
        let x =
        leg_one at.0 (length steps - leg.to) p h.start h.middle at.1 one.1 one.0 positive ((at.2 p one.1 one.0 positive).0 above) in
        let w = x.0 in
        let low : w.found.most + 1 < p.hop_limit = x.3 in
        let less : w.found.most + 1 < leg.hops + 1 = subst (λ (k : ℕ). w.found.most + 1 < k) one.2 low in
        let two = some_packet_has net next s.0 address (w.found.most + 2) s.1 s.2 in
        let q = some_packet address (w.found.most + 2) in
        let q_positive : 0 < q.hop_limit = subst (λ (k : ℕ). 0 < k) (sym two.2) (omega arith) in
        let q_few : w.found.most + 1 ≤ q.hop_limit - 1 = subst (λ (k : ℕ). w.found.most + 1 ≤ k - 1) (sym two.2) (omega arith) in
        let all = way_always position via next is_again 1 address alike w q (again_test net q next s.0 s.1 two.0) two.1 q_few in
        let mine : AlwaysExecutes net is_again (drop position steps) next (length steps - leg.to) q at.0
        = subst (λ (place : Place). AlwaysExecutes net is_again (drop position steps) next (length steps - leg.to) q place) x.1
        (subst (λ (left : ℕ). AlwaysExecutes net is_again (drop position steps) next left q w.place) x.2 all) in
        let high : leg.hops < q.hop_limit = (at.2 q two.1 two.0 q_positive).1 mine in
        let more : leg.hops < w.found.most + 2 = subst (λ (k : ℕ). leg.hops < k) two.2 high in
        let hops : w.found.most + 1 ≡ leg.hops = omega (arith, less, more) in
        let within = h.within in
        let to : length steps - w.left ≡ leg.to = same_to w.left (length steps) leg.to within x.2 in
        leg_from net keeps intent steps are position via next w h.middle
        ∙ ap Some (same_leg (length steps - w.left) leg.to (w.found.most + 1) leg.hops to hops)
      where
        same_to : (left count to : ℕ) → to ≤ count → left ≡ count - to → count - left ≡ to
        same_to left count to within e = omega arith

        same_leg : (a b c d : ℕ) → a ≡ b → c ≡ d → Path Leg (record { to = a; hops = c }) (record { to = b; hops = d })
        same_leg a b c d e f = cc

    pub leg_exactly : (leg : Leg)
        → (leg_of net intent steps position via next ≡ Some leg) ↔ IsLeg net intent steps address position via next leg
    leg_exactly leg = (leg_is leg, is_leg leg)

    -- ---- finishes

    handed_by : (w : W position via next) (s : SidEntry) → slice_get net.sids next ≡ Some s
        → IsHanded net address (drop position steps) next w.left w.found.most w.place
    handed_by w s there p to on positive =
        let test = hand_test net p next s there on in (
          λ high. way_always position via next is_hand 0 address alike w p test to (omega (arith, high)),
          λ all. below (always_way position via next is_hand 0 address alike w.place w.left p w.start w.from test to all),
        )
      where
        below : (v : W position via next) × (v.place ≡ w.place) × (v.left ≡ w.left) × (v.found.most + 0 ≤ p.hop_limit - 1)
            → w.found.most < p.hop_limit
        below v = let e = one_way position via next v.0 w v.1 in omega (arith, e, v.3, positive)

    finish_is : (lowered : ℕ) → finish_of net intent steps position via next ≡ Some lowered
        → IsFinish net intent steps address position via next lowered
    finish_is lowered h =
        let g = finish_way net keeps intent steps are position via next lowered h in
        let w = g.1 in
        let s = last_sid net intent.inner next g.0 in
        subst (IsFinish net intent steps address position via next) g.2
        (record {
          start = w.start;
          last = g.0;
          handed =
              subst (λ (o : Option Place). AtPlace o (IsHanded net address (drop position steps) next 0 w.found.most)) (sym w.from)
              (subst (λ (left : ℕ). IsHanded net address (drop position steps) next left w.found.most w.place) g.3 (handed_by w s.0 s.1));
        })

    pub finish_one : (place : Place) (left : ℕ) (p : Packet) → is_origin net intent steps position via ≡ true
        → is_last net intent.inner next ≡ true
        → place_from net intent via ≡ Some place → p.destination ≡ address → has_packet_inside net next p ≡ true → 0 < p.hop_limit
        → AlwaysExecutes net is_hand (drop position steps) next left p place
        → (w : W position via next) × (w.place ≡ place) × (w.left ≡ left) × (w.found.most < p.hop_limit)
    finish_one place left p start last from to on positive all =
        let s = last_sid net intent.inner next last in
        let x = always_way position via next is_hand 0 address alike place left p start from (hand_test net p next s.0 s.1 on) to all in
        let m : x.0.found.most + 0 ≤ p.hop_limit - 1 = x.3 in
        (x.0, x.1, x.2, omega (arith, m, positive))

    module _ (alone : (s : SidEntry) → slice_get net.sids next ≡ Some s → shifts (compression_of s) address ≡ false) where
      is_finish : (lowered : ℕ) → IsFinish net intent steps address position via next lowered
          → finish_of net intent steps position via next ≡ Some lowered
      is_finish lowered h =
          let at = place_from_law (place_from net intent via) (IsHanded net address (drop position steps) next 0 lowered) h.handed in
          let s = last_sid net intent.inner next h.last in
          let one = last_packet_has net next s.0 intent.inner address (lowered + 1) s.1 (alone s.0 s.1) s.2 in
          let p = last_packet intent.inner address (lowered + 1) in
          let positive : 0 < p.hop_limit = subst (λ (k : ℕ). 0 < k) (sym one.2) (omega arith) in
          let above : lowered < p.hop_limit = subst (λ (k : ℕ). lowered < k) (sym one.2) (omega arith) in
          let x = finish_one at.0 0 p h.start h.last at.1 one.1 one.0 positive ((at.2 p one.1 one.0 positive).0 above) in
          let w = x.0 in
          let low : w.found.most < p.hop_limit = x.3 in
          let less : w.found.most < lowered + 1 = subst (λ (k : ℕ). w.found.most < k) one.2 low in
          let two = last_packet_has net next s.0 intent.inner address (w.found.most + 1) s.1 (alone s.0 s.1) s.2 in
          let q = last_packet intent.inner address (w.found.most + 1) in
          let q_positive : 0 < q.hop_limit = subst (λ (k : ℕ). 0 < k) (sym two.2) (omega arith) in
          let q_few : w.found.most + 0 ≤ q.hop_limit - 1 = subst (λ (k : ℕ). w.found.most + 0 ≤ k - 1) (sym two.2) (omega arith) in
          let all = way_always position via next is_hand 0 address alike w q (hand_test net q next s.0 s.1 two.0) two.1 q_few in
          let mine : AlwaysExecutes net is_hand (drop position steps) next 0 q at.0
          = subst (λ (place : Place). AlwaysExecutes net is_hand (drop position steps) next 0 q place) x.1
          (subst (λ (left : ℕ). AlwaysExecutes net is_hand (drop position steps) next left q w.place) x.2 all) in
          let high : lowered < q.hop_limit = (at.2 q two.1 two.0 q_positive).1 mine in
          let more : lowered < w.found.most + 1 = subst (λ (k : ℕ). lowered < k) two.2 high in
          let most : w.found.most ≡ lowered = omega (arith, less, more) in
          finish_from net keeps intent steps are position via next w h.last x.2 ∙ ap Some most

      pub finish_exactly : (lowered : ℕ)
          → (finish_of net intent steps position via next ≡ Some lowered) ↔ IsFinish net intent steps address position via next lowered
      finish_exactly lowered = (finish_is lowered, is_finish lowered)
