-- A walk up to its first stage that sends nothing: the links that it crosses, and what it hands over from there.
use Rattle.std.proofs.Common.{◌≡◌, ℕ, zero, suc, ◌+◌, ◌-◌, ◌<◌, ◌≤◌, ◌⊎◌, inl, inr, Bool, true, false, nat_le, List, [], ◌∷◌, map, length, Option, Some, None, slice_get, refl, sym, ◌∙◌, ap, subst, arith}
use Rattle.std.specs.Option.{option_map, option_and_then}
use Rattle.std.proofs.lemmas.Bool.Decides.{leb_tells}
use Rattle.srv6_rules.specs.declared.reason.Reason.TheVariants as reasons
use Rattle.srv6_rules.specs.Endpoint.{at_address}
use Rattle.srv6_rules.specs.Packet.{Packet, Content, V6}
use Rattle.net_model.specs.Network.{Network}
use Rattle.walk_rules.specs.declared.place.How.TheVariants.{Arrived}
use Rattle.walk_rules.specs.declared.place.Place.{Place}
use Rattle.walk_rules.specs.declared.place.Outcome.{Outcome}
use Rattle.walk_rules.specs.declared.place.Outcome.TheVariants as outcomes
use Rattle.walk_rules.specs.Treatment.{Gave, goes, dropped, member_of, treated, free_step_of as step_of}
use Rattle.walk_rules.specs.Walk.{walk_by, free_walk_of as walk_of, arrival, next_place, decisions}
use Rattle.walk_rules.specs.Way.{Way, NoWay, Over, Own, Into, way_of}
use Rattle.walk_rules.proofs.PublicLaws.{address_quiet, sid_quiet, sent_low, sent_high}
use Rattle.intent_traces.specs.declared.trace_steps.TraceStep.{TraceStep}
use Rattle.intent_traces.specs.Traces as traces
use Rattle.intent_traces.specs.Traces.{left_behind, left_by}
use Rattle.choice_graph.proofs.GraphOptions.{some_same, then_some}
use Rattle.loose_walks.specs.WalkStops.{ends_in}
use Rattle.loose_walks.specs.WalkStopsTerms.{Stop, first_stop, stop_by, SendsNothing}
use Rattle.leg_table.specs.Transits.{one_if}
use Rattle.leg_table.specs.TransitsTerms.{with_hop_limit}
use Rattle.leg_table.specs.WalkTrace.{Crossed, after_events}
use Rattle.leg_table.proofs.StrictHanding.{after_after, after_none}
use Rattle.loose_meaning_theory.specs.LooseKind.{behind_event, hand_of}
use Rattle.loose_meaning_theory.proofs.LooseKindStages.{hand_stage}

-- a stage that sends goes over a member of a set, lowers the hop limit or leaves it, and leaves all else
pub record IsSent (net : Network) (place : Place) (p : Packet) (choice link : ℕ) : Type 0 where
  pub set : List ℕ
  pub lower : Bool
  pub way : way_of net place p.destination ≡ Over set lower
  pub member : member_of set choice ≡ link
  pub hop : ℕ
  pub lowers : hop + one_if lower ≡ p.hop_limit
  pub low : hop ≤ p.hop_limit
  pub gives : step_of net place (V6 p) choice ≡ goes (outcomes.Send link) (V6 (with_hop_limit hop p))

pub sends_on : (net : Network) (place : Place) (p : Packet) (choice link : ℕ)
    → (step_of net place (V6 p) choice).outcome ≡ outcomes.Send link → IsSent net place p choice link
sends_on net place p choice link e = by_way (way_of net place p.destination) refl e
  where
    same_link : (a b : ℕ) → outcomes.Send a ≡ outcomes.Send b → a ≡ b
    same_link a b e = cc

    sent : (hop : ℕ) (set : List ℕ) (lower : Bool) → hop + one_if lower ≡ p.hop_limit → way_of net place p.destination ≡ Over set lower
        → member_of set choice ≡ link
        → treated net place.node (Over set lower) p choice ≡ goes (outcomes.Send (member_of set choice)) (V6 (with_hop_limit hop p))
        → IsSent net place p choice link
    sent hop set lower lowers is same gives =
        record {
          set = set;
          lower = lower;
          way = is;
          member = same;
          hop = hop;
          lowers = lowers;
          low = omega (arith, lowers);
          gives =
              ap (λ (v : Way). treated net place.node v p choice) is ∙ gives
              ∙ ap (λ (k : ℕ). goes (outcomes.Send k) (V6 (with_hop_limit hop p))) same;
        }

    no_drop : (g : Gave) (error : Option Packet) → g ≡ dropped net place.node reasons.HopLimit 0 (V6 p) → g.outcome ≡ outcomes.Send link → ⊥
    no_drop g error is e = let both = sym (ap (λ (h : Gave). h.outcome) is) ∙ e in cc

    by_way : (w : Way) → way_of net place p.destination ≡ w → (treated net place.node w p choice).outcome ≡ outcomes.Send link
        → IsSent net place p choice link
    by_way (NoWay reason) is e = absurd (cc)
    by_way Own is e = absurd (address_quiet net place.node p (at_address p) link (sym e))
    by_way (Into n) is e = absurd (sid_quiet net place.node n (slice_get net.sids n) p link (sym e))
    by_way (Over set false) is e =
        sent p.hop_limit set false (omega arith) is (same_link (member_of set choice) link e) refl
    by_way (Over set true) is e = by_limit (leb_tells p.hop_limit 1)
      where
        by_limit : ((nat_le p.hop_limit 1 ≡ true) × (p.hop_limit ≤ 1)) ⊎ ((nat_le p.hop_limit 1 ≡ false) × (1 < p.hop_limit))
            → IsSent net place p choice link
        by_limit (inl low) =
            absurd (no_drop (treated net place.node (Over set true) p choice) None (sent_low net place.node set p choice low.1) e)
        by_limit (inr high) =
            let gives = sent_high net place.node set p choice high.1 in
            let above = high.1 in
            sent (p.hop_limit - 1) set true (omega (arith, above)) is
            (same_link (member_of set choice) link (sym (ap (λ (h : Gave). h.outcome) gives) ∙ e)) gives

-- ---- walks up to a stop

-- rows that give the same choices, so many of them, from one decision on and from another
abbrev pub SameRows : ℕ → (ℕ → ℕ) → ℕ → (ℕ → ℕ) → ℕ → Type 0
SameRows count pick taken other uaken = (d : ℕ) → d < count → other (uaken + d) ≡ pick (taken + d)

-- the stages of a walk up to a stop, one for each link
abbrev pub Trail : Network → List ℕ → List TraceStep → Place → Packet → (ℕ → ℕ) → ℕ → Stop → Type 0
Trail net [] ts place p pick taken stop =
    (stop.stage.place ≡ place) × (stop.stage.before ≡ V6 p) × (stop.stage.gave ≡ step_of net place (V6 p) (pick taken))
    × SendsNothing stop.stage.gave.outcome
Trail net (link ∷ links) ts place p pick taken stop =
    (s : IsSent net place p (pick taken) link) × (us : List TraceStep) × (next : Place)
    × (left_behind (ends_in net) ts (traces.Crossed link) ≡ Some us) × (arrival (ends_in net link) place ≡ Some next)
    × Trail net links us next (with_hop_limit s.hop p) pick (taken + 1) stop

-- the links up to a stop, what stands there, and that any row with the same choices up to there hands over what is handed over from there
pub record StopWalk (net : Network) (ts : List TraceStep) (place : Place) (p : Packet) (pick : ℕ → ℕ) (taken : ℕ) (stop : Stop) : Type 0 where
  pub links : List ℕ
  pub hop : ℕ
  pub low : hop ≤ p.hop_limit
  pub left : left_by (ends_in net) ts (map traces.Crossed links) ≡ Some stop.left
  pub family : stop.stage.place.family ≡ place.family
  pub before : stop.stage.before ≡ V6 (with_hop_limit hop p)
  pub gave : stop.stage.gave ≡ step_of net stop.stage.place (V6 (with_hop_limit hop p)) (pick (taken + length links))
  pub nothing : SendsNothing stop.stage.gave.outcome
  pub trail : Trail net links ts place p pick taken stop
  pub walk : (other : ℕ → ℕ) (uaken : ℕ) → SameRows (length links) pick taken other uaken → (fuel : ℕ)
      → hand_of net (walk_of (length links + fuel) net (Some place) (V6 p) other uaken)
      ≡ option_map (after_events (map Crossed links))
      (hand_of net (walk_of fuel net (Some stop.stage.place) (V6 (with_hop_limit hop p)) other (uaken + length links)))

module _ (net : Network) where
  nowhere : (fuel : ℕ) (content : Content) (pick : ℕ → ℕ) (taken : ℕ) → walk_of fuel net None content pick taken ≡ []
  unfolding walk_by
  nowhere zero content pick taken = refl
  nowhere (suc fuel) content pick taken = refl

  -- a first stage that sends nothing is the stop
  stops_here : (ts : List TraceStep) (place : Place) (p : Packet) (pick : ℕ → ℕ) (taken : ℕ)
      → SendsNothing (step_of net place (V6 p) (pick taken)).outcome
      → StopWalk net ts place p pick taken
      (record { stage = record { place = place; before = V6 p; gave = step_of net place (V6 p) (pick taken) }; left = ts })
  stops_here ts place p pick taken nothing =
      let same : taken + 0 ≡ taken = omega arith in
      record {
        links = [];
        hop = p.hop_limit;
        low = omega arith;
        left = refl;
        family = refl;
        before = refl;
        gave = ap (λ (d : ℕ). step_of net place (V6 p) (pick d)) (sym same);
        nothing = nothing;
        trail = (refl, refl, refl, nothing);
        walk = λ other uaken rows fuel.
            let few : 0 + fuel ≡ fuel = omega arith in
            let at : uaken + 0 ≡ uaken = omega arith in
            ap (λ (n : ℕ). hand_of net (walk_of n net (Some place) (V6 p) other uaken)) few
            ∙ ap (λ (d : ℕ). hand_of net (walk_of fuel net (Some place) (V6 p) other d)) (sym at)
            ∙ sym (after_none (hand_of net (walk_of fuel net (Some place) (V6 p) other (uaken + 0))));
      }

  -- and one that sends has the stop behind its link
  stops_later : (ts us : List TraceStep) (place next : Place) (p : Packet) (pick : ℕ → ℕ) (taken link : ℕ) (stop : Stop)
      → (s : IsSent net place p (pick taken) link) → left_behind (ends_in net) ts (traces.Crossed link) ≡ Some us
      → arrival (ends_in net link) place ≡ Some next → next.family ≡ place.family
      → StopWalk net us next (with_hop_limit s.hop p) pick (taken + 1) stop → StopWalk net ts place p pick taken stop
  stops_later ts us place next p pick taken link stop s left leads family w =
      record {
        links = link ∷ w.links;
        hop = w.hop;
        low = let low = w.low in let less = s.low in omega (arith, low, less);
        left = ap (option_and_then (λ vs. left_by (ends_in net) vs (map traces.Crossed w.links))) left ∙ w.left;
        family = w.family ∙ family;
        before = w.before;
        gave =
            let same : taken + 1 + length w.links ≡ taken + suc (length w.links) = omega arith in
            w.gave ∙ ap (λ (d : ℕ). step_of net stop.stage.place (V6 (with_hop_limit w.hop p)) (pick d)) same;
        nothing = w.nothing;
        trail = (s, us, next, left, leads, w.trail);
        walk = λ other uaken rows fuel. at other uaken rows fuel;
      }
    where
      at : (other : ℕ → ℕ) (uaken : ℕ) → SameRows (suc (length w.links)) pick taken other uaken → (fuel : ℕ)
          → hand_of net (walk_of (suc (length w.links) + fuel) net (Some place) (V6 p) other uaken)
          ≡ option_map (after_events (Crossed link ∷ map Crossed w.links))
          (hand_of net (walk_of fuel net (Some stop.stage.place) (V6 (with_hop_limit w.hop p)) other (uaken + suc (length w.links))))
      at other uaken rows fuel =
          let n = length w.links in
          let q = with_hop_limit s.hop p in
          let more : suc n + fuel ≡ suc (n + fuel) = omega arith in
          let u : uaken + 0 ≡ uaken = omega arith in
          let t : taken + 0 ≡ taken = omega arith in
          let first : other uaken ≡ pick taken = ap other (sym u) ∙ rows 0 (omega arith) ∙ ap pick t in
          let count : uaken + 1 + n ≡ uaken + suc n = omega arith in
          ap (λ (m : ℕ). hand_of net (walk_of m net (Some place) (V6 p) other uaken)) more
          ∙ hand_stage net (n + fuel) place (V6 p) other uaken (goes (outcomes.Send link) (V6 q))
          (ap (step_of net place (V6 p)) first ∙ s.gives)
          ∙ ap (λ (o : Option Place). option_map (behind_event (Crossed link))
          (hand_of net (walk_of (n + fuel) net o (V6 q) other (uaken + 1)))) leads
          ∙ ap (option_map (after_events (Crossed link ∷ [])))
          (w.walk other (uaken + 1) (λ d few. later d few) fuel)
          ∙ after_after (Crossed link ∷ []) (map Crossed w.links) _
          ∙ ap (λ (d : ℕ). option_map (after_events (Crossed link ∷ map Crossed w.links))
          (hand_of net (walk_of fuel net (Some stop.stage.place) (V6 (with_hop_limit w.hop p)) other d)))
          count
        where
          later : (d : ℕ) → d < length w.links → other (uaken + 1 + d) ≡ pick (taken + 1 + d)
          later d few =
              let a : uaken + 1 + d ≡ uaken + suc d = omega arith in
              let b : taken + suc d ≡ taken + 1 + d = omega arith in
              ap other a ∙ rows (suc d) (omega arith) ∙ ap pick b

  -- what follows of stages behind the first
  abbrev Walks : ℕ → Type 0
  Walks fuel = (ts : List TraceStep) (place : Place) (p : Packet) (pick : ℕ → ℕ) (taken : ℕ) (stop : Stop)
      → first_stop (ends_in net) ts (walk_of fuel net (Some place) (V6 p) pick taken) ≡ Some stop → StopWalk net ts place p pick taken stop

  abbrev rest_of : ℕ → Place → (ℕ → ℕ) → ℕ → Gave → List TraceStep → Option Stop
  rest_of more place pick taken gave us =
      first_stop (ends_in net) us (walk_of more net (next_place net place gave.outcome) gave.after pick (taken + decisions gave.outcome))

  module _ (more : ℕ) (ih : Walks more) (ts : List TraceStep) (place : Place) (p : Packet) (pick : ℕ → ℕ) (taken : ℕ) (stop : Stop) where
    abbrev given : Gave
    given = step_of net place (V6 p) (pick taken)

    quiet_walk : SendsNothing given.outcome
        → Some (record { stage = record { place = place; before = V6 p; gave = given }; left = ts }) ≡ Some stop
        → StopWalk net ts place p pick taken stop
    quiet_walk nothing h =
        let own : Stop = record { stage = record { place = place; before = V6 p; gave = given }; left = ts } in
        subst (StopWalk net ts place p pick taken) (some_same own stop h) (stops_here ts place p pick taken nothing)

    sent_walk : (link : ℕ) → given.outcome ≡ outcomes.Send link
        → option_and_then (rest_of more place pick taken given) (left_behind (ends_in net) ts (traces.Crossed link)) ≡ Some stop
        → StopWalk net ts place p pick taken stop
    sent_walk link e h =
        let s = sends_on net place p (pick taken) link e in
        let t = then_some (rest_of more place pick taken given) (left_behind (ends_in net) ts (traces.Crossed link)) stop h in
        let rest : rest_of more place pick taken (goes (outcomes.Send link) (V6 (with_hop_limit s.hop p))) t.0 ≡ Some stop
        = ap (λ (g : Gave). rest_of more place pick taken g t.0) (sym s.gives) ∙ t.2 in
        by_end s t.0 t.1 (ends_in net link) refl rest
      where
        none_stop : None ≡ Some stop → ⊥
        none_stop e = cc

        by_end : (s : IsSent net place p (pick taken) link) (us : List TraceStep) → left_behind (ends_in net) ts (traces.Crossed link) ≡ Some us
            → (o : Option ℕ) → ends_in net link ≡ o
            → first_stop (ends_in net) us (walk_of more net (arrival o place) (V6 (with_hop_limit s.hop p)) pick (taken + 1)) ≡ Some stop
            → StopWalk net ts place p pick taken stop
        by_end s us left None e h =
            absurd (none_stop (sym (ap (first_stop (ends_in net) us) (nowhere more (V6 (with_hop_limit s.hop p)) pick (taken + 1))) ∙ h))
        by_end s us left (Some node) e h =
            let next : Place = record { node = node; how = Arrived 0; family = place.family } in
            stops_later ts us place next p pick taken link stop s left (ap (λ (o : Option ℕ). arrival o place) e) refl
            (ih us next (with_hop_limit s.hop p) pick (taken + 1) stop h)

    by_outcome : (o : Outcome) → given.outcome ≡ o
        → stop_by (ends_in net) (rest_of more place pick taken given) ts (record { place = place; before = V6 p; gave = given }) o
        ≡ Some stop
        → StopWalk net ts place p pick taken stop
    by_outcome (outcomes.Send link) e h = sent_walk link e h
    by_outcome (outcomes.Again n how) e h = quiet_walk (subst SendsNothing (sym e) tt) h
    by_outcome (outcomes.Hand n how family) e h = quiet_walk (subst SendsNothing (sym e) tt) h
    by_outcome outcomes.Local e h = quiet_walk (subst SendsNothing (sym e) tt) h
    by_outcome (outcomes.Drop reason error) e h = quiet_walk (subst SendsNothing (sym e) tt) h

  -- a walk that stops, taken apart
  pub stop_walk : (fuel : ℕ) → Walks fuel
  unfolding walk_by
  stop_walk zero ts place p pick taken stop h = absurd (cc)
  stop_walk (suc more) ts place p pick taken stop h =
      by_outcome more (stop_walk more) ts place p pick taken stop (step_of net place (V6 p) (pick taken)).outcome refl h
