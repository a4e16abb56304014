-- A packet has a way to an execution whatever is chosen exactly where the transit by look-ups alone has it.
use Rattle.std.proofs.Common.{◌≡◌, ℕ, ◌+◌, ◌-◌, ◌<◌, ◌≤◌, ◌⊎◌, inl, inr, Bool, true, false, List, [], ◌∷◌, length, Option, Some, None, IsTrue, slice_get, refl, sym, ◌∙◌, ap, subst, arith}
use Rattle.std.proofs.Math.Nat.{sub-zero}
use Rattle.std.specs.Prelude.{◌↔◌, is_some, nat_le, if◌then◌else◌}
use Rattle.std.specs.List.{list_all}
use Rattle.std.specs.Option.{option_map}
use Rattle.std.proofs.lemmas.Bool.Decides.{leb_tells}
use Rattle.srv6_rules.specs.declared.sid.SidEntry.{SidEntry}
use Rattle.srv6_rules.specs.declared.sid.Behaviour.{Behaviour}
use Rattle.srv6_rules.specs.declared.reason.Reason.TheVariants as reasons
use Rattle.srv6_rules.specs.Packet.{Packet, Content, V6}
use Rattle.srv6_rules.specs.Endpoint.{Endpoint, Onward, Exposed, Delivered, Refused, at_sid, at_address}
use Rattle.net_model.specs.Network.{Network}
use Rattle.net_model.specs.NetworkKeeps.{Keeps}
use Rattle.walk_rules.specs.declared.place.How.TheVariants.{Arrived}
use Rattle.walk_rules.specs.declared.place.Place.{Place}
use Rattle.walk_rules.specs.declared.place.Outcome.{Outcome}
use Rattle.walk_rules.specs.declared.place.Outcome.TheVariants as outcomes
use Rattle.walk_rules.specs.Way.{Way, NoWay, Over, Own, Into, way_of}
use Rattle.walk_rules.specs.WayTerms.{IsWayFrom}
use Rattle.walk_rules.specs.Treatment.{Gave, dropped, goes, member_of, lowered, sent, treated, treated_in, treated_at_sid, treated_at_address, allow_of, free_step_of as step_of}
use Rattle.walk_rules.specs.Relation.{IsHow}
use Rattle.walk_rules.specs.Walk as walks
use Rattle.walk_rules.specs.Walk.{next_place, arrival}
use Rattle.walk_rules.proofs.PublicLaws.{onward_each, sent_low, sent_high, way_from}
use Rattle.intent_reader.specs.IntentRules.{stand_after, first_end, ends_at}
use Rattle.intent_reader.specs.declared.intent.Step.{Step}
use Rattle.intent_reader.specs.declared.intent.Step.TheVariants.{Links, Function, Reach}
use Rattle.leg_table.specs.StepMatching.{has_link}
use Rattle.leg_table.specs.AllChoices.{Goes, Ends, AtPlace, seen_at, EveryWay}
use Rattle.leg_table.specs.Transits.{Transit, more_lowered, transit_on, transit_over, transit_by, transit_end, transit_of}
use Rattle.leg_table.specs.TransitsTerms.{with_hop_limit, TransitEnds}
use Rattle.leg_table.proofs.StrictLinks.{all_members, member_of_all, far_end_is, link_ends, first_end_is, step_opens}

abbrev IsNoSend : Outcome → Type 0
IsNoSend (outcomes.Send link) = ⊥
IsNoSend (outcomes.Again n how) = Unit {0}
IsNoSend (outcomes.Hand n how family) = Unit {0}
IsNoSend outcomes.Local = Unit {0}
IsNoSend (outcomes.Drop reason error) = Unit {0}

goes_ends : (o : Outcome) (t : Step) (R E : Type 0) → IsNoSend o → Goes o t R E ↔ Ends o E
goes_ends (outcomes.Send link) t R E h = absurd h
goes_ends (outcomes.Again n how) t R E h = (λ x. x, λ x. x)
goes_ends (outcomes.Hand n how family) t R E h = (λ x. x, λ x. x)
goes_ends outcomes.Local t R E h = (λ x. x, λ x. x)
goes_ends (outcomes.Drop reason error) t R E h = (λ x. x, λ x. x)

at_sid_no_send : (net : Network) (node n : ℕ) (b : Behaviour) (p : Packet) (e : Endpoint)
    → IsNoSend (treated_at_sid net node n b p e).outcome
at_sid_no_send net node n b p (Onward q) =
    onward_each net node n b p q (λ gave. IsNoSend gave.outcome) (λ plain. tt) (λ number named binds policy fits. tt) (λ reason. tt)
at_sid_no_send net node n b p (Exposed family bytes) = tt
at_sid_no_send net node n b p (Delivered q) = tt
at_sid_no_send net node n b p (Refused reason at) = tt

in_no_send : (net : Network) (node n : ℕ) (o : Option SidEntry) (p : Packet) → IsNoSend (treated_in net node n o p).outcome
in_no_send net node n None p = tt
in_no_send net node n (Some s) p = at_sid_no_send net node n s.behaviour p (at_sid s (allow_of (slice_get net.nodes node)) p)

-- at the node's own address and away from the network a packet goes no further
own_never : (net : Network) (node : ℕ) (p : Packet) (x : Endpoint) (t : Step) (R E : Type 0)
    → Goes (treated_at_address net node p x).outcome t R E → ⊥
own_never net node p (Onward q) t R E h = h
own_never net node p (Exposed family bytes) t R E h = h
own_never net node p (Delivered q) t R E h = h
own_never net node p (Refused reason at) t R E h = h

own_ends : (net : Network) (node : ℕ) (p : Packet) (x : Endpoint) (E : Type 0) → Ends (treated_at_address net node p x).outcome E → ⊥
own_ends net node p (Onward q) E h = h
own_ends net node p (Exposed family bytes) E h = h
own_ends net node p (Delivered q) E h = h
own_ends net node p (Refused reason at) E h = h

-- over links where the hop limit is lowered: a drop at a low hop limit, else a send
abbrev IsLow : Network → ℕ → List ℕ → Packet → ℕ → Type 0
IsLow net node set p choice = (p.hop_limit ≤ 1) × (sent net node set true p choice ≡ dropped net node reasons.HopLimit 0 (V6 p))

abbrev IsHigh : Network → ℕ → List ℕ → Packet → ℕ → Type 0
IsHigh net node set p choice =
    (1 < p.hop_limit) × (sent net node set true p choice ≡ goes (outcomes.Send (member_of set choice)) (V6 (lowered true p)))

by_limit : (net : Network) (node : ℕ) (set : List ℕ) (p : Packet) (choice : ℕ)
    → IsLow net node set p choice ⊎ IsHigh net node set p choice
by_limit net node set p choice = by_test (leb_tells p.hop_limit 1)
  where
    by_test : ((nat_le p.hop_limit 1 ≡ true) × (p.hop_limit ≤ 1)) ⊎ ((nat_le p.hop_limit 1 ≡ false) × (1 < p.hop_limit))
        → IsLow net node set p choice ⊎ IsHigh net node set p choice
    by_test (inl low) = inl (low.1, sent_low net node set p choice low.1)
    by_test (inr high) = inr (high.1, sent_high net node set p choice high.1)

-- what no send and no drop has, nothing that is given over links has
sent_never : (P : Gave → Type 0) (net : Network) (node : ℕ) (set : List ℕ) (lower : Bool) (p : Packet)
    → ((link : ℕ) (after : Content) → P (goes (outcomes.Send link) after) → ⊥)
    → (P (dropped net node reasons.HopLimit 0 (V6 p)) → ⊥) → P (sent net node set lower p 0) → ⊥
sent_never P net node set false p sends drops h = sends (member_of set 0) (V6 p) h
sent_never P net node set true p sends drops h = by (by_limit net node set p 0)
  where
    by : IsLow net node set p 0 ⊎ IsHigh net node set p 0 → ⊥
    by (inl low) = drops (subst P low.1 h)
    by (inr high) = sends (member_of set 0) (V6 (lowered true p)) (subst P high.1 h)

-- with no step left, a packet is sent nowhere
over_ends : (net : Network) (node : ℕ) (set : List ℕ) (lower : Bool) (p : Packet) (E : Gave → Type 0)
    → Ends (sent net node set lower p 0).outcome (E (sent net node set lower p 0)) → ⊥
over_ends net node set lower p E =
    sent_never (λ (g : Gave). Ends g.outcome (E g)) net node set lower p (λ link after h. h) (λ h. h)

-- a function is no link
function_never : (net : Network) (node : ℕ) (set : List ℕ) (lower : Bool) (p : Packet) (sid : ℕ) (R E : Gave → Type 0)
    → let gave = sent net node set lower p 0 in Goes gave.outcome (Function sid) (R gave) (E gave) → ⊥
function_never net node set lower p sid R E =
    sent_never (λ (g : Gave). Goes g.outcome (Function sid) (R g) (E g)) net node set lower p (λ link after h. h) (λ h. h)

-- and a loose step has none
reach_never : (net : Network) (node : ℕ) (set : List ℕ) (lower : Bool) (p : Packet) (reached : ℕ) (R E : Gave → Type 0)
    → let gave = sent net node set lower p 0 in Goes gave.outcome (Reach reached) (R gave) (E gave) → ⊥
reach_never net node set lower p reached R E =
    sent_never (λ (g : Gave). Goes g.outcome (Reach reached) (R g) (E g)) net node set lower p (λ link after h. h) (λ h. h)

pub same_packet : (p : Packet) → with_hop_limit (p.hop_limit - 0) p ≡ p
same_packet p = ap (λ (h : ℕ). with_hop_limit h p) (sub-zero p.hop_limit)

abbrev pub arrived : ℕ → Place → Place
arrived to place = record { node = to; how = Arrived 0; family = place.family }

module _ (net : Network) (end : List Step → walks.Stage → Bool) where
  -- the stage that ends a transit, as a fact about the packet there
  abbrev EndsAt : Place → List Step → Packet → Type 0
  EndsAt place left q =
      let gave = step_of net place (V6 q) 0 in Ends gave.outcome (IsTrue (end left (seen_at place (V6 q) gave)))

  -- a packet that comes into a SID has ended its transit there
  into : (place : Place) (left : List Step) (p : Packet) (n : ℕ) → way_of net place p.destination ≡ Into n → 0 < p.hop_limit
      → (let gave = treated net place.node (Into n) p 0 in Ends gave.outcome (IsTrue (end left (seen_at place (V6 p) gave))))
      ↔ TransitEnds net end p (Some (record { sid = n; place = place; left = left; lowered = 0 }))
  into place left p n e some =
      let Q : Way → Type 0
      = λ w. let gave = treated net place.node w p 0 in Ends gave.outcome (IsTrue (end left (seen_at place (V6 p) gave))) in (
        λ h. (some, subst (EndsAt place left) (sym (same_packet p)) (subst Q (sym e) h)),
        λ h. subst Q e (subst (EndsAt place left) (same_packet p) h.1),
      )

  -- the transit goes on from the end of a link, lowered or not
  stays : (p : Packet) (r : Option Transit) → TransitEnds net end (lowered false p) r ↔ TransitEnds net end p (option_map (more_lowered false) r)
  stays p None = (λ h. h, λ h. h)
  stays p (Some r) =
      let e : 0 + r.lowered ≡ r.lowered = omega arith in
      let P : ℕ → Type 0 = λ k. (k < p.hop_limit) × EndsAt r.place r.left (with_hop_limit (p.hop_limit - k) p) in
      (λ h. subst P (sym e) h, λ h. subst P e h)

  falls : (p : Packet) (r : Option Transit) → 1 < p.hop_limit
      → TransitEnds net end (lowered true p) r ↔ TransitEnds net end p (option_map (more_lowered true) r)
  falls p None high = (λ h. h, λ h. h)
  falls p (Some r) high =
      let e : p.hop_limit - 1 - r.lowered ≡ p.hop_limit - (1 + r.lowered) = omega arith in
      let P : ℕ → Type 0 = λ k. EndsAt r.place r.left (with_hop_limit k p) in
      (λ h. (omega (arith, h.0), subst P e h.1), λ h. (omega (arith, h.0), subst P (sym e) h.1))

  falls_high : (p : Packet) (r : Option Transit) → TransitEnds net end p (option_map (more_lowered true) r) → 1 < p.hop_limit
  falls_high p None h = absurd h
  falls_high p (Some r) h = omega (arith, h.0)

  module _ (place : Place) (step : List ℕ) (ts : List Step) (set : List ℕ) (to : ℕ)
      (ends : list_all (ends_at net to) step ≡ true) (some : 0 < length set) where
    -- what is sent on any member lies in the step, and comes to where all its links end
    abbrev Sends : Packet → Type 0
    Sends q = (choice : ℕ) → IsTrue (has_link step (member_of set choice))
        × AtPlace (next_place net place (outcomes.Send (member_of set choice))) (λ next. EveryWay net end ts next (V6 q))

    comes : (link : ℕ) → has_link step link ≡ true → next_place net place (outcomes.Send link) ≡ Some (arrived to place)
    comes link here = ap (λ (o : Option ℕ). arrival o place) (far_end_is (slice_get net.links link) ∙ link_ends net to step link ends here)

    sends_transits : (q : Packet) → Sends q → (list_all (has_link step) set ≡ true) × EveryWay net end ts (arrived to place) (V6 q)
    sends_transits q h =
        let all : list_all (has_link step) set ≡ true = all_members (has_link step) set (λ choice. (h choice).0) in
        (all, subst (λ (o : Option Place). AtPlace o (λ next. EveryWay net end ts next (V6 q))) (comes (member_of set 0) (h 0).0) (h 0).1)

    transits_sends : (q : Packet) → list_all (has_link step) set ≡ true → EveryWay net end ts (arrived to place) (V6 q) → Sends q
    transits_sends q all every =
        λ choice. let here = member_of_all (has_link step) set some all choice in (
          here,
          subst (λ (o : Option Place). AtPlace o (λ next. EveryWay net end ts next (V6 q))) (sym (comes (member_of set choice) here))
              every,
        )

    over_is : (lower : Bool) (transit : Place → Option Transit) → list_all (has_link step) set ≡ true
        → transit_over net place (Links step) set lower transit ≡ option_map (more_lowered lower) (transit (arrived to place))
    over_is lower transit all = rw (all, first_end_is net to step set ends all some) refl

    over_all : (lower : Bool) (transit : Place → Option Transit) (p : Packet)
        → TransitEnds net end p (transit_over net place (Links step) set lower transit)
        → list_all (has_link step) set ≡ true
    over_all lower transit p h = by_test (list_all (has_link step) set) refl h
      where
        by_test : (t : Bool) → list_all (has_link step) set ≡ t
            → TransitEnds net end p (if t then option_map (more_lowered lower) (transit_on (arrival (first_end net set) place) transit) else None)
            → list_all (has_link step) set ≡ true
        by_test true e h = e
        by_test false e h = absurd h

    abbrev Over_every : Bool → Packet → Type 0
    Over_every lower p = (choice : ℕ) → let gave = sent net place.node set lower p choice in
        Goes gave.outcome (Links step) (AtPlace (next_place net place gave.outcome) (λ next. EveryWay net end ts next gave.after))
        (IsTrue (end (Links step ∷ ts) (seen_at place (V6 p) gave)))

    module _ (ih : (q : Packet) → 0 < q.hop_limit
        → EveryWay net end ts (arrived to place) (V6 q) ↔ TransitEnds net end q (transit_of net q.destination ts (arrived to place))) where
      over_false : (p : Packet) → 0 < p.hop_limit
          → Over_every false p ↔ TransitEnds net end p (transit_over net place (Links step) set false (transit_of net p.destination ts))
      over_false p positive = (
        λ h. let got = sends_transits p h in
            subst (TransitEnds net end p) (sym (over_is false (transit_of net p.destination ts) got.0)) ((stays p _).0 ((ih p positive).0 got.1)),
        λ h. let all = over_all false (transit_of net p.destination ts) p h in
            transits_sends p all ((ih p positive).1
            ((stays p _).1 (subst (TransitEnds net end p) (over_is false (transit_of net p.destination ts) all) h))),
      )

      abbrev Goes_as : Packet → Gave → Type 0
      Goes_as p gave =
          Goes gave.outcome (Links step) (AtPlace (next_place net place gave.outcome) (λ next. EveryWay net end ts next gave.after))
          (IsTrue (end (Links step ∷ ts) (seen_at place (V6 p) gave)))

      over_true : (p : Packet)
          → Over_every true p ↔ TransitEnds net end p (transit_over net place (Links step) set true (transit_of net p.destination ts))
      over_true p = (λ h. to_transit h (by_limit net place.node set p 0), λ h. from_transit h)
        where
          high_sends : 1 < p.hop_limit → Over_every true p → Sends (lowered true p)
          high_sends high h = λ choice. subst (Goes_as p) (sent_high net place.node set p choice high) (h choice)

          to_transit : Over_every true p
              → IsLow net place.node set p 0 ⊎ IsHigh net place.node set p 0
              → TransitEnds net end p (transit_over net place (Links step) set true (transit_of net p.destination ts))
          to_transit h (inl low) = absurd (subst (Goes_as p) low.1 (h 0))
          to_transit h (inr high) =
              let got = sends_transits (lowered true p) (high_sends high.0 h) in
              subst (TransitEnds net end p) (sym (over_is true (transit_of net p.destination ts) got.0))
              ((falls p _ high.0).0 ((ih (lowered true p) (omega (arith, high.0))).0 got.1))

          from_transit : TransitEnds net end p (transit_over net place (Links step) set true (transit_of net p.destination ts)) → Over_every true p
          from_transit h =
              let all = over_all true (transit_of net p.destination ts) p h in
              let r = subst (TransitEnds net end p) (over_is true (transit_of net p.destination ts) all) h in
              let high : 1 < p.hop_limit = falls_high p _ r in
              let sends = transits_sends (lowered true p) all ((ih (lowered true p) (omega (arith, high))).1 ((falls p _ high).1 r)) in
              λ choice. subst (Goes_as p) (sym (sent_high net place.node set p choice high)) (sends choice)

  by_way : (place : Place) (p : Packet) (t : Step) (ts : List Step) (w : Way) → way_of net place p.destination ≡ w
      → IsWayFrom net place.node w
      → is_some (stand_after net place.node (t ∷ ts)) ≡ true → 0 < p.hop_limit
      → ((to : ℕ) (q : Packet) → is_some (stand_after net to ts) ≡ true → 0 < q.hop_limit
      → EveryWay net end ts (arrived to place) (V6 q) ↔ TransitEnds net end q (transit_of net q.destination ts (arrived to place)))
      → ((choice : ℕ) → let gave = treated net place.node w p choice in
      Goes gave.outcome t (AtPlace (next_place net place gave.outcome) (λ next. EveryWay net end ts next gave.after))
      (IsTrue (end (t ∷ ts) (seen_at place (V6 p) gave))))
      ↔ TransitEnds net end p (transit_by net place (t ∷ ts) t (transit_of net p.destination ts) w)
  by_way place p t ts (NoWay reason) e links stands positive ih = (λ h. h 0, λ h. absurd h)
  by_way place p t ts Own e links stands positive ih = (λ h. own_never net place.node p (at_address p) t _ _ (h 0), λ h. absurd h)
  by_way place p t ts (Into n) e links stands positive ih =
      let quiet = in_no_send net place.node n (slice_get net.sids n) p in (
        λ h. (into place (t ∷ ts) p n e positive).0 ((goes_ends _ t _ _ quiet).0 (h 0)),
        λ h choice. (goes_ends _ t _ _ quiet).1 ((into place (t ∷ ts) p n e positive).1 h),
      )
  by_way place p (Function sid) ts (Over set lower) e links stands positive ih = (
    λ h. function_never net place.node set lower p sid
        (λ gave. AtPlace (next_place net place gave.outcome) (λ next. EveryWay net end ts next gave.after))
        (λ gave. IsTrue (end (Function sid ∷ ts) (seen_at place (V6 p) gave))) (h 0),
    λ h. absurd h,
  )
  by_way place p (Reach reached) ts (Over set lower) e links stands positive ih = (
    λ h. reach_never net place.node set lower p reached
        (λ gave. AtPlace (next_place net place gave.outcome) (λ next. EveryWay net end ts next gave.after))
        (λ gave. IsTrue (end (Reach reached ∷ ts) (seen_at place (V6 p) gave))) (h 0),
    λ h. absurd h,
  )
  by_way place p (Links step) ts (Over set false) e links stands positive ih =
      let opened = step_opens net place.node step ts stands in
      over_false place step ts set opened.0 opened.1 links.some (λ q high. ih opened.0 q opened.2 high) p positive
  by_way place p (Links step) ts (Over set true) e links stands positive ih =
      let opened = step_opens net place.node step ts stands in
      over_true place step ts set opened.0 opened.1 links.some (λ q high. ih opened.0 q opened.2 high) p

  by_end : (place : Place) (p : Packet) (w : Way) → way_of net place p.destination ≡ w → 0 < p.hop_limit
      → ((choice : ℕ) → let gave = treated net place.node w p choice in Ends gave.outcome (IsTrue (end [] (seen_at place (V6 p) gave))))
      ↔ TransitEnds net end p (transit_end place w)
  by_end place p (NoWay reason) e positive = (λ h. h 0, λ h. absurd h)
  by_end place p Own e positive = (λ h. own_ends net place.node p (at_address p) _ (h 0), λ h. absurd h)
  by_end place p (Into n) e positive = (λ h. (into place [] p n e positive).0 (h 0), λ h choice. (into place [] p n e positive).1 h)
  by_end place p (Over set lower) e positive =
      (λ h. over_ends net place.node set lower p (λ gave. IsTrue (end [] (seen_at place (V6 p) gave))) (h 0), λ h. absurd h)

  pub every_transit : Keeps net → (ts : List Step) (place : Place) (p : Packet) → IsHow net place.node place.how
      → is_some (stand_after net place.node ts) ≡ true → 0 < p.hop_limit
      → EveryWay net end ts place (V6 p) ↔ TransitEnds net end p (transit_of net p.destination ts place)
  every_transit keeps [] place p how stands positive = by_end place p (way_of net place p.destination) refl positive
  every_transit keeps (t ∷ ts) place p how stands positive =
      by_way place p t ts (way_of net place p.destination) refl (way_from net place p.destination keeps how) stands positive
      (λ to q stands positive. every_transit keeps ts (arrived to place) q tt stands positive)
