-- Finishes through binding SIDs at a SID that isn't a list's last.
use Rattle.std.proofs.Common.{◌≡◌, ℕ, ◌+◌, ◌-◌, ◌<◌, inl, inr, Bool, true, false, true≢false, not, ◌&&◌, List, [], ◌∷◌, drop, Option, Some, None, slice_get, refl, sym, ap, ◌∙◌, subst, arith}
use Rattle.std.specs.Option.{option_map}
use Rattle.std.specs.Prelude.{nat_le, if◌then◌else◌}
use Rattle.std.proofs.lemmas.Bool.{cases_Bool, cases_lt, and_parts}
use Rattle.std.proofs.lemmas.List.Elements.{All-cons, All-nil}
use Rattle.std.proofs.lemmas.Option.{same_Some}
use Rattle.srv6_rules.specs.declared.family.Family.{Family}
use Rattle.srv6_rules.specs.declared.reason.Reason.{Reason}
use Rattle.srv6_rules.specs.declared.sid.Csid.{Csid}
use Rattle.srv6_rules.specs.declared.sid.Csid.TheVariants as csids
use Rattle.srv6_rules.specs.declared.sid.SidEntry.{SidEntry}
use Rattle.srv6_rules.specs.Behaviours.{exposes, goes_on, is_plain}
use Rattle.srv6_rules.specs.Endpoint.{Delivered, Endpoint, Exposed, Onward, Refused}
use Rattle.srv6_rules.specs.Policies.{inner_kind}
use Rattle.srv6_rules.specs.Packet.{Packet, Content, V6, read_as}
use Rattle.net_model.specs.Network.{Network}
use Rattle.net_model.specs.NetworkKeeps.{Keeps}
use Rattle.walk_rules.specs.declared.place.Outcome.{Outcome}
use Rattle.walk_rules.specs.declared.place.Outcome.TheVariants as outcomes
use Rattle.walk_rules.specs.declared.place.Place.{Place}
use Rattle.walk_rules.specs.Treatment.{allow_of, exposed_from}
use Rattle.intent_reader.specs.IntentRulesTerms.{IsIntent}
use Rattle.intent_reader.specs.declared.intent.Intent.{Intent}
use Rattle.sid_list_theory.specs.ListPlaces as lists
use Rattle.sid_list_theory.specs.ListPlaces.{Along, StandsOn, Tunnel, active, behind_of, may_lack, next_of}
use Rattle.sid_list_theory.proofs.PublicLaws.{along_exposed_plain, along_exposes, along_onward, along_packed, along_tired, last_replace}
use Rattle.leg_table.proofs.FlatNets.{FlatFacts}
use Rattle.leg_table.proofs.PublicLaws.{last_sid}
use Rattle.leg_table.proofs.StrictHanding.{Free, above_free}
use Rattle.leg_table.proofs.StrictOptions.{kept_from, map_some}
use Rattle.leg_table.specs.OneLegLaws.{HandsBy, HandsOver, LegKind, OnWay}
use Rattle.leg_table.specs.StepMatching.{matches}
use Rattle.leg_table.specs.StrictLegsValue.{AnyWay}
use Rattle.leg_table.specs.Transits.{Transit}
use Rattle.leg_table.specs.WalkTrace.{Handed, after_events, after_execution, executed}
use Rattle.tunnel_walks_theory.specs.TunnelPacketsTerms.{Bare, Tunnelled}
use Rattle.binding_spec.specs.NetworkWorld.{look_at_sid, look_in}
use Rattle.binding_spec.specs.OwnHands.{behind_push, handed_by, handed_own, most_stages}
use Rattle.binding_spec.specs.TunnelWalks.{TunnelStage, tunnel_walk}
use Rattle.binding_spec.specs.BindingLegsValue.{binding_finish}
use Rattle.tunnel_network_theory.proofs.NetworkHanding.{left_all}
use Rattle.binding_legs_theory.specs.BindingKind.{binding_kind, hand_on, onward_of}
use Rattle.binding_legs_theory.proofs.BindingMeaningBeginnings.{Begins, begins}
use Rattle.binding_legs_theory.proofs.BindingMeaningExecuted.{left_executed, none_left}
use Rattle.binding_legs_theory.proofs.BindingMeaningMachine.{hand_from}
use Rattle.binding_legs_theory.proofs.BindingMeaningOver.{Reached, given, not_lost, over_exposed, over_onward, reached}
use Rattle.binding_legs_theory.proofs.BindingMeaningUp.{active_is}
use Rattle.binding_legs_theory.proofs.BindingMeaningWays.{Comes, comes_to, there}
use Rattle.binding_legs_theory.proofs.Leading.{led}
use Rattle.binding_legs_theory.proofs.OriginWays.{FinishParts, finish_parts}
use Rattle.list_judge_theory.specs.ListCourses.{is_early, sid_takes_early, takes_early}
use Rattle.list_judge_theory.proofs.EarlyPaths.{EarlyLaws}

-- ---- some SID is executed of a packet that is handed over

after_some : (f : Handed → Handed) (o : Option Handed) (h : Handed) → option_map f o ≡ Some h
    → ((g : Handed) → (f g).sids ≡ [] → g.sids ≡ []) → ((g : Handed) → o ≡ Some g → g.sids ≡ [] → ⊥) → h.sids ≡ [] → ⊥
after_some f o h e keeps some none =
    let got = map_some f o h e in
    some got.0 got.1 (keeps got.0 (ap (λ (g : Handed). g.sids) got.2 ∙ none))

by_some : (net : Network) (after : Content) (under : List Packet) (outcome : Outcome) (later : Option Handed) (h : Handed)
    → handed_by net after under outcome later ≡ Some h → ((g : Handed) → later ≡ Some g → g.sids ≡ [] → ⊥) → h.sids ≡ [] → ⊥
by_some net after [] (outcomes.Hand n how family) later h e some none =
    let same : n ∷ [] ≡ h.sids = ap (λ (g : Handed). g.sids) (same_Some _ _ e) in
    cc
by_some net after [] (outcomes.Again n how) later h e some none =
    after_some (after_execution net n) later h e (λ g f. absurd (cc)) some none
by_some net after (q ∷ under) (outcomes.Hand n how family) later h e some none =
    after_some (after_events (executed net n)) later h e (λ g f. f) some none
by_some net after (q ∷ under) (outcomes.Again n how) later h e some none =
    after_some (after_events (executed net n)) later h e (λ g f. f) some none
by_some net after [] (outcomes.Send link) later h e some none = after_some _ later h e (λ g f. f) some none
by_some net after (q ∷ under) (outcomes.Send link) later h e some none = after_some _ later h e (λ g f. f) some none
by_some net after [] outcomes.Local later h e some none = cc
by_some net after (q ∷ under) outcomes.Local later h e some none = cc
by_some net after [] (outcomes.Drop reason error) later h e some none = cc
by_some net after (q ∷ under) (outcomes.Drop reason error) later h e some none = cc

limit_some : (net : Network) (s : TunnelStage) (later : Option Handed) (h : Handed) (b : Bool)
    → (if b then handed_by net s.gave.after s.under s.gave.outcome later else None) ≡ Some h
    → ((g : Handed) → later ≡ Some g → g.sids ≡ [] → ⊥) → h.sids ≡ [] → ⊥
limit_some net s later h true e some none = by_some net s.gave.after s.under s.gave.outcome later h e some none
limit_some net s later h false e some none = cc

own_some : (net : Network) (n : ℕ) (ss : List TunnelStage) (h : Handed) → handed_own net n ss ≡ Some h → h.sids ≡ [] → ⊥
own_some net n [] h e none = cc
own_some net n (s ∷ ss) h e none =
    limit_some net s (handed_own net (behind_push n s.under) ss) h (nat_le (behind_push n s.under + 1) most_stages) e
    (λ g f empty. own_some net (behind_push n s.under) ss g f empty) none

hand_some : (net : Network) (fuel : ℕ) (o : Option (Tunnelled Place Packet)) (pick : ℕ → ℕ) (taken : ℕ) (h : Handed)
    → hand_on net fuel o pick taken ≡ Some h → h.sids ≡ [] → ⊥
hand_some net fuel None pick taken h e none = cc
hand_some net fuel (Some d) pick taken h e none =
    own_some net 0 (tunnel_walk fuel net (Some d.place) (V6 d.head) d.below pick taken) h e none

module _ (net : Network) (keeps : Keeps net) (facts : FlatFacts net) (intent : Intent) (is_intent : IsIntent net intent) (t : Tunnel) where
  abbrev k : LegKind
  k = binding_kind net intent

  some_executed : (via : Option ℕ) (p : Packet) (pick : ℕ → ℕ) (taken : ℕ) (h : Handed) → HandsOver k via p pick taken h → h.sids ≡ []
      → ⊥
  some_executed via p pick taken h over none = hand_some net over.0 (onward_of net intent via p) pick taken h over.1 none

  abbrev allow : Transit → List ℕ
  allow r = allow_of (slice_get net.nodes r.place.node)

  -- a SID that takes early isn't compressed
  early_plain : (n : ℕ) (s : SidEntry) → slice_get net.sids n ≡ Some s → is_early net n ≡ true → s.csid ≡ csids.Plain
  early_plain n s at early =
      let is : takes_early s ≡ true = sym (ap sid_takes_early at) ∙ early in
      by s.csid (and_parts (not (goes_on s)) (is_plain s.csid) is).1
    where
      by : (c : Csid) → is_plain c ≡ true → c ≡ csids.Plain
      by csids.Plain e = refl
      by csids.Next e = cc
      by csids.Replace e = cc

  -- where the way of a finish comes to
  module _ (x : lists.ListPlace) (position : ℕ) (via : Option ℕ) (next lowered : ℕ) (hop : ℕ) (p : Packet)
      (family : t.inner ≡ intent.inner) (h : binding_finish net intent position via next ≡ Some lowered) (on : OnWay k t x hop p next) where
    record Came : Type 0 where
      parts : FinishParts net intent position via next lowered
      start : Begins net keeps intent is_intent position via p parts.way.origin
      comes : Comes net keeps facts intent is_intent t parts.way.origin x hop p next parts.way.transit
      shows : exposes comes.sid (inner_kind t.inner) ≡ true

    came : Came
    came =
        let l = finish_parts net intent position via next lowered h in
        let s = last_sid net intent.inner next l.last in
        let b = begins net keeps intent is_intent position via p l.way.origin l.way.origins in
        let c = comes_to net keeps facts intent is_intent t l.way.origin x hop p next s.0 l.way.transit b.facts on.along on.keeps s.1
        (active_is net keeps facts intent is_intent t x hop p next s.0 s.1 on) l.way.is_transit l.way.sid in
        let same : c.sid ≡ s.0 = same_Some _ _ (sym c.is_there ∙ s.1) in
        record {
          parts = l;
          start = b;
          comes = c;
          shows = ap (λ (e : SidEntry). exposes e (inner_kind t.inner)) same ∙ ap (λ f. exposes s.0 (inner_kind f)) family ∙ s.2;
        }

    -- ---- where the SID takes early in the last container

    module _ (last : behind_of x ≡ []) (early : is_early net next ≡ true) where
      exposed : (c : Came) → given net keeps facts intent is_intent t p c.parts.way.transit c.comes.sid ≡ Exposed t.inner t.bytes
      exposed c =
          along_exposed_plain c.comes.sid (allow c.parts.way.transit) t x (hop - c.parts.way.transit.lowered) (there p c.parts.way.transit)
          c.comes.along (early_plain next c.comes.sid c.comes.is_there early) last c.shows

      early_up : (pick : ℕ → ℕ) (taken : ℕ) → lowered < hop → HandsBy k t position via p (next ∷ []) [] pick taken
      early_up pick taken high =
          let c = came in
          let r : Transit = c.parts.way.transit in
          let q = there p r in
          let is = c.parts.is in
          let limit = c.comes.limit in
          let low : r.lowered < p.hop_limit = omega (arith, is, high, limit) in
          let look = ap (λ (o : Option SidEntry). look_in net r.place next o q) c.comes.is_there
          ∙ ap (look_at_sid net r.place next c.comes.sid.behaviour) (exposed c) in
          let behind = left_executed net next r.left 0 c.parts.way.left_is in
          let at : Place = record { node = r.place.node; how = exposed_from next c.comes.sid.behaviour; family = t.inner } in
          let inside : Content = read_as t.inner t.bytes in
          let w = led net keeps intent is_intent position via p c.parts.way.origin c.start next r c.comes.transit c.comes.is_sid low _
          (Bare at inside) look refl behind.0 behind.1.left pick taken in
          record {
            handed = record { trace = w.trace; sids = next ∷ []; content = inside };
            over = (
              w.count + 0,
              ap (λ o. hand_on net (w.count + 0) o pick taken) c.start.from
                  ∙ hand_from net p c.start.deep c.start.goes (w.count + 0) pick taken _ (w.passes 0),
            );
            meets =
                kept_from (matches (drop position intent.steps) w.trace)
                (left_all (drop position intent.steps) w.trace (w.along ∙ ap Some (none_left behind.0 behind.2)));
            sids = refl;
            allowed = All-cons (λ (m : ℕ). k.barred m ≡ false) next [] refl (All-nil (λ (m : ℕ). k.barred m ≡ false));
            content = refl;
          }

      early_over : (pick : ℕ → ℕ) (taken : ℕ) (h : Handed) → HandsOver k via p pick taken h
          → (h.sids ≡ next ∷ []) × (AnyWay via p pick taken → 0 < hop → lowered < hop)
      early_over pick taken h over =
          let c = came in
          let r : Transit = c.parts.way.transit in
          let w = reached net keeps facts intent is_intent t position via p c.parts.way.origin c.start x hop next r c.comes pick taken h over
          in (
            over_exposed net keeps facts intent is_intent t c.parts.way.origin x hop p next r c.comes t.inner t.bytes (exposed c) pick h w,
            λ any positive.
                let free = subst (Free r.lowered) c.comes.limit w.free in
                subst (λ (n : ℕ). n < hop) c.parts.is (above_free r.lowered hop free positive),
          )

    -- ---- where it hands over

    -- a SID from which a packet is exposed although another follows takes early
    takes : (s : SidEntry) (r : Transit) (family : Family) (bytes : List ℕ) → slice_get net.sids next ≡ Some s
        → StandsOn s (active x) → Along t x (hop - r.lowered) (there p r)
        → given net keeps facts intent is_intent t p r s ≡ Exposed family bytes → (y : lists.ListPlace) → next_of x ≡ Some y
        → is_early net next ≡ true
    takes s r family bytes at on along is y to = ap sid_takes_early at ∙ both (goes_on s) s.csid refl refl
      where
        refused : (reason : Reason) (at : ℕ) → Refused reason at ≡ Exposed family bytes → ⊥
        refused reason at e = cc

        onward : (q : Packet) → Onward q ≡ Exposed family bytes → ⊥
        onward q e = cc

        goes : goes_on s ≡ true → ⊥
        goes is_on = elim (cases_lt 1 (hop - r.lowered)) [
          | inl high ↦ onward _ (sym (along_onward s (allow r) t x y (hop - r.lowered) (there p r) along on is_on to high) ∙ is)
          | inr low ↦ refused _ 0 (sym (along_tired s (allow r) t x y (hop - r.lowered) (there p r) along on is_on to low) ∙ is)
        ]

        replace : goes_on s ≡ false → s.csid ≡ csids.Replace → ⊥
        replace stays kind = elim (cases_Bool (may_lack x)) [
          | inl lacks ↦
              let none : Some y ≡ None = sym to ∙ last_replace s x along.place on kind lacks in
              cc
          | inr needs ↦ refused _ _ (sym (along_packed s (allow r) t x (hop - r.lowered) (there p r) along on stays kind needs) ∙ is)
        ]

        both : (b : Bool) (c : Csid) → goes_on s ≡ b → s.csid ≡ c → takes_early s ≡ true
        both true c e f = absurd (goes e)
        both false csids.Plain e f = ap (λ (b : Bool). not b && is_plain s.csid) e ∙ ap is_plain f
        both false csids.Next e f = absurd (true≢false (sym (on.next f) ∙ e))
        both false csids.Replace e f = absurd (replace e f)

    tail_none : (ms : List ℕ) → Path (List ℕ) (next ∷ ms) (next ∷ []) → ms ≡ []
    tail_none ms e = cc

    abbrev EndsHere : Type 0
    EndsHere = (behind_of x ≡ []) × ((y : lists.ListPlace) → next_of x ≡ Some y → is_early net next ≡ true)

    shown_by : (c : Came) (pick : ℕ → ℕ) (h : Handed)
        → Reached net keeps facts intent is_intent t p c.parts.way.transit next c.comes.sid pick h → h.sids ≡ next ∷ [] → (o : Endpoint)
        → given net keeps facts intent is_intent t p c.parts.way.transit c.comes.sid ≡ o → EndsHere
    shown_by c pick h w sids (Onward q) is =
        let o = over_onward net keeps facts intent is_intent t c.parts.way.origin x hop p next c.parts.way.transit c.comes q is pick h w in
        absurd (some_executed (Some next) q pick o.chosen o.handed o.over (tail_none o.handed.sids (sym o.sids ∙ sids)))
    shown_by c pick h w sids (Exposed f bytes) is =
        let r : Transit = c.parts.way.transit in
        let shows = along_exposes c.comes.sid (allow r) t x (hop - r.lowered) (there p r) f bytes c.comes.along c.comes.on is in
        (shows.0, λ y to. takes c.comes.sid r f bytes c.comes.is_there c.comes.on c.comes.along is y to)
    shown_by c pick h w sids (Delivered q) is =
        absurd (not_lost net keeps facts intent is_intent t c.parts.way.origin x hop p next c.parts.way.transit c.comes _ is
        (λ fuel pick chosen. refl) pick h w)
    shown_by c pick h w sids (Refused reason at) is =
        absurd (not_lost net keeps facts intent is_intent t c.parts.way.origin x hop p next c.parts.way.transit c.comes _ is
        (λ fuel pick chosen. refl) pick h w)

    early_shown : (pick : ℕ → ℕ) (taken : ℕ) (h : Handed) → HandsOver k via p pick taken h → h.sids ≡ next ∷ [] → EndsHere
    early_shown pick taken h over sids =
        let c = came in
        shown_by c pick h
        (reached net keeps facts intent is_intent t position via p c.parts.way.origin c.start x hop next c.parts.way.transit c.comes pick taken
        h over)
        sids (given net keeps facts intent is_intent t p c.parts.way.transit c.comes.sid) refl

  pub own_early : t.inner ≡ intent.inner → EarlyLaws k AnyWay t
  own_early family =
      record {
        up = λ x position via next lowered hop p pick taken is on last early high.
            early_up x position via next lowered hop p family is on last early pick taken high;
        over = λ x position via next lowered hop p pick taken h is on last early over.
            early_over x position via next lowered hop p family is on last early pick taken h over;
        shown = λ x position via next lowered hop p pick taken h is on over sids.
            early_shown x position via next lowered hop p family is on pick taken h over sids;
      }
