-- The paths of legs through binding SIDs are the legal lists that realize the intent.
use Rattle.std.proofs.Common.{◌≡◌, ℕ, ◌+◌, ◌<◌, List, [], length, map, Some, None, sym, ap, ◌∙◌, zero-add}
use Rattle.srv6_rules.specs.Packet.{Packet, Content}
use Rattle.net_model.specs.Network.{Network}
use Rattle.net_model.specs.NetworkKeeps.{Keeps}
use Rattle.net_model.specs.NetworkRulesTerms.{IsNetwork}
use Rattle.net_model.proofs.PublicLaws.{keeps_from_network}
use Rattle.net_flatness.specs.Flat.{IsFlat}
use Rattle.intent_reader.specs.IntentRulesTerms.{IsIntent}
use Rattle.intent_reader.specs.declared.intent.Intent.{Intent}
use Rattle.sid_list_theory.specs.ListPlaces.{Tunnel}
use Rattle.list_pack.specs.declared.types.Container.{Container}
use Rattle.list_pack.specs.declared.types.Cost.{Cost}
use Rattle.list_pack.specs.Costs.{Move, cost_of, start}
use Rattle.list_pack.specs.Least.{step_of}
use Rattle.list_pack.specs.PathLists.{list_of}
use Rattle.list_pack.specs.SidLists.{list_values, prefixes_in}
use Rattle.list_pack.specs.Meaning.{AreSidsOf, Means}
use Rattle.list_pack.specs.LegsValueTerms.{KeepsLaws}
use Rattle.leg_table.proofs.StrictOptions.{kept_from, kept_parts}
use Rattle.leg_table.specs.LegMeaning.{HandsInner, IsRealizing, IsExecuting, IsHanding}
use Rattle.leg_table.specs.OneLegLaws.{LegKind, LegLaws, KindLaws, HandsOver}
use Rattle.leg_table.specs.Realizes.{IsInner}
use Rattle.leg_table.specs.StepMatching.{matches}
use Rattle.leg_table.specs.WalkTrace.{Handed}
use Rattle.leg_table.specs.StrictLegsValue.{AnyWay}
use Rattle.leg_table.proofs.FlatNets.{FlatFacts, flat_facts}
use Rattle.leg_table.proofs.ListShapes.{suits_by, there}
use Rattle.leg_table.proofs.Shapes.{sid_shape}
use Rattle.leg_table.proofs.Stays.{stays_follow}
use Rattle.leg_table.proofs.Meanings as means
use Rattle.tunnel_network_theory.proofs.PublicLaws.{small_keeps_law}
use Rattle.binding_spec.specs.BindingSmall.{IsSmall}
use Rattle.tunnel_stages_theory.specs.BindingSmallTerms.{KeepsTo}
use Rattle.binding_spec.specs.BindingRealizes.{OwnHandsOver, OwnListExecutes, OwnListRealizes}
use Rattle.binding_spec.specs.Machines.{left_by}
use Rattle.tunnel_walks_theory.specs.TunnelPacketsTerms.{own_move}
use Rattle.tunnel_walks_theory.proofs.PublicLaws.{rows_agree}
use Rattle.binding_spec.specs.NetworkWorld.{step_events}
use Rattle.tunnel_network_theory.proofs.NetworkHanding.{all_left}
use Rattle.binding_spec.specs.Origins.{sid_leads_on}
use Rattle.binding_spec.specs.BindingLegsValue.{binding_legs_value}
use Rattle.binding_spec.specs.BindingHands.{OwnListHands}
use Rattle.binding_legs_theory.specs.BindingKind.{onward_of, hand_on, binding_kind}
use Rattle.binding_legs_theory.proofs.BindingMeaningMachine.{network_world, hand_on_law, hand_parts, hand_from, onward_goes}
use Rattle.binding_legs_theory.proofs.BindingMeaningUp.{leg_up_law, finish_up_law}
use Rattle.binding_legs_theory.proofs.BindingMeaningOver.{leg_over_law, finish_over_law}
use Rattle.binding_legs_theory.proofs.BindingMeaningDown.{none_barred, leg_down}

module _ (net : Network) (intent : Intent) (network : IsNetwork net) (flat : IsFlat net) (is_intent : IsIntent net intent) where
  abbrev k : LegKind
  k = binding_kind net intent

  keeps : Keeps net
  keeps = keeps_from_network net network

  facts : FlatFacts net
  facts = flat_facts net network flat

  sids_of : AreSidsOf (binding_legs_value net intent) net
  sids_of n is =
      let s = there net keeps intent n is in
      let is_shape = sid_shape net n s.0 s.1 in (
        s.0,
        s.1,
        record { prefix = is_shape.0.prefix; block = is_shape.0.block; lbl = is_shape.0.lbl; csid = is_shape.0.csid },
        is_shape.1,
      )

  -- the laws of one leg and one finish
  pub binding_leg_laws : (t : Tunnel) → t.inner ≡ intent.inner → LegLaws k AnyWay t
  binding_leg_laws t family =
      record {
        leg_up = λ x y position via next leg hop p pick taken is on to high.
            leg_up_law net keeps facts intent is_intent t x y position via next leg hop p pick taken is on to high;
        finish_up = λ x position via next lowered hop p pick taken is on end high.
            finish_up_law net keeps facts intent is_intent t x position via next lowered hop p pick taken family is on end high;
        leg_over = λ x y position via next leg hop p pick taken h is on to over.
            leg_over_law net keeps facts intent is_intent t x y position via next leg hop p pick taken h is on to over;
        finish_over = λ x position via next lowered hop p pick taken h is on end over.
            finish_over_law net keeps facts intent is_intent t x position via next lowered hop p pick taken h family is on end over;
        down = λ x q position via hop p within at along nests to named positive hands.
            leg_down net network flat facts intent is_intent t family x q position via hop p within at along nests to named positive hands;
        some_longest = λ via p. (λ d. d, tt);
      }

  -- as many choices matter as there are steps
  agree : (p : Packet) (pick other : ℕ → ℕ) (h : Handed) (marks : List ℕ) → ((d : ℕ) → d < length intent.steps → pick d ≡ other d)
      → HandsOver k None p pick 0 h → k.kept 0 h.trace ≡ Some marks → HandsOver k None p other 0 h
  agree p pick other h marks same over kept =
      let met = (kept_parts (matches intent.steps h.trace) marks kept).0 in
      let some = hand_on_law net over.0 (onward_of net intent None p) pick 0 h over.1 in
      let goes = onward_goes net intent None p some.0 some.1 in
      let g = hand_parts net p some.0 goes over.0 pick 0 h (sym (ap (λ o. hand_on net over.0 o pick 0) some.1) ∙ over.1) in
      let along = ap (λ (h : Handed). left_by step_events intent.steps h.trace) g.2 ∙ all_left intent.steps h.trace met in
      let zero : (d : ℕ) → 0 + d ≡ d = λ d. zero-add d in
      let gives = rows_agree step_events (own_move (network_world net)) over.0 intent.steps some.0 pick other 0 0 g.0 []
      (λ d few. ap pick (zero d) ∙ same d few ∙ sym (ap other (zero d))) g.1 along in (
        over.0,
        ap (λ o. hand_on net over.0 o other 0) some.1
            ∙ hand_from net p some.0 goes over.0 other 0 g.0 gives ∙ ap Some g.2,
      )

  -- and those of their kind, where they keep the laws of legs
  pub binding_kind_laws : KeepsLaws (binding_legs_value net intent) → KindLaws k AnyWay
  binding_kind_laws laws =
      record {
        network = network;
        flat = flat;
        legs = laws;
        sids = sids_of;
        suits = suits_by net keeps facts.suits (binding_legs_value net intent) sids_of
            (λ n s is middle. sym (ap sid_leads_on is) ∙ middle)
            (λ n m is also.
            let s = sids_of n is in
            let t = sids_of m also in
            stays_follow net network n m s.0 t.0 s.1 t.1);
        one = binding_leg_laws;
        matter = λ p. length intent.steps;
        agree = agree;
      }

  -- ---- realizing by the kind is realizing through binding SIDs

  abbrev to_kind : {segments : List ℕ} {inner : Content} {hop : ℕ} {choices : List ℕ} → OwnHandsOver net intent segments inner hop choices
      → HandsInner k segments inner hop [] choices
  to_kind o =
      record {
        handed = o.handed;
        over = (o.fuel, o.own);
        steps = kept_from (matches intent.steps o.handed.trace) o.steps;
        content = o.content;
        allowed = none_barred net intent o.handed.sids;
      }

  abbrev of_kind : {segments : List ℕ} {inner : Content} {hop : ℕ} {marks choices : List ℕ} → HandsInner k segments inner hop marks choices
      → OwnHandsOver net intent segments inner hop choices
  of_kind {marks = marks} o =
      record {
        fuel = o.over.0;
        handed = o.handed;
        own = o.over.1;
        steps = (kept_parts (matches intent.steps o.handed.trace) marks o.steps).0;
        content = o.content;
      }

  realizes_of : (list : List Container) (need : ℕ) → IsRealizing k list need → OwnListRealizes net intent list need
  realizes_of list need r =
      record {
        reaches = λ inner ok hop above choices some. of_kind (r.reaches.1 inner ok hop above choices some);
        least = λ n reaches. r.least n ([], λ inner ok hop above choices some. to_kind (reaches inner ok hop above choices some));
      }

  to_realizes : (list : List Container) (need : ℕ) → OwnListRealizes net intent list need → IsRealizing k list need
  to_realizes list need r =
      record {
        reaches = ([], λ inner ok hop above choices some. to_kind (r.reaches inner ok hop above choices some));
        least = λ n reaches. r.least n (λ inner ok hop above choices some. of_kind (reaches.1 inner ok hop above choices some));
      }

  executes_of : (list : List Container) (count : ℕ) → IsExecuting k list count → OwnListExecutes net intent list count
  executes_of list count e = λ inner hop choices h. e inner hop [] choices (to_kind h)

  to_executes : (list : List Container) (count : ℕ) → OwnListExecutes net intent list count → IsExecuting k list count
  to_executes list count e = λ inner hop marks choices h. e inner hop choices (of_kind h)

  to_handing : (list : List Container) (hop : ℕ) → OwnListHands net intent list hop → IsHanding k list hop
  to_handing list hop h =
      record { positive = h.positive; inner = h.inner; marks = []; always = λ choices some. to_kind (h.always choices some) }

  -- so their paths are the legal lists that realize the intent
  pub binding_means : KeepsLaws (binding_legs_value net intent)
      → Means (binding_legs_value net intent) net (OwnListRealizes net intent) (OwnListExecutes net intent) (OwnListHands net intent)
  binding_means laws =
      means.means_as k AnyWay (binding_kind_laws laws) (OwnListRealizes net intent) (OwnListExecutes net intent) (OwnListHands net intent)
      (λ list need legal real executes. realizes_of list need real) executes_of
      (λ list need legal real. (to_realizes list need real, to_executes list (length (prefixes_in list)))) to_handing

  -- what is small on such a path keeps to the intent
  pub path_keeps : KeepsLaws (binding_legs_value net intent) → (moves : List Move) (c : Cost)
      → cost_of (binding_legs_value net intent) start moves ≡ Some c → (inner : Content) → IsInner intent.inner inner → (hop : ℕ)
      → c.hops < hop
      → IsSmall net intent (list_values net (list_of net (map (step_of (binding_legs_value net intent)) moves))) inner hop
      → (choices : List ℕ) → 0 < length choices
      → KeepsTo net intent (list_values net (list_of net (map (step_of (binding_legs_value net intent)) moves))) inner hop choices
  path_keeps laws moves c cost inner is hop more small choices some =
      small_keeps_law net intent (list_values net (list_of net (map (step_of (binding_legs_value net intent)) moves))) inner c.hops hop choices
      keeps ((binding_means laws).lists moves c cost).realizes is more small some
