-- Packets that fit their headers and links are handed over as values are, also where links have MTUs and a walk may have more stages.
use Rattle.std.proofs.Common.{◌≡◌, ℕ, zero, suc, ◌+◌, ◌<◌, ◌≤◌, true, List, [], length, Option, Some, None, refl, sym, ◌∙◌, ap, subst, arith}
use Rattle.std.proofs.lemmas.Bool.{le-leb}
use Rattle.srv6_rules.specs.Packet.{Packet, Content, V6}
use Rattle.srv6_rules.specs.PacketTerms.{IsContent}
use Rattle.net_model.specs.NetworkKeeps.{Keeps}
use Rattle.net_model.specs.Network.{Network}
use Rattle.walk_rules.specs.declared.place.Place.{Place}
use Rattle.walk_rules.specs.declared.place.Outcome.{Outcome}
use Rattle.walk_rules.specs.declared.place.Outcome.TheVariants as outcomes
use Rattle.walk_rules.specs.Treatment.{Gave, goes, judged, own_len, mtu_at}
use Rattle.walk_rules.specs.Walk.{next_place, decisions, walk_by, walk_of, choice_at}
use Rattle.walk_rules.proofs.WalkContents.{free_content}
use Rattle.walk_rules.specs.declared.limits.TheConstants.{MAX_STAGES}
use Rattle.intent_reader.specs.declared.intent.Intent.{Intent}
use Rattle.leg_table.specs.Realizes.{headend_place, IsInner, encapsulated_for}
use Rattle.leg_table.specs.WalkTrace.{Handed}
use Rattle.binding_spec.specs.TunnelStages.{TunnelGave, tunnel_step}
use Rattle.binding_spec.specs.TunnelWalks.{TunnelStage, tunnel_walk, depth_after, behind_own, through_own}
use Rattle.binding_spec.specs.TunnelLayers.{spelled_content}
use Rattle.tunnel_stages_theory.specs.TunnelLayersTerms.{AreLayersOf, goes_further}
use Rattle.tunnel_stages_theory.proofs.TunnelStageLaws.{as_values, depth_stage}
use Rattle.binding_spec.specs.OwnHands.{behind_push, handed_by, handed_own}
use Rattle.binding_spec.specs.OwnHandCounting.{counted_by, handed_at_depth}
use Rattle.binding_spec.specs.BindingSmall.{SentFits, FitAll, IsSmall}
use Rattle.tunnel_stages_theory.specs.BindingSmallTerms.{KeepsTo}
use Rattle.binding_spec.specs.BindingRealizes.{OwnRealizes}
use Rattle.tunnel_stages_theory.proofs.OwnFirsts.{none_hands, some_within}
use Rattle.tunnel_stages_theory.proofs.TunnelStageSpelled.{content_alone, layers_alone}
use Rattle.tunnel_stages_theory.proofs.Counted.{stage_counted}

-- what fits its link is given as where no link has an MTU
judged_goes : (net : Network) (node : ℕ) (content after : Content) (o : Outcome) → SentFits net content o
    → judged net node content (goes o after) ≡ goes o after
judged_goes net node content after (outcomes.Again n how) fits = refl
judged_goes net node content after (outcomes.Hand n how family) fits = refl
judged_goes net node content after (outcomes.Send link) fits = rw (le-leb (own_len content) (mtu_at net link) fits) refl
judged_goes net node content after outcomes.Local fits = refl
judged_goes net node content after (outcomes.Drop reason error) fits = refl

-- stages that fit, of which there is room for all
abbrev FitIn : Network → ℕ → List TunnelStage → Type 0
FitIn net room ss = FitAll net ss × (length ss ≤ room)

-- what is handed over later is not taken away
handed_further : (net : Network) (after : Content) (under : List Packet) (o : Outcome) (later : Option Handed) (h : Handed)
    → handed_by net after under o later ≡ Some h → goes_further o ≡ true
handed_further net after under (outcomes.Again n how) later h e = refl
handed_further net after under (outcomes.Hand n how family) later h e = refl
handed_further net after under (outcomes.Send link) later h e = refl
handed_further net after under outcomes.Local later h e = none_hands _ h e
handed_further net after under (outcomes.Drop reason error) later h e = none_hands _ h e

small_from : (fuel room : ℕ) (net : Network) (place : Option Place) (content : Content) (below : List Packet) (pick : ℕ → ℕ)
    (taken n : ℕ) (h : Handed) → length (through_own (tunnel_walk fuel net place content below pick taken)) ≤ room → Keeps net
    → AreLayersOf content below → IsContent (spelled_content content below)
    → FitAll net (through_own (tunnel_walk fuel net place content below pick taken))
    → handed_own net n (tunnel_walk fuel net place content below pick taken) ≡ Some h
    → handed_at_depth net (length below) (walk_of room net place (spelled_content content below) pick taken) ≡ Some h
unfolding tunnel_walk walk_by
small_from zero room net place content below pick taken n h enough keeps layers ok fit e = none_hands _ h e
small_from (suc more) room net None content below pick taken n h enough keeps layers ok fit e = none_hands _ h e
small_from (suc more) zero net (Some place) content below pick taken n h enough keeps layers ok fit e = absurd (omega (arith, enough))
small_from (suc more) (suc room) net (Some place) content below pick taken n h enough keeps layers ok fit e =
    let deep : TunnelGave = tunnel_step net place content below (pick taken) in
    let s : TunnelStage = record { place = place; before = content; under = below; gave = deep } in
    let bytes : Content = spelled_content content below in
    let later : List TunnelStage =
    tunnel_walk more net (next_place net place deep.outcome) deep.after deep.below pick (taken + decisions deep.outcome) in
    let room_left : suc (length (behind_own deep.outcome below (through_own later))) ≤ suc room = enough in
    let within = some_within net n s later h e in
    let further = handed_further net deep.after below deep.outcome (handed_own net (behind_push n below) later) h within in
    let gives = as_values net place content below (pick taken) keeps layers ok further fit.0 in
    let fine : IsContent (spelled_content deep.after deep.below) =
    subst (λ (g : Gave). IsContent g.after) gives.0 (free_content net place bytes (pick taken) keeps ok) in
    let judges = ap (judged net place.node bytes) gives.0
    ∙ judged_goes net place.node bytes (spelled_content deep.after deep.below) deep.outcome fit.1 in
    let count = depth_stage net place content below (pick taken) in
    let real = walk_of room net (next_place net place deep.outcome) (spelled_content deep.after deep.below) pick
    (taken + decisions deep.outcome) in
    ap (λ (g : Gave). counted_by net g.after (length below) g.outcome (handed_at_depth net (depth_after net (length below) g.outcome)
    (walk_of room net (next_place net place g.outcome) g.after pick (taken + decisions g.outcome)))) judges
    ∙ ap (λ d. counted_by net (spelled_content deep.after deep.below) (length below) deep.outcome (handed_at_depth net d real)) (sym count)
    ∙ stage_counted (FitIn net room) net deep.after deep.below below deep.outcome (handed_own net (behind_push n below) later)
    (handed_at_depth net (length deep.below) real) h (through_own later) count within (fit.2, omega (arith, room_left))
    (λ g is few. small_from more room net (next_place net place deep.outcome) deep.after deep.below pick (taken + decisions deep.outcome)
    (behind_push n below) g few.1 keeps gives.1 fine few.0 is)

pub small_own : (fuel room : ℕ) (net : Network) (place : Option Place) (content : Content) (pick : ℕ → ℕ) (taken : ℕ) (h : Handed)
    → length (through_own (tunnel_walk fuel net place content [] pick taken)) ≤ room → Keeps net → IsContent content
    → FitAll net (through_own (tunnel_walk fuel net place content [] pick taken))
    → handed_own net 0 (tunnel_walk fuel net place content [] pick taken) ≡ Some h
    → handed_at_depth net 0 (walk_of room net place content pick taken) ≡ Some h
small_own fuel room net place content pick taken h enough keeps ok fit e =
    ap (λ c. handed_at_depth net 0 (walk_of room net place c pick taken)) (sym (content_alone content))
    ∙ small_from fuel room net place content [] pick taken 0 h enough keeps (layers_alone content)
    (subst IsContent (sym (content_alone content)) ok) fit e

-- a small packet keeps to the intent that its list realizes
pub small_keeps_law : (net : Network) (intent : Intent) (segments : List ℕ) (inner : Content) (need hop : ℕ) (choices : List ℕ) → Keeps net
    → OwnRealizes net intent segments need → IsInner intent.inner inner → need < hop → IsSmall net intent segments inner hop
    → 0 < length choices → KeepsTo net intent segments inner hop choices
small_keeps_law net intent segments inner need hop choices keeps realizes is more small some =
    let h = realizes.reaches inner is hop more choices some in
    let few = small.few choices h.fuel some in
    record {
      handed = h.handed;
      own = small_own h.fuel MAX_STAGES net (Some (headend_place intent)) (V6 (encapsulated_for intent segments inner hop))
          (choice_at choices) 0 h.handed (omega (arith, few)) keeps small.spelled (small.fits choices h.fuel some) h.own;
      steps = h.steps;
      content = h.content;
    }
