-- A walk over bytes hands over what the walk over values does, at the depth that is counted by outcomes.
use Rattle.std.proofs.Common.{◌≡◌, ℕ, zero, suc, ◌+◌, List, [], ◌∷◌, length, Option, Some, None, refl, sym, ◌∙◌, ap, subst, arith}
use Rattle.std.specs.Option.{option_map}
use Rattle.srv6_rules.specs.Packet.{Packet, Content, V6, V4, Unreadable}
use Rattle.srv6_rules.specs.PacketTerms.{IsContent}
use Rattle.net_model.specs.NetworkKeeps.{Keeps}
use Rattle.net_model.specs.Network.{Network}
use Rattle.walk_rules.specs.declared.place.Place.{Place}
use Rattle.walk_rules.specs.declared.place.Outcome.{Outcome}
use Rattle.walk_rules.specs.declared.place.Outcome.TheVariants as outcomes
use Rattle.walk_rules.specs.Treatment.{Gave}
use Rattle.walk_rules.specs.Walk.{next_place, decisions, walk_by, free_walk_of}
use Rattle.walk_rules.proofs.WalkContents.{free_content}
use Rattle.leg_table.specs.WalkTrace.{Crossed, executed, Handed, after_events, after_execution}
use Rattle.binding_spec.specs.TunnelStages.{TunnelGave, tunnel_step}
use Rattle.binding_spec.specs.TunnelWalks.{TunnelStage, tunnel_walk, depth_after, behind_own, through_own}
use Rattle.binding_spec.specs.TunnelLayers.{spelled_content}
use Rattle.tunnel_stages_theory.specs.TunnelLayersTerms.{AreLayersOf, AreSmall}
use Rattle.tunnel_stages_theory.proofs.TunnelStageLaws.{as_values, depth_stage}
use Rattle.tunnel_stages_theory.proofs.TunnelStageSpelled.{content_alone, layers_alone}
use Rattle.binding_spec.specs.OwnHands.{behind_push, handed_by, handed_own}
use Rattle.binding_spec.specs.OwnHandCounting.{counted_by, handed_at_depth}
use Rattle.tunnel_stages_theory.proofs.OwnFirsts.{none_hands, some_within}

bare_content : (content : Content) (below : List Packet) → length below ≡ 0 → spelled_content content below ≡ content
bare_content (V6 p) [] none = refl
bare_content (V6 p) (q ∷ below) none = absurd (omega (arith, none))
bare_content (V4 p) below none = refl
bare_content (Unreadable bytes reason) below none = refl

module _ (net : Network) (after : Content) (left : List Packet) (later counted : Option Handed) (h : Handed) (T : Type 0)
    (rest : (g : Handed) → later ≡ Some g → T → counted ≡ Some g) where
  -- what the later stages hand over, with what one stage adds to it
  passes : (f : Handed → Handed) (o : Option Handed) → later ≡ o → T → option_map f o ≡ Some h → option_map f counted ≡ Some h
  passes f None none small e = none_hands _ h e
  passes f (Some g) some small e = ap (option_map f) (rest g some small) ∙ e

pub stage_counted : (Small : List TunnelStage → Type 0) (net : Network) (after : Content) (left under : List Packet) (o : Outcome)
    (later counted : Option Handed) (h : Handed)
    (small : List TunnelStage) → length left ≡ depth_after net (length under) o
    → handed_by net after under o later ≡ Some h → Small (behind_own o under small)
    → ((g : Handed) → later ≡ Some g → Small small → counted ≡ Some g)
    → counted_by net (spelled_content after left) (length under) o counted ≡ Some h
stage_counted Small net after left [] (outcomes.Hand n how family) later counted h small count e few rest =
    ap (λ c. Some (record { trace = executed net n; sids = n ∷ []; content = c })) (bare_content after left count) ∙ e
stage_counted Small net after left (q ∷ under) (outcomes.Hand n how family) later counted h small count e few rest =
    passes net after left later counted h (Small small) rest (after_events (executed net n)) later refl few e
stage_counted Small net after left [] (outcomes.Again n how) later counted h small count e few rest =
    passes net after left later counted h (Small small) rest (after_execution net n) later refl few e
stage_counted Small net after left (q ∷ under) (outcomes.Again n how) later counted h small count e few rest =
    passes net after left later counted h (Small small) rest (after_events (executed net n)) later refl few e
stage_counted Small net after left under (outcomes.Send link) later counted h small count e few rest =
    passes net after left later counted h (Small small) rest (after_events (Crossed link ∷ [])) later refl few e
stage_counted Small net after left under outcomes.Local later counted h small count e few rest = none_hands _ h e
stage_counted Small net after left under (outcomes.Drop reason error) later counted h small count e few rest = none_hands _ h e

pub counted_from : (fuel : ℕ) (net : Network) (place : Option Place) (content : Content) (below : List Packet) (pick : ℕ → ℕ)
    (taken n : ℕ) (h : Handed) → Keeps net → AreLayersOf content below → IsContent (spelled_content content below)
    → AreSmall (through_own (tunnel_walk fuel net place content below pick taken))
    → handed_own net n (tunnel_walk fuel net place content below pick taken) ≡ Some h
    → handed_at_depth net (length below) (free_walk_of fuel net place (spelled_content content below) pick taken) ≡ Some h
unfolding tunnel_walk walk_by
counted_from zero net place content below pick taken n h keeps layers ok small e = none_hands _ h e
counted_from (suc more) net None content below pick taken n h keeps layers ok small e = none_hands _ h e
counted_from (suc more) net (Some place) content below pick taken n h keeps layers ok small e =
    let deep : TunnelGave = tunnel_step net place content below (pick taken) in
    let s : TunnelStage = record { place = place; before = content; under = below; gave = deep } in
    let bytes : Content = spelled_content content below in
    let gives = as_values net place content below (pick taken) keeps layers ok small.0 small.1 in
    let fine : IsContent (spelled_content deep.after deep.below) =
    subst (λ (g : Gave). IsContent g.after) gives.0 (free_content net place bytes (pick taken) keeps ok) in
    let later : List TunnelStage =
    tunnel_walk more net (next_place net place deep.outcome) deep.after deep.below pick (taken + decisions deep.outcome) in
    let count = depth_stage net place content below (pick taken) in
    let real = free_walk_of more net (next_place net place deep.outcome) (spelled_content deep.after deep.below) pick
    (taken + decisions deep.outcome) in
    ap (λ (g : Gave). counted_by net g.after (length below) g.outcome (handed_at_depth net (depth_after net (length below) g.outcome)
    (free_walk_of more net (next_place net place g.outcome) g.after pick (taken + decisions g.outcome)))) gives.0
    ∙ ap (λ d. counted_by net (spelled_content deep.after deep.below) (length below) deep.outcome (handed_at_depth net d real)) (sym count)
    ∙ stage_counted AreSmall net deep.after deep.below below deep.outcome (handed_own net (behind_push n below) later)
    (handed_at_depth net (length deep.below) real) h (through_own later) count (some_within net n s later h e) small.2
    (λ g is few. counted_from more net (next_place net place deep.outcome) deep.after deep.below pick (taken + decisions deep.outcome)
    (behind_push n below) g keeps gives.1 fine few is)

pub counted_own : (fuel : ℕ) (net : Network) (place : Option Place) (content : Content) (pick : ℕ → ℕ) (taken : ℕ) (h : Handed)
    → Keeps net → IsContent content → AreSmall (through_own (tunnel_walk fuel net place content [] pick taken))
    → handed_own net 0 (tunnel_walk fuel net place content [] pick taken) ≡ Some h
    → handed_at_depth net 0 (free_walk_of fuel net place content pick taken) ≡ Some h
counted_own fuel net place content pick taken h keeps ok small e =
    ap (λ c. handed_at_depth net 0 (free_walk_of fuel net place c pick taken)) (sym (content_alone content))
    ∙ counted_from fuel net place content [] pick taken 0 h keeps (layers_alone content) (subst IsContent (sym (content_alone content)) ok)
    small e
