-- A walk over bytes follows the walk over values up to the packet's own hand_over.
use Rattle.std.proofs.Common.{◌≡◌, ℕ, zero, suc, ◌+◌, List, [], ◌∷◌, length, map, take, Option, Some, None, refl, ◌∙◌, ap, subst}
use Rattle.srv6_rules.specs.Packet.{Packet, Content}
use Rattle.srv6_rules.specs.PacketTerms.{IsContent}
use Rattle.net_model.specs.NetworkKeeps.{Keeps}
use Rattle.net_model.specs.Network.{Network}
use Rattle.walk_rules.specs.declared.place.Place.{Place}
use Rattle.walk_rules.specs.declared.place.Outcome.{Outcome}
use Rattle.walk_rules.specs.declared.place.Outcome.TheVariants as outcomes
use Rattle.walk_rules.specs.Treatment.{Gave, free_step_of}
use Rattle.walk_rules.specs.Walk.{Stage, next_place, decisions, walk_by, free_walk_of}
use Rattle.walk_rules.proofs.WalkContents.{free_content}
use Rattle.binding_spec.specs.TunnelStages.{TunnelGave, tunnel_step}
use Rattle.binding_spec.specs.TunnelWalks.{TunnelStage, tunnel_walk, behind_own, through_own}
use Rattle.binding_spec.specs.TunnelLayers.{spelled_content}
use Rattle.tunnel_stages_theory.specs.TunnelLayersTerms.{AreLayersOf, AreSmall, in_bytes}
use Rattle.tunnel_stages_theory.proofs.Values.{as_values}

-- the stages over bytes begin with those over values, where these are small
abbrev Begins : List Stage → List TunnelStage → Type 0
Begins real deep = AreSmall deep → take (length deep) real ≡ map in_bytes deep

begins_behind : (o : Outcome) (under : List Packet) (real : List Stage) (later : List TunnelStage) → Begins real later
    → Begins real (behind_own o under later)
begins_behind (outcomes.Hand n how family) [] real later begins small = refl
begins_behind (outcomes.Hand n how family) (q ∷ under) real later begins small = begins small
begins_behind (outcomes.Again n how) under real later begins small = begins small
begins_behind (outcomes.Send link) under real later begins small = begins small
begins_behind outcomes.Local under real later begins small = begins small
begins_behind (outcomes.Drop reason error) under real later begins small = begins small

pub walk_follows : (fuel : ℕ) (net : Network) (place : Option Place) (content : Content) (below : List Packet) (pick : ℕ → ℕ) (taken : ℕ)
    → Keeps net → AreLayersOf content below → IsContent (spelled_content content below)
    → Begins (free_walk_of fuel net place (spelled_content content below) pick taken)
    (through_own (tunnel_walk fuel net place content below pick taken))
unfolding tunnel_walk walk_by
walk_follows zero net place content below pick taken keeps layers ok small = refl
walk_follows (suc more) net None content below pick taken keeps layers ok small = refl
walk_follows (suc more) net (Some place) content below pick taken keeps layers ok small =
    let deep : TunnelGave = tunnel_step net place content below (pick taken) in
    let s : TunnelStage = record { place = place; before = content; under = below; gave = deep } in
    let bytes : Content = spelled_content content below in
    let real : Gave = free_step_of net place bytes (pick taken) in
    let gives = as_values net place content below (pick taken) keeps layers ok small.0 small.1 in
    let fine : IsContent (spelled_content deep.after deep.below) =
    subst (λ (g : Gave). IsContent g.after) gives.0 (free_content net place bytes (pick taken) keeps ok) in
    let later : List TunnelStage =
    through_own (tunnel_walk more net (next_place net place deep.outcome) deep.after deep.below pick (taken + decisions deep.outcome)) in
    let tail : List TunnelStage = behind_own deep.outcome below later in
    let rest = walk_follows more net (next_place net place deep.outcome) deep.after deep.below pick (taken + decisions deep.outcome)
    keeps gives.1 fine in
    ap (λ (g : Gave). record { place = place; before = bytes; gave = g }
    ∷ take (length tail) (free_walk_of more net (next_place net place g.outcome) g.after pick (taken + decisions g.outcome))) gives.0
    ∙ ap (λ (xs : List Stage). in_bytes s ∷ xs)
    (begins_behind deep.outcome below
    (free_walk_of more net (next_place net place deep.outcome) (spelled_content deep.after deep.below) pick
    (taken + decisions deep.outcome))
    later rest small.2)
