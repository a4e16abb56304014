-- Without headers in front a packet's own hand_over is the first one.
use Rattle.std.proofs.Common.{◌≡◌, ℕ, List, [], ◌∷◌, map, Option, refl, ◌∙◌, ap}
use Rattle.srv6_rules.specs.Packet.{Content}
use Rattle.net_model.specs.Network.{Network}
use Rattle.walk_rules.specs.declared.place.Place.{Place}
use Rattle.walk_rules.specs.declared.place.Outcome.{Outcome}
use Rattle.walk_rules.specs.declared.place.Outcome.TheVariants as outcomes
use Rattle.walk_rules.specs.Treatment.{Gave}
use Rattle.walk_rules.specs.Walk.{Stage, free_walk_of}
use Rattle.leg_table.specs.WalkTrace.{Handed, handed_first, handed_over}
use Rattle.tunnel_stages_theory.specs.TunnelStagesTerms.{NothingBinds}
use Rattle.binding_spec.specs.TunnelWalks.{tunnel_walk}
use Rattle.tunnel_stages_theory.specs.TunnelWalksTerms.{alone}
use Rattle.tunnel_stages_theory.proofs.TunnelStageLaws.{alone_walk}
use Rattle.binding_spec.specs.OwnHands.{handed_by, handed_own}

first_by : (net : Network) (gave : Gave) (o : Outcome) (later : Option Handed)
    → handed_by net gave.after [] o later ≡ handed_first net gave o later
first_by net gave (outcomes.Hand n how family) later = refl
first_by net gave (outcomes.Again n how) later = refl
first_by net gave (outcomes.Send link) later = refl
first_by net gave outcomes.Local later = refl
first_by net gave (outcomes.Drop reason error) later = refl

pub first_stages : (net : Network) (stages : List Stage) → handed_own net 0 (map alone stages) ≡ handed_over net stages
first_stages net [] = refl
first_stages net (s ∷ ss) =
    first_by net s.gave s.gave.outcome (handed_own net 0 (map alone ss))
    ∙ ap (handed_first net s.gave s.gave.outcome) (first_stages net ss)

pub first_walk : (fuel : ℕ) (net : Network) (place : Option Place) (content : Content) (pick : ℕ → ℕ) (taken : ℕ) → NothingBinds net
    → handed_own net 0 (tunnel_walk fuel net place content [] pick taken) ≡ handed_over net (free_walk_of fuel net place content pick taken)
first_walk fuel net place content pick taken none =
    ap (handed_own net 0) (alone_walk fuel net place content pick taken none)
    ∙ first_stages net (free_walk_of fuel net place content pick taken)
