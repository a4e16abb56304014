-- A list has one need.
use Rattle.std.proofs.Common.{◌≡◌, ℕ, Bool, true, false, List, arith}
use Rattle.net_model.specs.Network.{Network}
use Rattle.intent_reader.specs.IntentRules.{has_reach}
use Rattle.intent_reader.specs.declared.intent.Intent.{Intent}
use Rattle.list_pack.specs.declared.types.Container.{Container}
use Rattle.intent_compiler.specs.IntentLegs.{ListRealizesFor, RealizesIf}

pub one_need : (net : Network) (intent : Intent) (list : List Container) (a b : ℕ) → ListRealizesFor net intent list a
    → ListRealizesFor net intent list b → a ≡ b
one_need net intent list a b = by (has_reach intent.steps)
  where
    by : (reach : Bool) → RealizesIf reach net intent list a → RealizesIf reach net intent list b → a ≡ b
    by true first other =
        let up = first.least b other.reaches in
        let down = other.least a first.reaches in
        omega (arith, up, down)
    by false first other =
        let up = first.least b other.reaches in
        let down = other.least a first.reaches in
        omega (arith, up, down)
