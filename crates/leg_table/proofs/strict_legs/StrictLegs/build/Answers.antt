use Rattle.std.proofs.Common.{true, List, length, ◌≤◌, ◌≡◌, subst, sym}
use Rattle.std.specs.Prelude.{is_some}
use Rattle.intent_reader.specs.IntentRules.{stand_after}
use Rattle.intent_reader.specs.declared.intent.Step.{Step}
use Rattle.leg_table.proofs.TransitFacts.{intent_stands}
use Rattle.leg_table.proofs.strict_legs.StrictLegs.build.Goals as goal

pub reaches_of-requires-clause-is_there : goal.reaches_of-requires-clause-is_there
reaches_of-requires-clause-is_there c = (intent_stands c.args.net.now c.args.intent.now c.requires.intent).3

pub reaches_of-requires-clause-few : goal.reaches_of-requires-clause-few
reaches_of-requires-clause-few c =
    subst (λ (ts : List Step). length ts ≤ 48) (sym c.as_slice.ensures) (intent_stands c.args.net.now c.args.intent.now c.requires.intent).1

pub reaches_of-requires-clause-stands : goal.reaches_of-requires-clause-stands
reaches_of-requires-clause-stands c =
    subst (λ (ts : List Step). is_some (stand_after c.args.net.now c.args.intent.now.headend ts) ≡ true) (sym c.as_slice.ensures)
    (intent_stands c.args.net.now c.args.intent.now c.requires.intent).0
