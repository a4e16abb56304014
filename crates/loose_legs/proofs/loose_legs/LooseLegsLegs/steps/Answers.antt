use Rattle.leg_table.proofs.FlatNets.{flat_facts}
use Rattle.loose_legs_theory.proofs.LooseLegLegLaws.{loose_laws}
use Rattle.loose_legs.specs.IntentSteps.{trace_steps}
use Rattle.loose_legs.proofs.loose_legs.LooseLegsLegs.steps.Goals as goal

pub returns-clause-laws : goal.returns-clause-laws
returns-clause-laws c =
    let net = c.args.self.now.net in
    let intent = c.args.self.now.intent in
    let k = c.keeps_rules.ensures in
    loose_laws net k.facts intent (trace_steps intent) k.steps (flat_facts net k.network k.flat) k.few
