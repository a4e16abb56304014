use Rattle.std.proofs.Common.{subst}
use Rattle.leg_table.specs.StrictTableTerms.{LegTable}
use Rattle.loose_legs_theory.specs.LooseStepsTerms.{AreSteps}
use Rattle.loose_legs.specs.IntentSteps.{trace_steps}
use Rattle.loose_legs.proofs.StepLaws.{are_steps}
use Rattle.loose_legs.proofs.loose_legs.LooseLegs.keeps_rules.Goals as goal

pub returns-clause-steps : goal.returns-clause-steps
returns-clause-steps c =
    subst (λ (t : LegTable). AreSteps t.net t.intent (trace_steps t.intent)) c.self.view_is
    (are_steps c.self.inside.net.now c.self.inside.intent.now c.self.invariant.is_intent)
