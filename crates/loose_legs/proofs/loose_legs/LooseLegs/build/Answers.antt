use Rattle.std.proofs.Common.{sym, subst, ◌∙◌}
use Rattle.loose_legs_theory.specs.LooseStepsTerms.{AreSteps}
use Rattle.loose_legs.proofs.StepLaws.{are_steps}
use Rattle.loose_legs.proofs.loose_legs.LooseLegs.build.Goals as goal

pub leg_rows-requires : goal.leg_rows-requires
leg_rows-requires c =
    subst (AreSteps c.args.net.now c.args.intent.now) (sym (c.as_slice.ensures.value ∙ c.in_ok-steps.ensures))
    (are_steps c.args.net.now c.args.intent.now c.requires.intent)
