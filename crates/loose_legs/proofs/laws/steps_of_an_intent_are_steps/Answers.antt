use Rattle.loose_legs.proofs.StepLaws.{are_steps}
use Rattle.loose_legs.proofs.laws.steps_of_an_intent_are_steps.Goals as goal

pub returns : goal.returns
returns c = are_steps
