use Rattle.walk_rules.proofs.WalkPlaces.{stage_step}
use Rattle.walk_rules.proofs.laws.a_choice_has_an_outcome.Goals as goal

pub returns : goal.returns
returns c = stage_step
