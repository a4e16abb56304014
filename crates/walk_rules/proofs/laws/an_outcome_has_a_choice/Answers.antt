use Rattle.walk_rules.proofs.Judged.{stage_choice}
use Rattle.walk_rules.proofs.laws.an_outcome_has_a_choice.Goals as goal

pub returns : goal.returns
returns c = stage_choice
