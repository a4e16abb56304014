use Rattle.walk_rules.proofs.Judged.{step_tells}
use Rattle.walk_rules.proofs.laws.a_drop_tells_of_its_error.Goals as goal

pub returns : goal.returns
returns c = step_tells
