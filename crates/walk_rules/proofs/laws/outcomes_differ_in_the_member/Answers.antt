use Rattle.walk_rules.proofs.Judged.{stage_unique}
use Rattle.walk_rules.proofs.laws.outcomes_differ_in_the_member.Goals as goal

pub returns : goal.returns
returns c = stage_unique
