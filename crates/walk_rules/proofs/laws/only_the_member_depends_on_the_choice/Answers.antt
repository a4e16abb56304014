use Rattle.walk_rules.proofs.Judged.{step_named, step_member}
use Rattle.walk_rules.proofs.laws.only_the_member_depends_on_the_choice.Goals as goal

pub returns : goal.returns
returns c = record { named = step_member; same = step_named }
