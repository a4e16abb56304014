use Rattle.walk_rules.proofs.Judged.{step_drop, step_local}
use Rattle.walk_rules.proofs.laws.an_end_leaves_what_stood_there.Goals as goal

pub returns : goal.returns
returns c = record { dropped = step_drop; local = step_local }
