use Rattle.walk_rules.proofs.Judged.{step_again, step_hand}
use Rattle.walk_rules.proofs.laws.an_execution_names_its_sid.Goals as goal

pub returns : goal.returns
returns c = record { again = step_again; hand = step_hand }
