use Rattle.update_plan.proofs.UpdateBetween.{between_new, between_old}
use Rattle.update_plan.proofs.laws.tables_between_are_both.Goals as goal

pub returns : goal.returns
returns c = record {
  old = λ old new node table family a whole. between_old old new node table family a whole;
  new = λ old new node table family a rules new_rules whole accepted.
      between_new old new node table family a rules new_rules whole accepted;
}
