use Rattle.update_walks_theory.proofs.BetweenBetween.{first_looks, last_looks}
use Rattle.update_walks_theory.proofs.laws.tables_between_look_as_both.Goals as goal

pub returns : goal.returns
returns c = record {
  old = λ old new rules whole. first_looks old new rules whole;
  new = λ old new rules new_rules whole accepted. last_looks old new rules new_rules whole accepted;
}
