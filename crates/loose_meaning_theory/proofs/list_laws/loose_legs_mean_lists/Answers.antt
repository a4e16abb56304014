use Rattle.loose_meaning_theory.proofs.LooseListMeaning.{loose_means}
use Rattle.loose_meaning_theory.proofs.list_laws.loose_legs_mean_lists.Goals as goal

pub returns : goal.returns
returns c = loose_means
