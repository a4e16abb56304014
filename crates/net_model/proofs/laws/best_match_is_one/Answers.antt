use Rattle.net_model.proofs.IsBestLemmas.{lookup_is_best, best_is_one}
use Rattle.net_model.proofs.laws.best_match_is_one.Goals as goal

pub returns-clause-found : goal.returns-clause-found
returns-clause-found c = lookup_is_best

pub returns-clause-one : goal.returns-clause-one
returns-clause-one c = best_is_one
