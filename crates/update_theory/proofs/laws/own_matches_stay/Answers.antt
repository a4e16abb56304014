use Rattle.update_theory.proofs.LookupLaws.{old_match_stays, new_match_stays}
use Rattle.update_theory.proofs.laws.own_matches_stay.Goals as goal

pub returns-clause-old : goal.returns-clause-old
returns-clause-old c = old_match_stays

pub returns-clause-new : goal.returns-clause-new
returns-clause-new c = new_match_stays
