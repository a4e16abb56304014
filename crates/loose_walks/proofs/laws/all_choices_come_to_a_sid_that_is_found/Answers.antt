use Rattle.loose_walks.proofs.Reaching.{where_found}
use Rattle.loose_walks.proofs.laws.all_choices_come_to_a_sid_that_is_found.Goals as goal

pub returns : goal.returns
returns c = where_found
