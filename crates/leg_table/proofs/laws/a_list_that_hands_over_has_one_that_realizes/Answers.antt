use Rattle.leg_table.proofs.StrictMeanings.{hands_realizes}
use Rattle.leg_table.proofs.laws.a_list_that_hands_over_has_one_that_realizes.Goals as goal

pub returns : goal.returns
returns c = λ net intent list inner hop network flat is_intent legal positive always.
    hands_realizes net intent network flat is_intent list legal inner hop positive always
