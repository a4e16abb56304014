use Rattle.leg_table.proofs.StrictMeanings.{list_path}
use Rattle.leg_table.proofs.laws.a_list_that_always_hands_over_is_a_path.Goals as goal

pub returns : goal.returns
returns c = λ net intent list inner hop network flat is_intent legal positive always.
    list_path net intent network flat is_intent list legal inner hop positive always
