use Rattle.leg_table.proofs.StrictMeanings.{path_realizes}
use Rattle.leg_table.proofs.laws.a_path_realizes_the_intent.Goals as goal

pub returns-clause-realizes : goal.returns-clause-realizes
returns-clause-realizes c = λ net intent list sids need network flat is_intent legal names is_path.
    (path_realizes net intent network flat is_intent list legal sids need names is_path).0

pub returns-clause-executes : goal.returns-clause-executes
returns-clause-executes c = λ net intent list sids need network flat is_intent legal names is_path.
    (path_realizes net intent network flat is_intent list legal sids need names is_path).1
