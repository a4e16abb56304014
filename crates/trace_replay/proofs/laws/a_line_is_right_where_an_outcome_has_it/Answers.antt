use Rattle.trace_replay.proofs.WalkLinesRight.{given_choice, given_outcome}
use Rattle.trace_replay.proofs.laws.a_line_is_right_where_an_outcome_has_it.Goals as goal

pub returns-clause-outcome : goal.returns-clause-outcome
returns-clause-outcome c = λ net place content line keeps is. given_outcome net place content keeps is line

pub returns-clause-choice : goal.returns-clause-choice
returns-clause-choice c = λ net place content line keeps is. given_choice net place content keeps is line
