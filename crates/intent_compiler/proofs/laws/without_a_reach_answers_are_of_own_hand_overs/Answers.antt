use Rattle.intent_compiler.proofs.LooseKinds.{answers_own, executes_own, handing_own, hands_own, legs_own, none_less_own, realizes_own, says_own}
use Rattle.intent_compiler.proofs.laws.without_a_reach_answers_are_of_own_hand_overs.Goals as goal

pub returns-clause-legs : goal.returns-clause-legs
returns-clause-legs c net intent none = legs_own net intent none

pub returns-clause-realizes : goal.returns-clause-realizes
returns-clause-realizes c net intent list need none = realizes_own net intent none list need

pub returns-clause-executes : goal.returns-clause-executes
returns-clause-executes c net intent list count none = executes_own net intent none list count

pub returns-clause-hands : goal.returns-clause-hands
returns-clause-hands c net intent list hop none = hands_own net intent none list hop

pub returns-clause-answers : goal.returns-clause-answers
returns-clause-answers c net intent answer none = answers_own net intent none answer

pub returns-clause-none_less : goal.returns-clause-none_less
returns-clause-none_less c net intent answer none = none_less_own net intent none answer

pub returns-clause-says : goal.returns-clause-says
returns-clause-says c net intent verdict none = says_own net intent none verdict

pub returns-clause-handing : goal.returns-clause-handing
returns-clause-handing c net intent verdict none = handing_own net intent none verdict
