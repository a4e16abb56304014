use Rattle.intent_compiler.proofs.AnyPreference.{executes_alike, hands_alike, no_list_alike, realizes_alike}
use Rattle.intent_compiler.proofs.laws.no_list_whichever_is_preferred.Goals as goal

pub returns-clause-realizes : goal.returns-clause-realizes
returns-clause-realizes c net intent other list need same = realizes_alike net intent other same list need

pub returns-clause-executes : goal.returns-clause-executes
returns-clause-executes c net intent other list count same = executes_alike net intent other same list count

pub returns-clause-hands : goal.returns-clause-hands
returns-clause-hands c net intent other list hop same = hands_alike net intent other same list hop

pub returns-clause-none : goal.returns-clause-none
returns-clause-none c net intent other a b same = no_list_alike net intent other same a b
