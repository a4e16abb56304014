use Rattle.intent_compiler.proofs.IntentStrict.{answers_strict, executes_strict, handing_strict, hands_strict, legs_strict, none_less_strict, realizes_strict, says_strict}
use Rattle.intent_compiler.proofs.laws.without_binding_sids_answers_are_strict.Goals as goal

pub returns-clause-legs : goal.returns-clause-legs
returns-clause-legs c net intent reach none = legs_strict net intent none reach

pub returns-clause-realizes : goal.returns-clause-realizes
returns-clause-realizes c net intent list need reach none = realizes_strict net intent none reach list need

pub returns-clause-executes : goal.returns-clause-executes
returns-clause-executes c net intent list count reach none = executes_strict net intent none reach list count

pub returns-clause-hands : goal.returns-clause-hands
returns-clause-hands c net intent list hop reach none = hands_strict net intent none reach list hop

pub returns-clause-answers : goal.returns-clause-answers
returns-clause-answers c net intent answer reach none = answers_strict net intent none reach answer

pub returns-clause-none_less : goal.returns-clause-none_less
returns-clause-none_less c net intent answer reach none = none_less_strict net intent none reach answer

pub returns-clause-says : goal.returns-clause-says
returns-clause-says c net intent verdict reach none = says_strict net intent none reach verdict

pub returns-clause-handing : goal.returns-clause-handing
returns-clause-handing c net intent verdict reach none = handing_strict net intent none reach verdict
