use Rattle.intent_compiler.proofs.LooseKinds.{answers_loose, handing_loose, legs_loose, none_less_loose, says_loose}
use Rattle.intent_compiler.proofs.laws.with_a_reach_answers_are_loose.Goals as goal

pub returns-clause-legs : goal.returns-clause-legs
returns-clause-legs c net intent some = legs_loose net intent some

pub returns-clause-answers : goal.returns-clause-answers
returns-clause-answers c net intent answer some = answers_loose net intent some answer

pub returns-clause-none_less : goal.returns-clause-none_less
returns-clause-none_less c net intent answer some = none_less_loose net intent some answer

pub returns-clause-says : goal.returns-clause-says
returns-clause-says c net intent verdict some = says_loose net intent some verdict

pub returns-clause-handing : goal.returns-clause-handing
returns-clause-handing c net intent verdict some = handing_loose net intent some verdict
