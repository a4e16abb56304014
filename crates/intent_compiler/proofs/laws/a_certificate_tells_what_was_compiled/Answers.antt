use Rattle.intent_compiler.proofs.IntentAnswering.{certifies_for, found_for, none_for}
use Rattle.intent_compiler.proofs.laws.a_certificate_tells_what_was_compiled.Goals as goal

pub returns-clause-found : goal.returns-clause-found
returns-clause-found c = found_for

pub returns-clause-none : goal.returns-clause-none
returns-clause-none c = none_for

pub returns-clause-answers : goal.returns-clause-answers
returns-clause-answers c = certifies_for
