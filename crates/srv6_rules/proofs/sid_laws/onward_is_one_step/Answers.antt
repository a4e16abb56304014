use Rattle.srv6_rules.proofs.EndpointSteps.{at_sid_steps, at_sid_bytes, at_sid_steps_psp}
use Rattle.srv6_rules.proofs.sid_laws.onward_is_one_step.Goals as goal

pub returns-clause-step : goal.returns-clause-step
returns-clause-step c = at_sid_steps

pub returns-clause-bytes : goal.returns-clause-bytes
returns-clause-bytes c = at_sid_bytes

pub returns-clause-psp : goal.returns-clause-psp
returns-clause-psp c = at_sid_steps_psp
