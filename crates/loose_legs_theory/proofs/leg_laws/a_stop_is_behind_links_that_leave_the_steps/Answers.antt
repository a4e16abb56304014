use Rattle.loose_legs_theory.proofs.LooseLegLinks.{stop_links}
use Rattle.loose_legs_theory.proofs.leg_laws.a_stop_is_behind_links_that_leave_the_steps.Goals as goal

pub returns : goal.returns
returns c net ts ss stop = stop_links net ts ss stop
