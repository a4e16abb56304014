use Rattle.trace_commands.proofs.Replaying.{out_receives, unended_refused, whole_right}
use Rattle.trace_commands.proofs.laws.what_is_traced_is_replayed.Goals as goal

pub returns-clause-out : goal.returns-clause-out
returns-clause-out c = out_receives

pub returns-clause-whole : goal.returns-clause-whole
returns-clause-whole c = whole_right (λ text net is. ((c.networks_keep_the_rules.ensures text net).0 is).3)

pub returns-clause-unended : goal.returns-clause-unended
returns-clause-unended c = unended_refused (λ text net is. ((c.networks_keep_the_rules.ensures text net).0 is).3)
