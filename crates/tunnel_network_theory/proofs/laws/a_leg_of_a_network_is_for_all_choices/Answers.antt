use Rattle.tunnel_network_theory.proofs.Meetings.{leg_meets, leg_met, transit_meets, transit_met}
use Rattle.tunnel_network_theory.proofs.laws.a_leg_of_a_network_is_for_all_choices.Goals as goal

pub returns-clause-behind : goal.returns-clause-behind
returns-clause-behind c = leg_meets

pub returns-clause-behind_each : goal.returns-clause-behind_each
returns-clause-behind_each c = leg_met

pub returns-clause-alone : goal.returns-clause-alone
returns-clause-alone c = transit_meets

pub returns-clause-alone_each : goal.returns-clause-alone_each
returns-clause-alone_each c = transit_met
