use Rattle.update_theory.proofs.OldLookups.{old_lookups, hidden_lookups}
use Rattle.update_theory.proofs.LookupLaws.{old_routes, old_sids, new_lookups}
use Rattle.update_theory.proofs.laws.joined_networks_look_up_as_both.Goals as goal

pub returns-clause-old : goal.returns-clause-old
returns-clause-old c = old_lookups

pub returns-clause-old_routes : goal.returns-clause-old_routes
returns-clause-old_routes c = old_routes

pub returns-clause-old_sids : goal.returns-clause-old_sids
returns-clause-old_sids c = old_sids

pub returns-clause-new : goal.returns-clause-new
returns-clause-new c = new_lookups

pub returns-clause-hidden : goal.returns-clause-hidden
returns-clause-hidden c = hidden_lookups
