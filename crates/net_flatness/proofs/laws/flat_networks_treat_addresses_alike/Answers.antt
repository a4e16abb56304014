use Rattle.net_flatness.proofs.AlikeLemmas.{lookups_alike, own_sid_is_best, one_sid_prefix}
use Rattle.net_flatness.proofs.laws.flat_networks_treat_addresses_alike.Goals as goal

pub returns-clause-alike : goal.returns-clause-alike
returns-clause-alike c = lookups_alike

pub returns-clause-own : goal.returns-clause-own
returns-clause-own c = own_sid_is_best

pub returns-clause-one : goal.returns-clause-one
returns-clause-one c = one_sid_prefix
