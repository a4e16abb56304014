use Rattle.net_without.proofs.LookupsLeft.{left_lookups, left_route_places}
use Rattle.net_without.proofs.laws.networks_left_look_up_what_is_left.Goals as goal

pub returns-clause-lookups : goal.returns-clause-lookups
returns-clause-lookups c = left_lookups

pub returns-clause-routes : goal.returns-clause-routes
returns-clause-routes c = left_route_places
