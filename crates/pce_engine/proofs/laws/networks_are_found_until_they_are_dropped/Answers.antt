use Rattle.pce_engine.proofs.OtherNetworks.{found_put, none_left}
use Rattle.pce_engine.proofs.laws.networks_are_found_until_they_are_dropped.Goals as goal

pub returns-clause-held : goal.returns-clause-held
returns-clause-held c = found_put

pub returns-clause-dropped : goal.returns-clause-dropped
returns-clause-dropped c = none_left
