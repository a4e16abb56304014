use Rattle.pce_engine.proofs.OtherNetworks.{others_stay}
use Rattle.pce_engine.proofs.laws.other_networks_stay.Goals as goal

pub returns : goal.returns
returns c = others_stay
