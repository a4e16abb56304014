use Rattle.net_flatness.proofs.FlatLemmas.{flatness_ok}
use Rattle.net_flatness.proofs.laws.flat_networks_are_refused_for_nothing.Goals as goal

pub returns : goal.returns
returns c = flatness_ok
