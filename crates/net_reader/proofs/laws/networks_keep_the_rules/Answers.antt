use Rattle.net_reader.proofs.ReadLemmas.{exact_networks}
use Rattle.net_reader.proofs.laws.networks_keep_the_rules.Goals as goal

pub returns : goal.returns
returns c = exact_networks
