use Rattle.net_model.proofs.NetworkKeepsLemmas.{keeps_from_network, link_set_from}
use Rattle.net_model.proofs.laws.rules_mean_their_facts.Goals as goal

pub returns : goal.returns
returns c = record { network = keeps_from_network; set = link_set_from }
