use Rattle.net_model.specs.NetworkTerms.{network_of}
use Rattle.net_flatness.proofs.SearchLemmas.{first_of_all}
use Rattle.net_flatness.proofs.nested.first_entry_inside.Goals as goal

pub returns : goal.returns
returns c = cc (first_of_all (network_of c.args.parts.now) c.args.outer.now)
