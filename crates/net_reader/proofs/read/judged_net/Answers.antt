use Rattle.std.proofs.Common.{refl}
use Rattle.net_model.specs.NetworkTerms.{network_of}
use Rattle.net_reader.proofs.ReadLemmas.{few_in_range, built_whole}
use Rattle.net_reader.proofs.read.judged_net.Goals as goal

pub join-requires-clause-few_nodes : goal.join-requires-clause-few_nodes
join-requires-clause-few_nodes c = (few_in_range c.args.said.now c.requires).0

pub join-requires-clause-few_links : goal.join-requires-clause-few_links
join-requires-clause-few_links c = (few_in_range c.args.said.now c.requires).1

pub join-requires-clause-few_policies : goal.join-requires-clause-few_policies
join-requires-clause-few_policies c = (few_in_range c.args.said.now c.requires).2

pub join-requires-clause-few_sids : goal.join-requires-clause-few_sids
join-requires-clause-few_sids c = (few_in_range c.args.said.now c.requires).3

pub build-requires : goal.build-requires
build-requires c = rw c.in_ok-parts.ensures c.requires

pub returns-clause-whole : goal.returns-clause-whole
returns-clause-whole c = built_whole (network_of c.in_ok-parts.parts) c.build.result refl c.build.ensures.value
