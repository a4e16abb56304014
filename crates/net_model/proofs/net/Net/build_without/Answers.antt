use Rattle.net_model.specs.NetworkTerms.{network_of}
use Rattle.net_model.proofs.SidLaws.{enough_law}
use Rattle.net_model.proofs.net.Net.build_without.Goals as goal

pub invariant_of-result : goal.invariant_of-result
invariant_of-result c = record {
  rules = enough_law (network_of c.args.parts) c.args.standings.now c.requires.range c.in_ok-judge_parts.ensures;
  range = c.requires.range;
  flags = c.in_ok-hidden.ensures.flags;
  tables = c.in_ok-tables.ensures;
}
