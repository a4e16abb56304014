use Rattle.v6_addr.proofs.Places4.{one_address4}
use Rattle.v6_addr.proofs.laws.address4_grammar.Goals as goal

pub returns : goal.returns
returns c = one_address4
