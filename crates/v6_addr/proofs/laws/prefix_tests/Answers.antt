use Rattle.v6_addr.proofs.PrefixFacts.{holds_address_is, is_inside_is}
use Rattle.v6_addr.proofs.laws.prefix_tests.Goals as goal

pub returns : goal.returns
returns c = record { holds = holds_address_is; inside = is_inside_is }
