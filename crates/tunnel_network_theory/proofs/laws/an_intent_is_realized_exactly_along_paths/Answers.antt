use Rattle.tunnel_network_theory.proofs.HeadendPaths.{own_path, own_sids}
use Rattle.tunnel_network_theory.proofs.laws.an_intent_is_realized_exactly_along_paths.Goals as goal

pub returns-clause-path : goal.returns-clause-path
returns-clause-path c = own_path

pub returns-clause-sids : goal.returns-clause-sids
returns-clause-sids c = own_sids
