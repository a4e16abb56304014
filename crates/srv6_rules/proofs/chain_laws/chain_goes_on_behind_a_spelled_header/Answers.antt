use Rattle.srv6_rules.proofs.Chains.{chain_at_spelled}
use Rattle.srv6_rules.proofs.chain_laws.chain_goes_on_behind_a_spelled_header.Goals as goal

pub returns : goal.returns
returns c = chain_at_spelled
