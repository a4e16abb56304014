use Rattle.srv6_rules.proofs.Chains.{chain_of_start, chain_at_goes_on, chain_at_upper, chain_at_cut, chain_at_header}
use Rattle.srv6_rules.proofs.chain_laws.chain_goes_on.Goals as goal

pub returns-clause-start : goal.returns-clause-start
returns-clause-start c = chain_of_start

pub returns-clause-each : goal.returns-clause-each
returns-clause-each c = chain_at_goes_on

pub returns-clause-upper : goal.returns-clause-upper
returns-clause-upper c = chain_at_upper

pub returns-clause-cut : goal.returns-clause-cut
returns-clause-cut c = chain_at_cut

pub returns-clause-header : goal.returns-clause-header
returns-clause-header c = chain_at_header
