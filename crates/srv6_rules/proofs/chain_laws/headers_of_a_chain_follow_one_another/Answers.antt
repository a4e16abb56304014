use Rattle.srv6_rules.proofs.Chains.{chain_at_follow, follow_ascends, start_stands, behind_stands, chain_at_stand, follow_chain}
use Rattle.srv6_rules.proofs.chain_laws.headers_of_a_chain_follow_one_another.Goals as goal

pub returns-clause-follow : goal.returns-clause-follow
returns-clause-follow c = chain_at_follow

pub returns-clause-ascend : goal.returns-clause-ascend
returns-clause-ascend c = follow_ascends

pub returns-clause-start : goal.returns-clause-start
returns-clause-start c = start_stands

pub returns-clause-behind : goal.returns-clause-behind
returns-clause-behind c = behind_stands

pub returns-clause-stand : goal.returns-clause-stand
returns-clause-stand c = chain_at_stand

pub returns-clause-only : goal.returns-clause-only
returns-clause-only c = follow_chain
