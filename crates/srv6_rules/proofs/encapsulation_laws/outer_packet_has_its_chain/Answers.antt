use Rattle.std.proofs.Common.{refl}
use Rattle.srv6_rules.proofs.Encapsulations.{outer_chain_law, outer_inner}
use Rattle.srv6_rules.proofs.encapsulation_laws.outer_packet_has_its_chain.Goals as goal

pub returns-clause-chain : goal.returns-clause-chain
returns-clause-chain c = outer_chain_law

pub returns-clause-inner : goal.returns-clause-inner
returns-clause-inner c = outer_inner

pub returns-clause-place : goal.returns-clause-place
returns-clause-place c = λ e. refl
