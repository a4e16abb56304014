use Rattle.srv6_rules.proofs.CutPackets.{without_first_chain, chain_at_split}
use Rattle.srv6_rules.proofs.HeaderTakenOut.{without_others, without_length, without_behind, without_front, without_spellable, without_later_chain}
use Rattle.srv6_rules.proofs.chain_laws.header_taken_out_leaves_the_chain.Goals as goal

pub returns-clause-others : goal.returns-clause-others
returns-clause-others c = without_others

pub returns-clause-length : goal.returns-clause-length
returns-clause-length c = without_length

pub returns-clause-behind : goal.returns-clause-behind
returns-clause-behind c = without_behind

pub returns-clause-front : goal.returns-clause-front
returns-clause-front c = without_front

pub returns-clause-spellable : goal.returns-clause-spellable
returns-clause-spellable c = without_spellable

pub returns-clause-first : goal.returns-clause-first
returns-clause-first c = without_first_chain

pub returns-clause-later : goal.returns-clause-later
returns-clause-later c = without_later_chain

pub returns-clause-split : goal.returns-clause-split
returns-clause-split c = chain_at_split
