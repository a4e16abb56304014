use Rattle.tunnel_walks_theory.proofs.TunnelWalks.{choices_one, one_choices, choices_agree, choices_rows}
use Rattle.tunnel_walks_theory.proofs.laws.all_choices_are_one_walk.Goals as goal

pub returns-clause-one : goal.returns-clause-one
returns-clause-one g c = choices_one

pub returns-clause-all : goal.returns-clause-all
returns-clause-all g c = one_choices

pub returns-clause-agree : goal.returns-clause-agree
returns-clause-agree g c = choices_agree

pub returns-clause-rows : goal.returns-clause-rows
returns-clause-rows g c = choices_rows
