use Rattle.net_flatness.proofs.NestLaws.{inside_is_nested, nests_are_not_nested, nest_block}
use Rattle.net_flatness.proofs.laws.nested_sids.Goals as goal

pub returns-clause-inside : goal.returns-clause-inside
returns-clause-inside c = inside_is_nested

pub returns-clause-depth : goal.returns-clause-depth
returns-clause-depth c = nests_are_not_nested

pub returns-clause-block : goal.returns-clause-block
returns-clause-block c = nest_block
