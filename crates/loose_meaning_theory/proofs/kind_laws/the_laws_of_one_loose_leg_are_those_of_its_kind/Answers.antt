use Rattle.loose_meaning_theory.proofs.Together.{loose_kind_laws}
use Rattle.loose_meaning_theory.proofs.kind_laws.the_laws_of_one_loose_leg_are_those_of_its_kind.Goals as goal

pub returns : goal.returns
returns c = loose_kind_laws
