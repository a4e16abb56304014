use Rattle.loose_meaning_theory.proofs.LooseListSmalls.{loose_keeps_law}
use Rattle.loose_meaning_theory.proofs.list_laws.what_is_small_keeps_to_the_steps.Goals as goal

pub returns : goal.returns
returns c = loose_keeps_law
