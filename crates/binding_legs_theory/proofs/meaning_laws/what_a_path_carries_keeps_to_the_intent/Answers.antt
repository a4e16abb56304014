use Rattle.binding_legs_theory.proofs.Means.{path_keeps}
use Rattle.binding_legs_theory.proofs.meaning_laws.what_a_path_carries_keeps_to_the_intent.Goals as goal

pub returns : goal.returns
returns c = path_keeps
