use Rattle.binding_legs_theory.proofs.Means.{binding_means}
use Rattle.binding_legs_theory.proofs.meaning_laws.legs_through_binding_sids_mean_lists.Goals as goal

pub returns : goal.returns
returns c = binding_means
