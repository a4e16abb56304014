use Rattle.loose_meaning_theory.proofs.Agreeing.{hop_matter}
use Rattle.loose_meaning_theory.proofs.kind_laws.as_many_choices_matter_as_the_hop_limit_says.Goals as goal

pub returns : goal.returns
returns c = hop_matter
