use Rattle.leg_table.proofs.StrictChoices.{choices_every}
use Rattle.leg_table.proofs.laws.every_way_is_for_all_choices.Goals as goal

pub returns : goal.returns
returns c = choices_every
