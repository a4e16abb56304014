use Rattle.command_inputs.proofs.ChoiceLemmas.{read_choices}
use Rattle.command_inputs.proofs.choices.choices_of_words.Goals as goal

pub returns-in-len1-clause-some : goal.returns-in-len1-clause-some
returns-in-len1-clause-some c = read_choices c.choices_of.result c.as_str.result.now c.choices_of.ensures
