use Rattle.std.proofs.Common.{sym, ap, ◌∙◌}
use Rattle.command_inputs.specs.ChoiceWordsTerms.{items_of}
use Rattle.command_inputs.proofs.ChoiceLemmas.{choices_in_some}
use Rattle.command_inputs.proofs.choices.picks_of.Goals as goal

pub returns-in-Some-schedule-clause-some : goal.returns-in-Some-schedule-clause-some
returns-in-Some-schedule-clause-some c =
    choices_in_some c.args.choices.now c.in-Some.choices.items (ap items_of (sym c.in-Some.is) ∙ c.in_ok-choices.ensures)
