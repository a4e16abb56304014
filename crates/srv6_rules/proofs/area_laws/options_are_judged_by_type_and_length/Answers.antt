use Rattle.srv6_rules.proofs.AreaItems.{pad1_skipped, option_skipped, option_discarded, option_told, option_bad}
use Rattle.srv6_rules.proofs.area_laws.options_are_judged_by_type_and_length.Goals as goal

pub returns-clause-pad1 : goal.returns-clause-pad1
returns-clause-pad1 c = pad1_skipped

pub returns-clause-skipped : goal.returns-clause-skipped
returns-clause-skipped c = option_skipped

pub returns-clause-discarded : goal.returns-clause-discarded
returns-clause-discarded c = option_discarded

pub returns-clause-told : goal.returns-clause-told
returns-clause-told c = option_told

pub returns-clause-bad : goal.returns-clause-bad
returns-clause-bad c = option_bad
