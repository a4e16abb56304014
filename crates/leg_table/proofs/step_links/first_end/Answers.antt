use Rattle.std.proofs.Common.{◌∙◌}
use Rattle.leg_table.proofs.StrictCourses.{first_end_far, end_within}
use Rattle.leg_table.proofs.step_links.first_end.Goals as goal

pub returns-clause-value : goal.returns-clause-value
returns-clause-value c = c.far_end.ensures ∙ first_end_far c.args.net.now c.args.set.now c.requires.some

pub returns-clause-is_there : goal.returns-clause-is_there
returns-clause-is_there c = end_within c.args.net.now c.keeps_rules.ensures.facts _ c.far_end.result c.far_end.ensures
