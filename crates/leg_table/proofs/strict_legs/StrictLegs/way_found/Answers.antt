use Rattle.leg_table.proofs.strict_legs.StrictLegs.way_found.Goals as goal

pub way_from-requires-clause-few_lowered : goal.way_from-requires-clause-few_lowered
way_from-requires-clause-few_lowered c = (c.later.ensures c.args.place.now.node c.requires.start.stands).1
