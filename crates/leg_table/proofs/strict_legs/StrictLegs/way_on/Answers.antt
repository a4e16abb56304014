use Rattle.leg_table.proofs.StrictStarts.{few_on}
use Rattle.leg_table.proofs.strict_legs.StrictLegs.way_on.Goals as goal

pub returns-clause-few : goal.returns-clause-few
returns-clause-few c =
    few_on c.args.self.now.net c.keeps_rules.ensures.facts c.args.self.now.intent c.keeps_rules.ensures.intent c.args.position
    c.args.place.now c.requires.start c.args.next c.way_found.result c.way_found.ensures
