use Rattle.leg_table.proofs.StrictStarts.{place_is}
use Rattle.leg_table.proofs.strict_legs.StrictLegs.place.Goals as goal

pub returns-clause-is_origin : goal.returns-clause-is_origin
returns-clause-is_origin c =
    place_is c.args.self.now.net c.keeps_rules.ensures.facts c.args.self.now.intent c.keeps_rules.ensures.intent c.args.position c.args.via
    c.start.result c.start.ensures
