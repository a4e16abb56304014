use Rattle.binding_legs.proofs.OriginTables.{origins_from}
use Rattle.binding_legs.proofs.binding_legs.BindingLegs.origin.Goals as goal

pub returns-clause-origins : goal.returns-clause-origins
returns-clause-origins c =
    origins_from c.args.self.now.net c.keeps_rules.ensures.facts c.args.self.now.intent c.keeps_rules.ensures.intent
    c.args.position c.args.via c.origin_from.result c.origin_from.ensures
