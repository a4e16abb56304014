use Rattle.leg_table.proofs.FlatNets.{flat_facts}
use Rattle.leg_table.proofs.StrictLaws.{strict_laws}
use Rattle.leg_table.proofs.strict_legs.StrictLegsLegs.steps.Goals as goal

pub returns-clause-laws : goal.returns-clause-laws
returns-clause-laws c =
    strict_laws c.args.self.now.net c.args.self.now.intent c.keeps_rules.ensures.facts
    (flat_facts c.args.self.now.net c.keeps_rules.ensures.network c.keeps_rules.ensures.flat) c.keeps_rules.ensures.intent
