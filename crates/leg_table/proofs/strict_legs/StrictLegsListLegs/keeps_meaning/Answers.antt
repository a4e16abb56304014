use Rattle.leg_table.proofs.StrictMeanings.{legs_mean}
use Rattle.leg_table.proofs.strict_legs.StrictLegsListLegs.keeps_meaning.Goals as goal

pub returns : goal.returns
returns c =
    legs_mean c.args.self.now.net c.args.self.now.intent c.keeps_rules.ensures.network c.keeps_rules.ensures.flat
    c.keeps_rules.ensures.intent
