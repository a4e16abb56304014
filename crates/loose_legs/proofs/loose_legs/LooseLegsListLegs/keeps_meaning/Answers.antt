use Rattle.loose_meaning_theory.proofs.LooseListMeaning.{loose_means}
use Rattle.loose_legs.specs.IntentSteps.{trace_steps}
use Rattle.loose_legs.proofs.loose_legs.LooseLegsListLegs.keeps_meaning.Goals as goal

pub returns : goal.returns
returns c =
    let intent = c.args.self.now.intent in
    let k = c.keeps_rules.ensures in
    loose_means c.args.self.now.net intent (trace_steps intent) k.network k.flat k.steps k.few
