use Rattle.intent_compiler.proofs.IntentAnswering.{laws_for}
use Rattle.intent_compiler.proofs.intent_legs.IntentLegsLegs.steps.Goals as goal

pub returns-clause-laws : goal.returns-clause-laws
returns-clause-laws c =
    let k = c.keeps_rules.ensures in
    laws_for c.args.self.now.net c.args.self.now.intent k.network k.flat k.intent
