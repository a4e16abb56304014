use Rattle.intent_compiler.proofs.IntentAnswering.{means_for}
use Rattle.intent_compiler.proofs.intent_legs.IntentLegsListLegs.keeps_meaning.Goals as goal

pub returns : goal.returns
returns c =
    let k = c.keeps_rules.ensures in
    means_for c.args.self.now.net c.args.self.now.intent k.network k.flat k.intent
