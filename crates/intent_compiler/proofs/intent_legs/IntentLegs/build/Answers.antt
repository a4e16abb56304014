use Rattle.std.proofs.Common.{sym, ap, ◌∙◌}
use Rattle.intent_reader.specs.IntentRules.{has_reach}
use Rattle.intent_compiler.proofs.IntentAnswering.{few_sids}
use Rattle.intent_compiler.proofs.intent_legs.IntentLegs.build.Goals as goal

pub build-requires-clause-few : goal.build-requires-clause-few
build-requires-clause-few c =
    few_sids c.args.net.now c.args.intent.now c.requires.intent
    (sym (ap has_reach c.as_slice.ensures) ∙ sym c.has_reach.ensures ∙ c.if-has_reach.true)
