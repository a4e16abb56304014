-- The steps of an intent that keeps the rules are steps.
use Rattle.std.proofs.Common.{◌≡◌, ◌≤◌, ℕ, List, [], ◌∷◌, map, length, Option, Some, None, is_some, refl, ◌∙◌, ap, arith}
use Rattle.std.specs.Option.{option_and_then}
use Rattle.std.proofs.lemmas.List.{length-map}
use Rattle.net_model.specs.Network.{Network}
use Rattle.intent_reader.specs.IntentRules as rules
use Rattle.intent_reader.specs.IntentRulesTerms.{IsIntent}
use Rattle.intent_reader.specs.declared.intent.Intent.{Intent}
use Rattle.intent_reader.specs.declared.intent.Step.{Step}
use Rattle.intent_reader.specs.declared.intent.Step.TheVariants as intents
use Rattle.leg_table.proofs.PublicLaws.{intent_stands}
use Rattle.loose_spec.specs.LooseSteps.{node_after, stand_after}
use Rattle.loose_legs_theory.specs.LooseStepsTerms.{AreSteps}
use Rattle.loose_legs.specs.IntentSteps.{trace_step, trace_steps}

step_same : (net : Network) (node : ℕ) (step : Step) → node_after net node (trace_step step) ≡ rules.node_after net node step
step_same net node (intents.Links set) = refl
step_same net node (intents.Function sid) = refl
step_same net node (intents.Reach reached) = refl

stand_same : (net : Network) (node : ℕ) (steps : List Step) → stand_after net node (map trace_step steps) ≡ rules.stand_after net node steps
stand_same net node [] = refl
stand_same net node (s ∷ ss) =
    ap (option_and_then (λ next. stand_after net next (map trace_step ss))) (step_same net node s)
    ∙ by_next (rules.node_after net node s) (λ next. stand_same net next ss)
  where
    by_next : (o : Option ℕ) → ((next : ℕ) → stand_after net next (map trace_step ss) ≡ rules.stand_after net next ss)
        → option_and_then (λ next. stand_after net next (map trace_step ss)) o ≡ option_and_then (λ next. rules.stand_after net next ss) o
    by_next None ih = refl
    by_next (Some next) ih = ih next

pub steps_long : (intent : Intent) → length (trace_steps intent) ≡ length intent.steps
steps_long intent = length-map intent.steps trace_step

pub are_steps : (net : Network) (intent : Intent) → IsIntent net intent → AreSteps net intent (trace_steps intent)
are_steps net intent is =
    let s = intent_stands net intent is in
    let long = steps_long intent in
    let few : length intent.steps ≤ 48 = s.1 in
    record {
      headend = s.3;
      few = omega (arith, long, few);
      stands = ap is_some (stand_same net intent.headend intent.steps) ∙ s.0;
    }
