-- Need not be believed: helps proofs and other laws.
-- What holds of what an intent's text says, and the intent over its names whether or not it keeps the rules.
use Rattle.std.specs.Prelude.{◌≤◌, List, [], ◌∷◌, length, Option, Some, option_map}
use Rattle.std.specs.Option.{option_and_then}
use Rattle.net_model.specs.declared.limits.TheConstants.{LAST_FLOW_LABEL}
use Rattle.net_model.specs.Network.{Network}
use Rattle.net_model.specs.Named.{node_numbered, link_numbered}
use Rattle.net_syntax.specs.declared.limits.TheConstants.{MAX_STEPS, MAX_CONTAINERS}
use Rattle.net_syntax.specs.declared.step_table.DescribedStep.{DescribedStep}
use Rattle.net_syntax.specs.declared.step_table.DescribedStep.TheVariants as described
use Rattle.net_syntax.specs.declared.intent_table.DescribedIntent.{DescribedIntent}
use Rattle.intent_reader.specs.declared.intent.Step.{Step}
use Rattle.intent_reader.specs.declared.intent.Step.TheVariants.{Links, Function, Reach}
use Rattle.intent_reader.specs.declared.intent.Intent.{Intent}
use Rattle.intent_reader.specs.Functions.{function_numbered}
use Rattle.intent_reader.specs.IntentJudging.{intent_with}

-- its numbers are in their ranges, and it has some steps, but not too many
pub record InRange (d : DescribedIntent) : Type 0 where
  pub hop_limit : 1 ≤ d.hop_limit
  pub some_containers : 1 ≤ d.max_containers
  pub most_containers : d.max_containers ≤ MAX_CONTAINERS
  pub flow_label : d.flow_label ≤ LAST_FLOW_LABEL
  pub some_steps : 1 ≤ length d.steps
  pub most_steps : length d.steps ≤ MAX_STEPS

-- what each item of a list gives, if each gives something
abbrev pub all_some : {X Y : Type 0} → (X → Option Y) → List X → Option (List Y)
all_some give [] = Some []
all_some give (x ∷ xs) = option_and_then (λ y. option_map (λ ys. y ∷ ys) (all_some give xs)) (give x)

-- a step over the numbers of its names, if each is known
abbrev pub step_by_names : Network → DescribedStep → Option Step
step_by_names net (described.Links names) = option_map Links (all_some (λ name. link_numbered name net.links) names)
step_by_names net (described.Function title) = option_map Function (function_numbered title net)
step_by_names net (described.Reach name) = option_map Reach (node_numbered name net.nodes)

-- the intent over the numbers of its names, if each is known
abbrev pub intent_by_names : Network → DescribedIntent → Option Intent
intent_by_names net d = option_and_then
    (λ headend. option_map (intent_with d headend) (all_some (step_by_names net) d.steps))
    (node_numbered d.headend net.nodes)
