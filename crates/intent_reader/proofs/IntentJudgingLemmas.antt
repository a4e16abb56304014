-- An intent that is given keeps the rules in its network.
use Rattle.std.proofs.Common.{◌≡◌, ℕ, suc, ◌<◌, ◌≤◌, ◌^◌, ◌&&◌, Bool, true, List, [], ◌∷◌, length, Some, refl, ap, arith}
use Rattle.std.specs.Prelude.{Ok}
use Rattle.std.specs.Option.{is_some}
use Rattle.std.specs.Str.{bytes_eq}
use Rattle.std.proofs.lemmas.Bool.{le-leb, lt-ltb}
use Rattle.std.proofs.lemmas.Option.{slice_get_within}
use Rattle.net_model.specs.Network.{Network}
use Rattle.net_model.specs.Named.{node_numbered}
use Rattle.net_model.proofs.PublicLaws.{position_item}
use Rattle.toml_reader.specs.TomlReading.{or_fault}
use Rattle.net_syntax.specs.declared.limits.TheConstants.{MAX_STEPS}
use Rattle.net_syntax.specs.declared.step_table.DescribedStep.{DescribedStep}
use Rattle.net_syntax.specs.declared.intent_table.DescribedIntent.{DescribedIntent}
use Rattle.intent_reader.specs.declared.intent.Step.{Step}
use Rattle.intent_reader.specs.declared.intent.Intent.{Intent}
use Rattle.intent_reader.specs.declared.fault.IntentFault.TheVariants as faults
use Rattle.intent_reader.specs.declared.fault.StepFault.TheVariants as kinds
use Rattle.intent_reader.specs.IntentRules.{node_after, stand_after, ends_in_function, is_within_loose_limit}
use Rattle.intent_reader.specs.IntentRulesTerms.{is_intent, IsIntent}
use Rattle.intent_reader.specs.Described.{InRange}
use Rattle.intent_reader.specs.IntentJudging.{step_named, astray, steps_from, intent_with, judged}
use Rattle.intent_reader.proofs.GivenLemmas.{Holds, of_value, after, tested, tested_on, found}

-- the walk over the steps from a node stands somewhere, and they are as many as were described
record Walks (net : Network) (node : ℕ) (ds : List DescribedStep) (steps : List Step) : Type 0 where
  stands : is_some (stand_after net node steps) ≡ true
  count : length steps ≡ length ds

walks_on : (net : Network) (node next : ℕ) (d : DescribedStep) (ds : List DescribedStep) (s : Step) (steps : List Step)
    → node_after net node s ≡ Some next → Walks net next ds steps → Walks net node (d ∷ ds) (s ∷ steps)
walks_on net node next d ds s steps leads walk = record { stands = rw leads walk.stands; count = ap suc walk.count }

steps_walk : (net : Network) (k node : ℕ) (ds : List DescribedStep) → Holds (Walks net node ds) (steps_from net k node ds)
steps_walk net k node [] = of_value (Walks net node []) [] (record { stands = refl; count = refl })
steps_walk net k node (d ∷ ds) =
    after (Walks net node (d ∷ ds)) (step_named net k d) _ (λ s e.
    after (Walks net node (d ∷ ds)) (or_fault (astray k s) (node_after net node s)) _ (λ next f.
    after (Walks net node (d ∷ ds)) (steps_from net (suc k) next ds) _ (λ steps g.
    of_value (Walks net node (d ∷ ds)) (s ∷ steps) (
    walks_on net node next d ds s steps (found (astray k s) (node_after net node s) next f)
    ((steps_walk net (suc k) next ds).given steps g)))))

both : (a b : Bool) → a ≡ true → b ≡ true → (a && b) ≡ true
both a b e f = rw (e, f) refl

keeps_all : (net : Network) (d : DescribedIntent) (headend : ℕ) (steps : List Step) → InRange d → headend < length net.nodes
    → Walks net headend d.steps steps → ends_in_function steps ≡ true → is_within_loose_limit net steps ≡ true
    → IsIntent net (intent_with d headend steps)
unfolding is_intent
keeps_all net d headend steps range within walk last few =
    let some : 1 ≤ length steps = omega (arith, range.some_steps, walk.count) in
    let most : length steps ≤ MAX_STEPS = omega (arith, range.most_steps, walk.count) in
    let label : d.flow_label < 2 ^ 20 = omega (arith, range.flow_label) in
    both _ _ (lt-ltb _ _ within) (both _ _ (le-leb _ _ range.hop_limit) (both _ _ (le-leb _ _ range.some_containers)
    (both _ _ (le-leb _ _ range.most_containers) (both _ _ (lt-ltb _ _ label) (both _ _ (le-leb _ _ some)
    (both _ _ (le-leb _ _ most) (both _ _ walk.stands (both _ _ last few))))))))

node_within : (net : Network) (name : List ℕ) (node : ℕ) → node_numbered name net.nodes ≡ Some node → node < length net.nodes
node_within net name node h =
    let item = position_item (λ n. bytes_eq n.name name) net.nodes node h in
    slice_get_within net.nodes node item.0 item.1

judged_holds : (net : Network) (d : DescribedIntent) → InRange d → Holds (IsIntent net) (judged net d)
judged_holds net d range =
    after (IsIntent net) (or_fault (faults.AtStep 0 kinds.UnknownName) (node_numbered d.headend net.nodes)) _ (λ headend e.
    after (IsIntent net) (steps_from net 1 headend d.steps) _ (λ steps f.
    tested_on (IsIntent net) (ends_in_function steps) _ _ (λ last.
    tested (IsIntent net) (is_within_loose_limit net steps) _ _ (λ few.
    keeps_all net d headend steps range
    (node_within net d.headend headend (found (faults.AtStep 0 kinds.UnknownName) (node_numbered d.headend net.nodes) headend e))
    ((steps_walk net 1 headend d.steps).given steps f) last few))))

pub judged_keeps : (net : Network) (d : DescribedIntent) (i : Intent) → InRange d → judged net d ≡ Ok i → IsIntent net i
judged_keeps net d i range h = (judged_holds net d range).given i h

pub ruleset kept_intents = (judged_keeps)
