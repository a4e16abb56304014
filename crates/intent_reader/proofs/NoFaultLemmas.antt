-- No fault is found exactly where the names are known and the intent over their numbers keeps the rules.
use Rattle.std.proofs.Common.{◌≡◌, ◌↔◌, ℕ, suc, ◌^◌, true, List, [], ◌∷◌, length, Option, Some, None, refl, sym, ap, subst}
use Rattle.std.specs.Prelude.{nat_lt, nat_le, Ok, option_map}
use Rattle.std.specs.Option.{option_and_then, is_some}
use Rattle.std.proofs.lemmas.Bool.{and_parts}
use Rattle.std.proofs.lemmas.Option.{same_Some, cond_some}
use Rattle.net_model.specs.Network.{Network}
use Rattle.net_model.specs.Named.{node_numbered, link_numbered}
use Rattle.net_model.specs.NetworkRules.{are_distinct, same_number}
use Rattle.toml_reader.specs.TomlReading.{or_fault}
use Rattle.net_syntax.specs.declared.limits.TheConstants.{MAX_STEPS, MAX_CONTAINERS}
use Rattle.net_syntax.specs.declared.step_table.DescribedStep.{DescribedStep}
use Rattle.net_syntax.specs.declared.step_table.DescribedStep.TheVariants as described
use Rattle.net_syntax.specs.declared.intent_table.DescribedIntent.{DescribedIntent}
use Rattle.intent_reader.specs.declared.intent.Step.{Step}
use Rattle.intent_reader.specs.declared.intent.Step.TheVariants.{Links, Function, Reach}
use Rattle.intent_reader.specs.declared.intent.Intent.{Intent}
use Rattle.intent_reader.specs.declared.fault.IntentFault.TheVariants as faults
use Rattle.intent_reader.specs.declared.fault.StepFault.TheVariants as kinds
use Rattle.intent_reader.specs.Functions.{function_numbered}
use Rattle.intent_reader.specs.IntentReading.{each_of}
use Rattle.intent_reader.specs.IntentRules.{far_node, first_end, node_after, stand_after, ends_in_function, is_within_loose_limit}
use Rattle.intent_reader.specs.IntentRulesTerms.{is_intent, IsIntent}
use Rattle.intent_reader.specs.Described.{InRange, all_some, step_by_names, intent_by_names}
use Rattle.intent_reader.specs.IntentJudging.{link_at, step_named, astray, steps_from, intent_with, judged}
use Rattle.intent_reader.proofs.WalkLemmas.{then_some}
use Rattle.intent_reader.proofs.GivenLemmas.{Holds, of_value, after, tested, tested_on, found}
use Rattle.intent_reader.proofs.IntentJudgingLemmas.{judged_keeps}

-- ---- what is given is over the names' numbers

links_by : (net : Network) (k : ℕ) (names : List (List ℕ))
    → Holds (λ set. all_some (λ name. link_numbered name net.links) names ≡ Some set) (each_of (link_at net k) names)
links_by net k [] = of_value (λ set. Some [] ≡ Some set) [] refl
links_by net k (name ∷ names) =
    let fact = λ (set : List ℕ). all_some (λ n. link_numbered n net.links) (name ∷ names) ≡ Some set in
    after fact (link_at net k name) _ (λ n e.
    after fact (each_of (link_at net k) names) _ (λ ns f.
    let first : link_numbered name net.links ≡ Some n = found (faults.AtStep k kinds.UnknownName) (link_numbered name net.links) n e in
    of_value fact (n ∷ ns) (rw (first, (links_by net k names).given ns f) refl)))

step_by : (net : Network) (k : ℕ) (d : DescribedStep) → Holds (λ s. step_by_names net d ≡ Some s) (step_named net k d)
step_by net k (described.Links names) =
    let fact = λ (s : Step). step_by_names net (described.Links names) ≡ Some s in
    after fact (each_of (link_at net k) names) _ (λ set e.
    tested fact (are_distinct same_number set) (Links set) (faults.AtStep k kinds.DoubleLink)
    (λ once. rw ((links_by net k names).given set e) refl))
step_by net k (described.Function title) =
    let fact = λ (s : Step). step_by_names net (described.Function title) ≡ Some s in
    after fact (or_fault (faults.AtStep k kinds.NoFunction) (function_numbered title net)) _ (λ sid e.
    of_value fact (Function sid) (rw (found (faults.AtStep k kinds.NoFunction) (function_numbered title net) sid e) refl))
step_by net k (described.Reach name) =
    let fact = λ (s : Step). step_by_names net (described.Reach name) ≡ Some s in
    after fact (or_fault (faults.AtStep k kinds.UnknownName) (node_numbered name net.nodes)) _ (λ node e.
    of_value fact (Reach node) (rw (found (faults.AtStep k kinds.UnknownName) (node_numbered name net.nodes) node e) refl))

steps_by : (net : Network) (k node : ℕ) (ds : List DescribedStep)
    → Holds (λ steps. all_some (step_by_names net) ds ≡ Some steps) (steps_from net k node ds)
steps_by net k node [] = of_value (λ steps. Some [] ≡ Some steps) [] refl
steps_by net k node (d ∷ ds) =
    let fact = λ (steps : List Step). all_some (step_by_names net) (d ∷ ds) ≡ Some steps in
    after fact (step_named net k d) _ (λ s e.
    after fact (or_fault (astray k s) (node_after net node s)) _ (λ next f.
    after fact (steps_from net (suc k) next ds) _ (λ steps g.
    of_value fact (s ∷ steps) (rw ((step_by net k d).given s e, (steps_by net (suc k) next ds).given steps g) refl))))

judged_by : (net : Network) (d : DescribedIntent) → Holds (λ i. intent_by_names net d ≡ Some i) (judged net d)
judged_by net d =
    let fact = λ (i : Intent). intent_by_names net d ≡ Some i in
    after fact (or_fault (faults.AtStep 0 kinds.UnknownName) (node_numbered d.headend net.nodes)) _ (λ headend e.
    after fact (steps_from net 1 headend d.steps) _ (λ steps f.
    tested_on fact (ends_in_function steps) _ faults.NotFunctionLast (λ last.
    tested fact (is_within_loose_limit net steps) (intent_with d headend steps) faults.LooseLimit (λ few.
    rw (
      found (faults.AtStep 0 kinds.UnknownName) (node_numbered d.headend net.nodes) headend e,
      (steps_by net 1 headend d.steps).given steps f,
    ) refl))))

-- ---- what keeps the rules is given

mapped : {X Y : Type 0} (f : X → Y) (o : Option X) (y : Y) → option_map f o ≡ Some y → (x : X) × (o ≡ Some x) × (f x ≡ y)
mapped f None y h = cc
mapped f (Some x) y h = (x, refl, same_Some (f x) y h)

links_back : (net : Network) (k : ℕ) (names : List (List ℕ)) (set : List ℕ)
    → all_some (λ name. link_numbered name net.links) names ≡ Some set → each_of (link_at net k) names ≡ Ok set
links_back net k [] set h = ap Ok (same_Some [] set h)
links_back net k (name ∷ names) set h =
    let others = all_some (λ n. link_numbered n net.links) names in
    let first = then_some (λ n. option_map (λ ns. n ∷ ns) others) (link_numbered name net.links) set h in
    let rest = mapped (λ ns. first.0 ∷ ns) others set first.2 in
    rw (first.1, links_back net k names rest.0 rest.1) (ap Ok rest.2)

once_from : (net : Network) (node : ℕ) (set : List ℕ) (end : Option ℕ) (next : ℕ) → far_node net node set end ≡ Some next
    → are_distinct same_number set ≡ true
once_from net node set None next h = cc
once_from net node set (Some to) next h =
    let linked = (and_parts _ _ (cond_some _ to next h).0).0 in
    (and_parts _ _ (and_parts _ _ (and_parts _ _ linked).1).1).0

step_back : (net : Network) (k node : ℕ) (d : DescribedStep) (s : Step) (next : ℕ) → step_by_names net d ≡ Some s
    → node_after net node s ≡ Some next → step_named net k d ≡ Ok s
step_back net k node (described.Links names) s next h leads =
    let over = mapped Links (all_some (λ name. link_numbered name net.links) names) s h in
    let led : node_after net node (Links over.0) ≡ Some next = subst (λ t. node_after net node t ≡ Some next) (sym over.2) leads in
    rw (links_back net k names over.0 over.1, once_from net node over.0 (first_end net over.0) next led) (ap Ok over.2)
step_back net k node (described.Function title) s next h leads =
    let over = mapped Function (function_numbered title net) s h in
    rw over.1 (ap Ok over.2)
step_back net k node (described.Reach name) s next h leads =
    let over = mapped Reach (node_numbered name net.nodes) s h in
    rw over.1 (ap Ok over.2)

stands_then : {X Y : Type 0} (f : X → Option Y) (o : Option X) → is_some (option_and_then f o) ≡ true
    → (x : X) × (o ≡ Some x) × (is_some (f x) ≡ true)
stands_then f None h = cc
stands_then f (Some x) h = (x, refl, h)

steps_back : (net : Network) (k node : ℕ) (ds : List DescribedStep) (steps : List Step) → all_some (step_by_names net) ds ≡ Some steps
    → is_some (stand_after net node steps) ≡ true → steps_from net k node ds ≡ Ok steps
steps_back net k node [] steps h stands = ap Ok (same_Some [] steps h)
steps_back net k node (d ∷ ds) steps h stands =
    let others = all_some (step_by_names net) ds in
    let first = then_some (λ s. option_map (λ ss. s ∷ ss) others) (step_by_names net d) steps h in
    let rest = mapped (λ ss. first.0 ∷ ss) others steps first.2 in
    let whole : is_some (stand_after net node (first.0 ∷ rest.0)) ≡ true =
    subst (λ ss. is_some (stand_after net node ss) ≡ true) (sym rest.2) stands in
    let led = stands_then (λ next. stand_after net next rest.0) (node_after net node first.0) whole in
    rw (step_back net k node d first.0 led.0 first.1 led.1, led.1, steps_back net (suc k) led.0 ds rest.0 rest.1 led.2) (ap Ok rest.2)

walk_of : (net : Network) (i : Intent) → IsIntent net i
    → (is_some (stand_after net i.headend i.steps) ≡ true) × (ends_in_function i.steps ≡ true) × (is_within_loose_limit net i.steps ≡ true)
unfolding is_intent
walk_of net i h =
    let at_hops = (and_parts (nat_lt i.headend (length net.nodes)) _ h).1 in
    let at_some = (and_parts (nat_le 1 i.hop_limit) _ at_hops).1 in
    let at_most = (and_parts (nat_le 1 i.max_containers) _ at_some).1 in
    let at_label = (and_parts (nat_le i.max_containers MAX_CONTAINERS) _ at_most).1 in
    let at_first = (and_parts (nat_lt i.flow_label (2 ^ 20)) _ at_label).1 in
    let at_count = (and_parts (nat_le 1 (length i.steps)) _ at_first).1 in
    let at_walk = (and_parts (nat_le (length i.steps) MAX_STEPS) _ at_count).1 in
    let walk = and_parts (is_some (stand_after net i.headend i.steps)) _ at_walk in
    let last = and_parts (ends_in_function i.steps) _ walk.1 in
    (walk.0, last.0, last.1)

judged_back : (net : Network) (d : DescribedIntent) (i : Intent) → intent_by_names net d ≡ Some i → IsIntent net i → judged net d ≡ Ok i
judged_back net d i h is =
    let all = all_some (step_by_names net) d.steps in
    let first = then_some (λ headend. option_map (intent_with d headend) all) (node_numbered d.headend net.nodes) i h in
    let rest = mapped (intent_with d first.0) all i first.2 in
    let walk = walk_of net (intent_with d first.0 rest.0) (subst (λ j. is_intent net j ≡ true) (sym rest.2) is) in
    rw (first.1, steps_back net 1 first.0 d.steps rest.0 rest.1 walk.0, walk.1, walk.2) (ap Ok rest.2)

pub no_fault_is_keeping : (net : Network) (d : DescribedIntent) (i : Intent) → InRange d
    → (judged net d ≡ Ok i) ↔ ((intent_by_names net d ≡ Some i) × IsIntent net i)
no_fault_is_keeping net d i range = (
  λ h. ((judged_by net d).given i h, judged_keeps net d i range h),
  λ h. judged_back net d i h.0 h.1,
)
