-- The facts of an intent that keeps the rules in its network.
use Rattle.std.proofs.Common.{◌≡◌, ℕ, ◌-◌, ◌<◌, ◌≤◌, Bool, true, false, not, ◌||◌, List, [], ◌∷◌, length, Option, Some, None, refl, sym, subst, arith}
use Rattle.std.specs.List.{Contains}
use Rattle.std.specs.Option.{is_some}
use Rattle.std.proofs.lemmas.Bool.{and_parts, leb-true, ltb-true}
use Rattle.std.proofs.lemmas.Option.{same_Some}
use Rattle.net_model.specs.Network.{Network}
use Rattle.net_model.specs.NetworkKeeps.{Keeps, EndsElsewhere}
use Rattle.intent_reader.specs.declared.intent.Step.{Step}
use Rattle.intent_reader.specs.declared.intent.Step.TheVariants.{Links, Function, Reach}
use Rattle.intent_reader.specs.declared.intent.Intent.{Intent}
use Rattle.intent_reader.specs.IntentRules.{has_reach, node_after, stand_after}
use Rattle.intent_reader.specs.IntentRulesTerms.{IsIntent, is_intent}
use Rattle.intent_reader.specs.IntentKeeps.{Leads, Steps, KeepsIntent}
use Rattle.intent_reader.proofs.WalkLemmas.{last_is_function, step_means, then_some, stands_before, is_taken}

there : {X : Type 0} (o : Option X) → is_some o ≡ true → (x : X) × (o ≡ Some x)
there None h = cc
there (Some x) h = (x, refl)

other_of : (b c : Bool) → b ≡ true → (not b || c) ≡ true → c ≡ true
other_of true c e h = h
other_of false c e h = absurd (cc)

pub keeps_from_intent : (net : Network) (i : Intent) → IsIntent net i → KeepsIntent net i
unfolding is_intent
keeps_from_intent net i h =
    let at_headend = and_parts _ _ h in
    let at_hops = and_parts _ _ at_headend.1 in
    let at_some = and_parts _ _ at_hops.1 in
    let at_most = and_parts _ _ at_some.1 in
    let at_label = and_parts _ _ at_most.1 in
    let at_first = and_parts _ _ at_label.1 in
    let at_count = and_parts _ _ at_first.1 in
    let at_walk = and_parts _ _ at_count.1 in
    let at_last = and_parts _ _ at_walk.1 in
    let walk = there (stand_after net i.headend i.steps) at_walk.0 in
    let some_steps : 1 ≤ length i.steps = leb-true _ _ at_first.0 in
    record {
      headend = ltb-true _ _ at_headend.0;
      hop_limit = leb-true _ _ at_hops.0;
      some_containers = leb-true _ _ at_some.0;
      most_containers = leb-true _ _ at_most.0;
      flow_label = ltb-true _ _ at_label.0;
      some_steps = some_steps;
      most_steps = leb-true _ _ at_count.0;
      walk = walk;
      front = λ k. stands_before net i.headend i.steps walk.0 k walk.1;
      step = λ k s e. is_taken net i.headend i.steps walk.0 k s walk.1 e;
      loose = λ reaches. leb-true _ _ (other_of (has_reach i.steps) _ reaches at_last.1);
      last = last_is_function i.steps (length i.steps - 1) (omega arith) at_last.0;
    }

first_of : (set : List ℕ) → 0 < length set → (n : ℕ) × Contains set n
first_of [] h = absurd (omega arith)
first_of (n ∷ set) h = (n, (0, omega arith, refl))

end_within : (count from : ℕ) (to : Option ℕ) (end : ℕ) → EndsElsewhere count from to → to ≡ Some end → end < count
end_within count from None end h e = cc
end_within count from (Some to) end h e = subst (λ n. n < count) (same_Some to end e) h.0

lead_within : (net : Network) (node next link : ℕ) → Keeps net → Leads net node next link → next < length net.nodes
lead_within net node next link keeps lead = end_within (length net.nodes) lead.0.from lead.0.to next
    (keeps.link link lead.0 lead.1).to lead.3

step_within : (net : Network) (node : ℕ) (s : Step) (next : ℕ) → Keeps net → node < length net.nodes → Steps net node s next
    → next < length net.nodes
step_within net node (Links set) next keeps within step =
    let first = first_of set step.0.some in
    lead_within net node next first.0 keeps (step.1 first.0 first.1)
step_within net node (Function sid) next keeps within step = subst (λ n. n < length net.nodes) (sym step.5) within
step_within net node (Reach reached) next keeps within step = subst (λ n. n < length net.nodes) (sym step.2) step.0

pub stays_within : (net : Network) (node : ℕ) (steps : List Step) (end : ℕ) → Keeps net → node < length net.nodes
    → stand_after net node steps ≡ Some end → end < length net.nodes
stays_within net node [] end keeps within h = subst (λ n. n < length net.nodes) (same_Some node end h) within
stays_within net node (s ∷ steps) end keeps within h =
    let first = then_some (λ next. stand_after net next steps) (node_after net node s) end h in
    stays_within net first.0 steps end keeps (step_within net node s first.0 keeps within (step_means net node s first.0 first.1)) first.2
