-- Policies of two descriptions between which there is a plan are the same, but for their names.
use Rattle.std.proofs.Common.{◌≡◌, ℕ, zero, suc, ◌+◌, Bool, true, false, if◌then◌else◌, List, [], ◌∷◌, Option, Some, None, slice_get, Result, Ok, Err, refl, ap, ap₂}
use Rattle.std.specs.Prelude.{◌==◌, ◌&&◌}
use Rattle.std.specs.Option.{option_map}
use Rattle.std.proofs.lemmas.Bool.{and_parts, eqb-true}
use Rattle.v6_addr.specs.declared.address.Addr.{Addr}
use Rattle.text_faults.specs.declared.text_place.TableKind.{TableKind}
use Rattle.text_faults.specs.declared.text_place.TableKind.TheVariants as tables
use Rattle.net_model.specs.declared.parts.NamedPolicy.{NamedPolicy}
use Rattle.net_model.specs.Network.{Network}
use Rattle.net_model.specs.NetworkJudging.{same_answer}
use Rattle.update_spec.specs.declared.plan_fault.PlanFault.{PlanFault}
use Rattle.update_spec.specs.Equal.{equal_block, equal_link, equal_lists, equal_node, equal_outer, equal_policy, same_address}
use Rattle.update_spec.specs.Joined.{joined_of}
use Rattle.update_spec.specs.Planning.{and_then, conflicting, differing, differs_at, first_difference, limited, new_items, old_items, planning}
use Rattle.update_walks_theory.specs.AlikeTerms.{policy_at}

abbrev address_with : ℕ → Addr
address_with v = record { value = v }

addresses_are : (xs ys : List Addr) → equal_lists same_address xs ys ≡ true → xs ≡ ys
addresses_are [] [] h = refl
addresses_are [] (y ∷ ys) h = absurd (cc)
addresses_are (x ∷ xs) [] h = absurd (cc)
addresses_are (x ∷ xs) (y ∷ ys) h =
    let parts = and_parts (same_address x y) (equal_lists same_address xs ys) h in
    let one : x ≡ y = ap address_with (eqb-true x.value y.value parts.0) in
    ap₂ (λ (z : Addr) (zs : List Addr). z ∷ zs) one (addresses_are xs ys parts.1)

answers_are : (a b : Bool) → same_answer a b ≡ true → a ≡ b
answers_are true true h = refl
answers_are true false h = absurd (cc)
answers_are false true h = absurd (cc)
answers_are false false h = refl

-- with all fields equal
policies_are : (p q : NamedPolicy) → equal_policy p q ≡ true → p.policy ≡ q.policy
policies_are p q h =
    let a = p.policy in
    let b = q.policy in
    let one = and_parts (same_address a.source b.source) (equal_lists same_address a.segments b.segments && equal_outer a b) h in
    let two = and_parts (equal_lists same_address a.segments b.segments) (equal_outer a b) one.1 in
    let three = and_parts (a.traffic_class == b.traffic_class) _ two.1 in
    let four = and_parts (a.flow_label == b.flow_label) _ three.1 in
    let five = and_parts (a.hop_limit == b.hop_limit) _ four.1 in
    let source : a.source ≡ b.source = ap address_with (eqb-true a.source.value b.source.value one.0) in
    let segments : a.segments ≡ b.segments = addresses_are a.segments b.segments two.0 in
    let class : a.traffic_class ≡ b.traffic_class = eqb-true a.traffic_class b.traffic_class three.0 in
    let label : a.flow_label ≡ b.flow_label = eqb-true a.flow_label b.flow_label four.0 in
    let hop : a.hop_limit ≡ b.hop_limit = eqb-true a.hop_limit b.hop_limit five.0 in
    let reduced : a.reduced ≡ b.reduced = answers_are a.reduced b.reduced five.1 in
    λ i. record {
      source = source i;
      segments = segments i;
      traffic_class = class i;
      flow_label = label i;
      hop_limit = hop i;
      reduced = reduced i;
    }

agreed : (n : ℕ) (x y : NamedPolicy) (xs ys : List NamedPolicy) → first_difference equal_policy n (x ∷ xs) (y ∷ ys) ≡ None
    → (equal_policy x y ≡ true) × (first_difference equal_policy (n + 1) xs ys ≡ None)
agreed n x y xs ys h =
    elim (equal_policy x y) as (λ b. (if b then first_difference equal_policy (n + 1) xs ys else Some n) ≡ None
    → (b ≡ true) × (first_difference equal_policy (n + 1) xs ys ≡ None))
    [ true ↦ λ k. (refl, k) | false ↦ λ k. cc ] h

same_at : (n : ℕ) (xs ys : List NamedPolicy) (k : ℕ) → first_difference equal_policy n xs ys ≡ None
    → option_map (λ (p : NamedPolicy). p.policy) (slice_get xs k) ≡ option_map (λ (p : NamedPolicy). p.policy) (slice_get ys k)
same_at n [] [] k h = refl
same_at n [] (y ∷ ys) k h = absurd (cc)
same_at n (x ∷ xs) [] k h = absurd (cc)
same_at n (x ∷ xs) (y ∷ ys) zero h = ap Some (policies_are x y (agreed n x y xs ys h).0)
same_at n (x ∷ xs) (y ∷ ys) (suc k) h = same_at (n + 1) xs ys k (agreed n x y xs ys h).1

then_parts : (r next : Result (Unit {0}) PlanFault) → and_then r next ≡ Ok tt → (r ≡ Ok tt) × (next ≡ Ok tt)
then_parts (Ok u) next h = (refl, h)
then_parts (Err fault) next h = absurd (cc)

no_place : (kind : TableKind) (o : Option ℕ) → differs_at kind o ≡ Ok tt → o ≡ None
no_place kind None h = refl
no_place kind (Some item) h = absurd (cc)

-- the faults, from behind

abbrev behind : Network → Network → Result (Unit {0}) PlanFault
behind old new = and_then (conflicting (new_items old new) (old_items old new)) (limited (joined_of old new))

abbrev from_policies : Network → Network → Result (Unit {0}) PlanFault
from_policies old new = and_then (differing tables.Policy equal_policy old.policies new.policies) (behind old new)

abbrev from_links : Network → Network → Result (Unit {0}) PlanFault
from_links old new = and_then (differing tables.Link equal_link old.links new.links) (from_policies old new)

abbrev from_nodes : Network → Network → Result (Unit {0}) PlanFault
from_nodes old new = and_then (differing tables.Node equal_node old.nodes new.nodes) (from_links old new)

pub planned_policies : (old new : Network) → planning old new ≡ Ok tt → (n : ℕ) → policy_at old n ≡ policy_at new n
unfolding planning
planned_policies old new h n =
    let nodes = then_parts (differing tables.Block equal_block old.blocks new.blocks) (from_nodes old new) h in
    let links = then_parts (differing tables.Node equal_node old.nodes new.nodes) (from_links old new) nodes.1 in
    let policies = then_parts (differing tables.Link equal_link old.links new.links) (from_policies old new) links.1 in
    let same = then_parts (differing tables.Policy equal_policy old.policies new.policies) (behind old new) policies.1 in
    same_at 1 old.policies new.policies n
    (no_place tables.Policy (first_difference equal_policy 1 old.policies new.policies) same.0)
