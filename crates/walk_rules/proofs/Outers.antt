-- The packet that a network's policy makes can be spelled.
use Rattle.std.proofs.Common.{◌≡◌, ℕ, suc, ◌^◌, ◌<◌, ◌≤◌, Bool, List, [], ◌∷◌, length, map, All, Some, slice_get, refl, arith}
use Rattle.std.proofs.lemmas.List.{length-map}
use Rattle.std.proofs.lemmas.List.Elements.{All-nil, All-cons}
use Rattle.v6_addr.specs.declared.address.Addr.{Addr}
use Rattle.srv6_rules.specs.declared.sid.Behaviour.{Behaviour}
use Rattle.srv6_rules.specs.declared.family.Family.TheVariants as families
use Rattle.srv6_rules.specs.Behaviours.{behaviour_reduces}
use Rattle.srv6_rules.specs.Packet.{Packet, IsSpellable, spelling}
use Rattle.srv6_rules.specs.EncapsulationTerms.{IsSpellableEncapsulation}
use Rattle.srv6_rules.specs.Policies.{encapsulation_by}
use Rattle.srv6_rules.proofs.PublicLaws.{all_spelling, round_payload, round_spellable}
use Rattle.net_model.specs.declared.parts.NamedPolicy.{NamedPolicy}
use Rattle.net_model.specs.NetworkKeeps.{KeepsPolicy}
use Rattle.walk_rules.proofs.Binding.{outer_of}

all_values : (addresses : List Addr) → ((i : ℕ) (a : Addr) → slice_get addresses i ≡ Some a → a.value < 2 ^ 128)
    → All (λ (n : ℕ). n < 2 ^ 128) (map (λ (a : Addr). a.value) addresses)
all_values [] each = All-nil (λ (n : ℕ). n < 2 ^ 128)
all_values (a ∷ rest) each =
    All-cons (λ (n : ℕ). n < 2 ^ 128) a.value (map (λ (x : Addr). x.value) rest) (each 0 a refl)
    (all_values rest (λ i x there. each (suc i) x there))

encapsulation_spellable : (named : NamedPolicy) (reduced : Bool) → KeepsPolicy named
    → IsSpellableEncapsulation (encapsulation_by named.policy reduced)
encapsulation_spellable named reduced keeps =
    let some = keeps.some in
    let most = keeps.at_most in
    let class = keeps.traffic_class in
    let label = keeps.flow_label in
    let len = length-map named.policy.segments (λ (a : Addr). a.value) in
    record {
      traffic_class = omega arith;
      flow_label = omega arith;
      source = keeps.source;
      some = omega arith;
      most = omega arith;
      segments = all_values named.policy.segments keeps.segment;
    }

pub outer_spellable : (named : NamedPolicy) (b : Behaviour) (q : Packet) → KeepsPolicy named → IsSpellable q
    → length (outer_of named b q).payload ≤ 65535 → IsSpellable (outer_of named b q)
outer_spellable named b q keeps ok fits =
    let e = encapsulation_by named.policy (behaviour_reduces b) in
    let hop = keeps.hop_limit in
    let payload = round_payload e families.V6 (spelling q) named.policy.hop_limit in
    round_spellable e families.V6 (spelling q) named.policy.hop_limit (encapsulation_spellable named (behaviour_reduces b) keeps)
    (omega arith) (all_spelling q ok) (omega arith)
