-- The header that a policy makes is one in front of an IPv6 packet.
use Rattle.std.proofs.Common.{◌≡◌, ℕ, Bool, true, false, if◌then◌else◌, List, [], ◌++◌, Option, Some, None, refl, ap, ◌∙◌, arith}
use Rattle.srv6_rules.specs.declared.policy.Policy.{Policy}
use Rattle.srv6_rules.specs.declared.family.Family.TheVariants.{V6}
use Rattle.srv6_rules.specs.Packet.{Packet}
use Rattle.srv6_rules.specs.Srh.{Srh, srh_spelling}
use Rattle.srv6_rules.specs.Chain.{routing}
use Rattle.srv6_rules.specs.Behaviours.{ipv6_inside}
use Rattle.srv6_rules.specs.Encapsulation.{Encapsulation, segment_list, has_segment_routing, pushed}
use Rattle.srv6_rules.specs.Policies.{encapsulation_by, outer_by, routing_header}
use Rattle.srv6_rules.proofs.PublicLaws.{length_entries}
use Rattle.outer_header_theory.specs.HeaderFronts.{IsFrontOf, AreFront, filled, front_of, front_by}

header_front : (e : Encapsulation) → IsFrontOf (routing_header e V6)
header_front e =
    let len = length_entries (segment_list e) in
    (refl, omega arith)

-- with a header or without one
front_if : (e : Encapsulation) (has : Bool) → AreFront (if has then Some (routing_header e V6) else None)
front_if e true = header_front e
front_if e false = tt

round_if : (p q : Packet) (t : Srh) (has : Bool) (bytes : List ℕ)
    → record p { next_header = if has then routing else ipv6_inside; payload = if has then srh_spelling t ++ bytes else bytes }
    ≡ filled p (if has then Some t else None) bytes
round_if p q t true bytes = refl
round_if p q t false bytes = refl

pub policy_front : (policy : Policy) (reduced : Bool) → AreFront (front_by policy reduced)
policy_front policy reduced =
    let e : Encapsulation = encapsulation_by policy reduced in
    front_if e (has_segment_routing e)

filled_other : (p q : Packet) (o : Option Srh) (bytes : List ℕ)
    → record p { next_header = 0; payload = [] } ≡ record q { next_header = 0; payload = [] } → filled p o bytes ≡ filled q o bytes
filled_other p q None bytes same = ap (λ x. filled x None bytes) same
filled_other p q (Some t) bytes same = ap (λ x. filled x (Some t) bytes) same

pub policy_round : (policy : Policy) (reduced : Bool) (bytes : List ℕ)
    → outer_by policy reduced V6 bytes ≡ filled (outer_by policy reduced V6 []) (front_by policy reduced) bytes
policy_round policy reduced bytes =
    let e : Encapsulation = encapsulation_by policy reduced in
    round_if (pushed e bytes policy.hop_limit) (pushed e bytes policy.hop_limit) (routing_header e V6) (has_segment_routing e) bytes
    ∙ filled_other (pushed e bytes policy.hop_limit) (outer_by policy reduced V6 []) (front_of e) bytes refl
