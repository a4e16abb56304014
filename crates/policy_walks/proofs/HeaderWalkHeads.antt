-- Headers of policies round no bytes, in bytes that spell them.
use Rattle.std.proofs.Common.{◌≡◌, ℕ, ◌≤◌, Bool, true, false, nat_lt, List, [], length, inl, inr, sym, ap, subst, ◌∙◌, arith}
use Rattle.std.proofs.lemmas.Bool.{cases_Bool}
use Rattle.srv6_rules.specs.declared.policy.Policy.{Policy}
use Rattle.srv6_rules.specs.declared.family.Family.{Family}
use Rattle.srv6_rules.specs.Encapsulation.{header_bytes}
use Rattle.srv6_rules.specs.Packet.{Packet, packet_at}
use Rattle.srv6_rules.specs.PacketTerms.{Spells}
use Rattle.srv6_rules.specs.Policies.{Outer, outer_by, pushed_by}
use Rattle.srv6_rules.specs.PoliciesTerms.{IsPolicy}
use Rattle.srv6_rules.proofs.PublicLaws.{by_fits}
use Rattle.endpoint_chain.specs.Outcomes.{HoldsAlone}
use Rattle.policy_encap.specs.EncapAnswers.{Makes}
use Rattle.node_stage.proofs.ReadingLemmas.{alone_spelling, packet_at_spelling}

-- bytes that spell a packet hold it alone
pub spells_alone : (bytes : List ℕ) (p : Packet) → Spells bytes p → HoldsAlone bytes
spells_alone bytes p h = subst HoldsAlone (sym h.1) (alone_spelling p h.0)

pub spells_packet : (bytes : List ℕ) (p : Packet) → Spells bytes p → packet_at bytes ≡ p
spells_packet bytes p h = ap packet_at h.1 ∙ packet_at_spelling p h.0

header_most : (reduced : Bool) (n : ℕ) → n ≤ 127 → header_bytes reduced n ≤ 2080
header_most true n most = elim (cases_Bool (nat_lt 1 n)) [
  | inl many ↦ rw many (omega arith)
  | inr few ↦ rw few (omega arith)
]
header_most false n most = omega arith

empty_fits : (policy : Policy) (reduced : Bool) (inner : Family) → IsPolicy policy
    → pushed_by policy reduced inner [] ≡ Outer (outer_by policy reduced inner [])
empty_fits policy reduced inner is =
    let most = header_most reduced (length policy.segments) is.most in by_fits policy reduced inner [] (omega arith)

same_outer : (p q : Packet) → Outer p ≡ Outer q → p ≡ q
same_outer p q e = cc

-- what a policy pushes on no bytes is its header round none
pub made_is : (policy : Policy) (reduced : Bool) (inner : Family) (old new : List ℕ) → IsPolicy policy → old ≡ []
    → (m : Makes (pushed_by policy reduced inner old) new) → packet_at new ≡ outer_by policy reduced inner []
made_is policy reduced inner old new is empty m =
    spells_packet new m.packet m.spelled
    ∙ same_outer m.packet (outer_by policy reduced inner [])
    (sym m.outer ∙ ap (pushed_by policy reduced inner) empty ∙ empty_fits policy reduced inner is)
