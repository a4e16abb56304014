-- What a node gives a packet that goes on from a SID, by the policy that the SID binds.
use Rattle.std.proofs.Common.{◌≡◌, ℕ, ◌≤◌, inl, inr, length, Option, Some, None, slice_get, refl, sym, subst}
use Rattle.std.proofs.lemmas.Bool.{cases_lt}
use Rattle.srv6_rules.specs.declared.sid.Behaviour.{Behaviour}
use Rattle.srv6_rules.specs.declared.family.Family.TheVariants as families
use Rattle.srv6_rules.specs.declared.reason.Reason.{Reason}
use Rattle.srv6_rules.specs.declared.reason.Reason.TheVariants as reasons
use Rattle.srv6_rules.specs.Behaviours.{behaviour_policy, behaviour_reduces}
use Rattle.srv6_rules.specs.Packet.{Packet, V6, spelling}
use Rattle.srv6_rules.specs.Policies.{Encapsulating, outer_by, pushed_by}
use Rattle.srv6_rules.proofs.PublicLaws.{made_fits, made_big}
use Rattle.net_model.specs.declared.parts.NamedPolicy.{NamedPolicy}
use Rattle.net_model.specs.Network.{Network}
use Rattle.walk_rules.specs.declared.place.Outcome.TheVariants as outcomes
use Rattle.walk_rules.specs.Treatment.{Gave, dropped, goes, onward_from, pushed_at_sid, bound_at_sid, onward_at_sid}

-- the packet that a policy makes of one that goes on
abbrev pub outer_of : NamedPolicy → Behaviour → Packet → Packet
outer_of named b q = outer_by named.policy (behaviour_reduces b) families.V6 (spelling q)

-- what is so where no policy is bound, where the outer packet is made, and where the packet is dropped, is so of what is given
module _ (net : Network) (node n : ℕ) (b : Behaviour) (p q : Packet) (P : Gave → Type 0)
    (plain : behaviour_policy b ≡ None → P (goes (outcomes.Again n (onward_from n b)) (V6 q)))
    (pushes : (number : ℕ) (named : NamedPolicy) → behaviour_policy b ≡ Some number → slice_get net.policies number ≡ Some named
    → length (outer_of named b q).payload ≤ 65535 → P (goes (outcomes.Again n (onward_from n b)) (V6 (outer_of named b q))))
    (drop : (reason : Reason) → P (dropped net node reason 0 (V6 p))) where
  pushed_each : (number : ℕ) (named : NamedPolicy) → behaviour_policy b ≡ Some number → slice_get net.policies number ≡ Some named
      → P (pushed_at_sid net node n b p (pushed_by named.policy (behaviour_reduces b) families.V6 (spelling q)))
  pushed_each number named binds there =
      let Q : Encapsulating → Type 0 = λ x. P (pushed_at_sid net node n b p x) in
      elim (cases_lt 65535 (length (outer_of named b q).payload)) [
        | inl big ↦ subst Q (sym (made_big (outer_of named b q) big)) (drop reasons.TooBig)
        | inr fits ↦ subst Q (sym (made_fits (outer_of named b q) fits)) (pushes number named binds there fits)
      ]

  bound_each : (number : ℕ) (o : Option NamedPolicy) → behaviour_policy b ≡ Some number → slice_get net.policies number ≡ o
      → P (bound_at_sid net node n b p q o)
  bound_each number None binds there = drop reasons.NoRoute
  bound_each number (Some named) binds there = pushed_each number named binds there

  by_policy : (o : Option ℕ) → behaviour_policy b ≡ o → P (onward_at_sid net node n b p q o)
  by_policy None is = plain is
  by_policy (Some number) is = bound_each number (slice_get net.policies number) is refl

  pub onward_each : P (onward_at_sid net node n b p q (behaviour_policy b))
  onward_each = by_policy (behaviour_policy b) refl
