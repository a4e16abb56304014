-- Need not be believed: helps proofs and other laws.
-- Inner packets without what stands after their ends, at the headend.
use Rattle.std.specs.Prelude.{◌≡◌, ℕ, ◌≤◌, List, length}
use Rattle.srv6_rules.specs.declared.policy.Policy.{Policy}
use Rattle.srv6_rules.specs.declared.family.Family.{Family}
use Rattle.srv6_rules.specs.declared.reason.Reason.{Reason}
use Rattle.srv6_rules.specs.Packet.{entered, most_len}
use Rattle.srv6_rules.specs.PoliciesTerms.{encapsulated_by}
use Rattle.policy_encap.specs.Inner.{HoldsInner}
use Rattle.walk_commands.specs.declared.headend.Headend.{Headend}
use Rattle.run_commands.specs.Admission.{Admission}
use Rattle.walk_commands.specs.WalkCommand.{Dropped, admission_of, of_content, of_encapsulating}

-- a packet of a family that bytes begin with, alone: the headend makes of it what it makes of the bytes
pub record IsInnerOf (family : Family) (packet bytes : List ℕ) : Type 0 where
  pub holds : HoldsInner family packet
  pub short : length packet ≤ most_len
  pub same : (policy : Policy) → of_encapsulating (encapsulated_by policy family packet) ≡ of_content policy (entered family bytes)

-- bytes that don't read as one are dropped there, for a reason
abbrev pub AreDropped : Family → Reason → List ℕ → Type 0
AreDropped family reason bytes = (policy : Policy) → Dropped reason ≡ of_content policy (entered family bytes)

-- how an inner packet alone enters at a headend
abbrev pub admission_alone : Headend → List ℕ → Admission
admission_alone h packet = admission_of h.node (of_encapsulating (encapsulated_by h.policy h.inner packet))

-- how bytes enter there as a packet of the family of its inner packets
abbrev pub admission_by_bytes : Headend → List ℕ → Admission
admission_by_bytes h bytes = admission_of h.node (of_content h.policy (entered h.inner bytes))

-- an inner packet alone, which enters so
pub record IsInnerBy (h : Headend) (entry : Admission) (packet : List ℕ) : Type 0 where
  pub holds : HoldsInner h.inner packet
  pub short : length packet ≤ most_len
  pub same : admission_alone h packet ≡ entry
