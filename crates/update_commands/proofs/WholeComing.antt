-- An inner packet that can be lowered isn't turned away before the first event of an update.
use Rattle.std.proofs.Common.{◌≡◌, ℕ, ◌≤◌, nat_lt, Bool, true, false, List, length, Option, None, refl, ap, ◌∙◌, arith}
use Rattle.pcap_io.specs.declared.frame.Body.{Body}
use Rattle.pcap_io.specs.declared.frame.Body.TheVariants as bodies
use Rattle.srv6_rules.specs.declared.family.Family.{Family}
use Rattle.srv6_rules.specs.declared.family.Family.TheVariants as families
use Rattle.srv6_rules.specs.declared.policy.Policy.{Policy}
use Rattle.srv6_rules.specs.Packet.{Content, V6, V4, Unreadable, spelling}
use Rattle.srv6_rules.specs.Packet4.{ttl, spelling4, lowered4}
use Rattle.srv6_rules.specs.Encapsulation.{inner_lowered}
use Rattle.srv6_rules.specs.Policies.{Encapsulating, headend_by, pushed_by, outer_by, most_payload}
use Rattle.srv6_rules.proofs.PublicLaws.{headend_high}
use Rattle.leg_table.specs.Realizes.{IsInner}
use Rattle.run_commands.specs.declared.enters.EarlyEnd.{EarlyEnd}
use Rattle.run_commands.specs.Admission.{early_end_of}
use Rattle.walk_commands.specs.declared.headend.Headend.{Headend}
use Rattle.walk_commands.specs.WalkCommand.{AtHeadend, at_headend, admission_of, admission_at_headend, of_content, of_encapsulating}
use Rattle.update_driver.specs.Arriving.{early_at, early_of}
use Rattle.update_commands.specs.WholeUpdate.{HasInner}

-- how what becomes of a packet at the headend stays before the first event, if it does
abbrev early : ℕ → AtHeadend → Option EarlyEnd
early node a = early_of (early_end_of (admission_of node a))

-- a packet that is encapsulated enters, or is too big
pushed_comes : (node : ℕ) (policy : Policy) (reduced : Bool) (family : Family) (bytes : List ℕ)
    → early node (of_encapsulating (pushed_by policy reduced family bytes)) ≡ None
pushed_comes node policy reduced family bytes = by (nat_lt most_payload (length (outer_by policy reduced family bytes).payload)) refl
  where
    by : (b : Bool) → nat_lt most_payload (length (outer_by policy reduced family bytes).payload) ≡ b
        → early node (of_encapsulating (pushed_by policy reduced family bytes)) ≡ None
    by true e = rw e refl
    by false e = rw e refl

high_comes : (node : ℕ) (policy : Policy) (family : Family) (hop : ℕ) (bytes : List ℕ) → 2 ≤ hop
    → early node (of_encapsulating (headend_by policy family hop bytes)) ≡ None
high_comes node policy family hop bytes high =
    ap (λ (e : Encapsulating). early node (of_encapsulating e)) (headend_high policy family hop bytes (omega arith))
    ∙ pushed_comes node policy policy.reduced family bytes

content_comes : (node : ℕ) (policy : Policy) (family : Family) (inner : Content) → IsInner family inner
    → early node (of_content policy inner) ≡ None
content_comes node policy families.V6 (V6 p) is = high_comes node policy families.V6 p.hop_limit (spelling (inner_lowered p)) is.1
content_comes node policy families.V6 (V4 p) is = absurd is
content_comes node policy families.V6 (Unreadable bytes reason) is = absurd is
content_comes node policy families.V4 (V6 p) is = absurd is
content_comes node policy families.V4 (V4 p) is = high_comes node policy families.V4 (ttl p) (spelling4 (lowered4 p)) is.1
content_comes node policy families.V4 (Unreadable bytes reason) is = absurd is

at_comes : (node : ℕ) (policy : Policy) (family : Family) (body : Body) (inner : Content) → HasInner family body inner
    → IsInner family inner → early node (at_headend policy family body) ≡ None
at_comes node policy families.V6 (bodies.V6 bytes) inner has is =
    ap (λ (c : Content). early node (of_content policy c)) has ∙ content_comes node policy families.V6 inner is
at_comes node policy families.V6 (bodies.V4 bytes) inner has is = absurd has
at_comes node policy families.V6 bodies.ShortFrame inner has is = absurd has
at_comes node policy families.V6 bodies.NotIp inner has is = absurd has
at_comes node policy families.V4 (bodies.V6 bytes) inner has is = absurd has
at_comes node policy families.V4 (bodies.V4 bytes) inner has is =
    ap (λ (c : Content). early node (of_content policy c)) has ∙ content_comes node policy families.V4 inner is
at_comes node policy families.V4 bodies.ShortFrame inner has is = absurd has
at_comes node policy families.V4 bodies.NotIp inner has is = absurd has

pub headend_comes : (h : Headend) (body : Body) (inner : Content) → HasInner h.inner body inner → IsInner h.inner inner
    → early_at (admission_at_headend h) body ≡ None
headend_comes h body inner has is = at_comes h.node h.policy h.inner body inner has is
