-- A policy's header put in front of a packet in its own bytes, at a binding SID.
use Rattle.std.proofs.Common.{◌≡◌, ℕ, ◌+◌, ◌<◌, ◌≤◌, Bool, true, false, nat_lt, List, Some, length, slice_get, is_some, refl, sym, ap, subst, ◌∙◌, arith, inl, inr}
use Rattle.std.specs.Prelude.{Err}
use Rattle.std.proofs.lemmas.Bool.{cases_Bool}
use Rattle.srv6_rules.specs.declared.numbers.TheConstants.{MAX_PACKET_LEN}
use Rattle.srv6_rules.specs.declared.policy.Policy.{Policy}
use Rattle.srv6_rules.specs.declared.family.Family.TheVariants as families
use Rattle.srv6_rules.specs.declared.reason.Reason.TheVariants as reasons
use Rattle.srv6_rules.specs.declared.sid.SidEntry.{SidEntry}
use Rattle.srv6_rules.specs.Behaviours.{behaviour_policy, behaviour_reduces}
use Rattle.srv6_rules.specs.Encapsulation.{header_bytes}
use Rattle.srv6_rules.specs.Endpoint.{Endpoint, Onward, at_sid}
use Rattle.srv6_rules.specs.Packet.{Packet, V6, packet_at, spelling}
use Rattle.srv6_rules.specs.Policies.{Encapsulating, Outer, TooBig, pushed_by}
use Rattle.srv6_rules.specs.PoliciesTerms.{IsPolicy}
use Rattle.srv6_rules.proofs.PublicLaws.{at_sid_shorter}
use Rattle.net_model.specs.Network.{Network}
use Rattle.net_model.specs.declared.parts.NamedPolicy.{NamedPolicy}
use Rattle.walk_rules.specs.Treatment.{Gave, dropped, pushed_at_sid, bound_at_sid, onward_at_sid, treated_at_sid}
use Rattle.endpoint_chain.specs.Outcomes.{HoldsAlone}
use Rattle.endpoint_chain.proofs.PublicLaws.{alone_length, alone_most}
use Rattle.policy_encap.specs.EncapAnswers.{IsPushed, judged_by}
use Rattle.policy_encap.specs.declared.faults.PushFault.{PushFault}
use Rattle.policy_encap.specs.declared.faults.PushFault.TheVariants as pushing
use Rattle.node_stage.specs.StageAnswers.{BindsPolicy, IsBigAfter, PutsPolicy}

-- the longest header of a policy
header_most : (reduced : Bool) (n : ℕ) → n ≤ 127 → header_bytes reduced n ≤ 2080
header_most true n most = elim (cases_Bool (nat_lt 1 n)) [
  | inl many ↦ rw many (omega arith)
  | inr few ↦ rw few (omega arith)
]
header_most false n most = omega arith

pub header_fits : (policy : Policy) (reduced : Bool) (front : ℕ) → IsPolicy policy → 2080 ≤ front
    → header_bytes reduced (length policy.segments) ≤ front
header_fits policy reduced front is room = let most = header_most reduced (length policy.segments) is.most in omega arith

-- where there is room and the header makes the packet none too long, there is no fault
pub never_refused : (wanted : Encapsulating) (old new : List ℕ) (why : PushFault) (front header : ℕ) → header ≤ front
    → ((outer : Packet) × (wanted ≡ Outer outer)) → IsPushed wanted old new (Err why) → (why ≡ pushing.NoMemory → front < header) → ⊥
never_refused wanted old new (pushing.TooBig n) front header room fits pushed memory = cc (sym fits.1 ∙ pushed.told_so)
never_refused wanted old new pushing.NoMemory front header room fits pushed memory =
    let low = memory refl in absurd (omega arith)

-- ---- whether the header makes the packet too long

pub onward_most : (s : SidEntry) (allow bytes : List ℕ) (q : Packet) (len : ℕ) → HoldsAlone bytes
    → at_sid s allow (packet_at bytes) ≡ Onward q → len ≡ 40 + length q.payload → len ≤ MAX_PACKET_LEN
onward_most s allow bytes q len alone is long =
    let shorter = at_sid_shorter s allow (packet_at bytes) q is in
    let whole = alone_length bytes alone in
    let most = alone_most bytes alone in
    omega arith

pub same_packet : (p q : Packet) → Onward p ≡ Onward q → p ≡ q
same_packet p q e = cc

pub big_after : (e : Endpoint) (policy : Policy) (reduced : Bool) (q outer : Packet) (big : Bool) → e ≡ Onward q
    → pushed_by policy reduced families.V6 (spelling q) ≡ judged_by big outer → IsBigAfter e policy reduced (Some big)
big_after e policy reduced q outer true is by = (q, (is, (length outer.payload, by)))
big_after e policy reduced q outer false is by = (q, (is, (outer, by)))

-- and then it is dropped
pub dropped_big : (net : Network) (node n : ℕ) (s : SidEntry) (allow : List ℕ) (p : Packet) (number : ℕ) (named : NamedPolicy)
    (policy : Policy) → behaviour_policy s.behaviour ≡ Some number → slice_get net.policies number ≡ Some named → policy ≡ named.policy
    → IsBigAfter (at_sid s allow p) policy (behaviour_reduces s.behaviour) (Some true)
    → dropped net node reasons.TooBig 0 (V6 p) ≡ treated_at_sid net node n s.behaviour p (at_sid s allow p)
dropped_big net node n s allow p number named policy binds there is big =
    let q : Packet = big.0 in
    let e : Encapsulating = TooBig big.1.1.0 in
    let by : pushed_by named.policy (behaviour_reduces s.behaviour) families.V6 (spelling q) ≡ e =
    ap (λ (x : Policy). pushed_by x (behaviour_reduces s.behaviour) families.V6 (spelling q)) (sym is) ∙ big.1.1.1 in
    ap (pushed_at_sid net node n s.behaviour p) (sym by)
    ∙ sym (ap (bound_at_sid net node n s.behaviour p q) there)
    ∙ sym (ap (onward_at_sid net node n s.behaviour p q) binds)
    ∙ ap (treated_at_sid net node n s.behaviour p) (sym big.1.0)

-- where the header makes the packet none too long, the packet goes on from the SID
pub goes_on_bound : (net : Network) (node n : ℕ) (s : SidEntry) (allow : List ℕ) (p : Packet) (number : ℕ) (named : NamedPolicy)
    (policy : Policy) → slice_get net.sids n ≡ Some s → behaviour_policy s.behaviour ≡ Some number
    → slice_get net.policies number ≡ Some named → policy ≡ named.policy
    → IsBigAfter (at_sid s allow p) policy (behaviour_reduces s.behaviour) (Some false)
    → PutsPolicy net (treated_at_sid net node n s.behaviour p (at_sid s allow p)).outcome
goes_on_bound net node n s allow p number named policy at binds there is fits =
    let q : Packet = fits.0 in
    let e : Encapsulating = Outer fits.1.1.0 in
    let by : pushed_by named.policy (behaviour_reduces s.behaviour) families.V6 (spelling q) ≡ e =
    ap (λ (x : Policy). pushed_by x (behaviour_reduces s.behaviour) families.V6 (spelling q)) (sym is) ∙ fits.1.1.1 in
    let gave : pushed_at_sid net node n s.behaviour p e ≡ treated_at_sid net node n s.behaviour p (at_sid s allow p) =
    ap (pushed_at_sid net node n s.behaviour p) (sym by)
    ∙ sym (ap (bound_at_sid net node n s.behaviour p q) there)
    ∙ sym (ap (onward_at_sid net node n s.behaviour p q) binds)
    ∙ ap (treated_at_sid net node n s.behaviour p) (sym fits.1.0) in
    subst (λ (g : Gave). PutsPolicy net g.outcome) gave (subst BindsPolicy (sym at) (ap is_some binds))
