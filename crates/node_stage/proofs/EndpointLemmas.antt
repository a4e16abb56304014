-- What a stage gives of a packet at a SID, by what came of it in its bytes.
use Rattle.std.proofs.Common.{◌≡◌, ◌≢◌, ℕ, false, List, Option, Some, None, IfSome, ◌≤◌, ◌<◌, length, slice_get, refl, sym, ap, subst, ◌∙◌, arith}
use Rattle.std.specs.Prelude.{Result}
use Rattle.srv6_rules.specs.declared.policy.Policy.{Policy}
use Rattle.srv6_rules.specs.declared.family.Family.TheVariants as families
use Rattle.srv6_rules.specs.Behaviours.{behaviour_policy, behaviour_reduces}
use Rattle.srv6_rules.specs.Policies.{Encapsulating, Outer, pushed_by}
use Rattle.srv6_rules.specs.PoliciesTerms.{IsPolicy}
use Rattle.srv6_rules.specs.declared.sid.Csid.{Csid}
use Rattle.srv6_rules.specs.declared.sid.Csid.TheVariants as csids
use Rattle.srv6_rules.specs.declared.sid.SidEntry.{SidEntry}
use Rattle.srv6_rules.specs.CompressedSteps.{is_next}
use Rattle.srv6_rules.specs.Endpoint.{Endpoint, Onward, Exposed, Delivered, Refused, at_sid}
use Rattle.srv6_rules.specs.Packet.{Packet, Content, V6, content_of, packet_at, spelling}
use Rattle.srv6_rules.specs.PacketTerms.{Spells}
use Rattle.srv6_rules.specs.declared.numbers.TheConstants.{MAX_PACKET_LEN}
use Rattle.srv6_rules.proofs.PublicLaws.{length_spelling}
use Rattle.net_model.specs.Network.{Network}
use Rattle.net_model.specs.NetworkKeeps.{Keeps}
use Rattle.net_model.specs.declared.parts.NamedPolicy.{NamedPolicy}
use Rattle.net_model.specs.declared.parts.Node.{Node}
use Rattle.walk_rules.specs.declared.place.Outcome.TheVariants as outcomes
use Rattle.walk_rules.specs.Treatment.{Gave, goes, judged, onward_from, allow_of, pushed_at_sid, bound_at_sid, onward_at_sid, treated_at_address, treated_at_sid, treated_in}
use Rattle.endpoint_chain.specs.declared.outcome.EndOutcome.{EndOutcome}
use Rattle.endpoint_chain.specs.declared.outcome.EndOutcome.TheVariants as ends
use Rattle.endpoint_chain.specs.Outcomes.{Leaves, ComesOf}
use Rattle.policy_encap.specs.EncapAnswers.{Makes}
use Rattle.node_stage.specs.declared.stage_result.Staged.{Staged}
use Rattle.node_stage.specs.Fronted.{FrontedContent}
use Rattle.node_stage.specs.StageAnswers.{Stages}
use Rattle.node_stage.proofs.ReadingLemmas.{spells_content}

-- what is not of NEXT-CSID
pub not_next : (csid : Csid) → csid ≢ csids.Next → is_next csid ≡ false
not_next csids.Plain other = refl
not_next csids.Next other = absurd (other refl)
not_next csids.Replace other = refl

-- ---- what came of a packet, by the outcome

pub comes_on : (e : Endpoint) (old new : List ℕ) (outcome : EndOutcome) → outcome ≡ ends.On → ComesOf e old new outcome
    → Leaves e Onward new
comes_on e old new outcome is h = let P : EndOutcome → Type 0 = λ o. ComesOf e old new o in subst P is h

pub comes_here : (e : Endpoint) (old new : List ℕ) (outcome : EndOutcome) → outcome ≡ ends.Local → ComesOf e old new outcome
    → Leaves e Delivered new
comes_here e old new outcome is h = let P : EndOutcome → Type 0 = λ o. ComesOf e old new o in subst P is h

-- bytes that spell a packet are no more than a packet can have
pub spells_most : (bytes : List ℕ) (p : Packet) → Spells bytes p → length bytes ≤ MAX_PACKET_LEN
spells_most bytes p h =
    let fits = h.0.payload_len in
    omega (arith, ap length h.1, length_spelling p)

-- ---- what is given

module _ (net : Network) (node n : ℕ) (s : SidEntry) (allow old : List ℕ) where
  abbrev p : Packet
  p = packet_at old

  abbrev wanted : Gave
  wanted = treated_at_sid net node n s.behaviour p (at_sid s allow p)

  came : (e : Endpoint) → at_sid s allow p ≡ e → treated_at_sid net node n s.behaviour p e ≡ wanted
  came e of = ap (treated_at_sid net node n s.behaviour p) (sym of)

  -- a packet that goes on from a SID that binds no policy
  pub came_on : (gave : Gave) (new : List ℕ) → gave ≡ goes (outcomes.Again n (onward_from n s.behaviour)) (content_of new)
      → behaviour_policy s.behaviour ≡ None → Leaves (at_sid s allow p) Onward new → gave ≡ wanted
  came_on gave new is unbound left =
      is ∙ ap (goes (outcomes.Again n (onward_from n s.behaviour))) (spells_content new left.packet left.spelled)
      ∙ sym (ap (λ (o : Option ℕ). onward_at_sid net node n s.behaviour p left.packet o) unbound)
      ∙ came (Onward left.packet) left.is

  pub came_here : (new : List ℕ) (after : Content) → after ≡ content_of new → Leaves (at_sid s allow p) Delivered new
      → goes outcomes.Local after ≡ wanted
  came_here new after reads left =
      ap (λ (c : Content). goes outcomes.Local c) (reads ∙ spells_content new left.packet left.spelled)
      ∙ came (Delivered left.packet) left.is

  -- a packet that goes on from a binding SID, by what comes of putting the policy's header in front
  module _ (number : ℕ) (named : NamedPolicy) (policy : Policy) (binds : behaviour_policy s.behaviour ≡ Some number)
      (there : slice_get net.policies number ≡ Some named) (is : policy ≡ named.policy) (mid : List ℕ)
      (left : Leaves (at_sid s allow p) Onward mid) where
    pushed : (e : Encapsulating) → pushed_by policy (behaviour_reduces s.behaviour) families.V6 mid ≡ e
        → pushed_at_sid net node n s.behaviour p e ≡ wanted
    pushed e of =
        let q : Packet = left.packet in
        let by : pushed_by named.policy (behaviour_reduces s.behaviour) families.V6 (spelling q) ≡ e =
        ap (λ (x : Policy). pushed_by x (behaviour_reduces s.behaviour) families.V6 (spelling q)) (sym is)
        ∙ ap (pushed_by policy (behaviour_reduces s.behaviour) families.V6) (sym left.spelled.1) ∙ of in
        ap (pushed_at_sid net node n s.behaviour p) (sym by)
        ∙ sym (ap (bound_at_sid net node n s.behaviour p q) there)
        ∙ sym (ap (onward_at_sid net node n s.behaviour p q) binds)
        ∙ came (Onward q) left.is

    pub pushed_on : (gave : Gave) (new : List ℕ) → gave ≡ goes (outcomes.Again n (onward_from n s.behaviour)) (content_of new)
        → Makes (pushed_by policy (behaviour_reduces s.behaviour) families.V6 mid) new → gave ≡ wanted
    pushed_on gave new so makes =
        so ∙ ap (goes (outcomes.Again n (onward_from n s.behaviour))) (spells_content new makes.packet makes.spelled)
        ∙ pushed (Outer makes.packet) makes.outer

-- the policy that a SID binds is there
pub policy_there : (net : Network) (n : ℕ) (s : SidEntry) (number : ℕ) → Keeps net → slice_get net.sids n ≡ Some s
    → behaviour_policy s.behaviour ≡ Some number → number < length net.policies
policy_there net n s number keeps there binds =
    let P : Option ℕ → Type 0 = λ o. IfSome o (λ (k : ℕ). k < length net.policies) in
    subst P binds (keeps.sid n s there).behaviour.policy

-- the policies of a network are policies that headers are made of
pub policy_is : (net : Network) (number : ℕ) (named : NamedPolicy) (policy : Policy) → Keeps net
    → slice_get net.policies number ≡ Some named → policy ≡ named.policy → IsPolicy policy
policy_is net number named policy keeps there is =
    let k = keeps.policy number named there in
    let flow = k.flow_label in
    subst IsPolicy (sym is) (record { some = k.some; most = k.at_most; flow_label = omega (arith, flow) })

-- what comes of a packet at a SID of a node, by the SID and by the upper layers that the node takes
pub sid_treated : (net : Network) (node n : ℕ) (s : SidEntry) (m : Node) (allow : List ℕ) (p : Packet)
    → slice_get net.sids n ≡ Some s → slice_get net.nodes node ≡ Some m → allow ≡ m.allow
    → treated_at_sid net node n s.behaviour p (at_sid s allow p) ≡ treated_in net node n (slice_get net.sids n) p
sid_treated net node n s m allow p there at is =
    let by : allow ≡ allow_of (slice_get net.nodes node) = is ∙ sym (ap allow_of at) in
    ap (λ (a : List ℕ). treated_at_sid net node n s.behaviour p (at_sid s a p)) by
    ∙ sym (ap (λ (o : Option SidEntry). treated_in net node n o p) there)

-- what is given is what is to be given
pub stages_as : (net : Network) (node : ℕ) (before : FrontedContent) (r : Result Staged FrontedContent) (gave other : Gave) → gave ≡ other
    → Stages net node before r gave → Stages net node before r other
stages_as net node before r gave other is h = let P : Gave → Type 0 = λ g. Stages net node before r g in subst P is h

-- nothing is sent from an address, so that no MTU is judged
pub own_judged : (net : Network) (node : ℕ) (p : Packet) (e : Endpoint)
    → judged net node (V6 p) (treated_at_address net node p e) ≡ treated_at_address net node p e
own_judged net node p (Onward q) = refl
own_judged net node p (Exposed family bytes) = refl
own_judged net node p (Delivered q) = refl
own_judged net node p (Refused reason at) = refl
