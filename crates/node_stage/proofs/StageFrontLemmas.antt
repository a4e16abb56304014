-- What is spare in front of what a stage leaves.
use Rattle.std.proofs.Common.{◌≡◌, ℕ, ◌+◌, ◌-◌, ◌<◌, max, Bool, List, Option, Some, None, length, slice_get, sym, ap, ap₂, subst, ◌∙◌, arith, length-drop}
use Rattle.srv6_rules.specs.declared.policy.Policy.{Policy}
use Rattle.srv6_rules.specs.declared.family.Family.{Family}
use Rattle.srv6_rules.specs.declared.reason.Reason.{Reason}
use Rattle.srv6_rules.specs.declared.sid.SidEntry.{SidEntry}
use Rattle.srv6_rules.specs.Behaviours.{behaviour_policy, behaviour_reduces}
use Rattle.srv6_rules.specs.Encapsulation.{header_bytes}
use Rattle.srv6_rules.specs.Endpoint.{Exposed, at_sid}
use Rattle.srv6_rules.specs.Packet.{Packet, V6, packet_at, spelling}
use Rattle.pkt_buf.specs.BufferView.{Buffer}
use Rattle.net_model.specs.Network.{Network}
use Rattle.net_model.specs.declared.parts.NamedPolicy.{NamedPolicy}
use Rattle.walk_rules.specs.declared.place.Outcome.TheVariants as outcomes
use Rattle.walk_rules.specs.Treatment.{allow_of, treated_at_sid}
use Rattle.endpoint_chain.specs.declared.outcome.EndOutcome.{EndOutcome}
use Rattle.endpoint_chain.specs.declared.outcome.EndOutcome.TheVariants as ends
use Rattle.endpoint_chain.specs.ChainFronts.{FrontAfter, TakenOff}
use Rattle.endpoint_chain.specs.Outcomes.{ComesOf, HoldsAlone}
use Rattle.endpoint_chain.proofs.PublicLaws.{alone_spelled}
use Rattle.policy_encap.specs.declared.policy_headers.TheConstants.{MAX_FRONT}
use Rattle.node_stage.specs.declared.stage_error.StageResult.{StageResult}
use Rattle.node_stage.specs.declared.stage_result.Staged.{Staged}
use Rattle.node_stage.specs.declared.stage_result.Staged.TheVariants.{Drops}
use Rattle.node_stage.specs.Fronted.{FrontedContent, front_after, front_behind, front_bound, front_pushed, fronted, taken_at, taken_off}
use Rattle.node_stage.specs.FrontedTerms.{FrontedPacket, fronted_at}
use Rattle.node_stage.specs.StageAnswers.{FrontOf, StagesAll, gave_of}

-- after what came of a packet at a SID, by the outcome

came_so : (old new : Buffer) (outcome is : EndOutcome) → outcome ≡ is → FrontAfter old new outcome → FrontAfter old new is
came_so old new outcome is e h = let P : EndOutcome → Type 0 = λ o. FrontAfter old new o in subst P e h

pub front_on : (net : Network) (n : ℕ) (s : SidEntry) (old new : Buffer) (outcome : EndOutcome) → outcome ≡ ends.On
    → slice_get net.sids n ≡ Some s → behaviour_policy s.behaviour ≡ None → FrontAfter old new outcome
    → new.front ≡ front_behind net (slice_get net.sids n) old.front
front_on net n s old new outcome is there unbound h =
    came_so old new outcome ends.On is h
    ∙ sym (ap (λ (o : Option SidEntry). front_behind net o old.front) there
    ∙ ap (λ (o : Option ℕ). front_bound net s.behaviour o old.front) unbound)

-- a packet inside was exposed, so that all that stood in front of it is spare
pub front_hand : (net : Network) (node n : ℕ) (s : SidEntry) (allow : List ℕ) (family : Family) (old new : Buffer) (outcome : EndOutcome)
    → outcome ≡ ends.Hand family → slice_get net.sids n ≡ Some s → allow ≡ allow_of (slice_get net.nodes node) → HoldsAlone old.bytes
    → ComesOf (at_sid s allow (packet_at old.bytes)) old.bytes new.bytes outcome → FrontAfter old new outcome
    → new.front ≡ old.front + taken_at (allow_of (slice_get net.nodes node)) (slice_get net.sids n) (V6 (packet_at old.bytes))
front_hand net node n s allow family old new outcome is there of alone came h =
    let p : Packet = packet_at old.bytes in
    let off : TakenOff old new = came_so old new outcome (ends.Hand family) is h in
    let C : EndOutcome → Type 0 = λ o. ComesOf (at_sid s allow p) old.bytes new.bytes o in
    let exposed : at_sid s allow p ≡ Exposed family new.bytes = subst C is came in
    let long : length old.bytes ≡ length (spelling p) = ap length (alone_spelled old.bytes alone) in
    let less : length new.bytes ≡ length old.bytes - off.taken = ap length off.bytes ∙ length-drop off.taken old.bytes in
    let within = off.within in
    let taken : off.taken ≡ length (spelling p) - length new.bytes = omega (arith, long, less, within) in
    off.front
    ∙ ap (λ (k : ℕ). old.front + k) (taken ∙ sym (ap (taken_off p) exposed)
    ∙ ap (λ (a : List ℕ). taken_at a (Some s) (V6 p)) of)
    ∙ sym (ap (λ (o : Option SidEntry). old.front + taken_at (allow_of (slice_get net.nodes node)) o (V6 p)) there)

pub front_here : (old new : Buffer) (outcome : EndOutcome) → outcome ≡ ends.Local → FrontAfter old new outcome → new.front ≡ old.front
front_here old new outcome is h = came_so old new outcome ends.Local is h

pub front_dropped : (old new : Buffer) (reason : Reason) (at : ℕ) (outcome : EndOutcome) → outcome ≡ ends.Drop reason at
    → FrontAfter old new outcome → new.front ≡ old.front
front_dropped old new reason at outcome is h = came_so old new outcome (ends.Drop reason at) is h

-- after a policy's header was put in front, where as many bytes were spare as the longest header has
pub front_bound_law : (net : Network) (n number : ℕ) (s : SidEntry) (named : NamedPolicy) (policy : Policy) (reduced : Bool) (front mid new : ℕ)
    → slice_get net.sids n ≡ Some s → behaviour_policy s.behaviour ≡ Some number → slice_get net.policies number ≡ Some named
    → policy ≡ named.policy → reduced ≡ behaviour_reduces s.behaviour → mid ≡ max MAX_FRONT front
    → new ≡ mid - header_bytes reduced (length policy.segments)
    → new ≡ front_behind net (slice_get net.sids n) front
front_bound_law net n number s named policy reduced front mid new there binds names is reduces room put =
    put ∙ ap (λ (m : ℕ). m - header_bytes reduced (length policy.segments)) room
    ∙ ap (λ (b : Bool). max MAX_FRONT front - header_bytes b (length policy.segments)) reduces
    ∙ ap (λ (x : Policy). max MAX_FRONT front - header_bytes (behaviour_reduces s.behaviour) (length x.segments)) is
    ∙ sym (ap (λ (o : Option SidEntry). front_behind net o front) there
    ∙ ap (λ (o : Option ℕ). front_bound net s.behaviour o front) binds
    ∙ ap (λ (o : Option NamedPolicy). front_pushed s.behaviour o front) names)

-- what is given of a packet in its buffer is what is given of it
pub sid_stages : (net : Network) (node n : ℕ) (s : SidEntry) (allow : List ℕ) (old : Buffer) (p : FrontedPacket) (staged : Staged)
    → packet_at old.bytes ≡ p.packet → old.front ≡ p.front
    → gave_of net node staged ≡ treated_at_sid net node n s.behaviour (packet_at old.bytes) (at_sid s allow (packet_at old.bytes))
    → FrontOf net node (fronted_at old) staged
    → StagesAll net node (fronted (V6 p.packet) p.front) staged (treated_at_sid net node n s.behaviour p.packet (at_sid s allow p.packet))
sid_stages net node n s allow old p staged same room gave front =
    let P : Packet → Type 0 =
    λ q. StagesAll net node (fronted (V6 q) old.front) staged (treated_at_sid net node n s.behaviour q (at_sid s allow q)) in
    let Q : ℕ → Type 0 =
    λ k. StagesAll net node (fronted (V6 p.packet) k) staged (treated_at_sid net node n s.behaviour p.packet (at_sid s allow p.packet)) in
    subst Q room (subst P same (gave, front))

-- what is stage_result of a drop stands there as before
pub front_told : (net : Network) (node : ℕ) (before kept : FrontedContent) (staged : Staged) (stage_result : StageResult) (reason : Reason) (detail : ℕ)
    (error : Bool)
    → staged ≡ Drops reason detail kept → FrontOf net node before staged → stage_result.after ≡ kept → stage_result.outcome ≡ outcomes.Drop reason error
    → stage_result.after.front ≡ front_after net node before stage_result.outcome
front_told net node before kept staged stage_result reason detail error is front after out =
    let P : Staged → Type 0 = λ s. FrontOf net node before s in
    ap (λ (v : FrontedContent). v.front) after ∙ subst P is front ∙ sym (ap (front_after net node before) out)

-- a packet that is given back, for want of memory, is as it was
pub kept_back : (p : FrontedPacket) (old left : Buffer) (again : FrontedPacket) (kept : FrontedContent) → left ≡ old
    → packet_at old.bytes ≡ p.packet → old.front ≡ p.front → again ≡ record { packet = packet_at left.bytes; front = left.front }
    → kept ≡ fronted (V6 again.packet) again.front → old.front < MAX_FRONT
    → (kept ≡ fronted (V6 p.packet) p.front) × (p.front < MAX_FRONT)
kept_back p old left again kept stays same room back is want =
    let at : FrontedPacket → FrontedContent = λ q. fronted (V6 q.packet) q.front in
    let of_buffer : Buffer → FrontedContent = fronted_at in
    let made : Packet → ℕ → FrontedContent = λ q n. fronted (V6 q) n in (
      is ∙ ap at back ∙ ap of_buffer stays ∙ ap₂ made same room,
      subst (λ (n : ℕ). n < MAX_FRONT) room want,
    )
