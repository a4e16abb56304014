use Rattle.std.proofs.Common.{◌≡◌, ◌∙◌, ℕ, Bool, Some, false, refl, ap, max, sym, subst}
use Rattle.pkt_buf.specs.BufferView.{Buffer}
use Rattle.policy_encap.specs.declared.policy_headers.TheConstants.{MAX_FRONT}
use Rattle.srv6_rules.specs.Behaviours.{behaviour_reduces}
use Rattle.srv6_rules.specs.Endpoint.{at_sid}
use Rattle.srv6_rules.specs.Packet.{Packet, V6, packet_at}
use Rattle.walk_rules.specs.Treatment.{treated_at_sid}
use Rattle.endpoint_chain.specs.Outcomes.{HoldsAlone}
use Rattle.node_stage.specs.declared.stage_result.Staged.{Staged}
use Rattle.node_stage.specs.Fronted.{FrontedContent, fronted}
use Rattle.node_stage.specs.StageAnswers.{IsBigAfter, StagesAll}
use Rattle.node_stage.proofs.BindingLemmas.{dropped_big, goes_on_bound}
use Rattle.node_stage.proofs.StageFrontLemmas.{kept_back}
use Rattle.node_stage.proofs.endpoint.bound_by.Goals as goal

pub returns-then-big : goal.returns-then-big
returns-then-big c = λ net node number named there binds names is.
    let s = c.args.entry.now in
    let policy = c.args.policy.now in
    let e = at_sid s c.args.allow.now c.args.packet.packet in
    let P : Bool → Type 0 = λ b. IsBigAfter e policy (behaviour_reduces s.behaviour) (Some b) in
    let before : FrontedContent = fronted (V6 c.args.packet.packet) c.args.packet.front in
    let Q : Staged → Type 0 = λ x. StagesAll net node before x (treated_at_sid net node c.args.sid s.behaviour c.args.packet.packet e) in
    subst Q (sym c.too_big.ensures) (
      dropped_big net node c.args.sid s c.args.allow.now c.args.packet.packet number named policy binds names is
          (subst P c.if-big.true c.requires.big),
      refl,
    )

pub bound_in_room-requires-clause-packet : goal.bound_in_room-requires-clause-packet
bound_in_room-requires-clause-packet c = subst HoldsAlone (sym c.in-Ok.ensures.bytes) c.into_bytes-bytes.ensures.alone

pub bound_in_room-requires-clause-fits : goal.bound_in_room-requires-clause-fits
bound_in_room-requires-clause-fits c =
    let s = c.args.entry.now in
    let allow = c.args.allow.now in
    let policy = c.args.policy.now in
    let P : Bool → Type 0 = λ b. IsBigAfter (at_sid s allow c.args.packet.packet) policy (behaviour_reduces s.behaviour) (Some b) in
    let Q : Packet → Type 0 = λ p. IsBigAfter (at_sid s allow p) policy (behaviour_reduces s.behaviour) (Some false) in
    let same : packet_at c.reserve_front.new.self.bytes ≡ c.args.packet.packet =
    ap packet_at c.in-Ok.ensures.bytes ∙ c.into_bytes-bytes.ensures.packet in
    subst Q (sym same) (subst P c.if-big.false c.requires.big)

pub alone-requires : goal.alone-requires
alone-requires c =
    subst (λ (b : Buffer). HoldsAlone b.bytes) (sym c.in-Err.ensures.err) c.into_bytes-bytes.ensures.alone

pub returns-in-Ok : goal.returns-in-Ok
returns-in-Ok c = λ net node number named there binds names is.
    let s = c.args.entry.now in
    let allow = c.args.allow.now in
    let front : ℕ = c.args.packet.front in
    let same : packet_at c.reserve_front.new.self.bytes ≡ c.args.packet.packet =
    ap packet_at c.in-Ok.ensures.bytes ∙ c.into_bytes-bytes.ensures.packet in
    let room : c.reserve_front.new.self.front ≡ max MAX_FRONT front =
    c.in-Ok.ensures.front ∙ ap (max MAX_FRONT) c.into_bytes-bytes.ensures.front in
    let P : Packet → Type 0 =
    λ p. StagesAll net node (fronted (V6 p) front) c.bound_in_room.result
    (treated_at_sid net node c.args.sid s.behaviour p (at_sid s allow p)) in
    subst P same (c.bound_in_room.ensures net node number front named there binds names is room)

pub returns-in-Err : goal.returns-in-Err
returns-in-Err c = λ net node number named there binds names is.
    let s = c.args.entry.now in
    let policy = c.args.policy.now in
    let P : Bool → Type 0 =
    λ b. IsBigAfter (at_sid s c.args.allow.now c.args.packet.packet) policy (behaviour_reduces s.behaviour) (Some b) in
    let back = kept_back c.args.packet c.into_bytes-bytes.result c.reserve_front.new.self c.alone.result c.of.result c.in-Err.ensures.err
    c.into_bytes-bytes.ensures.packet c.into_bytes-bytes.ensures.front c.alone.ensures c.of.ensures c.in-Err.ensures.want in (
      back.0,
      back.1,
      goes_on_bound net node c.args.sid s c.args.allow.now c.args.packet.packet number named policy there binds names is
          (subst P c.if-big.false c.requires.big),
    )
