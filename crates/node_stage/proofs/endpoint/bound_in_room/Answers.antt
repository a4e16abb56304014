use Rattle.std.proofs.Common.{◌≡◌, Bool, ap, sym, subst, ◌∙◌, List, ℕ, arith}
use Rattle.srv6_rules.specs.declared.family.Family.TheVariants as families
use Rattle.srv6_rules.specs.Behaviours.{behaviour_reduces}
use Rattle.srv6_rules.specs.Packet.{Packet, V6, packet_at, spelling}
use Rattle.srv6_rules.specs.Policies.{pushed_by}
use Rattle.policy_encap.specs.EncapAnswers.{Makes}
use Rattle.node_stage.specs.Fronted.{fronted}
use Rattle.node_stage.specs.StageAnswers.{gave_of}
use Rattle.node_stage.proofs.BindingLemmas.{same_packet}
use Rattle.node_stage.proofs.StageFrontLemmas.{front_bound_law}
use Rattle.node_stage.proofs.EndpointLemmas.{pushed_on, spells_most}
use Rattle.node_stage.proofs.endpoint.bound_in_room.Goals as goal

pub push_in_room-requires-clause-packet : goal.push_in_room-requires-clause-packet
push_in_room-requires-clause-packet c =
    spells_most c.end_step-outcome.new.buf.bytes c.in-On.ensures.outcome.packet c.in-On.ensures.outcome.spelled

pub push_in_room-requires-clause-room : goal.push_in_room-requires-clause-room
push_in_room-requires-clause-room c =
    let same = c.in-On.ensures.front in
    let room = c.requires.room in
    omega arith

pub push_in_room-requires-clause-fits : goal.push_in_room-requires-clause-fits
push_in_room-requires-clause-fits c =
    let s = c.args.entry.now in
    let policy = c.args.policy.now in
    let left = c.in-On.ensures.outcome in
    let fits = c.requires.fits in
    let same : left.packet ≡ fits.0 = same_packet left.packet fits.0 (sym left.is ∙ fits.1.0) in (
      fits.1.1.0,
      ap (λ (b : Bool). pushed_by policy b families.V6 c.end_step-outcome.new.buf.bytes) c.reduces.ensures
          ∙ ap (pushed_by policy (behaviour_reduces s.behaviour) families.V6) (left.spelled.1 ∙ ap (λ (p : Packet). spelling p) same)
          ∙ fits.1.1.1,
    )

pub returns : goal.returns
returns c = λ net node number front named there binds names is room.
    let s = c.args.entry.now in
    let policy = c.args.policy.now in
    let old : List ℕ = c.args.bytes.bytes in
    let mid : List ℕ = c.end_step-outcome.new.buf.bytes in
    let new : List ℕ = c.push_in_room.new.bytes.bytes in
    let P : Bool → Type 0 = λ b. Makes (pushed_by policy b families.V6 mid) new in (
      pushed_on net node c.args.sid s c.args.allow.now old number named policy binds names is mid c.in-On.ensures.outcome
          (gave_of net node c.again.result) new (c.again.ensures.gave net node)
          (subst P c.reduces.ensures c.push_in_room.ensures.packet),
      c.again.ensures.front net node (fronted (V6 (packet_at old)) front)
          (front_bound_law net c.args.sid number s named policy c.reduces.result front c.end_step-outcome.new.buf.front
          c.push_in_room.new.bytes.front there binds names is c.reduces.ensures (c.in-On.ensures.front ∙ room)
          c.push_in_room.ensures.front),
    )
