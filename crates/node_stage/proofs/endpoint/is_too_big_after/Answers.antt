use Rattle.std.proofs.Common.{◌≡◌, Bool, ap, sym, ◌∙◌, length}
use Rattle.srv6_rules.specs.declared.family.Family.TheVariants as families
use Rattle.srv6_rules.specs.Behaviours.{behaviour_reduces}
use Rattle.srv6_rules.specs.Endpoint.{at_sid}
use Rattle.srv6_rules.specs.Packet.{packet_at, spelling}
use Rattle.srv6_rules.specs.Policies.{outer_by, pushed_by}
use Rattle.srv6_rules.proofs.PublicLaws.{length_spelling}
use Rattle.node_stage.proofs.BindingLemmas.{big_after, onward_most}
use Rattle.node_stage.proofs.endpoint.is_too_big_after.Goals as goal

pub is_too_big-requires-clause-packet : goal.is_too_big-requires-clause-packet
is_too_big-requires-clause-packet c =
    let goes = c.in-Some.ensures in
    onward_most c.args.entry.now c.args.allow.now c.args.bytes.now goes.packet c.in-Some.len c.requires.packet goes.is goes.long

pub returns-in-Some : goal.returns-in-Some
returns-in-Some c =
    let s = c.args.entry.now in
    let policy = c.args.policy.now in
    let goes = c.in-Some.ensures in
    let bytes = spelling goes.packet in
    let long : length bytes ≡ c.in-Some.len = length_spelling goes.packet ∙ sym goes.long in
    let by = c.is_too_big.ensures families.V6 bytes long in
    big_after (at_sid s c.args.allow.now (packet_at c.args.bytes.now)) policy (behaviour_reduces s.behaviour) goes.packet
    (outer_by policy c.reduces.result families.V6 bytes) c.is_too_big.result goes.is
    (ap (λ (b : Bool). pushed_by policy b families.V6 bytes) (sym c.reduces.ensures) ∙ by)
