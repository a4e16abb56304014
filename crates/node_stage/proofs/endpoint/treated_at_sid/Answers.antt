use Rattle.std.proofs.Common.{◌≡◌, ◌∙◌, None, ap, sym}
use Rattle.pkt_buf.specs.BufferView.{Buffer}
use Rattle.srv6_rules.specs.Behaviours.{behaviour_policy}
use Rattle.srv6_rules.specs.Endpoint.{at_sid}
use Rattle.srv6_rules.specs.Packet.{packet_at}
use Rattle.endpoint_chain.specs.declared.outcome.EndOutcome.TheVariants as ends
use Rattle.node_stage.proofs.EndpointLemmas.{comes_on}
use Rattle.node_stage.proofs.StageFrontLemmas.{sid_stages}
use Rattle.node_stage.proofs.endpoint.treated_at_sid.Goals as goal

pub returns : goal.returns
returns c = λ net node there of.
    let s = c.args.entry.now in
    let allow = c.args.allow.now in
    let old : Buffer = c.into_bytes-bytes.result in
    let new : Buffer = c.step_at_sid-outcome.new.bytes in
    let outcome = c.step_at_sid-outcome.result in
    let came = c.step_at_sid-outcome.ensures.outcome in
    let same = c.into_bytes-bytes.ensures.packet in
    let alone = c.into_bytes-bytes.ensures.alone in
    let unbound : outcome ≡ ends.On → behaviour_policy s.behaviour ≡ None =
    λ on. let left = comes_on (at_sid s allow (packet_at old.bytes)) old.bytes new.bytes outcome on came in
    c.requires.unbound left.packet (sym (ap (at_sid s allow) same) ∙ left.is) in
    sid_stages net node c.args.sid s allow old c.args.packet c.given.result same c.into_bytes-bytes.ensures.front
    (c.given.ensures.gave net node allow old.bytes alone unbound came)
    (c.given.ensures.front net node allow old there of alone unbound came c.step_at_sid-outcome.ensures.front)
