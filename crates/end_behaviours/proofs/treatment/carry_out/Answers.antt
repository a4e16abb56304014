use Rattle.std.proofs.Common.{ap, arith}
use Rattle.srv6_rules.specs.Packet.{packet_at}
use Rattle.pkt_buf.specs.BufferView.{Buffer}
use Rattle.endpoint_chain.proofs.PublicLaws.{alone_length}
use Rattle.end_behaviours.specs.declared.end_headers.Decision.TheVariants.{Step, Expose, Deliver}
use Rattle.end_behaviours.proofs.AloneLemmas.{alone_spells}
use Rattle.end_behaviours.proofs.EndStepLemmas.{comes_same}
use Rattle.end_behaviours.proofs.TreatmentLemmas.{decided_as, exposed_bytes}
use Rattle.end_behaviours.proofs.treatment.carry_out.Goals as goal

pub drop_front-requires : goal.drop_front-requires
drop_front-requires c =
    let old = c.args.buf.now.bytes in
    let can = c.requires.can in
    let found = decided_as c.args.sid.now (packet_at old) can.0 can.1.0 c.args.decision (Expose c.in-Expose.family c.in-Expose.at)
    c.in-Expose.is can.1.1 in
    let within = found.1.within in
    let all = alone_length old c.requires.packet in
    omega arith

pub returns-in-Step-clause-outcome : goal.returns-in-Step-clause-outcome
returns-in-Step-clause-outcome c = λ first e decided.
    let old = c.args.buf.now.bytes in
    let step = decided_as c.args.sid.now (packet_at old) first e c.args.decision (Step c.in-Step.place c.in-Step.len) c.in-Step.is decided in
    comes_same _ _ old c.step_over.new.buf.bytes c.step_over.result step.is (c.step_over.ensures.outcome step.behind)

pub returns-in-Expose-clause-outcome : goal.returns-in-Expose-clause-outcome
returns-in-Expose-clause-outcome c = λ first e decided.
    let old = c.args.buf.now.bytes in
    let found = decided_as c.args.sid.now (packet_at old) first e c.args.decision (Expose c.in-Expose.family c.in-Expose.at) c.in-Expose.is
    decided in
    rw (ap (λ (b : Buffer). b.bytes) c.drop_front.ensures)
    (exposed_bytes _ c.in-Expose.family old c.in-Expose.at c.requires.packet found.1.behind found.0)

pub returns-in-Expose-clause-front : goal.returns-in-Expose-clause-front
returns-in-Expose-clause-front c =
    let old = c.args.buf.now.bytes in
    let can = c.requires.can in
    let found = decided_as c.args.sid.now (packet_at old) can.0 can.1.0 c.args.decision (Expose c.in-Expose.family c.in-Expose.at)
    c.in-Expose.is can.1.1 in
    let within = found.1.within in
    let all = alone_length old c.requires.packet in
    record {
      taken = c.in-Expose.at;
      within = omega arith;
      bytes = ap (λ (b : Buffer). b.bytes) c.drop_front.ensures;
      front = ap (λ (b : Buffer). b.front) c.drop_front.ensures;
    }

pub returns-in-Deliver-clause-outcome : goal.returns-in-Deliver-clause-outcome
returns-in-Deliver-clause-outcome c = λ first e decided.
    let old = c.args.buf.now.bytes in
    let is = decided_as c.args.sid.now (packet_at old) first e c.args.decision Deliver c.in-Deliver.is decided in
    record { packet = packet_at old; is = is; spelled = alone_spells old c.requires.packet }
