use Rattle.std.proofs.Common.{ap}
use Rattle.pkt_buf.specs.BufferView.{Buffer}
use Rattle.srv6_rules.specs.Packet.{packet_at}
use Rattle.srv6_rules.specs.Endpoint.{at_sid}
use Rattle.decap_behaviours.specs.declared.decap_judge.Exposure.TheVariants.{Expose, Deliver, Refuse}
use Rattle.decap_behaviours.proofs.OutcomeLemmas.{alone_exposes, alone_fault, alone_leaves, judged_in, place_there}
use Rattle.decap_behaviours.proofs.decap_stepping.decap_step.Goals as goal

pub drop_front-requires : goal.drop_front-requires
drop_front-requires c =
    let bytes = c.args.buf.now.bytes in
    let at = c.in-Expose.at in
    let is = judged_in c.args.sid.now c.args.allow.now c.view.result.now bytes (Expose c.in-Expose.family at) c.view.ensures
    c.in-Expose.ensures in
    place_there bytes c.requires.packet at is.1

pub dropped-requires : goal.dropped-requires
dropped-requires c =
    let bytes = c.args.buf.now.bytes in
    let fault = c.in-Refuse.fault in
    let is = judged_in c.args.sid.now c.args.allow.now c.view.result.now bytes (Refuse fault) c.view.ensures c.in-Refuse.ensures in
    alone_fault bytes c.requires.packet c.args.sid.now c.args.allow.now fault.reason fault.at is

pub returns-in-Expose-clause-outcome : goal.returns-in-Expose-clause-outcome
returns-in-Expose-clause-outcome c =
    let bytes = c.args.buf.now.bytes in
    let at = c.in-Expose.at in
    let is = judged_in c.args.sid.now c.args.allow.now c.view.result.now bytes (Expose c.in-Expose.family at) c.view.ensures
    c.in-Expose.ensures in
    rw c.drop_front.ensures
    (alone_exposes bytes c.requires.packet (at_sid c.args.sid.now c.args.allow.now (packet_at bytes)) c.in-Expose.family at is.0 is.1)

pub returns-in-Expose-clause-front : goal.returns-in-Expose-clause-front
returns-in-Expose-clause-front c =
    let bytes = c.args.buf.now.bytes in
    let at = c.in-Expose.at in
    let is = judged_in c.args.sid.now c.args.allow.now c.view.result.now bytes (Expose c.in-Expose.family at) c.view.ensures
    c.in-Expose.ensures in
    record {
      taken = at;
      within = place_there bytes c.requires.packet at is.1;
      bytes = ap (λ (b : Buffer). b.bytes) c.drop_front.ensures;
      front = ap (λ (b : Buffer). b.front) c.drop_front.ensures;
    }

pub returns-in-Deliver-clause-outcome : goal.returns-in-Deliver-clause-outcome
returns-in-Deliver-clause-outcome c =
    let bytes = c.args.buf.now.bytes in
    let is = judged_in c.args.sid.now c.args.allow.now c.view.result.now bytes Deliver c.view.ensures c.in-Deliver.ensures in
    alone_leaves bytes c.requires.packet (at_sid c.args.sid.now c.args.allow.now (packet_at bytes)) is
