use Rattle.std.proofs.Common.{◌-◌, arith}
use Rattle.srv6_rules.specs.Packet.{packet_at}
use Rattle.srv6_rules.specs.Endpoint.{outcome_without}
use Rattle.ip6_headers.specs.ChainStepping.{place_view}
use Rattle.ip6_headers.proofs.PublicLaws.{holds_spellable}
use Rattle.end_behaviours.specs.HeaderFinding.{at_sid_from, header_of}
use Rattle.end_behaviours.proofs.LastLemmas.{decided_takes, decided_without}
use Rattle.end_behaviours.proofs.treatment.step_without_all.Goals as goal

pub new-requires-clause-fits : goal.new-requires-clause-fits
new-requires-clause-fits c =
    let within = c.requires.header.lies.within in
    let long = c.requires.header.long in
    let short = (holds_spellable c.args.buf.now.bytes c.requires.packet.holds).payload_len in
    omega arith

pub carry_out-outcome-requires-clause-can : goal.carry_out-outcome-requires-clause-can
carry_out-outcome-requires-clause-can c =
    let old = c.args.buf.now.bytes in
    let decided = decided_without c.args.sid.now c.args.allow.now c.view.result.now old (place_view c.args.place) (place_view c.args.next)
    c.new.result c.new-lasts.result.items c.push.new.self.items c.decide-decision.new.lasts.items c.decide-decision.result
    c.requires.packet c.requires.header c.new.ensures.place c.new.ensures.len c.new-lasts.ensures c.push.ensures.items c.view.ensures
    c.decide-decision.ensures in
    (decided.at, (decided.behind, decided.is))

pub take_out_all-requires : goal.take_out_all-requires
take_out_all-requires c =
    let old = c.args.buf.now.bytes in
    let decided = decided_without c.args.sid.now c.args.allow.now c.view.result.now old (place_view c.args.place) (place_view c.args.next)
    c.new.result c.new-lasts.result.items c.push.new.self.items c.decide-decision.new.lasts.items c.decide-decision.result
    c.requires.packet c.requires.header c.new.ensures.place c.new.ensures.len c.new-lasts.ensures c.push.ensures.items c.view.ensures
    c.decide-decision.ensures in
    let e = outcome_without (header_of (packet_at old) (place_view c.args.place) (c.args.next.at - c.args.place.at))
    (at_sid_from c.args.sid.now c.args.allow.now (packet_at old) (place_view c.args.next)) in
    let takes = decided_takes c.args.sid.now old c.carry_out-outcome.new.buf.bytes c.decide-decision.new.lasts.items e
    c.decide-decision.result c.carry_out-outcome.result c.requires.packet c.carry_out-outcome.ensures.outcome
    c.carry_out-outcome.ensures.reaches decided in
    record { can = (e, (old, takes)) }

pub returns-clause-outcome : goal.returns-clause-outcome
returns-clause-outcome c =
    let old = c.args.buf.now.bytes in
    let decided = decided_without c.args.sid.now c.args.allow.now c.view.result.now old (place_view c.args.place) (place_view c.args.next)
    c.new.result c.new-lasts.result.items c.push.new.self.items c.decide-decision.new.lasts.items c.decide-decision.result
    c.requires.packet c.requires.header c.new.ensures.place c.new.ensures.len c.new-lasts.ensures c.push.ensures.items c.view.ensures
    c.decide-decision.ensures in
    let e = outcome_without (header_of (packet_at old) (place_view c.args.place) (c.args.next.at - c.args.place.at))
    (at_sid_from c.args.sid.now c.args.allow.now (packet_at old) (place_view c.args.next)) in
    let takes = decided_takes c.args.sid.now old c.carry_out-outcome.new.buf.bytes c.decide-decision.new.lasts.items e
    c.decide-decision.result c.carry_out-outcome.result c.requires.packet c.carry_out-outcome.ensures.outcome
    c.carry_out-outcome.ensures.reaches decided in
    c.take_out_all.ensures.outcome e old takes

pub returns-clause-front : goal.returns-clause-front
returns-clause-front c = c.take_out_all.ensures.front c.args.buf.now c.carry_out-outcome.ensures.front
