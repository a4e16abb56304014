use Rattle.std.proofs.Common.{◌≡◌, ◌+◌, ◌-◌, refl, sym, arith}
use Rattle.srv6_rules.specs.Packet.{packet_at}
use Rattle.ip6_headers.specs.ChainStepping.{place_view}
use Rattle.endpoint_chain.proofs.PublicLaws.{alone_length}
use Rattle.end_behaviours.specs.declared.end_headers.Found.TheVariants.{Decided}
use Rattle.end_behaviours.specs.HeaderFinding.{at_sid_from, header_of}
use Rattle.end_behaviours.proofs.EndRemovalLemmas.{left_remains}
use Rattle.end_behaviours.proofs.TreatmentLemmas.{found_in, remains_at}
use Rattle.end_behaviours.proofs.treatment.step_without.Goals as goal

pub carry_out-outcome-requires-clause-can : goal.carry_out-outcome-requires-clause-can
carry_out-outcome-requires-clause-can c =
    let old = c.args.buf.now.bytes in
    let s = c.args.sid.now in
    let allow = c.args.allow.now in
    let next = place_view c.args.next in
    let found = found_in s allow c.view.result.now old c.args.next.at next (Decided c.in-Decided.decision) c.view.ensures
    c.in-Decided.ensures in
    (c.args.next.at, (at_sid_from s allow (packet_at old) next, found))

pub take_out_of-requires-clause-remains : goal.take_out_of-requires-clause-remains
take_out_of-requires-clause-remains c =
    let old = c.args.buf.now.bytes in
    let s = c.args.sid.now in
    let allow = c.args.allow.now in
    let place = place_view c.args.place in
    let next = place_view c.args.next in
    let new = c.carry_out-outcome.new.buf.bytes in
    let outcome = c.carry_out-outcome.result in
    let e = at_sid_from s allow (packet_at old) next in
    let found = found_in s allow c.view.result.now old c.args.next.at next (Decided c.in-Decided.decision) c.view.ensures
    c.in-Decided.ensures in
    let least = c.requires.header.lies.least in
    let long = c.requires.header.long in
    let within = c.requires.stands.within in
    let all = alone_length old c.requires.packet in
    let sum : next.at ≡ place.at + (next.at - place.at) = omega arith in
    remains_at next.at (place.at + (next.at - place.at)) new outcome sum
    (left_remains e next.at old new outcome (c.carry_out-outcome.ensures.outcome next.at e found)
    (c.carry_out-outcome.ensures.reaches next.at e found (omega arith)))

pub take_out_of-requires-clause-some : goal.take_out_of-requires-clause-some
take_out_of-requires-clause-some c =
    let least = c.requires.header.lies.least in
    let long = c.requires.header.long in
    omega arith

pub returns-in-Decided-clause-outcome : goal.returns-in-Decided-clause-outcome
returns-in-Decided-clause-outcome c =
    let old = c.args.buf.now.bytes in
    let s = c.args.sid.now in
    let allow = c.args.allow.now in
    let place = place_view c.args.place in
    let next = place_view c.args.next in
    let e = at_sid_from s allow (packet_at old) next in
    let found = found_in s allow c.view.result.now old c.args.next.at next (Decided c.in-Decided.decision) c.view.ensures
    c.in-Decided.ensures in
    c.take_out_of.ensures.outcome e old (header_of (packet_at old) place (next.at - place.at)) refl c.requires.header.long
    (c.carry_out-outcome.ensures.outcome next.at e found)

pub returns-in-Decided-clause-front : goal.returns-in-Decided-clause-front
returns-in-Decided-clause-front c = c.take_out_of.ensures.front c.args.buf.now c.carry_out-outcome.ensures.front
