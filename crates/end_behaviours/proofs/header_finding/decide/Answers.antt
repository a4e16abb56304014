use Rattle.std.proofs.Common.{◌-◌, arith}
use Rattle.srv6_rules.specs.Packet.{packet_at}
use Rattle.ip6_headers.specs.ChainStepping.{place_view}
use Rattle.end_behaviours.specs.HeaderFinding.{at_sid_from, header_of}
use Rattle.end_behaviours.proofs.LastLemmas.{deciding_more, deciding_start, last_fits, routing_kind}
use Rattle.end_behaviours.proofs.TreatmentLemmas.{last_ends}
use Rattle.end_behaviours.proofs.header_finding.decide.Goals as goal

pub lasts-init : goal.lasts-init
lasts-init c =
    deciding_start c.args.sid.now c.args.allow.now (packet_at c.args.bytes.now) c.args.lasts.now.items (place_view c.args.start)
    c.requires.stands c.requires.room

pub new-requires-clause-routing : goal.new-requires-clause-routing
new-requires-clause-routing c =
    routing_kind (header_of (packet_at c.args.bytes.now) (place_view c.in-Last.last) (c.in-Last.next.at - c.in-Last.last.at))
    c.in-Last.ensures.header.routing

pub new-requires-clause-named : goal.new-requires-clause-named
new-requires-clause-named c = c.in-Last.ensures.header.stands.earlier

pub new-requires-clause-fits : goal.new-requires-clause-fits
new-requires-clause-fits c =
    (last_fits c.args.bytes.now c.lasts.place.at _ _ _ (place_view c.in-Last.last) (place_view c.in-Last.next) c.requires.packet
    c.lasts.invariant.room c.in-Last.ensures).1

pub push-requires : goal.push-requires
push-requires c = (
  omega arith,
  (last_fits c.args.bytes.now c.lasts.place.at _ _ _ (place_view c.in-Last.last) (place_view c.in-Last.next) c.requires.packet
      c.lasts.invariant.room c.in-Last.ensures).0,
)

pub lasts-preserved : goal.lasts-preserved
lasts-preserved c =
    deciding_more c.args.sid.now c.args.allow.now c.args.bytes.now _ _ _ _ _ (place_view c.in-Last.last) (place_view c.in-Last.next)
    c.new.result c.requires.packet c.lasts.invariant c.in-Last.ensures c.new.ensures.place c.new.ensures.len c.push.ensures.items

pub returns-in-Decided : goal.returns-in-Decided
returns-in-Decided c = λ e taken. record {
  at = c.lasts.place.at;
  behind = at_sid_from c.args.sid.now c.args.allow.now (packet_at c.args.bytes.now) (place_view c.lasts.place);
  taken = c.lasts.invariant.taken e taken;
  within = c.lasts.invariant.stands.within;
  is = c.in-Decided.ensures;
}

pub lasts-smaller : goal.lasts-smaller
lasts-smaller c =
    let last = c.in-Last.ensures in
    let ends = last_ends c.args.bytes.now c.lasts.place.at _ _ (place_view c.in-Last.last) (place_view c.in-Last.next) c.requires.packet last in
    let later = last.header.later in
    let before = ends.before in
    let within = ends.within in
    omega arith
