use Rattle.std.proofs.Common.{sym, subst, refl, arith}
use Rattle.std.specs.Prelude.{ℕ, Option}
use Rattle.srv6_rules.specs.Packet.{packet_at}
use Rattle.ip6_headers.specs.ChainStepping.{place_view}
use Rattle.endpoint_chain.proofs.PublicLaws.{alone_length}
use Rattle.end_behaviours.specs.HeaderFinding.{at_sid_from}
use Rattle.end_behaviours.specs.Onward.{IsLengthFrom}
use Rattle.end_behaviours.proofs.EndLengthLemmas.{counted_more, counted_start, length_room}
use Rattle.end_behaviours.proofs.TreatmentLemmas.{last_ends}
use Rattle.end_behaviours.proofs.lengths.len_from.Goals as goal

pub lasts-init : goal.lasts-init
lasts-init c =
    counted_start c.args.sid.now c.args.allow.now (packet_at c.args.bytes.now) (place_view c.args.start) c.requires.stands

pub lasts-preserved : goal.lasts-preserved
lasts-preserved c =
    counted_more c.args.sid.now c.args.allow.now c.args.bytes.now (place_view c.args.start) (place_view c.lasts.place)
    (place_view c.in-Last.last) (place_view c.in-Last.next) c.lasts.taken _ c.requires.packet c.lasts.invariant c.in-Last.ensures refl

pub lasts-smaller : goal.lasts-smaller
lasts-smaller c =
    let last = c.in-Last.ensures in
    let ends = last_ends c.args.bytes.now c.lasts.place.at _ _ (place_view c.in-Last.last) (place_view c.in-Last.next) c.requires.packet last in
    let later = last.header.later in
    let before = ends.before in
    let within = ends.within in
    omega arith

pub decided_len-requires-clause-can : goal.decided_len-requires-clause-can
decided_len-requires-clause-can c = (
  c.lasts.place.at,
  (at_sid_from c.args.sid.now c.args.allow.now (packet_at c.args.bytes.now) (place_view c.lasts.place), c.in-Decided.ensures),
)

pub without_headers-requires : goal.without_headers-requires
without_headers-requires c =
    let bytes = c.args.bytes.now in
    let within = c.lasts.invariant.stands.within in
    let room = c.lasts.invariant.room in
    let all = alone_length bytes c.requires.packet in
    length_room c.lasts.place.at c.lasts.taken _ c.decided_len.result (omega arith)
    (c.decided_len.ensures c.lasts.place.at (at_sid_from c.args.sid.now c.args.allow.now (packet_at bytes) (place_view c.lasts.place))
    (omega arith) c.in-Decided.ensures)

pub returns-in-Decided : goal.returns-in-Decided
returns-in-Decided c =
    let bytes = c.args.bytes.now in
    let s = c.args.sid.now in
    let allow = c.args.allow.now in
    let p = packet_at bytes in
    let within = c.lasts.invariant.stands.within in
    let all = alone_length bytes c.requires.packet in
    let P : Option ℕ → Type 0 = λ o. IsLengthFrom c.args.start.at (at_sid_from s allow p (place_view c.args.start)) o in
    subst P (sym c.without_headers.ensures)
    (c.lasts.invariant.without c.decided_len.result
    (c.decided_len.ensures c.lasts.place.at (at_sid_from s allow p (place_view c.lasts.place)) (omega arith) c.in-Decided.ensures))
