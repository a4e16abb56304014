use Rattle.std.proofs.Common.{◌≡◌, ◌&&◌, true, false, refl}
use Rattle.srv6_rules.specs.Chain.{without}
use Rattle.srv6_rules.specs.Packet.{packet_at}
use Rattle.ip6_headers.specs.ChainStepping.{place_view}
use Rattle.end_behaviours.specs.HeaderFinding.{header_of}
use Rattle.end_behaviours.proofs.EndRemovalLemmas.{out_reaches, out_spelled, stay_spelled}
use Rattle.end_behaviours.proofs.writing.pop.Goals.{else-sid-via-then-sid+else-ended, else-sid-via-else-sid}
use Rattle.end_behaviours.proofs.writing.pop.Goals as goal

pub returns-then-ended-clause-packet : goal.returns-then-ended-clause-packet
returns-then-ended-clause-packet c =
    let both : (c.args.sid.now.psp && c.args.ended) ≡ true = rw (c.if-sid.true, c.if-ended.true) refl in
    out_spelled c.args.buf.now.bytes c.take_out.new.buf.bytes (place_view c.args.place) c.args.len c.requires.packet c.requires.behind
    c.requires.within (c.args.sid.now.psp && c.args.ended) both c.take_out.ensures.packet

pub returns-then-ended-clause-long : goal.returns-then-ended-clause-long
returns-then-ended-clause-long c =
    out_reaches c.args.buf.now.bytes c.take_out.new.buf.bytes (place_view c.args.place) c.args.len c.requires.packet c.requires.behind
    c.requires.within c.take_out.ensures.packet

pub returns-else-sid-clause-packet : goal.returns-else-sid-clause-packet
returns-else-sid-clause-packet c =
    let bytes = c.args.buf.now.bytes in
    let p = packet_at bytes in
    let either : (c.args.sid.now.psp && c.args.ended) ≡ false = elim c.else-sid.branch [
      | else-sid-via-then-sid+else-ended w ↦ rw (w.if-sid.true, w.if-ended.false) refl
      | else-sid-via-else-sid w ↦ rw w.if-sid.false refl
    ] in
    stay_spelled bytes (without p (header_of p (place_view c.args.place) c.args.len)) (c.args.sid.now.psp && c.args.ended) either
    c.requires.packet
