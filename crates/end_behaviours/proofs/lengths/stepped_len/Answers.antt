use Rattle.std.proofs.Common.{◌-◌, if◌then◌else◌, length, ap, ◌∙◌, arith}
use Rattle.srv6_rules.specs.Packet.{packet_at}
use Rattle.ip6_headers.specs.ChainStepping.{place_view}
use Rattle.endpoint_chain.proofs.PublicLaws.{alone_length}
use Rattle.end_behaviours.specs.HeaderFinding.{header_of}
use Rattle.end_behaviours.proofs.EndLengthLemmas.{length_stepped}
use Rattle.end_behaviours.proofs.EndStepLemmas.{header_ends}
use Rattle.end_behaviours.proofs.lengths.stepped_len.Goals as goal

pub len_after-requires : goal.len_after-requires
len_after-requires c =
    let within = (header_ends c.args.bytes.now (place_view c.args.place) c.args.len c.requires.packet c.requires.header).0 in
    omega arith

pub returns-in-Some : goal.returns-in-Some
returns-in-Some c = λ behind.
    let bytes = c.args.bytes.now in
    let p = packet_at bytes in
    let h = header_of p (place_view c.args.place) c.args.len in
    let within = (header_ends bytes (place_view c.args.place) c.args.len c.requires.packet c.requires.header).0 in
    length_stepped c.args.sid.now p h _ c.in-Some.ended _ c.args.len c.len_after.result c.requires.header.long
    c.requires.header.stands.behind_header within (alone_length bytes c.requires.packet) (c.in-Some.ensures behind)
    (c.len_after.ensures ∙ ap (λ b. if b then length bytes - c.args.len else length bytes) c.pops.ensures)
