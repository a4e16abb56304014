use Rattle.std.proofs.Common.{subst}
use Rattle.srv6_rules.specs.declared.compression.Compression.{Compression}
use Rattle.srv6_rules.specs.Packet.{packet_at}
use Rattle.ip6_headers.specs.ChainStepping.{place_view}
use Rattle.replace_csid.specs.Replacing.{WouldMove, step_at}
use Rattle.end_behaviours.proofs.EndLengthLemmas.{packed_end_law}
use Rattle.end_behaviours.proofs.lengths.packed_end.Goals as goal

pub returns : goal.returns
returns c = λ behind.
    let bytes = c.args.bytes.now in
    let at = c.args.place.at in
    let P : Compression → Type 0 = λ k. WouldMove (packet_at bytes) at (step_at k bytes at) c.would_end.result in
    packed_end_law c.args.sid.now bytes (place_view c.args.place) c.args.len c.requires.suits c.requires.packet c.requires.packed
    c.requires.header c.requires.more behind c.would_end.result (subst P c.compression.ensures c.would_end.ensures)
