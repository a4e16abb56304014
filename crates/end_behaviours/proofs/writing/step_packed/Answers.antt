use Rattle.std.proofs.Common.{arith}
use Rattle.srv6_rules.specs.CompressedSteps.{compression_of}
use Rattle.ip6_headers.specs.ChainStepping.{place_view}
use Rattle.replace_csid.specs.declared.replace_step.ReplaceOutcome.TheVariants.{Moved, End, Drop}
use Rattle.endpoint_chain.proofs.PublicLaws.{alone_length, alone_most}
use Rattle.end_behaviours.proofs.AloneLemmas.{spelled_alone}
use Rattle.end_behaviours.proofs.EndStepLemmas.{header_ends, packed_drops, packed_leaves, packed_never_ends, packed_place, packed_rewritten, replaced_in}
use Rattle.end_behaviours.proofs.writing.step_packed.Goals as goal

pub pop-requires-clause-packet : goal.pop-requires-clause-packet
pop-requires-clause-packet c =
    let s = c.args.sid.now in
    let old = c.args.buf.now.bytes in
    let moved = replaced_in (compression_of s) c.compression.result c.args.place.at old c.view_mut.result.now
    c.replace.new.bytes (Moved c.in-Moved.end) c.compression.ensures c.view_mut.ensures.value c.in-Moved.ensures in
    let r = packed_rewritten s old c.replace.new.bytes (place_view c.args.place) c.args.len c.requires.suits c.requires.packet
    c.requires.packed c.requires.header c.in-Moved.end moved in
    (spelled_alone _ _ r.spells).0

pub pop-requires-clause-within : goal.pop-requires-clause-within
pop-requires-clause-within c =
    let s = c.args.sid.now in
    let old = c.args.buf.now.bytes in
    let moved = replaced_in (compression_of s) c.compression.result c.args.place.at old c.view_mut.result.now
    c.replace.new.bytes (Moved c.in-Moved.end) c.compression.ensures c.view_mut.ensures.value c.in-Moved.ensures in
    let long = (packed_rewritten s old c.replace.new.bytes (place_view c.args.place) c.args.len c.requires.suits c.requires.packet
    c.requires.packed c.requires.header c.in-Moved.end moved).long in
    let within = (header_ends old (place_view c.args.place) c.args.len c.requires.packet c.requires.header).0 in
    omega arith

pub overflow_cast-result : goal.overflow_cast-result
overflow_cast-result c =
    let s = c.args.sid.now in
    let old = c.args.buf.now.bytes in
    let dropped = replaced_in (compression_of s) c.compression.result c.args.place.at old c.view_mut.result.now
    c.replace.new.bytes (Drop c.in-Drop.reason c.in-Drop.at) c.compression.ensures c.view_mut.ensures.value c.in-Drop.ensures in
    let near = packed_place s old c.replace.new.bytes (place_view c.args.place) c.args.len c.requires.suits c.requires.packet
    c.requires.packed c.requires.header c.in-Drop.reason c.in-Drop.at dropped.0 in
    let most = alone_most old c.requires.packet in
    let all = alone_length old c.requires.packet in
    omega arith

pub unreachable-requires : goal.unreachable-requires
unreachable-requires c =
    let s = c.args.sid.now in
    let old = c.args.buf.now.bytes in
    let ended = replaced_in (compression_of s) c.compression.result c.args.place.at old c.view_mut.result.now
    c.replace.new.bytes End c.compression.ensures c.view_mut.ensures.value c.in-End.ensures in
    packed_never_ends s old c.replace.new.bytes (place_view c.args.place) c.args.len c.requires.suits c.requires.packet
    c.requires.packed c.requires.header c.requires.more ended.0

pub returns-in-Moved-clause-outcome : goal.returns-in-Moved-clause-outcome
returns-in-Moved-clause-outcome c =
    let s = c.args.sid.now in
    let old = c.args.buf.now.bytes in
    let moved = replaced_in (compression_of s) c.compression.result c.args.place.at old c.view_mut.result.now
    c.replace.new.bytes (Moved c.in-Moved.end) c.compression.ensures c.view_mut.ensures.value c.in-Moved.ensures in
    λ behind. packed_leaves s old c.replace.new.bytes (place_view c.args.place) c.args.len c.requires.suits c.requires.packet
    c.requires.packed c.requires.header c.in-Moved.end c.pop.new.buf.bytes behind moved c.pop.ensures.packet

pub returns-in-Drop-clause-outcome : goal.returns-in-Drop-clause-outcome
returns-in-Drop-clause-outcome c =
    let s = c.args.sid.now in
    let old = c.args.buf.now.bytes in
    let dropped = replaced_in (compression_of s) c.compression.result c.args.place.at old c.view_mut.result.now
    c.replace.new.bytes (Drop c.in-Drop.reason c.in-Drop.at) c.compression.ensures c.view_mut.ensures.value c.in-Drop.ensures in
    λ behind. packed_drops s old c.replace.new.bytes (place_view c.args.place) c.args.len c.requires.suits c.requires.packet
    c.requires.packed c.requires.header c.in-Drop.reason c.in-Drop.at behind dropped.0 dropped.1
