use Rattle.std.proofs.Common.{◌∙◌, length, ap, arith}
use Rattle.replace_csid.specs.Replacing.{with_move}
use Rattle.endpoint_chain.proofs.PublicLaws.{alone_most}
use Rattle.ip6_headers.specs.ChainStepping.{place_view}
use Rattle.end_behaviours.specs.SrhStepping.{move_to}
use Rattle.end_behaviours.specs.declared.stepping.SegmentStep.TheVariants.{Advance}
use Rattle.end_behaviours.proofs.AloneLemmas.{spelled_alone}
use Rattle.end_behaviours.proofs.EndStepLemmas.{header_ends, judged_in, step_rewritten, whole_leaves}
use Rattle.end_behaviours.proofs.writing.step_whole.Goals as goal

pub write_step-requires-clause-within : goal.write_step-requires-clause-within
write_step-requires-clause-within c =
    let bytes = c.args.buf.now.bytes in
    let ends = header_ends bytes (place_view c.args.place) c.args.len c.requires.packet c.requires.header in
    let least = ends.1 in
    let within = ends.0 in
    let same = ap length c.view_mut.ensures.value in
    omega arith

pub write_step-requires-clause-place : goal.write_step-requires-clause-place
write_step-requires-clause-place c =
    let bytes = c.args.buf.now.bytes in
    let within = (header_ends bytes (place_view c.args.place) c.args.len c.requires.packet c.requires.header).0 in
    let most = alone_most bytes c.requires.packet in
    omega arith

pub pop-requires-clause-packet : goal.pop-requires-clause-packet
pop-requires-clause-packet c =
    let old = c.args.buf.now.bytes in
    let d = c.in-Advance.destination.value in
    let written = c.write_step.ensures ∙ ap (λ xs. with_move xs c.args.place.at (move_to c.in-Advance.left d)) c.view_mut.ensures.value in
    let r = step_rewritten old c.write_step.new.bytes c.args.place.at c.in-Advance.left d c.requires.packet
    c.requires.header.stands.behind_header (omega arith) (omega arith) written in
    (spelled_alone _ _ r.spells).0

pub pop-requires-clause-within : goal.pop-requires-clause-within
pop-requires-clause-within c =
    let old = c.args.buf.now.bytes in
    let d = c.in-Advance.destination.value in
    let written = c.write_step.ensures ∙ ap (λ xs. with_move xs c.args.place.at (move_to c.in-Advance.left d)) c.view_mut.ensures.value in
    let long = (step_rewritten old c.write_step.new.bytes c.args.place.at c.in-Advance.left d c.requires.packet
    c.requires.header.stands.behind_header (omega arith) (omega arith) written).long in
    let within = (header_ends old (place_view c.args.place) c.args.len c.requires.packet c.requires.header).0 in
    omega arith

pub returns-in-Advance-clause-outcome : goal.returns-in-Advance-clause-outcome
returns-in-Advance-clause-outcome c =
    let old = c.args.buf.now.bytes in
    let d = c.in-Advance.destination.value in
    let written = c.write_step.ensures ∙ ap (λ xs. with_move xs c.args.place.at (move_to c.in-Advance.left d)) c.view_mut.ensures.value in
    let r = step_rewritten old c.write_step.new.bytes c.args.place.at c.in-Advance.left d c.requires.packet
    c.requires.header.stands.behind_header (omega arith) (omega arith) written in
    let judged = judged_in old c.view.result.now (place_view c.args.place) c.args.len (Advance c.in-Advance.left c.in-Advance.destination)
    c.view.ensures c.in-Advance.ensures in
    whole_leaves c.args.sid.now old c.write_step.new.bytes c.pop.new.buf.bytes (place_view c.args.place) c.args.len c.in-Advance.left d
    c.requires.header r judged.0 judged.1.0 c.pop.ensures.packet
