use Rattle.srv6_rules.specs.CompressedSteps.{compression_of}
use Rattle.end_behaviours.proofs.EndStepLemmas.{shift_leaves, shifted_in}
use Rattle.end_behaviours.proofs.writing.shift_on.Goals as goal

pub returns-in-Shifted-clause-outcome : goal.returns-in-Shifted-clause-outcome
returns-in-Shifted-clause-outcome c =
    let s = c.args.sid.now in
    let old = c.args.buf.now.bytes in
    (shift_leaves s old c.shift.new.bytes c.requires.suits c.requires.packet c.requires.shifts
    (shifted_in (compression_of s) c.compression.result old c.view_mut.result.now c.shift.new.bytes c.compression.ensures
    c.view_mut.ensures.value c.in-Shifted.ensures)).leaves
