use Rattle.std.proofs.Common.{sym, ◌∙◌, arith}
use Rattle.trace_replay.proofs.Pieces.{few_lines, read_bad, read_good}
use Rattle.trace_replay.proofs.trace_reading.read_trace.Goals as goal

pub first_bad-requires : goal.first_bad-requires
first_bad-requires c =
    let few = few_lines c.args.net.now c.args.text.now c.in_ok-pieces.pieces.items c.in-Some.lines.now c.in-Some.rest.now
    c.in_ok-pieces.ensures (sym c.as_slice.ensures.value ∙ c.in-Some.ensures.cases.0) in
    omega (arith, few, c.requires)

pub returns-in-Some-2 : goal.returns-in-Some-2
returns-in-Some-2 c =
    read_bad c.args.net.now c.args.text.now c.in_ok-pieces.pieces.items c.in-Some.lines.now c.in-Some.rest.now
    c.in_ok-pieces.ensures (sym c.as_slice.ensures.value ∙ c.in-Some.ensures.cases.0) c.in-Some-2.line
    (sym c.in_ok-line.ensures ∙ c.in-Some-2.is)

pub returns : goal.returns
returns c =
    read_good c.args.net.now c.args.text.now c.in_ok-pieces.pieces.items c.in-Some.lines.now c.in-Some.rest.now
    c.in_ok-pieces.ensures (sym c.as_slice.ensures.value ∙ c.in-Some.ensures.cases.0) _ c.requires
    (sym c.in_ok-line.ensures ∙ c.in-None.is) c.in_ok-copies_of-in-None.ensures
