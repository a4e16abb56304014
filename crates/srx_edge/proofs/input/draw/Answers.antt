use Rattle.std.proofs.Common.{◌+◌, ◌-◌, ◌≤◌, take, arith, refl}
use Rattle.std.proofs.lemmas.List.{length-take}
use Rattle.srx_edge.proofs.Takes.{drawn_too_many, drawn_wanting}
use Rattle.srx_edge.proofs.input.draw.Goals as goal
use Rattle.srx_edge.proofs.input.draw.Goals.{then-room-lt-PIECE, else-room-lt-PIECE}

pub returns-in-Ok : goal.returns-in-Ok
returns-in-Ok g c =
    let room = c.args.limit - c.len.result in
    let asked = length-take c.if-room-lt-PIECE.most c.pieces.piece in
    -- no more was asked for than one byte too many
    let most : c.in-Ok.count ≤ room + 1 = elim c.if-room-lt-PIECE.branch [
      | then-room-lt-PIECE w ↦ omega (arith, w.most-is, c.in-Ok.ensures.within, asked)
      | else-room-lt-PIECE w ↦ omega (arith, w.most-is, w.if-room-lt-PIECE, c.in-Ok.ensures.within, asked)
    ] in
    let read = drawn_too_many c.args.limit c.in-Ok.count (take c.if-room-lt-PIECE.most c.pieces.piece) c.read.new.into c.pieces.bytes.items
    (g.S.Source.seen c.args.source.now) (g.S.Source.seen c.pieces.source) (g.S.Source.seen c.read.new.self)
    c.pieces.invariant.taken c.pieces.invariant.faults c.pieces.invariant.ends c.in-Ok.ensures c.read.auto.into
    (omega (arith, c.in-Ok.ensures.within, c.if-count-room.true))
    (omega (arith, c.pieces.bytes.ok.0, c.len.ensures, c.pieces.invariant.within, c.if-count-room.true, most))
    (omega (arith, c.if-count-room.true)) in
    (refl, read.0, read.1)

pub returns-then-is_err : goal.returns-then-is_err
returns-then-is_err g c =
    drawn_wanting c.args.limit c.in-Ok.count (take c.if-room-lt-PIECE.most c.pieces.piece) c.read.new.into c.pieces.bytes.items
    (g.S.Source.seen c.args.source.now) (g.S.Source.seen c.pieces.source) (g.S.Source.seen c.read.new.self)
    c.pieces.invariant.taken c.pieces.invariant.faults c.pieces.invariant.ends c.in-Ok.ensures c.read.auto.into
    (omega (arith, c.in-Ok.ensures.within, c.in-Ok.count-test.1))
    (omega (arith, c.pieces.bytes.ok.0, c.len.ensures, c.pieces.invariant.within))
    (omega (arith, c.in-Ok.count-test.1))
