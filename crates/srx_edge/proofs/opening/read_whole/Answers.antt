use Rattle.std.proofs.Common.{◌+◌, ◌-◌, ◌≤◌, ◌++◌, ◌≡◌, length, take, arith, refl, length-append}
use Rattle.std.proofs.lemmas.List.{length-take}
use Rattle.srx_edge.proofs.Known.{consumed_both}
use Rattle.srx_edge.proofs.opening.read_whole.Goals as goal
use Rattle.srx_edge.proofs.opening.read_whole.Goals.{then-room-lt-PIECE, else-room-lt-PIECE}

pub returns-in-Ok : goal.returns-in-Ok
returns-in-Ok g c =
    let room = c.args.limit - c.len.result in
    let more = take c.in-Ok.count c.read.new.buf in
    let asked = length-take c.if-room-lt-PIECE.most c.pieces.piece in
    -- no more was asked for than one byte too many
    let most : c.in-Ok.count ≤ room + 1 = elim c.if-room-lt-PIECE.branch [
      | then-room-lt-PIECE w ↦ omega (arith, w.most-is, c.in-Ok.ensures.bound, c.read.auto.buf, asked)
      | else-room-lt-PIECE w ↦ omega (arith, w.most-is, w.if-room-lt-PIECE, c.in-Ok.ensures.bound, c.read.auto.buf, asked)
    ] in
    let size : length (c.pieces.bytes.items ++ more) ≡ c.args.limit + 1 = omega (
      arith,
      length-append c.pieces.bytes.items more,
      length-take c.in-Ok.count c.read.new.buf,
      c.in-Ok.ensures.bound,
      c.pieces.bytes.ok.0,
      c.len.ensures,
      c.pieces.invariant.within,
      c.if-count-room.true,
      most,
    ) in
    let consumed = consumed_both c.pieces.bytes.items more (g.R.Read.remaining c.args.reader.now) (g.R.Read.remaining c.pieces.reader)
    (g.R.Read.remaining c.read.new.self) c.pieces.invariant.taken c.in-Ok.ensures.bytes.0 in
    (refl, (c.pieces.bytes.items ++ more, size, consumed))

pub returns-then-is_err : goal.returns-then-is_err
returns-then-is_err g c =
    let more = take c.in-Ok.count c.read.new.buf in (
      c.pieces.bytes.items ++ more,
      omega (
        arith,
        length-append c.pieces.bytes.items more,
        length-take c.in-Ok.count c.read.new.buf,
        c.in-Ok.ensures.bound,
        c.pieces.bytes.ok.0,
        c.len.ensures,
        c.pieces.invariant.within,
        c.if-count-room.false,
      ),
      consumed_both c.pieces.bytes.items more (g.R.Read.remaining c.args.reader.now) (g.R.Read.remaining c.pieces.reader)
          (g.R.Read.remaining c.read.new.self) c.pieces.invariant.taken c.in-Ok.ensures.bytes.0,
    )
