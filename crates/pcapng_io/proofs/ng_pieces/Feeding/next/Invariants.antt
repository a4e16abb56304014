use Rattle.std.proofs.Common.{◌≡◌, length}
use Rattle.pcapng_io.specs.NgPieces.{IsWithin, coming_of}
use Rattle.pcapng_io.proofs.ng_pieces.Feeding.next.Given as goal

abbrev pub invariant-pieces : goal.invariant-pieces
invariant-pieces l =
    (coming_of l.fn.self.reader l.fn.self.more.now ≡ coming_of l.self.reader l.self.more.now) × IsWithin l.self

abbrev pub decreases-pieces : goal.decreases-pieces
decreases-pieces l = length l.self.more.now
