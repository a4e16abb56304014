-- Need not be believed: helps proofs and other laws.
-- What a packet buffer ends as, where its bytes are lent.
use Rattle.std.specs.Prelude.{ℕ, List, ◌++◌, length, take, drop}
use Rattle.std.specs.Borrow.{Lends, MutBor, Fml, Array, u8}
use Rattle.pkt_buf.specs.BufferView.{Buffer}
use Rattle.pkt_buf.specs.contracts.pkt_buf.PktBuf.{the_row}

-- as many bytes as there were: those that were left, since what is lent keeps its length
abbrev pub left_in : List ℕ → List ℕ → List ℕ
left_in bytes left = take (length bytes) (left ++ drop (length left) bytes)

-- the packet's bytes are those that were left, and as many are spare
abbrev pub LendsBytes : MutBor Buffer → MutBor (List ℕ) → Fml
LendsBytes b bytes = Lends the_row (Array u8 0) b bytes (λ w. record { bytes = left_in b.now.bytes w; front = b.now.front })
