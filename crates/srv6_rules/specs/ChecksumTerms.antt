-- Need not be believed: helps proofs and other laws.
-- Terms beside those of `specs/Checksum.antt`.
use Rattle.std.specs.Prelude.{◌≡◌, ℕ, zero, suc, ◌+◌, ◌-◌, ◌*◌, ◌%◌, ◌^◌, List, [], ◌∷◌}
use Rattle.srv6_rules.specs.Packet.{Packet}
use Rattle.srv6_rules.specs.Checksum.{all_ones, upper_layer_sum}

-- the check of a packet whose payload is an upper layer: with the checksum in its field the sum is all ones
abbrev pub Verifies : Packet → Type 0
Verifies p = upper_layer_sum p.source p.destination p.next_header p.payload ≡ all_ones

-- the plain sum of the same words
unfoldable pub word_sum : List ℕ → ℕ
word_sum [] = 0
word_sum (high ∷ []) = high * 2 ^ 8
word_sum (high ∷ low ∷ bytes) = high * 2 ^ 8 + low + word_sum bytes

-- a plain sum with its carries beyond 16 bits added at the lowest bit: 0 of 0, and else a number from 1 to all ones
unfoldable pub carried : ℕ → ℕ
carried zero = 0
carried (suc n) = n % all_ones + 1
