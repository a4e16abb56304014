-- Plain sums of words, word by word and part by part.
use Rattle.std.proofs.Common.{◌≡◌, ℕ, ◌+◌, ◌*◌, ◌/◌, ◌%◌, ◌^◌, ◌<◌, ◌≤◌, List, [], ◌∷◌, ◌++◌, length, drop, slice_index, refl, sym, ap, ◌∙◌, arith}
use Rattle.srv6_rules.specs.Packet.{address_bytes, four_bytes}
use Rattle.srv6_rules.specs.Checksum.{pseudo_header}
use Rattle.srv6_rules.specs.ChecksumTerms.{word_sum, carried}
use Rattle.srv6_rules.proofs.PublicLaws.{length_address_bytes, word_sum_append, carried_again, carried_small}

pub word_sum_more : (bytes : List ℕ) → 2 ≤ length bytes
    → word_sum bytes ≡ slice_index bytes 0 * 256 + slice_index bytes 1 + word_sum (drop 2 bytes)
unfolding word_sum
word_sum_more [] h = absurd (omega arith)
word_sum_more (x ∷ []) h = absurd (omega arith)
word_sum_more (x ∷ y ∷ bytes) h = refl

pub word_sum_last : (bytes : List ℕ) → length bytes ≡ 1 → word_sum bytes ≡ slice_index bytes 0 * 256
unfolding word_sum
word_sum_last [] h = absurd (omega arith)
word_sum_last (x ∷ []) h = refl
word_sum_last (x ∷ y ∷ bytes) h = absurd (omega arith)

pub word_sum_none : (bytes : List ℕ) → length bytes ≡ 0 → word_sum bytes ≡ 0
unfolding word_sum
word_sum_none [] h = refl
word_sum_none (x ∷ bytes) h = absurd (omega arith)

-- the four bytes of a number of 16 bits
four_sum : (len next : ℕ) → len < 2 ^ 16 → word_sum (four_bytes len ++ (0 ∷ 0 ∷ 0 ∷ next ∷ [])) ≡ len + next
unfolding word_sum four_bytes
four_sum len next h = omega arith

-- the sum of a pseudo-header is that of the addresses, the length and the next header
pub pseudo_sum_law : (source destination len next : ℕ) → len < 2 ^ 16
    → word_sum (pseudo_header source destination len next)
    ≡ word_sum (address_bytes source) + word_sum (address_bytes destination) + len + next
pseudo_sum_law source destination len next h =
    let end : List ℕ = four_bytes len ++ (0 ∷ 0 ∷ 0 ∷ next ∷ []) in
    let one : length (address_bytes source) % 2 ≡ 0 = rw (length_address_bytes source) refl in
    let two : length (address_bytes destination) % 2 ≡ 0 = rw (length_address_bytes destination) refl in
    let first = word_sum_append (address_bytes source) (address_bytes destination ++ end) one in
    let second = word_sum_append (address_bytes destination) end two in
    let third = four_sum len next h in
    omega arith

-- a sum folded twice is carried
pub carried_twice : (sum once twice : ℕ) → sum < 2 ^ 32 → once ≡ sum / 2 ^ 16 + sum % 2 ^ 16 → twice ≡ once / 2 ^ 16 + once % 2 ^ 16
    → (carried sum ≡ twice) × (twice < 2 ^ 16)
carried_twice sum once twice below first second =
    let small : twice < 2 ^ 16 = omega arith in (
      sym (carried_again sum) ∙ ap carried (sym first) ∙ sym (carried_again once) ∙ ap carried (sym second) ∙ carried_small twice small,
      small,
    )
