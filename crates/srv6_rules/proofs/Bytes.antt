-- Numbers and their bytes, the highest first: both ways, at 2, 4 and 16 bytes.
use Rattle.std.proofs.Common.{◌/◌, ◌≡◌, ℕ, zero, suc, ◌+◌, ◌*◌, ◌^◌, ◌<◌, ◌≤◌, List, [], ◌∷◌, ◌++◌, length, take, slice_index, All, refl, sym, ◌∙◌, arith, mod-lt, inl, inr}
use Rattle.std.proofs.lemmas.List.{append-nil, get_or_past, length-take-le}
use Rattle.std.proofs.lemmas.List.Elements.{All-nil, All-cons, All-tail, All-take}
use Rattle.std.proofs.lemmas.Bool.{cases_lt}
use Rattle.std.proofs.lemmas.Nat.{same_from_place}
use Rattle.std.specs.Int.{byte_at, bytes_high_first}
use Rattle.byteorder.specs.Endian.{big_from}
use Rattle.byteorder.specs.Numbers.{big_from-cons, big_from-take, big_from-append, big_from-lt, big_number-reads_back, length-bytes_high_first}
use Rattle.srv6_rules.specs.Packet.{two_bytes, four_bytes, address_bytes, two_number, four_number, address_number}

byte_at_below : (k x : ℕ) → byte_at k x < 2 ^ 8
byte_at_below zero x = mod-lt x (omega arith)
byte_at_below (suc k) x = mod-lt (x / 256 ^ suc k) (omega arith)

-- each byte of a number is below 256
pub all_bytes : (n x : ℕ) → All (λ b. b < 2 ^ 8) (bytes_high_first n x)
all_bytes zero x = All-nil (λ b. b < 2 ^ 8)
all_bytes (suc n) x = All-cons (λ b. b < 2 ^ 8) (byte_at n x) (bytes_high_first n x) (byte_at_below n x) (all_bytes n x)

-- each place of a list of bytes is below 256, also past its end
pub byte_below : (xs : List ℕ) (k : ℕ) → All (λ b. b < 2 ^ 8) xs → slice_index xs k < 2 ^ 8
byte_below xs k h = elim (cases_lt k (length xs)) [
  | inl within ↦ h k 0 within
  | inr past ↦ rw (get_or_past xs k 0 past) (omega arith)
]

-- no n bytes make a number of 256 ^ n or more
pub big_number_below : (n : ℕ) (xs : List ℕ) → All (λ b. b < 2 ^ 8) xs → big_from 0 n xs < 256 ^ n
big_number_below n xs h = big_from-lt 0 n xs (λ k. byte_below xs k h)

-- two lists of n bytes that make one number are one list
pub same_bytes : (n : ℕ) (xs ys : List ℕ) → length xs ≡ n → length ys ≡ n → All (λ b. b < 2 ^ 8) xs → All (λ b. b < 2 ^ 8) ys
    → big_from 0 n xs ≡ big_from 0 n ys → xs ≡ ys
same_bytes zero [] [] ex ey hx hy e = refl
same_bytes zero [] (y ∷ ys) ex ey hx hy e = absurd (omega arith)
same_bytes zero (x ∷ xs) ys ex ey hx hy e = absurd (omega arith)
same_bytes (suc n) [] ys ex ey hx hy e = absurd (omega arith)
same_bytes (suc n) (x ∷ xs) [] ex ey hx hy e = absurd (omega arith)
same_bytes (suc n) (x ∷ xs) (y ∷ ys) ex ey hx hy e =
    let below_xs = big_number_below n xs (All-tail (λ b. b < 2 ^ 8) x xs hx) in
    let below_ys = big_number_below n ys (All-tail (λ b. b < 2 ^ 8) y ys hy) in
    let e2 : x * 256 ^ n + big_from 0 n xs ≡ y * 256 ^ n + big_from 0 n ys = rw (big_from-cons 0 n x xs, big_from-cons 0 n y ys) at e in
    let both = same_from_place x (big_from 0 n xs) y (big_from 0 n ys) (256 ^ n) below_xs below_ys e2 in
    let rest = same_bytes n xs ys (omega arith) (omega arith) (All-tail (λ b. b < 2 ^ 8) x xs hx)
    (All-tail (λ b. b < 2 ^ 8) y ys hy) both.1 in
    cc (both.0, rest)

-- the bytes of the number in the first n bytes are these bytes
pub big_bytes_back : (n : ℕ) (xs : List ℕ) → n ≤ length xs → All (λ b. b < 2 ^ 8) xs → bytes_high_first n (big_from 0 n xs) ≡ take n xs
big_bytes_back n xs h hx =
    let below = big_number_below n xs hx in
    let number = big_number-reads_back n (big_from 0 n xs) [] below in
    let cut : big_from 0 n (bytes_high_first n (big_from 0 n xs)) ≡ big_from 0 n xs = rw append-nil at number in
    let front = big_from-take 0 n n xs (omega arith) in
    same_bytes n (bytes_high_first n (big_from 0 n xs)) (take n xs) (length-bytes_high_first n (big_from 0 n xs)) (length-take-le n xs h)
    (all_bytes n (big_from 0 n xs)) (All-take (λ b. b < 2 ^ 8) n xs hx) (cut ∙ sym front)

pub length_two_bytes : (n : ℕ) → length (two_bytes n) ≡ 2
unfolding two_bytes
length_two_bytes n = length-bytes_high_first 2 n

pub length_four_bytes : (n : ℕ) → length (four_bytes n) ≡ 4
unfolding four_bytes
length_four_bytes n = length-bytes_high_first 4 n

pub length_address_bytes : (a : ℕ) → length (address_bytes a) ≡ 16
unfolding address_bytes
length_address_bytes a = length-bytes_high_first 16 a

pub all_two_bytes : (n : ℕ) → All (λ b. b < 2 ^ 8) (two_bytes n)
unfolding two_bytes
all_two_bytes n = all_bytes 2 n

pub all_four_bytes : (n : ℕ) → All (λ b. b < 2 ^ 8) (four_bytes n)
unfolding four_bytes
all_four_bytes n = all_bytes 4 n

pub all_address_bytes : (a : ℕ) → All (λ b. b < 2 ^ 8) (address_bytes a)
unfolding address_bytes
all_address_bytes a = all_bytes 16 a

pub two_number_below : (bytes : List ℕ) → All (λ b. b < 2 ^ 8) bytes → two_number bytes < 2 ^ 16
unfolding two_number
two_number_below bytes h = big_number_below 2 bytes h

pub address_number_below : (bytes : List ℕ) → All (λ b. b < 2 ^ 8) bytes → address_number bytes < 2 ^ 128
unfolding address_number
address_number_below bytes h = big_number_below 16 bytes h

-- the number of the bytes is the number, whatever stands after them
pub two_number_bytes : (n : ℕ) (rest : List ℕ) → n < 2 ^ 16 → two_number (two_bytes n ++ rest) ≡ n
unfolding two_number two_bytes
two_number_bytes n rest h = big_number-reads_back 2 n rest h

pub four_number_bytes : (n : ℕ) (rest : List ℕ) → n < 2 ^ 32 → four_number (four_bytes n ++ rest) ≡ n
unfolding four_number four_bytes
four_number_bytes n rest h = big_number-reads_back 4 n rest h

pub address_number_bytes : (a : ℕ) (rest : List ℕ) → a < 2 ^ 128 → address_number (address_bytes a ++ rest) ≡ a
unfolding address_number address_bytes
address_number_bytes a rest h = big_number-reads_back 16 a rest h

-- the bytes of the number in the first bytes are these bytes
pub two_bytes_number : (bytes : List ℕ) → 2 ≤ length bytes → All (λ b. b < 2 ^ 8) bytes → two_bytes (two_number bytes) ≡ take 2 bytes
unfolding two_number two_bytes
two_bytes_number bytes h all = big_bytes_back 2 bytes h all

pub four_bytes_number : (bytes : List ℕ) → 4 ≤ length bytes → All (λ b. b < 2 ^ 8) bytes → four_bytes (four_number bytes) ≡ take 4 bytes
unfolding four_number four_bytes
four_bytes_number bytes h all = big_bytes_back 4 bytes h all

pub address_bytes_number : (bytes : List ℕ) → 16 ≤ length bytes → All (λ b. b < 2 ^ 8) bytes
    → address_bytes (address_number bytes) ≡ take 16 bytes
unfolding address_number address_bytes
address_bytes_number bytes h all = big_bytes_back 16 bytes h all

-- what stands after the first bytes makes no difference
pub two_number_append : (xs ys : List ℕ) → 2 ≤ length xs → two_number (xs ++ ys) ≡ two_number xs
unfolding two_number
two_number_append xs ys h = big_from-append 2 xs ys h

pub four_number_append : (xs ys : List ℕ) → 4 ≤ length xs → four_number (xs ++ ys) ≡ four_number xs
unfolding four_number
four_number_append xs ys h = big_from-append 4 xs ys h

pub address_number_append : (xs ys : List ℕ) → 16 ≤ length xs → address_number (xs ++ ys) ≡ address_number xs
unfolding address_number
address_number_append xs ys h = big_from-append 16 xs ys h
