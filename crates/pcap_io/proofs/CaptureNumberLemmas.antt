-- Numbers and their bytes, in either order: both ways.
use Rattle.std.proofs.Common.{◌/◌, ◌≡◌, ℕ, zero, suc, ◌+◌, ◌*◌, ◌^◌, ◌<◌, ◌≤◌, Bool, true, false, List, [], ◌∷◌, ◌++◌, length, take, slice_index, All, refl, sym, ◌∙◌, arith, mod-lt, inl, inr}
use Rattle.std.proofs.lemmas.List.{append-nil, get_or_past, length-take-le}
use Rattle.std.proofs.lemmas.List.Elements.{All-nil, All-cons, All-tail, All-take}
use Rattle.std.proofs.lemmas.Bool.{cases_lt}
use Rattle.std.proofs.lemmas.Nat.{same_from_place}
use Rattle.std.specs.Int.{byte_at, bytes_high_first, bytes_low_first}
use Rattle.byteorder.specs.Endian.{big_from, little_from}
use Rattle.byteorder.specs.Numbers.{big_from-cons, big_from-take, big_from-lt, big_number-reads_back, length-bytes_high_first, little_from-cons, little_from-take, little_from-lt, little_number-reads_back, length-bytes_low_first}
use Rattle.pcap_io.specs.Numbers.{number_of, number_bytes}

byte_at_below : (k x : ℕ) → byte_at k x < 2 ^ 8
byte_at_below zero x = mod-lt x (omega arith)
byte_at_below (suc k) x = mod-lt (x / 256 ^ suc k) (omega arith)

all_high_first : (n x : ℕ) → All (λ b. b < 2 ^ 8) (bytes_high_first n x)
all_high_first zero x = All-nil (λ b. b < 2 ^ 8)
all_high_first (suc n) x = All-cons (λ b. b < 2 ^ 8) (byte_at n x) (bytes_high_first n x) (byte_at_below n x) (all_high_first n x)

all_low_first : (i n x : ℕ) → All (λ b. b < 2 ^ 8) (bytes_low_first i n x)
all_low_first i zero x = All-nil (λ b. b < 2 ^ 8)
all_low_first i (suc n) x =
    All-cons (λ b. b < 2 ^ 8) (byte_at i x) (bytes_low_first (suc i) n x) (byte_at_below i x) (all_low_first (suc i) n x)

-- each place of a list of bytes is below 256, also past its end
byte_below : (xs : List ℕ) (k : ℕ) → All (λ b. b < 2 ^ 8) xs → slice_index xs k < 2 ^ 8
byte_below xs k h = elim (cases_lt k (length xs)) [
  | inl within ↦ h k 0 within
  | inr past ↦ rw (get_or_past xs k 0 past) (omega arith)
]

pub number_of_below : (little : Bool) (n : ℕ) (xs : List ℕ) → All (λ b. b < 2 ^ 8) xs → number_of little n xs < 256 ^ n
unfolding number_of
number_of_below true n xs h = little_from-lt 0 n xs (λ k. byte_below xs k h)
number_of_below false n xs h = big_from-lt 0 n xs (λ k. byte_below xs k h)

pub number_bytes_length : (little : Bool) (n x : ℕ) → length (number_bytes little n x) ≡ n
unfolding number_bytes
number_bytes_length true n x = length-bytes_low_first 0 n x
number_bytes_length false n x = length-bytes_high_first n x

pub number_bytes_all : (little : Bool) (n x : ℕ) → All (λ b. b < 2 ^ 8) (number_bytes little n x)
unfolding number_bytes
number_bytes_all true n x = all_low_first 0 n x
number_bytes_all false n x = all_high_first n x

-- the number of the bytes is the number, whatever stands after them
pub number_of_bytes : (little : Bool) (n x : ℕ) (rest : List ℕ) → x < 256 ^ n → number_of little n (number_bytes little n x ++ rest) ≡ x
unfolding number_of number_bytes
number_of_bytes true n x rest h = little_number-reads_back n x rest h
number_of_bytes false n x rest h = big_number-reads_back n x rest h

-- two lists of n bytes that make one number are one list
same_high_first : (n : ℕ) (xs ys : List ℕ) → length xs ≡ n → length ys ≡ n → All (λ b. b < 2 ^ 8) xs → All (λ b. b < 2 ^ 8) ys
    → big_from 0 n xs ≡ big_from 0 n ys → xs ≡ ys
same_high_first zero [] [] ex ey hx hy e = refl
same_high_first zero [] (y ∷ ys) ex ey hx hy e = absurd (omega arith)
same_high_first zero (x ∷ xs) ys ex ey hx hy e = absurd (omega arith)
same_high_first (suc n) [] ys ex ey hx hy e = absurd (omega arith)
same_high_first (suc n) (x ∷ xs) [] ex ey hx hy e = absurd (omega arith)
same_high_first (suc n) (x ∷ xs) (y ∷ ys) ex ey hx hy e =
    let tail_xs = All-tail (λ b. b < 2 ^ 8) x xs hx in
    let tail_ys = All-tail (λ b. b < 2 ^ 8) y ys hy in
    let below_xs = big_from-lt 0 n xs (λ k. byte_below xs k tail_xs) in
    let below_ys = big_from-lt 0 n ys (λ k. byte_below ys k tail_ys) in
    let e2 : x * 256 ^ n + big_from 0 n xs ≡ y * 256 ^ n + big_from 0 n ys = rw (big_from-cons 0 n x xs, big_from-cons 0 n y ys) at e in
    let both = same_from_place x (big_from 0 n xs) y (big_from 0 n ys) (256 ^ n) below_xs below_ys e2 in
    let rest = same_high_first n xs ys (omega arith) (omega arith) tail_xs tail_ys both.1 in
    cc (both.0, rest)

same_low_first : (n : ℕ) (xs ys : List ℕ) → length xs ≡ n → length ys ≡ n → All (λ b. b < 2 ^ 8) xs → All (λ b. b < 2 ^ 8) ys
    → little_from 0 n xs ≡ little_from 0 n ys → xs ≡ ys
same_low_first zero [] [] ex ey hx hy e = refl
same_low_first zero [] (y ∷ ys) ex ey hx hy e = absurd (omega arith)
same_low_first zero (x ∷ xs) ys ex ey hx hy e = absurd (omega arith)
same_low_first (suc n) [] ys ex ey hx hy e = absurd (omega arith)
same_low_first (suc n) (x ∷ xs) [] ex ey hx hy e = absurd (omega arith)
same_low_first (suc n) (x ∷ xs) (y ∷ ys) ex ey hx hy e =
    let e2 : x + 256 * little_from 0 n xs ≡ y + 256 * little_from 0 n ys = rw (little_from-cons 0 n x xs, little_from-cons 0 n y ys) at e in
    let e3 : little_from 0 n xs * 256 + x ≡ little_from 0 n ys * 256 + y = omega arith in
    let low_x : x < 256 = hx 0 0 (omega arith) in
    let low_y : y < 256 = hy 0 0 (omega arith) in
    let both = same_from_place (little_from 0 n xs) x (little_from 0 n ys) y 256 low_x low_y e3 in
    let rest = same_low_first n xs ys (omega arith) (omega arith) (All-tail (λ b. b < 2 ^ 8) x xs hx)
    (All-tail (λ b. b < 2 ^ 8) y ys hy) both.0 in
    cc (both.1, rest)

same_bytes : (little : Bool) (n : ℕ) (xs ys : List ℕ) → length xs ≡ n → length ys ≡ n → All (λ b. b < 2 ^ 8) xs → All (λ b. b < 2 ^ 8) ys
    → number_of little n xs ≡ number_of little n ys → xs ≡ ys
unfolding number_of
same_bytes true n xs ys ex ey hx hy e = same_low_first n xs ys ex ey hx hy e
same_bytes false n xs ys ex ey hx hy e = same_high_first n xs ys ex ey hx hy e

-- the number is in the first bytes
pub number_of_take : (little : Bool) (n : ℕ) (xs : List ℕ) → number_of little n (take n xs) ≡ number_of little n xs
unfolding number_of
number_of_take true n xs = little_from-take 0 n n xs (omega arith)
number_of_take false n xs = big_from-take 0 n n xs (omega arith)

-- the bytes of the number in the first n bytes are these bytes
pub number_bytes_of : (little : Bool) (n : ℕ) (xs : List ℕ) → n ≤ length xs → All (λ b. b < 2 ^ 8) xs
    → number_bytes little n (number_of little n xs) ≡ take n xs
number_bytes_of little n xs h hx =
    let below = number_of_below little n xs hx in
    let number = number_of_bytes little n (number_of little n xs) [] below in
    let cut : number_of little n (number_bytes little n (number_of little n xs)) ≡ number_of little n xs = rw append-nil at number in
    same_bytes little n (number_bytes little n (number_of little n xs)) (take n xs)
    (number_bytes_length little n (number_of little n xs)) (length-take-le n xs h)
    (number_bytes_all little n (number_of little n xs)) (All-take (λ b. b < 2 ^ 8) n xs hx) (cut ∙ sym (number_of_take little n xs))
