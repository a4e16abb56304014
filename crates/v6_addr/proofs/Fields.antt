-- the bits of numbers: what stands in some bits, and what an edit of some bits keeps.
-- `rest` is how many bits stand after the ones that are meant
use Rattle.std.proofs.Common.{◌≡◌, ℕ, ◌+◌, ◌-◌, ◌*◌, ◌/◌, ◌%◌, ◌^◌, ◌<◌, ◌≤◌, sym, ◌∙◌, ap, subst, arith, lit<}
use Rattle.std.proofs.lemmas.Nat.{shr_split, shr_below, shr_high, mod_low, mul-add-lt, mod_below, pow_pos, pow-add, shl_below, field_of as cut_first}
use Rattle.std.proofs.Math.Pow.{mod-mod-pow}
use Rattle.std.proofs.Math.Nat.{pow-le-pow_right}
use Rattle.v6_addr.specs.Address.{PrefixValue, Holds, field_of, with_field_of}
use Rattle.v6_addr.specs.Bits.{cut, put}
use Rattle.v6_addr.proofs.PrefixFacts.{same_above}

-- the number that is put, over what stands after it, is below the bits above
low_part : (a rest width v : ℕ) → v < 2 ^ width → v * 2 ^ rest + a % 2 ^ rest < 2 ^ (rest + width)
low_part a rest width v fits =
    let low = mul-add-lt v (2 ^ rest) (a % 2 ^ rest) (2 ^ width) fits (mod_below a (2 ^ rest) (pow_pos rest)) in
    let P : ℕ → Type 0 = λ n. v * 2 ^ rest + a % 2 ^ rest < n in
    subst P (sym (pow-add 2 rest width)) low

put_parts : (a rest width v : ℕ) → put a rest width v ≡ a / 2 ^ (rest + width) * 2 ^ (rest + width) + (v * 2 ^ rest + a % 2 ^ rest)
unfolding put
put_parts a rest width v = omega arith

pub put_above : (a rest width v : ℕ) → v < 2 ^ width → put a rest width v / 2 ^ (rest + width) ≡ a / 2 ^ (rest + width)
put_above a rest width v fits =
    rw (put_parts a rest width v) (shr_high (a / 2 ^ (rest + width)) (rest + width) _ (low_part a rest width v fits))

put_low : (a rest width v : ℕ) → v < 2 ^ width → put a rest width v % 2 ^ (rest + width) ≡ v * 2 ^ rest + a % 2 ^ rest
put_low a rest width v fits =
    rw (put_parts a rest width v) (mod_low (a / 2 ^ (rest + width)) (rest + width) _ (low_part a rest width v fits))

same_below_more : (a b low more : ℕ) → a % 2 ^ (more + low) ≡ b % 2 ^ (more + low) → a % 2 ^ low ≡ b % 2 ^ low
same_below_more a b low more same =
    sym (mod-mod-pow a more low) ∙ ap (λ n. n % 2 ^ low) same ∙ mod-mod-pow b more low

-- two numbers that agree below a bit agree below each lower bit
pub same_below : (a b low high : ℕ) → low ≤ high → a % 2 ^ high ≡ b % 2 ^ high → a % 2 ^ low ≡ b % 2 ^ low
same_below a b low high within same =
    let sum : high ≡ (high - low) + low = omega arith in
    let P : ℕ → Type 0 = λ n. a % 2 ^ n ≡ b % 2 ^ n in
    same_below_more a b low (high - low) (subst P sum same)

pub put_below : (a rest width v : ℕ) → v < 2 ^ width → put a rest width v % 2 ^ rest ≡ a % 2 ^ rest
put_below a rest width v fits =
    let edited = put a rest width v in
    let sum : rest + width ≡ width + rest = omega arith in
    let P : ℕ → Type 0 = λ n. edited % 2 ^ n ≡ v * 2 ^ rest + a % 2 ^ rest in
    sym (mod-mod-pow edited width rest) ∙ ap (λ n. n % 2 ^ rest) (subst P sum (put_low a rest width v fits))
    ∙ mod_low v rest (a % 2 ^ rest) (mod_below a (2 ^ rest) (pow_pos rest))

pub put_same : (a rest width v : ℕ) → v < 2 ^ width → cut (put a rest width v) rest width ≡ v
unfolding cut
put_same a rest width v fits =
    let edited = put a rest width v in
    let sum : rest + width ≡ width + rest = omega arith in
    let P : ℕ → Type 0 = λ n. edited % 2 ^ n ≡ v * 2 ^ rest + a % 2 ^ rest in
    sym (cut_first edited width rest) ∙ ap (λ n. n / 2 ^ rest) (subst P sum (put_low a rest width v fits))
    ∙ shr_high v rest (a % 2 ^ rest) (mod_below a (2 ^ rest) (pow_pos rest))

-- what is at or above a bit, over what is below it, is below a higher bit
pub cleared_add : (a k v top : ℕ) → k ≤ top → a < 2 ^ top → v < 2 ^ k → a / 2 ^ k * 2 ^ k + v < 2 ^ top
cleared_add a k v top within below fits =
    let sum : k + (top - k) ≡ top = omega arith in
    let turned : top ≡ (top - k) + k = omega arith in
    let P : ℕ → Type 0 = λ n. a < 2 ^ n in
    let Q : ℕ → Type 0 = λ n. a / 2 ^ k * 2 ^ k + v < n in
    let bound = mul-add-lt (a / 2 ^ k) (2 ^ k) v (2 ^ (top - k)) (shr_below a (top - k) k (subst P turned below)) fits in
    subst Q (sym (pow-add 2 k (top - k)) ∙ ap (λ n. 2 ^ n) sum) bound

pub put_bound : (a rest width v top : ℕ) → rest + width ≤ top → a < 2 ^ top → v < 2 ^ width → put a rest width v < 2 ^ top
put_bound a rest width v top within below fits =
    let P : ℕ → Type 0 = λ n. n < 2 ^ top in
    subst P (sym (put_parts a rest width v)) (cleared_add a (rest + width) _ top within below (low_part a rest width v fits))

-- what is cut lies above a bit above which two numbers agree
pub cut_above : (a b low rest width : ℕ) → low ≤ rest → a / 2 ^ low ≡ b / 2 ^ low → cut a rest width ≡ cut b rest width
unfolding cut
cut_above a b low rest width within same = ap (λ n. n % 2 ^ width) (same_above a b low rest within same)

-- what is cut lies below a bit below which two numbers agree
pub cut_below : (a b high rest width : ℕ) → rest + width ≤ high → a % 2 ^ high ≡ b % 2 ^ high → cut a rest width ≡ cut b rest width
unfolding cut
cut_below a b high rest width within same =
    sym (cut_first a width rest)
    ∙ ap (λ n. n / 2 ^ rest) (same_below a b (width + rest) high (omega arith) same)
    ∙ cut_first b width rest

-- ---- at positions in an address

pub with_field_is_put : (a at width v : ℕ) → at + width ≤ 128 → with_field_of a at width v ≡ put a (128 - at - width) width v
unfolding with_field_of put
with_field_is_put a at width v within =
    let sum : 128 - at ≡ 128 - at - width + width = omega arith in
    ap (λ n. a / 2 ^ n * 2 ^ n + v * 2 ^ (128 - at - width) + a % 2 ^ (128 - at - width)) sum

-- a field that was written is read back
pub field_of_same : (a at width v : ℕ) → at + width ≤ 128 → v < 2 ^ width → field_of (with_field_of a at width v) at width ≡ v
unfolding field_of cut
field_of_same a at width v within fits =
    ap (λ n. field_of n at width) (with_field_is_put a at width v within) ∙ put_same a (128 - at - width) width v fits

-- a field before one that was written is as it was
pub field_of_before : (a at width v other size : ℕ) → at + width ≤ 128 → v < 2 ^ width → other + size ≤ at
    → field_of (with_field_of a at width v) other size ≡ field_of a other size
unfolding field_of cut
field_of_before a at width v other size within fits before =
    ap (λ n. field_of n other size) (with_field_is_put a at width v within)
    ∙ cut_above (put a (128 - at - width) width v) a (128 - at - width + width) (128 - other - size) size (omega arith)
    (put_above a (128 - at - width) width v fits)

-- a field after one that was written is as it was
pub field_of_behind : (a at width v other size : ℕ) → at + width ≤ 128 → v < 2 ^ width → at + width ≤ other → other + size ≤ 128
    → field_of (with_field_of a at width v) other size ≡ field_of a other size
unfolding field_of cut
field_of_behind a at width v other size within fits behind ends =
    ap (λ n. field_of n other size) (with_field_is_put a at width v within)
    ∙ cut_below (put a (128 - at - width) width v) a (128 - at - width) (128 - other - size) size (omega arith)
    (put_below a (128 - at - width) width v fits)

-- an address with a field written is an address
pub with_field_of_bound : (a at width v : ℕ) → at + width ≤ 128 → a < 2 ^ 128 → v < 2 ^ width → with_field_of a at width v < 2 ^ 128
with_field_of_bound a at width v within below fits =
    let P : ℕ → Type 0 = λ n. n < 2 ^ 128 in
    subst P (sym (with_field_is_put a at width v within)) (put_bound a (128 - at - width) width v 128 (omega arith) below fits)

-- a prefix holds an address with a field written after the prefix where it held the address
pub Holds_with_field : (p : PrefixValue) (a at width v : ℕ) → at + width ≤ 128 → v < 2 ^ width → p.len ≤ at → Holds p a
    → Holds p (with_field_of a at width v)
unfolding Holds
Holds_with_field p a at width v within fits behind h =
    ap (λ n. n / 2 ^ (128 - p.len)) (with_field_is_put a at width v within)
    ∙ same_above (put a (128 - at - width) width v) a (128 - at - width + width) (128 - p.len) (omega arith)
    (put_above a (128 - at - width) width v fits)
    ∙ h

-- ---- for the code

-- a field's value, raised to its place, fits an address
pub raised_fits : (at width v : ℕ) → at + width ≤ 128 → v < 2 ^ width → v * 2 ^ (128 - at - width) < 2 ^ 128
raised_fits at width v within fits =
    let rest = 128 - at - width in
    let below = shl_below v width rest fits in
    let room : width + rest ≤ 128 = omega arith in
    omega (arith, below, pow-le-pow_right {n = 2} (lit< tt) room)

-- the sum that the code makes is the address with the field written, and it fits
pub edited_code : (a at width v low raised below : ℕ) → at + width ≤ 128 → a < 2 ^ 128 → v < 2 ^ width
    → low ≡ a % 2 ^ (128 - at) → raised ≡ v * 2 ^ (128 - at - width) → below ≡ a % 2 ^ (128 - at - width)
    → (a - low + raised + below ≡ with_field_of a at width v) × (a - low + raised + below < 2 ^ 128)
unfolding with_field_of
edited_code a at width v low raised below within fits_a fits is_low is_raised is_below =
    let whole = shr_split a (128 - at) in
    let cleared : a - low ≡ a / 2 ^ (128 - at) * 2 ^ (128 - at) = omega arith in
    let same : a - low + raised + below ≡ with_field_of a at width v =
    ap (λ n. n + raised + below) cleared ∙ ap (λ n. a / 2 ^ (128 - at) * 2 ^ (128 - at) + n + below) is_raised
    ∙ ap (λ n. a / 2 ^ (128 - at) * 2 ^ (128 - at) + v * 2 ^ (128 - at - width) + n) is_below in
    let P : ℕ → Type 0 = λ n. n < 2 ^ 128 in
    (same, subst P (sym same) (with_field_of_bound a at width v within fits_a fits))
