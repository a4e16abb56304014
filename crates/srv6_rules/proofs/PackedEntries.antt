-- Entries that hold CSIDs, and destinations under REPLACE-CSID.
use Rattle.std.proofs.Common.{◌≡◌, ◌≢◌, ◌⊎◌, inl, inr, ℕ, zero, suc, ◌+◌, ◌-◌, ◌*◌, ◌/◌, ◌%◌, ◌^◌, ◌<◌, ◌≤◌, ◌↔◌, List, [], ◌∷◌, length, get_or, All, refl, sym, ◌∙◌, ap, subst, arith, lit<}
use Rattle.std.proofs.lemmas.Nat.{shr-shr, shr_high, shr_le, mod_low, mul-add-lt, pow_pos, pow-add}
use Rattle.std.proofs.lemmas.List.Elements.{All-head, All-tail}
use Rattle.std.proofs.Math.Nat.{div-one, zero-mod, mul-le-mul_right, pow-le-pow_right}
use Rattle.v6_addr.specs.Address.{PrefixValue, Holds, field_of, with_field_of}
use Rattle.v6_addr.proofs.PublicLaws.{same_below}
use Rattle.srv6_rules.specs.Compressed.{csid_of, csid_count, csid_at, index_of, with_index, replace_of, downward, packed_entry}
use Rattle.srv6_rules.specs.CompressedTerms.{IsCsidLen, IsReplaceSid}
use Rattle.srv6_rules.proofs.PacketContainers.{sid_parts, csid_below, high_is}

-- ---- how many CSIDs there are

pub record IsCount (csid_len count : ℕ) : Type 0 where
  pub whole : count * csid_len ≡ 128
  pub cases : (count ≡ 8) ⊎ (count ≡ 4)

pub count_is : (csid_len : ℕ) → IsCsidLen csid_len → IsCount csid_len (csid_count csid_len)
count_is csid_len (inl e) = record { whole = ap (λ n. 128 / n * n) e; cases = inl (ap (λ n. 128 / n) e) }
count_is csid_len (inr e) = record { whole = ap (λ n. 128 / n * n) e; cases = inr (ap (λ n. 128 / n) e) }

pub count_most : (count : ℕ) → (count ≡ 8) ⊎ (count ≡ 4) → count ≤ 8
count_most count (inl e) = omega arith
count_most count (inr e) = omega arith

pub count_some : (csid_len : ℕ) → IsCsidLen csid_len → 0 < csid_count csid_len
count_some csid_len (inl e) = let is : csid_count csid_len ≡ 8 = ap (λ n. 128 / n) e in omega arith
count_some csid_len (inr e) = let is : csid_count csid_len ≡ 4 = ap (λ n. 128 / n) e in omega arith

-- ---- CSIDs in an entry

-- CSIDs one above the other, the first lowest
abbrev stacked : ℕ → List ℕ → ℕ
stacked w [] = 0
stacked w (c ∷ cs) = stacked w cs * 2 ^ w + c

-- the place of an index, with so many indexes above it
place_is : (w index i : ℕ) → (index + 1 + i) * w ≡ 128 → 128 - (index + 1) * w ≡ i * w
place_is w index i all =
    let parts : (index + 1 + i) * w ≡ (index + 1) * w + i * w = grind arith in
    omega arith

one_alone : (c x y : ℕ) → c * y + 0 ≡ (0 * x + c) * y
one_alone c x y = grind arith

one_more : (c s x y : ℕ) → c * y + s * (x * y) ≡ (s * x + c) * y
one_more c s x y = grind arith

row_more : (i w : ℕ) → (i + 1) * w ≡ w + i * w
row_more i w = grind arith

downward_stacked : (w index i : ℕ) (cs : List ℕ) → (index + 1 + i) * w ≡ 128 → length cs ≤ index + 1
    → downward w index cs ≡ stacked w cs * 2 ^ (i * w)
downward_stacked w index i [] all few = omega arith
downward_stacked w index i (c ∷ []) all few =
    ap (λ n. c * 2 ^ n + 0) (place_is w index i all) ∙ one_alone c (2 ^ w) (2 ^ (i * w))
downward_stacked w index i (c ∷ d ∷ ds) all few =
    let above : index - 1 + 1 + (i + 1) ≡ index + 1 + i = omega arith in
    let s : ℕ = stacked w (d ∷ ds) in
    ap (λ n. c * 2 ^ n + downward w (index - 1) (d ∷ ds)) (place_is w index i all)
    ∙ ap (λ n. c * 2 ^ (i * w) + n)
    (downward_stacked w (index - 1) (i + 1) (d ∷ ds) (ap (λ n. n * w) above ∙ all) (omega arith))
    ∙ ap (λ n. c * 2 ^ (i * w) + s * 2 ^ n) (row_more i w)
    ∙ ap (λ n. c * 2 ^ (i * w) + s * n) (pow-add 2 w (i * w))
    ∙ one_more c s (2 ^ w) (2 ^ (i * w))

no_bits : (k w : ℕ) → 0 / 2 ^ k % 2 ^ w ≡ 0
no_bits k w =
    let most = shr_le 0 k in
    let none : 0 / 2 ^ k ≡ 0 = omega arith in
    ap (λ n. n % 2 ^ w) none ∙ zero-mod (2 ^ w)

stacked_at : (w i : ℕ) (cs : List ℕ) → All (λ c. c < 2 ^ w) cs → stacked w cs / 2 ^ (i * w) % 2 ^ w ≡ get_or cs i 0
stacked_at w i [] all = no_bits (i * w) w
stacked_at w zero (c ∷ cs) all =
    let none : zero * w ≡ 0 = omega arith in
    let x : ℕ = stacked w cs * 2 ^ w + c in
    ap (λ n. x / 2 ^ n % 2 ^ w) none ∙ ap (λ n. n % 2 ^ w) (div-one x) ∙ mod_low (stacked w cs) w c (All-head (λ c. c < 2 ^ w) c cs all)
stacked_at w (suc i) (c ∷ cs) all =
    let up : suc i * w ≡ w + i * w = grind arith in
    let x : ℕ = stacked w cs * 2 ^ w + c in
    ap (λ n. x / 2 ^ n % 2 ^ w) up
    ∙ ap (λ n. n % 2 ^ w) (sym (shr-shr x w (i * w)))
    ∙ ap (λ n. n / 2 ^ (i * w) % 2 ^ w) (shr_high (stacked w cs) w c (All-head (λ c. c < 2 ^ w) c cs all))
    ∙ stacked_at w i cs (All-tail (λ c. c < 2 ^ w) c cs all)

stacked_below : (w : ℕ) (cs : List ℕ) → All (λ c. c < 2 ^ w) cs → stacked w cs < 2 ^ (length cs * w)
stacked_below w [] all = pow_pos (0 * w)
stacked_below w (c ∷ cs) all =
    let up : w + length cs * w ≡ length (c ∷ cs) * w = grind arith in
    let P : ℕ → Type 0 = λ n. stacked w cs * 2 ^ w + c < n in
    subst P (sym (pow-add 2 w (length cs * w)) ∙ ap (λ n. 2 ^ n) up)
    (mul-add-lt (stacked w cs) (2 ^ w) c (2 ^ (length cs * w)) (stacked_below w cs (All-tail (λ c. c < 2 ^ w) c cs all))
    (All-head (λ c. c < 2 ^ w) c cs all))

times_one : (s w : ℕ) → s * 2 ^ (0 * w) ≡ s
times_one s w =
    let none : 0 * w ≡ 0 = omega arith in
    let one : s * 1 ≡ s = omega arith in
    ap (λ n. s * 2 ^ n) none ∙ one

-- the entry, whatever its count is
entry_is : (w count : ℕ) (cs : List ℕ) → count * w ≡ 128 → 0 < count → length cs ≤ count → downward w (count - 1) cs ≡ stacked w cs
entry_is w count cs whole some few =
    let sum : count - 1 + 1 + 0 ≡ count = omega arith in
    downward_stacked w (count - 1) 0 cs (ap (λ n. n * w) sum ∙ whole) (omega arith) ∙ times_one (stacked w cs) w

field_place : (w count i j : ℕ) → count * w ≡ 128 → j + 1 + i ≡ count → 128 - j * w - w ≡ i * w
field_place w count i j whole sum =
    let all : (j + 1 + i) * w ≡ 128 = ap (λ n. n * w) sum ∙ whole in
    let parts : (j + 1 + i) * w ≡ j * w + w + i * w = grind arith in
    omega arith

csid_in : (w count i : ℕ) (cs : List ℕ) → count * w ≡ 128 → i < count → length cs ≤ count → All (λ c. c < 2 ^ w) cs
    → field_of (downward w (count - 1) cs) ((count - 1 - i) * w) w ≡ get_or cs i 0
unfolding field_of
csid_in w count i cs whole below few all =
    let j : ℕ = count - 1 - i in
    let sum : j + 1 + i ≡ count = omega arith in
    let x : ℕ = downward w (count - 1) cs in
    ap (λ n. x / 2 ^ n % 2 ^ w) (field_place w count i j whole sum)
    ∙ ap (λ n. n / 2 ^ (i * w) % 2 ^ w) (entry_is w count cs whole (omega arith) few)
    ∙ stacked_at w i cs all

pub entry_csid : (csid_len : ℕ) (csids : List ℕ) (i : ℕ) → IsCsidLen csid_len → All (λ c. c < 2 ^ csid_len) csids
    → length csids ≤ csid_count csid_len → i < csid_count csid_len
    → csid_at csid_len (packed_entry csid_len csids) (csid_count csid_len - 1 - i) ≡ get_or csids i 0
unfolding csid_at
entry_csid csid_len csids i len all few below =
    csid_in csid_len (csid_count csid_len) i csids (count_is csid_len len).whole below few all

past_is : (cs : List ℕ) (i : ℕ) → length cs ≤ i → get_or cs i 0 ≡ 0
past_is [] i past = refl
past_is (c ∷ cs) zero past = let no : ⊥ = omega arith in absurd no
past_is (c ∷ cs) (suc i) past = past_is cs i (omega arith)

within_is : (cs : List ℕ) (i : ℕ) → All (λ c. c ≢ 0) cs → get_or cs i 0 ≡ 0 → length cs ≤ i
within_is [] i some e = omega arith
within_is (c ∷ cs) zero some e = absurd (All-head (λ c. c ≢ 0) c cs some e)
within_is (c ∷ cs) (suc i) some e = let less = within_is cs i (All-tail (λ c. c ≢ 0) c cs some) e in omega arith

pub entry_past : (csid_len : ℕ) (csids : List ℕ) (i : ℕ) → IsCsidLen csid_len → All (λ c. c < 2 ^ csid_len) csids
    → All (λ c. c ≢ 0) csids → length csids ≤ csid_count csid_len → i < csid_count csid_len
    → (csid_at csid_len (packed_entry csid_len csids) (csid_count csid_len - 1 - i) ≡ 0) ↔ (length csids ≤ i)
entry_past csid_len csids i len all some few below =
    let is = entry_csid csid_len csids i len all few below in
    (λ e. within_is csids i some (sym is ∙ e), λ past. is ∙ past_is csids i past)

pub entry_address : (csid_len : ℕ) (csids : List ℕ) → IsCsidLen csid_len → All (λ c. c < 2 ^ csid_len) csids
    → length csids ≤ csid_count csid_len → packed_entry csid_len csids < 2 ^ 128
entry_address csid_len csids len all few =
    let is = count_is csid_len len in
    let some : 0 < csid_count csid_len = count_some csid_len len in
    let most : length csids * csid_len ≤ csid_count csid_len * csid_len = mul-le-mul_right csid_len few in
    let P : ℕ → Type 0 = λ n. length csids * csid_len ≤ n in
    let R : ℕ → Type 0 = λ n. n < 2 ^ 128 in
    let below = stacked_below csid_len csids all in
    let power = pow-le-pow_right {n = 2} (lit< tt) (subst P is.whole most) in
    subst R (sym (entry_is csid_len (csid_count csid_len) csids is.whole some few)) (omega (arith, below, power))

-- ---- destinations

-- an index at the end of what is 0 there
aligned : (a i count : ℕ) → (count ≡ 8) ⊎ (count ≡ 4) → a % 8 ≡ 0 → i < count → ((a + i) / count * count ≡ a) × ((a + i) % count ≡ i)
aligned a i count (inl e) clean below =
    let P : ℕ → Type 0 = λ n. i < n → ((a + i) / n * n ≡ a) × ((a + i) % n ≡ i) in
    let at : i < 8 → ((a + i) / 8 * 8 ≡ a) × ((a + i) % 8 ≡ i) = λ h. (omega arith, omega arith) in
    subst P (sym e) at below
aligned a i count (inr e) clean below =
    let P : ℕ → Type 0 = λ n. i < n → ((a + i) / n * n ≡ a) × ((a + i) % n ≡ i) in
    let at : i < 4 → ((a + i) / 4 * 4 ≡ a) × ((a + i) % 4 ≡ i) = λ h. (omega arith, omega arith) in
    subst P (sym e) at below

index_back : (x j count : ℕ) → (count ≡ 8) ⊎ (count ≡ 4) → j < count → (x / count * count + j) % count ≡ j
index_back x j count (inl e) below =
    let P : ℕ → Type 0 = λ n. j < n → (x / n * n + j) % n ≡ j in
    let at : j < 8 → (x / 8 * 8 + j) % 8 ≡ j = λ h. omega arith in
    subst P (sym e) at below
index_back x j count (inr e) below =
    let P : ℕ → Type 0 = λ n. j < n → (x / n * n + j) % n ≡ j in
    let at : j < 4 → (x / 4 * 4 + j) % 4 ≡ j = λ h. omega arith in
    subst P (sym e) at below

-- the 3 lowest bits of a SID are 0
ends_clean : (block : PrefixValue) (w : ℕ) (s : PrefixValue) → IsReplaceSid block w s → s.value % 8 ≡ 0
ends_clean block w s is =
    let behind : s.len ≤ 125 = is.behind in
    same_below s.value 0 3 (128 - s.len) (omega arith) (is.sid_of.prefix.2 ∙ sym (zero-mod (2 ^ (128 - s.len))))

index_below : (block : PrefixValue) (w : ℕ) (s : PrefixValue) (i : ℕ) → IsReplaceSid block w s → i < csid_count w → i < 2 ^ (128 - s.len)
index_below block w s i is below =
    let behind : s.len ≤ 125 = is.behind in
    let three : 3 ≤ 128 - s.len = omega arith in
    let most = count_most (csid_count w) (count_is w is.csid).cases in
    let power : 8 ≤ 2 ^ (128 - s.len) = pow-le-pow_right {n = 2} (lit< tt) three in
    omega arith

pub index_back_law : (block s : PrefixValue) (csid_len i : ℕ) → IsReplaceSid block csid_len s → i < csid_count csid_len
    → index_of csid_len (s.value + i) ≡ i
unfolding index_of
index_back_law block s csid_len i is below =
    (aligned s.value i (csid_count csid_len) (count_is csid_len is.csid).cases (ends_clean block csid_len s is) below).1

pub index_holds : (block s : PrefixValue) (csid_len i : ℕ) → IsReplaceSid block csid_len s → i < csid_count csid_len
    → Holds s (s.value + i)
unfolding Holds
index_holds block s csid_len i is below =
    high_is s.value (128 - s.len) i is.sid_of.prefix.2 (index_below block csid_len s i is below)

pub index_written : (destination block_len csid_len csid index : ℕ) → IsCsidLen csid_len → index < csid_count csid_len
    → index_of csid_len (replace_of destination block_len csid_len csid index) ≡ index
unfolding index_of replace_of with_index
index_written destination block_len csid_len csid index len below =
    index_back (with_field_of destination block_len csid_len csid) index (csid_count csid_len) (count_is csid_len len).cases below

regrouped : (h w c y i : ℕ) → h * (y * w) + c * y + i ≡ (h * w + c) * y + i
regrouped h w c y i = grind arith

-- a number written between what is above and an index
rewritten : (high old new i r w : ℕ) → old < 2 ^ w → i < 2 ^ r → (a : ℕ) → a ≡ high * 2 ^ (r + w) + old * 2 ^ r + i
    → a / 2 ^ (r + w) * 2 ^ (r + w) + new * 2 ^ r + a % 2 ^ r ≡ high * 2 ^ (r + w) + new * 2 ^ r + i
rewritten high old new i r w fits below a is =
    let low : old * 2 ^ r + i < 2 ^ (r + w) =
    (let P : ℕ → Type 0 = λ n. old * 2 ^ r + i < n in subst P (sym (pow-add 2 r w)) (mul-add-lt old (2 ^ r) i (2 ^ w) fits below)) in
    let sum : high * 2 ^ (r + w) + old * 2 ^ r + i ≡ high * 2 ^ (r + w) + (old * 2 ^ r + i) = omega arith in
    let above : a / 2 ^ (r + w) ≡ high =
    ap (λ n. n / 2 ^ (r + w)) (is ∙ sum) ∙ shr_high high (r + w) (old * 2 ^ r + i) low in
    let behind : a % 2 ^ r ≡ i =
    ap (λ n. n % 2 ^ r)
    (is ∙ ap (λ n. high * n + old * 2 ^ r + i) (pow-add 2 r w) ∙ regrouped high (2 ^ w) old (2 ^ r) i)
    ∙ mod_low (high * 2 ^ w + old) r i below in
    ap (λ n. n * 2 ^ (r + w) + new * 2 ^ r + a % 2 ^ r) above ∙ ap (λ n. high * 2 ^ (r + w) + new * 2 ^ r + n) behind

-- a SID's value, by the bits after its CSID
value_is : (block : PrefixValue) (w r : ℕ) (s : PrefixValue) → IsReplaceSid block w s → r ≡ 128 - block.len - w
    → s.value ≡ block.value / 2 ^ (128 - block.len) * 2 ^ (r + w) + csid_of block.len s * 2 ^ r
value_is block w r s is at =
    let len : s.len ≡ block.len + w = is.len in
    let within : s.len ≤ 128 = is.sid_of.prefix.0 in
    let sum : 128 - block.len ≡ r + w = omega arith in
    let rest : 128 - s.len ≡ r = omega arith in
    let high : ℕ = block.value / 2 ^ (128 - block.len) in
    let c : ℕ = csid_of block.len s in
    sid_parts block s is.sid_of ∙ ap (λ n. high * 2 ^ n + c * 2 ^ (128 - s.len)) sum ∙ ap (λ n. high * 2 ^ (r + w) + c * 2 ^ n) rest

field_written : (a b w v r : ℕ) → b + w ≤ 128 → r ≡ 128 - b - w
    → with_field_of a b w v ≡ a / 2 ^ (r + w) * 2 ^ (r + w) + v * 2 ^ r + a % 2 ^ r
unfolding with_field_of
field_written a b w v r within at =
    let sum : 128 - b ≡ r + w = omega arith in
    ap (λ n. a / 2 ^ n * 2 ^ n + v * 2 ^ (128 - b - w) + a % 2 ^ (128 - b - w)) sum
    ∙ ap (λ n. a / 2 ^ (r + w) * 2 ^ (r + w) + v * 2 ^ n + a % 2 ^ n) (sym at)

-- another SID's CSID written to a SID's value and an index gives that SID's value and the index
csid_written : (block s t : PrefixValue) (w i : ℕ) → IsReplaceSid block w s → IsReplaceSid block w t → i < csid_count w
    → with_field_of (s.value + i) block.len w (csid_of block.len t) ≡ t.value + i
csid_written block s t w i is_s is_t below =
    let r : ℕ = 128 - block.len - w in
    let high : ℕ = block.value / 2 ^ (128 - block.len) in
    let len : s.len ≡ block.len + w = is_s.len in
    let within : s.len ≤ 128 = is_s.sid_of.prefix.0 in
    let rest : 128 - s.len ≡ r = omega arith in
    let width : s.len - block.len ≡ w = omega arith in
    let P : ℕ → Type 0 = λ n. i < 2 ^ n in
    let Q : ℕ → Type 0 = λ n. csid_of block.len s < 2 ^ n in
    field_written (s.value + i) block.len w (csid_of block.len t) r (omega arith) refl
    ∙ rewritten high (csid_of block.len s) (csid_of block.len t) i r w (subst Q width (csid_below block.len s))
    (subst P rest (index_below block w s i is_s below)) (s.value + i) (ap (λ n. n + i) (value_is block w r s is_s refl))
    ∙ ap (λ n. n + i) (sym (value_is block w r t is_t refl))

pub next_sid : (block s t : PrefixValue) (csid_len i j : ℕ) → IsReplaceSid block csid_len s → IsReplaceSid block csid_len t
    → i < csid_count csid_len → j < csid_count csid_len
    → replace_of (s.value + i) block.len csid_len (csid_of block.len t) j ≡ t.value + j
unfolding replace_of with_index
next_sid block s t csid_len i j is_s is_t below_i below_j =
    let k : ℕ = csid_count csid_len in
    ap (λ n. n / k * k + j) (csid_written block s t csid_len i is_s is_t below_i)
    ∙ ap (λ n. n + j) (aligned t.value i k (count_is csid_len is_t.csid).cases (ends_clean block csid_len t is_t) below_i).0
