-- Containers of NEXT-CSID, and their shifts.
use Rattle.std.proofs.Common.{◌≡◌, ◌≢◌, ℕ, zero, suc, ◌+◌, ◌-◌, ◌*◌, ◌/◌, ◌%◌, ◌^◌, ◌<◌, ◌≤◌, ◌↔◌, List, [], ◌∷◌, refl, sym, ◌∙◌, ap, subst, arith}
use Rattle.std.proofs.lemmas.Nat.{shr_split, shr_high, mod_low, shr_below, mul-add-lt, mod_below, pow_pos, pow-add}
use Rattle.v6_addr.specs.Address.{PrefixValue, Holds, field_of}
use Rattle.v6_addr.specs.Bits.{cut, put}
use Rattle.v6_addr.proofs.PublicLaws.{put_cut}
use Rattle.srv6_rules.specs.Compressed.{csid_of, argument_of, shift_of, packed, container_of}
use Rattle.srv6_rules.specs.CompressedTerms.{IsSidOf, FitIn, IsContainer}

-- ---- a number in parts

-- what is 0 in its low bits is its bits above some, and those between
parts : (a high rest width : ℕ) → a % 2 ^ rest ≡ 0 → a / 2 ^ (rest + width) ≡ high
    → a ≡ high * 2 ^ (rest + width) + cut a rest width * 2 ^ rest
unfolding put
parts a high rest width clean above =
    let whole : high * 2 ^ (rest + width) + cut a rest width * 2 ^ rest + a % 2 ^ rest ≡ a =
    ap (λ n. n * 2 ^ (rest + width) + cut a rest width * 2 ^ rest + a % 2 ^ rest) (sym above) ∙ put_cut a rest width in
    omega arith

-- what is 0 in its low bits is its bits above them
pub front : (a rest : ℕ) → a % 2 ^ rest ≡ 0 → a ≡ a / 2 ^ rest * 2 ^ rest
front a rest clean =
    let split = shr_split a rest in
    omega arith

-- a number put where another's low bits are 0
pub low_is : (a rest low : ℕ) → a % 2 ^ rest ≡ 0 → low < 2 ^ rest → (a + low) % 2 ^ rest ≡ low
low_is a rest low clean fits = ap (λ n. (n + low) % 2 ^ rest) (front a rest clean) ∙ mod_low (a / 2 ^ rest) rest low fits

pub high_is : (a rest low : ℕ) → a % 2 ^ rest ≡ 0 → low < 2 ^ rest → (a + low) / 2 ^ rest ≡ a / 2 ^ rest
high_is a rest low clean fits = ap (λ n. (n + low) / 2 ^ rest) (front a rest clean) ∙ shr_high (a / 2 ^ rest) rest low fits

sum_below : (a rest low len : ℕ) → a % 2 ^ rest ≡ 0 → a < 2 ^ (len + rest) → low < 2 ^ rest → a + low < 2 ^ (len + rest)
sum_below a rest low len clean below fits =
    let less = mul-add-lt (a / 2 ^ rest) (2 ^ rest) low (2 ^ len) (shr_below a len rest below) fits in
    let turned : rest + len ≡ len + rest = omega arith in
    let P : ℕ → Type 0 = λ n. a / 2 ^ rest * 2 ^ rest + low < n in
    let Q : ℕ → Type 0 = λ n. n + low < 2 ^ (len + rest) in
    subst Q (sym (front a rest clean)) (subst P (sym (pow-add 2 rest len) ∙ ap (λ n. 2 ^ n) turned) less)

-- ---- one SID

-- a SID is its block's bits and its CSID
pub sid_parts : (block s : PrefixValue) → IsSidOf block s
    → s.value
    ≡ block.value / 2 ^ (128 - block.len) * 2 ^ (128 - block.len) + csid_of block.len s * 2 ^ (128 - s.len)
unfolding Holds field_of cut
sid_parts block s is =
    let longer : block.len < s.len = is.inside.0 in
    let within : s.len ≤ 128 = is.prefix.0 in
    let sum : 128 - s.len + (s.len - block.len) ≡ 128 - block.len = omega arith in
    let rest : 128 - block.len - (s.len - block.len) ≡ 128 - s.len = omega arith in
    let high : ℕ = block.value / 2 ^ (128 - block.len) in
    let P : ℕ → Type 0 =
    λ n. s.value / 2 ^ n ≡ high → s.value ≡ high * 2 ^ n + cut s.value (128 - s.len) (s.len - block.len) * 2 ^ (128 - s.len) in
    let Q : ℕ → Type 0 =
    λ n. s.value ≡ high * 2 ^ (128 - block.len) + s.value / 2 ^ n % 2 ^ (s.len - block.len) * 2 ^ (128 - s.len) in
    subst Q (sym rest) (subst P sum (parts s.value high (128 - s.len) (s.len - block.len) is.prefix.2) is.inside.1)

pub csid_below : (block_len : ℕ) (s : PrefixValue) → csid_of block_len s < 2 ^ (s.len - block_len)
unfolding field_of
csid_below block_len s =
    mod_below (s.value / 2 ^ (128 - block_len - (s.len - block_len))) (2 ^ (s.len - block_len)) (pow_pos (s.len - block_len))

-- ---- CSIDs one after the other

pub packed_below : (block : PrefixValue) (room : ℕ) (ss : List PrefixValue) → FitIn block room ss → packed block.len room ss < 2 ^ room
packed_below block room [] fit = pow_pos room
packed_below block room (s ∷ ss) fit =
    let w : ℕ = s.len - block.len in
    let fits : w ≤ room = fit.1 in
    let sum : room - w + w ≡ room = omega arith in
    let less = mul-add-lt (csid_of block.len s) (2 ^ (room - w)) (packed block.len (room - w) ss) (2 ^ w) (csid_below block.len s)
    (packed_below block (room - w) ss fit.2) in
    let P : ℕ → Type 0 = λ n. csid_of block.len s * 2 ^ (room - w) + packed block.len (room - w) ss < n in
    subst P (sym (pow-add 2 (room - w) w) ∙ ap (λ n. 2 ^ n) sum) less

distributed : (c x y p : ℕ) → c * (x * y) + p * y ≡ (c * x + p) * y
distributed c x y p = grind arith

-- with more room they stand higher by as much
pub packed_room : (block : PrefixValue) (room more : ℕ) (ss : List PrefixValue) → FitIn block room ss
    → packed block.len (room + more) ss ≡ packed block.len room ss * 2 ^ more
packed_room block room more [] fit = omega arith
packed_room block room more (s ∷ ss) fit =
    let w : ℕ = s.len - block.len in
    let c : ℕ = csid_of block.len s in
    let fits : w ≤ room = fit.1 in
    let turned : room + more - w ≡ room - w + more = omega arith in
    ap (λ n. c * 2 ^ n + packed block.len n ss) turned
    ∙ ap (λ n. c * 2 ^ (room - w + more) + n) (packed_room block (room - w) more ss fit.2)
    ∙ ap (λ n. c * n + packed block.len (room - w) ss * 2 ^ more) (pow-add 2 (room - w) more)
    ∙ distributed c (2 ^ (room - w)) (2 ^ more) (packed block.len (room - w) ss)

fit_more : (block : PrefixValue) (room more : ℕ) (ss : List PrefixValue) → FitIn block room ss → FitIn block (room + more) ss
fit_more block room more [] fit = tt
fit_more block room more (s ∷ ss) fit =
    let w : ℕ = s.len - block.len in
    let fits : w ≤ room = fit.1 in
    let turned : room - w + more ≡ room + more - w = omega arith in
    let P : ℕ → Type 0 = λ n. FitIn block n ss in
    (fit.0, omega arith, subst P turned (fit_more block (room - w) more ss fit.2))

nonzero : (c x p : ℕ) → c ≢ 0 → 0 < x → c * x + p ≢ 0
nonzero zero x p some pos e = some refl
nonzero (suc k) x p some pos e = omega arith

packed_some : (block : PrefixValue) (room : ℕ) (s : PrefixValue) (ss : List PrefixValue) → FitIn block room (s ∷ ss)
    → packed block.len room (s ∷ ss) ≢ 0
packed_some block room s ss fit =
    let w : ℕ = s.len - block.len in
    nonzero (csid_of block.len s) (2 ^ (room - w)) (packed block.len (room - w) ss) fit.0.some (pow_pos (room - w))

-- ---- containers

-- the room after the first SID
rest_is : (block s : PrefixValue) → IsSidOf block s → 128 - block.len - (s.len - block.len) ≡ 128 - s.len
rest_is block s is =
    let longer : block.len < s.len = is.inside.0 in
    let within : s.len ≤ 128 = is.prefix.0 in
    omega arith

behind_fits : (block s : PrefixValue) (ss : List PrefixValue) → IsContainer block (s ∷ ss) → FitIn block (128 - s.len) ss
behind_fits block s ss fit =
    let P : ℕ → Type 0 = λ n. FitIn block n ss in
    subst P (rest_is block s fit.0) fit.2

pub container_rest : (block s : PrefixValue) (ss : List PrefixValue) → IsContainer block (s ∷ ss) → IsContainer block ss
container_rest block s ss fit =
    let fits : s.len - block.len ≤ 128 - block.len = fit.1 in
    let sum : 128 - block.len - (s.len - block.len) + (s.len - block.len) ≡ 128 - block.len = omega arith in
    let P : ℕ → Type 0 = λ n. FitIn block n ss in
    subst P sum (fit_more block (128 - block.len - (s.len - block.len)) (s.len - block.len) ss fit.2)

grouped : (a b c : ℕ) → a + b + c ≡ a + (b + c)
grouped a b c = omega arith

container_parts : (block s : PrefixValue) (ss : List PrefixValue) → IsContainer block (s ∷ ss)
    → container_of block.len (s ∷ ss)
    ≡ block.value / 2 ^ (128 - block.len) * 2 ^ (128 - block.len) + packed block.len (128 - block.len) (s ∷ ss)
container_parts block s ss fit =
    let high : ℕ = block.value / 2 ^ (128 - block.len) * 2 ^ (128 - block.len) in
    let c : ℕ = csid_of block.len s in
    let r : ℕ = 128 - block.len - (s.len - block.len) in
    ap (λ n. n + packed block.len (128 - s.len) ss) (sid_parts block s fit.0)
    ∙ ap (λ n. high + c * 2 ^ n + packed block.len n ss) (sym (rest_is block s fit.0))
    ∙ grouped high (c * 2 ^ r) (packed block.len r ss)

-- the argument is what is packed after the first SID
pub argument_container : (block s : PrefixValue) (ss : List PrefixValue) → IsContainer block (s ∷ ss)
    → argument_of (container_of block.len (s ∷ ss)) s.len ≡ packed block.len (128 - s.len) ss
unfolding argument_of
argument_container block s ss fit =
    low_is s.value (128 - s.len) (packed block.len (128 - s.len) ss) fit.0.prefix.2
    (packed_below block (128 - s.len) ss (behind_fits block s ss fit))

pub argument_zero : (block s : PrefixValue) (ss : List PrefixValue) → IsContainer block (s ∷ ss)
    → (argument_of (container_of block.len (s ∷ ss)) s.len ≡ 0) ↔ (ss ≡ [])
argument_zero block s [] fit = (λ e. refl, λ e. argument_container block s [] fit)
argument_zero block s (t ∷ ss) fit = (
  λ e. absurd (packed_some block (128 - s.len) t ss (behind_fits block s (t ∷ ss) fit) (sym (argument_container block s (t ∷ ss) fit) ∙ e)),
  λ e. cc,
)

pub container_holds : (block s : PrefixValue) (ss : List PrefixValue) → IsContainer block (s ∷ ss)
    → Holds s (container_of block.len (s ∷ ss))
unfolding Holds
container_holds block s ss fit =
    high_is s.value (128 - s.len) (packed block.len (128 - s.len) ss) fit.0.prefix.2
    (packed_below block (128 - s.len) ss (behind_fits block s ss fit))

pub container_address : (block s : PrefixValue) (ss : List PrefixValue) → IsContainer block (s ∷ ss)
    → container_of block.len (s ∷ ss) < 2 ^ 128
container_address block s ss fit =
    let within : s.len ≤ 128 = fit.0.prefix.0 in
    let sum : s.len + (128 - s.len) ≡ 128 = omega arith in
    let P : ℕ → Type 0 = λ n. s.value < 2 ^ n in
    let Q : ℕ → Type 0 = λ n. s.value + packed block.len (128 - s.len) ss < 2 ^ n in
    subst Q sum (sum_below s.value (128 - s.len) (packed block.len (128 - s.len) ss) s.len fit.0.prefix.2
    (subst P (sym sum) fit.0.prefix.1) (packed_below block (128 - s.len) ss (behind_fits block s ss fit)))

pub container_one : (block_len : ℕ) (s : PrefixValue) → container_of block_len (s ∷ []) ≡ s.value
container_one block_len s = omega arith

-- the shift of a container at its first SID is the container of the others
pub container_shift : (block s t : PrefixValue) (ss : List PrefixValue) → IsContainer block (s ∷ t ∷ ss)
    → shift_of (container_of block.len (s ∷ t ∷ ss)) block.len s.len ≡ container_of block.len (t ∷ ss)
unfolding shift_of
container_shift block s t ss fit =
    let d : ℕ = container_of block.len (s ∷ t ∷ ss) in
    let k : ℕ = 128 - block.len in
    let w : ℕ = s.len - block.len in
    let high : ℕ = block.value / 2 ^ k in
    let longer : block.len < s.len = fit.0.inside.0 in
    let within : s.len ≤ 128 = fit.0.prefix.0 in
    let sum : 128 - s.len + w ≡ k = omega arith in
    let above : d / 2 ^ k ≡ high =
    ap (λ n. n / 2 ^ k) (container_parts block s (t ∷ ss) fit)
    ∙ shr_high high k (packed block.len k (s ∷ t ∷ ss)) (packed_below block k (s ∷ t ∷ ss) fit) in
    let below : argument_of d s.len * 2 ^ w ≡ packed block.len k (t ∷ ss) =
    ap (λ n. n * 2 ^ w) (argument_container block s (t ∷ ss) fit)
    ∙ sym (packed_room block (128 - s.len) w (t ∷ ss) (behind_fits block s (t ∷ ss) fit))
    ∙ ap (λ n. packed block.len n (t ∷ ss)) sum in
    ap (λ n. n * 2 ^ k + argument_of d s.len * 2 ^ w) above ∙ ap (λ n. high * 2 ^ k + n) below
    ∙ sym (container_parts block t ss (container_rest block s (t ∷ ss) fit))
