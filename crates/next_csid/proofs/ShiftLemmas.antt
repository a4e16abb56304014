-- Shifts of addresses by their fields, and of packets in bytes.
use Rattle.std.proofs.Common.{◌≡◌, ℕ, ◌+◌, ◌-◌, ◌*◌, ◌/◌, ◌%◌, ◌^◌, ◌<◌, ◌≤◌, Bool, true, false, not, ◌&&◌, ◌==◌, inl, inr, List, refl, sym, ◌∙◌, ap, arith}
use Rattle.std.specs.Prelude.{take, drop, slice_set, ◌++◌}
use Rattle.std.proofs.lemmas.Bool.{eqb-false}
use Rattle.std.proofs.lemmas.Nat.{shr_high, mod_below, pow_pos, pow-add}
use Rattle.std.proofs.Math.Nat.{div-one, eq-or-lt_of_le}
use Rattle.v6_addr.specs.Address.{field_of, with_field_of}
use Rattle.srv6_rules.specs.declared.compression.Compression.{Compression}
use Rattle.srv6_rules.specs.Packet.{Packet, V6, content_of, address_bytes}
use Rattle.srv6_rules.specs.Compressed.{argument_of, shift_of}
use Rattle.srv6_rules.specs.CompressedSteps.{is_next, shifts, shifted}
use Rattle.ip6_headers.proofs.PublicLaws.{read_hop_limit, read_destination}

-- ---- the argument

pub argument_field : (d len : ℕ) → len ≤ 128 → field_of d len (128 - len) ≡ argument_of d len
unfolding field_of argument_of
argument_field d len within =
    let none : 128 - len - (128 - len) ≡ 0 = omega arith in
    ap (λ n. d / 2 ^ n % 2 ^ (128 - len)) none ∙ ap (λ n. n % 2 ^ (128 - len)) (div-one d)

pub argument_none : (d len : ℕ) → len ≡ 128 → 0 ≡ argument_of d len
unfolding argument_of
argument_none d len whole =
    let none : 128 - len ≡ 0 = omega arith in
    let one : d % 1 ≡ 0 = omega arith in
    sym (ap (λ n. d % 2 ^ n) none ∙ one)

pub argument_below : (d len : ℕ) → argument_of d len < 2 ^ (128 - len)
unfolding argument_of
argument_below d len = mod_below d (2 ^ (128 - len)) (pow_pos (128 - len))

pub ruleset arguments = (argument_field, argument_none)

-- ---- the shift

regrouped : (h m r a low : ℕ) → h * (r * m) + a * r + low ≡ (h * m + a) * r + low
regrouped h m r a low = grind arith

-- a number whose low bits are taken away
cleared : (h a low m r : ℕ) → low < 2 ^ r → (h * 2 ^ (r + m) + a * 2 ^ r + low) / 2 ^ r * 2 ^ r ≡ h * 2 ^ (r + m) + a * 2 ^ r
cleared h a low m r below =
    let same : h * 2 ^ (r + m) + a * 2 ^ r + low ≡ (h * 2 ^ m + a) * 2 ^ r + low =
    ap (λ n. h * n + a * 2 ^ r + low) (pow-add 2 r m) ∙ regrouped h (2 ^ m) (2 ^ r) a low in
    let high : (h * 2 ^ (r + m) + a * 2 ^ r + low) / 2 ^ r ≡ h * 2 ^ m + a =
    ap (λ n. n / 2 ^ r) same ∙ shr_high (h * 2 ^ m + a) r low below in
    let back : (h * 2 ^ m + a) * 2 ^ r + low ≡ h * 2 ^ (r + m) + a * 2 ^ r + low = sym same in
    let top : (h * 2 ^ m + a) * 2 ^ r ≡ h * 2 ^ (r + m) + a * 2 ^ r = omega arith in
    ap (λ n. n * 2 ^ r) high ∙ top

-- 0 written to the last bits
last_cleared : (x r : ℕ) → r ≤ 128 → with_field_of x (128 - r) r 0 ≡ x / 2 ^ r * 2 ^ r
unfolding with_field_of
last_cleared x r within =
    let place : 128 - (128 - r) ≡ r = omega arith in
    let none : 128 - (128 - r) - r ≡ 0 = omega arith in
    let one : x / 2 ^ r * 2 ^ r + 0 * 1 + x % 1 ≡ x / 2 ^ r * 2 ^ r = omega arith in
    ap (λ n. x / 2 ^ n * 2 ^ n + 0 * 2 ^ (128 - (128 - r) - r) + x % 2 ^ (128 - (128 - r) - r)) place
    ∙ ap (λ n. x / 2 ^ r * 2 ^ r + 0 * 2 ^ n + x % 2 ^ n) none ∙ one

-- the argument written after the block
moved_is : (d block len a r : ℕ) → block < len → len ≤ 128 → r ≡ len - block
    → with_field_of d block (128 - len) a
    ≡ d / 2 ^ (128 - block) * 2 ^ (r + (128 - len)) + a * 2 ^ r + d % 2 ^ r
unfolding with_field_of
moved_is d block len a r longer within is =
    let sum : 128 - block ≡ r + (128 - len) = omega arith in
    let rest : 128 - block - (128 - len) ≡ r = omega arith in
    ap (λ n. d / 2 ^ (128 - block) * 2 ^ n + a * 2 ^ (128 - block - (128 - len)) + d % 2 ^ (128 - block - (128 - len))) sum
    ∙ ap (λ n. d / 2 ^ (128 - block) * 2 ^ (r + (128 - len)) + a * 2 ^ n + d % 2 ^ n) rest

-- both give the shift
pub shift_fields : (d block len : ℕ) → block < len → len ≤ 128
    → with_field_of (with_field_of d block (128 - len) (argument_of d len)) (128 - (len - block)) (len - block) 0
    ≡ shift_of d block len
unfolding shift_of
shift_fields d block len longer within =
    let r : ℕ = len - block in
    let a : ℕ = argument_of d len in
    let h : ℕ = d / 2 ^ (128 - block) in
    let sum : r + (128 - len) ≡ 128 - block = omega arith in
    last_cleared (with_field_of d block (128 - len) a) r (omega arith)
    ∙ ap (λ n. n / 2 ^ r * 2 ^ r) (moved_is d block len a r longer within refl)
    ∙ cleared h a (d % 2 ^ r) (128 - len) r (mod_below d (2 ^ r) (pow_pos r))
    ∙ ap (λ n. h * 2 ^ n + a * 2 ^ r) sum

-- the same, as the code writes them
pub shift_written : (d block len a w x y : ℕ) → block < len → len ≤ 128 → a ≡ argument_of d len → w ≡ len - block
    → x ≡ with_field_of d block (128 - len) a → y ≡ with_field_of x (128 - w) w 0 → y ≡ shift_of d block len
shift_written d block len a w x y longer within is_a is_w is_x is_y =
    is_y ∙ ap (λ n. with_field_of n (128 - w) w 0) (is_x ∙ ap (λ n. with_field_of d block (128 - len) n) is_a)
    ∙ ap (λ n. with_field_of (with_field_of d block (128 - len) (argument_of d len)) (128 - n) n 0) is_w
    ∙ shift_fields d block len longer within

-- ---- packets

-- what is shifted has an argument that isn't 0
some_argument : (next zero : Bool) → (next && not zero) ≡ true → zero ≡ false
some_argument true true e = cc
some_argument true false e = refl
some_argument false zero e = cc

-- so its SID is shorter than an address
pub shifts_shorter : (c : Compression) (d : ℕ) → c.prefix_len ≤ 128 → shifts c d ≡ true → c.prefix_len < 128
shifts_shorter c d within is =
    let some = some_argument (is_next c.kind) (argument_of d c.prefix_len == 0) is in
    let P : c.prefix_len ≡ 128 → ⊥ =
    λ whole. eqb-false (argument_of d c.prefix_len) 0 some (sym (argument_none d c.prefix_len whole)) in
    elim (eq-or-lt_of_le within) [ inl whole ↦ absurd (P whole) | inr less ↦ less ]

pub shift_content : (c : Compression) (bytes : List ℕ) (p : Packet) (hop_limit destination : ℕ) → content_of bytes ≡ V6 p
    → hop_limit ≡ p.hop_limit - 1 → destination ≡ shift_of p.destination c.block_len c.prefix_len → destination < 2 ^ 128
    → content_of (take 24 (slice_set bytes 7 hop_limit) ++ (address_bytes destination ++ drop 40 (slice_set bytes 7 hop_limit)))
    ≡ V6 (shifted c p)
shift_content c bytes p hop_limit destination reads hop is below =
    let lowered = read_hop_limit bytes p reads hop_limit in
    read_destination (slice_set bytes 7 hop_limit) (record p { hop_limit = hop_limit }) lowered destination below
    ∙ ap (λ n. V6 (record p { hop_limit = n; destination = destination })) hop
    ∙ ap (λ n. V6 (record p { hop_limit = p.hop_limit - 1; destination = n })) is

pub ruleset shifting = (shifts_shorter, shift_content)
