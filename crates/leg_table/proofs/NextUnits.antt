-- The 16 bits after a SID that has 16 after its block's: in a container they are the first ones of the SID directly after it, and 0 where
-- none is there.
use Rattle.std.proofs.Common.{◌≡◌, ℕ, ◌+◌, ◌-◌, ◌*◌, ◌/◌, ◌%◌, ◌^◌, ◌<◌, ◌≤◌, List, ◌∷◌, sym, ◌∙◌, ap, arith}
use Rattle.std.proofs.lemmas.Nat.{shr_high, shr-shr, mod_low, mod_below, mod-pow-add, pow_pos, pow-add}
use Rattle.v6_addr.specs.Address.{PrefixValue, Holds, field_of}
use Rattle.v6_addr.proofs.PublicLaws.{same_above}
use Rattle.srv6_rules.specs.Compressed.{argument_of, shift_of, container_of}
use Rattle.srv6_rules.specs.CompressedTerms.{IsContainer}
use Rattle.srv6_rules.proofs.PublicLaws.{container_shift, container_rest, container_holds}

-- ---- bits of numbers

-- the highest bits of what is left below a bit
below_cut : (a rest width : ℕ) → a % 2 ^ (width + rest) / 2 ^ rest ≡ a / 2 ^ rest % 2 ^ width
below_cut a rest width =
    ap (λ n. n / 2 ^ rest) (mod-pow-add a width rest)
    ∙ shr_high (a / 2 ^ rest % 2 ^ width) rest (a % 2 ^ rest) (mod_below a (2 ^ rest) (pow_pos rest))

raised : (h low x m : ℕ) → h * (x * m) + low * m ≡ (h * x + low) * m
raised h low x m = grind arith

-- what is moved up by 16 bits has 16 of its bits where those before them were
moved : (d h k : ℕ) → (h * 2 ^ (k + 32) + d % 2 ^ (16 + k) * 2 ^ 16) / 2 ^ (k + 16) % 2 ^ 16 ≡ d / 2 ^ k % 2 ^ 16
moved d h k =
    let low : ℕ = d % 2 ^ (16 + k) in
    let x : ℕ = h * 2 ^ (16 + k) + low in
    let long : k + 32 ≡ 16 + k + 16 = omega arith in
    let turned : k + 16 ≡ 16 + k = omega arith in
    let up : h * 2 ^ (k + 32) + low * 2 ^ 16 ≡ x * 2 ^ 16 =
    ap (λ n. h * 2 ^ n + low * 2 ^ 16) long ∙ ap (λ n. h * n + low * 2 ^ 16) (pow-add 2 (16 + k) 16)
    ∙ raised h low (2 ^ (16 + k)) (2 ^ 16) in
    let down : (h * 2 ^ (k + 32) + low * 2 ^ 16) / 2 ^ (k + 16) ≡ x / 2 ^ k =
    ap (λ n. n / 2 ^ (k + 16)) up ∙ ap (λ n. x * 2 ^ 16 / 2 ^ n) turned ∙ sym (shr-shr (x * 2 ^ 16) 16 k)
    ∙ ap (λ n. n / 2 ^ k) (ap (λ n. n / 2 ^ 16) (sym (add_zero (x * 2 ^ 16))) ∙ shr_high x 16 0 (pow_pos 16)) in
    let lower : x % 2 ^ (16 + k) ≡ low = mod_low h (16 + k) low (mod_below d (2 ^ (16 + k)) (pow_pos (16 + k))) in
    ap (λ n. n % 2 ^ 16) down
    ∙ sym (below_cut x k 16) ∙ ap (λ n. n / 2 ^ k) lower ∙ below_cut d k 16
  where
    add_zero : (n : ℕ) → n + 0 ≡ n
    add_zero n = omega arith

-- ---- units of addresses

-- the shift of a destination at a SID of 16 bits after the block's has the destination's next 16 bits after the block's
shift_unit : (d lbl len : ℕ) → len ≡ lbl + 16 → lbl + 32 ≤ 128 → field_of (shift_of d lbl len) lbl 16 ≡ field_of d (lbl + 16) 16
unfolding field_of shift_of argument_of
shift_unit d lbl len short fits =
    let k : ℕ = 128 - lbl - 32 in
    let a : 128 - lbl ≡ k + 32 = omega arith in
    let b : 128 - len ≡ 16 + k = omega arith in
    let c : len - lbl ≡ 16 = omega arith in
    let e : 128 - lbl - 16 ≡ k + 16 = omega arith in
    let f : 128 - (lbl + 16) - 16 ≡ k = omega arith in
    ap (λ n. (d / 2 ^ (128 - lbl) * 2 ^ n + d % 2 ^ (128 - len) * 2 ^ (len - lbl)) / 2 ^ (128 - lbl - 16) % 2 ^ 16) a
    ∙ ap (λ n. (d / 2 ^ (128 - lbl) * 2 ^ (k + 32) + d % 2 ^ n * 2 ^ (len - lbl)) / 2 ^ (128 - lbl - 16) % 2 ^ 16) b
    ∙ ap (λ n. (d / 2 ^ (128 - lbl) * 2 ^ (k + 32) + d % 2 ^ (16 + k) * 2 ^ n) / 2 ^ (128 - lbl - 16) % 2 ^ 16) c
    ∙ ap (λ n. (d / 2 ^ (128 - lbl) * 2 ^ (k + 32) + d % 2 ^ (16 + k) * 2 ^ 16) / 2 ^ n % 2 ^ 16) e
    ∙ moved d (d / 2 ^ (128 - lbl)) k
    ∙ ap (λ n. d / 2 ^ n % 2 ^ 16) (sym f)

-- an address that a prefix holds has the prefix's bits there
pub held_unit : (p : PrefixValue) (a at : ℕ) → Holds p a → at + 16 ≤ p.len → p.len ≤ 128 → field_of a at 16 ≡ field_of p.value at 16
unfolding Holds field_of
held_unit p a at held within fits = ap (λ n. n % 2 ^ 16) (same_above a p.value (128 - p.len) (128 - at - 16) (omega arith) held)

-- ---- what stands after a SID

module _ (block s : PrefixValue) (short : s.len ≡ block.len + 16) (fits : block.len + 32 ≤ 128) where
  pub unit_after : (t : PrefixValue) (ts : List PrefixValue) → IsContainer block (s ∷ t ∷ ts) → block.len + 16 ≤ t.len
      → field_of (container_of block.len (s ∷ t ∷ ts)) (block.len + 16) 16 ≡ field_of t.value block.len 16
  unit_after t ts is long =
      let d : ℕ = container_of block.len (s ∷ t ∷ ts) in
      let rest = container_rest block s (t ∷ ts) is in
      sym (shift_unit d block.len s.len short fits)
      ∙ ap (λ n. field_of n block.len 16) (container_shift block s t ts is)
      ∙ held_unit t (container_of block.len (t ∷ ts)) block.len (container_holds block t ts rest) long rest.0.prefix.0

  pub unit_last : s.value % 2 ^ (128 - s.len) ≡ 0 → field_of s.value (block.len + 16) 16 ≡ 0
  unfolding field_of
  unit_last clean =
      let k : ℕ = 128 - block.len - 32 in
      let e : 128 - (block.len + 16) - 16 ≡ k = omega arith in
      let f : 128 - s.len ≡ 16 + k = omega arith in
      ap (λ n. s.value / 2 ^ n % 2 ^ 16) e
      ∙ sym (below_cut s.value k 16)
      ∙ ap (λ n. s.value % 2 ^ n / 2 ^ k) (sym f)
      ∙ ap (λ n. n / 2 ^ k) clean
      ∙ zero_div (2 ^ k) (pow_pos k)
    where
      zero_div : (m : ℕ) → 0 < m → 0 / m ≡ 0
      zero_div m some = omega arith
