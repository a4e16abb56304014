-- What holds of the bits of numbers and of fields, for the crates above.
use Rattle.std.proofs.Common.{◌≡◌, ℕ, ◌+◌, ◌-◌, ◌*◌, ◌/◌, ◌%◌, ◌^◌, ◌≤◌, sym, ◌∙◌, ap, subst, arith}
use Rattle.std.proofs.lemmas.Nat.{shr_split, shr-shr, pow-add}
use Rattle.v6_addr.specs.Address.{PrefixValue, Holds, field_of, with_field_of}
use Rattle.v6_addr.specs.Bits.{cut, put}
use Rattle.v6_addr.proofs.Fields.{with_field_is_put}

-- numbers that agree above a bit and below it are one
pub same_from_both : (a b k : ℕ) → a / 2 ^ k ≡ b / 2 ^ k → a % 2 ^ k ≡ b % 2 ^ k → a ≡ b
same_from_both a b k above below =
    sym (shr_split a k) ∙ ap (λ n. n * 2 ^ k + a % 2 ^ k) above ∙ ap (λ n. b / 2 ^ k * 2 ^ k + n) below ∙ shr_split b k

-- what is above a bit is what is above a higher one, and the bits between
pub above_split : (a rest width : ℕ) → a / 2 ^ (rest + width) * 2 ^ width + cut a rest width ≡ a / 2 ^ rest
unfolding cut
above_split a rest width =
    ap (λ n. n * 2 ^ width + a / 2 ^ rest % 2 ^ width) (sym (shr-shr a rest width)) ∙ shr_split (a / 2 ^ rest) width

regrouped : (h x w v low : ℕ) → h * (x * w) + v * x + low ≡ (h * w + v) * x + low
regrouped h x w v low = grind arith

-- a number's own bits put into it change nothing
pub put_cut : (a rest width : ℕ) → put a rest width (cut a rest width) ≡ a
unfolding put
put_cut a rest width =
    let high : ℕ = a / 2 ^ (rest + width) in
    ap (λ n. high * n + cut a rest width * 2 ^ rest + a % 2 ^ rest) (pow-add 2 rest width)
    ∙ regrouped high (2 ^ rest) (2 ^ width) (cut a rest width) (a % 2 ^ rest)
    ∙ ap (λ n. n * 2 ^ rest + a % 2 ^ rest) (above_split a rest width)
    ∙ shr_split a rest

-- numbers that agree above a bit and in the bits after it agree above those
pub above_longer : (a b rest width : ℕ) → a / 2 ^ (rest + width) ≡ b / 2 ^ (rest + width) → cut a rest width ≡ cut b rest width
    → a / 2 ^ rest ≡ b / 2 ^ rest
above_longer a b rest width above same =
    sym (above_split a rest width) ∙ ap (λ n. n * 2 ^ width + cut a rest width) above
    ∙ ap (λ n. b / 2 ^ (rest + width) * 2 ^ width + n) same ∙ above_split b rest width

-- ---- at positions in an address

-- a field that is written as it stands changes nothing
pub with_field_of_same : (a at width : ℕ) → at + width ≤ 128 → with_field_of a at width (field_of a at width) ≡ a
unfolding field_of cut
with_field_of_same a at width within =
    with_field_is_put a at width (field_of a at width) within ∙ put_cut a (128 - at - width) width

-- a prefix holds an address where a shorter one does that holds its value too, and the fields after the shorter one are equal
pub Holds_longer : (p q : PrefixValue) (a width : ℕ) → p.len + width ≡ q.len → q.len ≤ 128 → Holds p a → Holds p q.value
    → field_of a p.len width ≡ field_of q.value p.len width → Holds q a
unfolding Holds field_of cut
Holds_longer p q a width sum within holds_a holds_q same =
    let rest : 128 - p.len - width ≡ 128 - q.len = omega arith in
    let high : 128 - p.len ≡ 128 - q.len + width = omega arith in
    let P : ℕ → Type 0 = λ n. a / 2 ^ n ≡ q.value / 2 ^ n in
    let Q : ℕ → Type 0 = λ n. a / 2 ^ n % 2 ^ width ≡ q.value / 2 ^ n % 2 ^ width in
    above_longer a q.value (128 - q.len) width (subst P high (holds_a ∙ sym holds_q)) (subst Q rest same)
