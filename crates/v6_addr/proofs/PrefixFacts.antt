-- what holds of addresses and prefixes, over plain numbers: for the crates that look prefixes up
use Rattle.std.proofs.Common.{◌≡◌, ℕ, ◌+◌, ◌-◌, ◌*◌, ◌/◌, ◌%◌, ◌^◌, ◌<◌, ◌≤◌, ltb, IsTrue, ◌↔◌, sym, ◌∙◌, ap, subst, refl, arith}
use Rattle.std.proofs.lemmas.Nat.{shr-shr, shr_split}
use Rattle.std.proofs.lemmas.Bool.{and_parts, and_from, ltb-true, lt-ltb, le-ltb, eqb-true, eq-eqb}
use Rattle.std.proofs.Math.Nat.{div-one}
use Rattle.v6_addr.specs.Address.{PrefixValue, Holds, holds_address, IsInside, is_inside}
use Rattle.v6_addr.specs.AddressTerms.{IsPrefix}

same_above_more : (a b low more : ℕ) → a / 2 ^ low ≡ b / 2 ^ low → a / 2 ^ (low + more) ≡ b / 2 ^ (low + more)
same_above_more a b low more same =
    sym (shr-shr a low more) ∙ ap (λ n. n / 2 ^ more) same ∙ shr-shr b low more

-- two numbers that agree above a bit agree above each higher bit
pub same_above : (a b low high : ℕ) → low ≤ high → a / 2 ^ low ≡ b / 2 ^ low → a / 2 ^ high ≡ b / 2 ^ high
same_above a b low high within same =
    let sum : low + (high - low) ≡ high = omega arith in
    let P : ℕ → Type 0 = λ n. a / 2 ^ n ≡ b / 2 ^ n in
    subst P sum (same_above_more a b low (high - low) same)

-- the test of `Holds`
pub holds_address_is : (p : PrefixValue) (a : ℕ) → IsTrue (holds_address p a) ↔ Holds p a
unfolding holds_address Holds
holds_address_is p a = (eqb-true _ _, eq-eqb _ _)

-- the test of `IsInside`
pub is_inside_is : (inner outer : PrefixValue) → IsTrue (is_inside inner outer) ↔ IsInside inner outer
unfolding is_inside
is_inside_is inner outer = (
  λ t. let parts = and_parts _ _ t in (ltb-true _ _ parts.0, (holds_address_is outer inner.value).0 parts.1),
  λ h. and_from _ _ (lt-ltb _ _ h.0) ((holds_address_is outer inner.value).1 h.1),
)

-- a prefix holds the address that it begins with
pub Holds_own_value : (p : PrefixValue) → Holds p p.value
unfolding Holds
Holds_own_value p = refl

-- a prefix of 128 bits holds its own address alone
pub Holds_at_128 : (p : PrefixValue) (a : ℕ) → p.len ≡ 128 → Holds p a ↔ (a ≡ p.value)
unfolding Holds
Holds_at_128 p a whole =
    let none : 128 - p.len ≡ 0 = omega arith in
    let P : ℕ → Type 0 = λ n. (a / 2 ^ n ≡ p.value / 2 ^ n) ↔ (a ≡ p.value) in
    subst P (sym none) (λ h. sym (div-one a) ∙ h ∙ div-one p.value, λ h. ap (λ n. n / 1) h)

-- what a prefix holds is held by each prefix that it lies inside
pub Holds_outer : (inner outer : PrefixValue) (a : ℕ) → IsInside inner outer → Holds inner a → Holds outer a
unfolding Holds
Holds_outer inner outer a inside h =
    same_above a inner.value (128 - inner.len) (128 - outer.len) (omega arith) h ∙ inside.1

-- of two prefixes that hold one address the shorter holds the other's address
pub Holds_nested : (p q : PrefixValue) (a : ℕ) → p.len ≤ q.len → Holds p a → Holds q a → Holds p q.value
unfolding Holds
Holds_nested p q a shorter hp hq =
    sym (same_above a q.value (128 - q.len) (128 - p.len) (omega arith) hq) ∙ hp

-- what holds one address of a prefix that is no shorter holds the others
pub Holds_alike : (p q : PrefixValue) (a b : ℕ) → p.len ≤ q.len → Holds q a → Holds q b → Holds p a → Holds p b
unfolding Holds
Holds_alike p q a b shorter q_a q_b p_a =
    sym (same_above a b (128 - q.len) (128 - p.len) (omega arith) (q_a ∙ sym q_b)) ∙ p_a

-- two prefixes of one length that hold one address have one value
pub same_value : (p q : PrefixValue) (a : ℕ) → IsPrefix p → IsPrefix q → p.len ≡ q.len → Holds p a → Holds q a → p.value ≡ q.value
unfolding Holds
same_value p q a prefix_p prefix_q same hp hq =
    let k = 128 - p.len in
    let behind : 128 - q.len ≡ k = ap (λ n. 128 - n) (sym same) in
    let P : ℕ → Type 0 = λ n. (a / 2 ^ n ≡ q.value / 2 ^ n) × (q.value % 2 ^ n ≡ 0) in
    let at_q = subst P behind (hq, prefix_q.2) in
    sym (shr_split p.value k)
    ∙ ap (λ n. n * 2 ^ k + p.value % 2 ^ k) (sym hp ∙ at_q.0)
    ∙ ap (λ n. q.value / 2 ^ k * 2 ^ k + n) (prefix_p.2 ∙ sym at_q.1)
    ∙ shr_split q.value k

-- the code's test of the lengths, and then of the address
pub is_inside_longer : (inner outer : PrefixValue) (value len outer_len : ℕ) → value ≡ inner.value → len ≡ inner.len → outer_len ≡ outer.len
    → outer_len < len → holds_address outer value ≡ is_inside inner outer
unfolding is_inside
is_inside_longer inner outer value len outer_len is_value is_len is_outer longer =
    let before : outer.len < inner.len = omega arith in
    rw (lt-ltb outer.len inner.len before) (ap (λ n. holds_address outer n) is_value)

pub is_inside_not_longer : (inner outer : PrefixValue) (len outer_len : ℕ) → len ≡ inner.len → outer_len ≡ outer.len → len ≤ outer_len
    → ltb outer_len len ≡ is_inside inner outer
unfolding is_inside
is_inside_not_longer inner outer len outer_len is_len is_outer shorter =
    let before : inner.len ≤ outer.len = omega arith in
    rw (le-ltb outer.len inner.len before, le-ltb outer_len len shorter) refl
