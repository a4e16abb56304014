-- Values of containers, CSID by CSID.
use Rattle.std.proofs.Common.{◌≡◌, inl, inr, ℕ, ◌+◌, ◌-◌, ◌*◌, ◌/◌, ◌%◌, ◌^◌, ◌<◌, ◌≤◌, List, [], ◌∷◌, length, map, get_or, drop, Some, refl, sym, ◌∙◌, ap, subst, arith}
use Rattle.std.proofs.Math.Nat.{zero-mod, mod-add-div', add-mul-mod_self_right, mod-eq_of_lt, div-eq_of_lt}
use Rattle.std.proofs.lemmas.Nat.{mul-add-lt, pow-add, pow_pos}
use Rattle.std.proofs.lemmas.List.{length-map}
use Rattle.std.proofs.lemmas.Option.{slice_get-get_or}
use Rattle.v6_addr.specs.Address.{PrefixValue, field_of, with_field_of}
use Rattle.v6_addr.proofs.PublicLaws.{same_below}
use Rattle.srv6_rules.specs.Compressed.{csid_of, csid_count, downward, packed_entry, packed}
use Rattle.srv6_rules.specs.CompressedTerms.{IsCsidLen}
use Rattle.list_pack.specs.SegmentValues.{FitBehind}
use Rattle.list_pack.proofs.SidLoops.{drop_item, drop_past}

-- ---- full containers

below_clear : (v at width : ℕ) → v % 2 ^ (128 - at) ≡ 0 → v % 2 ^ (128 - at - width) ≡ 0
below_clear v at width clear =
    let less : 128 - at - width ≤ 128 - at = omega arith in
    same_below v 0 (128 - at - width) (128 - at) less (clear ∙ sym (zero-mod (2 ^ (128 - at)))) ∙ zero-mod (2 ^ (128 - at - width))

-- a field where nothing stands
pub put_behind : (v at width c : ℕ) → v % 2 ^ (128 - at) ≡ 0 → with_field_of v at width c ≡ v + c * 2 ^ (128 - at - width)
unfolding with_field_of
put_behind v at width c clear =
    let whole = mod-add-div' v (2 ^ (128 - at)) in
    let low = below_clear v at width clear in
    omega (arith, whole, low, clear)

pub clear_behind : (v at width c : ℕ) → v % 2 ^ (128 - at) ≡ 0
    → (v + c * 2 ^ (128 - at - width)) % 2 ^ (128 - (at + width)) ≡ 0
clear_behind v at width c clear =
    let same : 128 - (at + width) ≡ 128 - at - width = omega arith in
    ap (λ (n : ℕ). (v + c * 2 ^ (128 - at - width)) % 2 ^ n) same
    ∙ add-mul-mod_self_right v c (2 ^ (128 - at - width)) ∙ below_clear v at width clear

-- ---- REPLACE containers

-- CSIDs one above the other from a bit on, counted from the lowest
abbrev pub stacked : ℕ → ℕ → List ℕ → ℕ
stacked w at [] = 0
stacked w at (c ∷ cs) = c * 2 ^ at + stacked w (at + w) cs

row_more : (at w index : ℕ) → at + w + index * w ≡ at + (index + 1) * w
row_more at w index = grind arith

downward_is : (w index at : ℕ) (cs : List ℕ) → at + (index + 1) * w ≡ 128 → length cs ≤ index + 1 → downward w index cs ≡ stacked w at cs
downward_is w index at [] all few = refl
downward_is w index at (c ∷ []) all few =
    let place : 128 - (index + 1) * w ≡ at = omega (arith, all) in
    ap (λ (n : ℕ). c * 2 ^ n + 0) place
downward_is w index at (c ∷ d ∷ ds) all few =
    let place : 128 - (index + 1) * w ≡ at = omega (arith, all) in
    let one : index - 1 + 1 ≡ index = omega (arith, few) in
    let next : at + w + (index - 1 + 1) * w ≡ 128 = ap (λ (n : ℕ). at + w + n * w) one ∙ row_more at w index ∙ all in
    ap (λ (n : ℕ). c * 2 ^ n + downward w (index - 1) (d ∷ ds)) place
    ∙ ap (λ (n : ℕ). c * 2 ^ at + n) (downward_is w (index - 1) (at + w) (d ∷ ds) next (omega (arith, few)))

pub entry_is : (w : ℕ) (cs : List ℕ) → IsCsidLen w → length cs ≤ csid_count w → packed_entry w cs ≡ stacked w 0 cs
entry_is w cs (inl e) few =
    let few_16 : length cs ≤ 8 = subst (λ (n : ℕ). length cs ≤ 128 / n) e few in
    subst (λ (n : ℕ). packed_entry n cs ≡ stacked n 0 cs) (sym e) (downward_is 16 7 0 cs refl few_16)
entry_is w cs (inr e) few =
    let few_32 : length cs ≤ 4 = subst (λ (n : ℕ). length cs ≤ 128 / n) e few in
    subst (λ (n : ℕ). packed_entry n cs ≡ stacked n 0 cs) (sym e) (downward_is 32 3 0 cs refl few_32)

-- a CSID in front of the bits after it
pub put_before : (v behind w c : ℕ) → behind + w ≤ 128 → v < 2 ^ behind → with_field_of v (128 - behind - w) w c ≡ c * 2 ^ behind + v
unfolding with_field_of
put_before v behind w c fits below =
    let top : 128 - (128 - behind - w) ≡ behind + w = omega (arith, fits) in
    let low : 128 - (128 - behind - w) - w ≡ behind = omega (arith, fits) in
    let more : v < 2 ^ (behind + w) =
    subst (λ (n : ℕ). v < n) (sym (pow-add 2 behind w)) (below_times v (2 ^ behind) w below) in
    let none : v / 2 ^ (behind + w) ≡ 0 = div-eq_of_lt more in
    let own : v % 2 ^ behind ≡ v = mod-eq_of_lt below in
    ap (λ (n : ℕ). v / 2 ^ n * 2 ^ n + c * 2 ^ (128 - (128 - behind - w) - w) + v % 2 ^ (128 - (128 - behind - w) - w)) top
    ∙ ap (λ (n : ℕ). v / 2 ^ (behind + w) * 2 ^ (behind + w) + c * 2 ^ n + v % 2 ^ n) low
    ∙ ap (λ (n : ℕ). n * 2 ^ (behind + w) + c * 2 ^ behind + v % 2 ^ behind) none
    ∙ ap (λ (n : ℕ). 0 * 2 ^ (behind + w) + c * 2 ^ behind + n) own
    ∙ none_first (2 ^ (behind + w)) (c * 2 ^ behind) v
  where
    below_times : (a b k : ℕ) → a < b → a < b * 2 ^ k
    below_times a b k h =
        let some : 0 < 2 ^ k = pow_pos k in
        let zero_first : 0 * b + a ≡ a = omega arith in
        subst (λ (n : ℕ). n < b * 2 ^ k) zero_first (mul-add-lt 0 b a (2 ^ k) some h)

    none_first : (x y z : ℕ) → 0 * x + y + z ≡ y + z
    none_first x y z = omega arith

pub below_before : (v behind w c : ℕ) → v < 2 ^ behind → c < 2 ^ w → c * 2 ^ behind + v < 2 ^ (behind + w)
below_before v behind w c below small =
    subst (λ (n : ℕ). c * 2 ^ behind + v < n) (sym (pow-add 2 behind w)) (mul-add-lt c (2 ^ behind) v (2 ^ w) small below)

-- ---- steps of loops

pub full_told : (b at value next total : ℕ) (left more : List PrefixValue) (p : PrefixValue) → left ≡ p ∷ more
    → value + packed b (128 - at) left ≡ total → value % 2 ^ (128 - at) ≡ 0
    → next ≡ with_field_of value at (p.len - b) (field_of p.value b (p.len - b))
    → next + packed b (128 - (at + (p.len - b))) more ≡ total
full_told b at value next total left more p e told clear is =
    let put = is ∙ put_behind value at (p.len - b) (field_of p.value b (p.len - b)) clear in
    let room : 128 - (at + (p.len - b)) ≡ 128 - at - (p.len - b) = omega arith in
    let all : value + (field_of p.value b (p.len - b) * 2 ^ (128 - at - (p.len - b)) + packed b (128 - at - (p.len - b)) more) ≡ total =
    ap (λ (ps : List PrefixValue). value + packed b (128 - at) ps) (sym e) ∙ told in
    ap (λ (n : ℕ). next + packed b n more) room
    ∙ ap (λ (n : ℕ). n + packed b (128 - at - (p.len - b)) more) put
    ∙ add_three value (field_of p.value b (p.len - b) * 2 ^ (128 - at - (p.len - b))) (packed b (128 - at - (p.len - b)) more) ∙ all
  where
    add_three : (x y z : ℕ) → x + y + z ≡ x + (y + z)
    add_three x y z = omega arith

pub full_clear : (b at value next : ℕ) (p : PrefixValue) → value % 2 ^ (128 - at) ≡ 0
    → next ≡ with_field_of value at (p.len - b) (field_of p.value b (p.len - b)) → next % 2 ^ (128 - (at + (p.len - b))) ≡ 0
full_clear b at value next p clear is =
    ap (λ (n : ℕ). n % 2 ^ (128 - (at + (p.len - b)))) (is ∙ put_behind value at (p.len - b) (field_of p.value b (p.len - b)) clear)
    ∙ clear_behind value at (p.len - b) (field_of p.value b (p.len - b)) clear

pub full_fits : (b at : ℕ) (left more : List PrefixValue) (p : PrefixValue) → left ≡ p ∷ more → FitBehind b at left
    → (b < p.len) × (at + (p.len - b) ≤ 128) × FitBehind b (at + (p.len - b)) more
full_fits b at left more p e fits = subst (λ (ps : List PrefixValue). FitBehind b at ps) e fits

-- ---- a prefix's own CSID

pub csid_of_long : (b w : ℕ) (p : PrefixValue) → p.len ≡ b + w → field_of p.value b w ≡ csid_of b p
csid_of_long b w p e =
    let width : w ≡ p.len - b = omega (arith, e) in
    ap (λ (n : ℕ). field_of p.value b n) width

pub packed_end_law : (b w value behind index : ℕ) (first : PrefixValue) (more : List PrefixValue) → IsCsidLen w
    → length (first ∷ more) ≤ csid_count w
    → value + stacked w behind (map (csid_of b) (drop index more)) ≡ stacked w 0 (map (csid_of b) (first ∷ more)) → length more ≤ index
    → value ≡ packed_entry w (map (csid_of b) (first ∷ more))
packed_end_law b w value behind index first more csid few told past =
    let none : value ≡ value + stacked w behind (map (csid_of b) []) = omega arith in
    let same : length (map (csid_of b) (first ∷ more)) ≡ length (first ∷ more) = length-map (first ∷ more) (csid_of b) in
    none ∙ ap (λ (ps : List PrefixValue). value + stacked w behind (map (csid_of b) ps)) (sym (drop_past more index past)) ∙ told
    ∙ sym (entry_is w (map (csid_of b) (first ∷ more)) csid (subst (λ (n : ℕ). n ≤ csid_count w) (sym same) few))

-- an item that a loop comes to, and those after it
pub drop_got : (xs : List PrefixValue) (i : ℕ) (p : PrefixValue) → i < length xs → p ≡ get_or xs i p → drop i xs ≡ p ∷ drop (i + 1) xs
drop_got xs i p within is = drop_item xs i p (slice_get-get_or xs i p within ∙ ap (λ (x : PrefixValue). Some x) (sym is))

pub record FullStep (b at next total width : ℕ) (more : List PrefixValue) : Type 0 where
  pub told : next + packed b (128 - (at + width)) more ≡ total
  pub clear : next % 2 ^ (128 - (at + width)) ≡ 0
  pub fits : FitBehind b (at + width) more
  pub within : at + width ≤ 128

pub full_step : (b at value next total width : ℕ) (left more : List PrefixValue) (p : PrefixValue) → left ≡ p ∷ more
    → value + packed b (128 - at) left ≡ total → value % 2 ^ (128 - at) ≡ 0 → FitBehind b at left → width ≡ p.len - b
    → next ≡ with_field_of value at width (field_of p.value b width) → FullStep b at next total width more
full_step b at value next total width left more p e told clear fits same is =
    let own : next ≡ with_field_of value at (p.len - b) (field_of p.value b (p.len - b)) =
    is ∙ ap (λ (w : ℕ). with_field_of value at w (field_of p.value b w)) same in
    let parts = full_fits b at left more p e fits in
    subst (λ (w : ℕ). FullStep b at next total w more) (sym same) (record {
      told = full_told b at value next total left more p e told clear own;
      clear = full_clear b at value next p clear own;
      fits = parts.2;
      within = parts.1;
    })
