-- the longest run, by the words of RFC 5952
use Rattle.std.proofs.Common.{◌≡◌, ℕ, zero, suc, ◌+◌, ◌<◌, ◌≤◌, Bool, true, false, eqb, leb, cond, List, [], ◌∷◌, get_or, subst, refl, arith}
use Rattle.std.proofs.lemmas.Bool.{leb-true, leb-false, eqb-true, eq-eqb, cond-true}
use Rattle.v6_addr.specs.Text.{Run, leading_zeros, longer_run, longest_run}
use Rattle.v6_addr.specs.AddressGrammar.{IsZeroRun, IsLongestRun}

-- ---- one group before

run_behind : (g : ℕ) (gs : List ℕ) (start count : ℕ) → IsZeroRun gs start count → IsZeroRun (g ∷ gs) (suc start) count
run_behind g gs start count run = (
  let inside = run.0 in omega arith,
  λ k below. let sum : suc (start + k) ≡ suc start + k = omega arith in let P : ℕ → Type 0 = λ n. get_or (g ∷ gs) n 0 ≡ 0 in
      subst P sum (run.1 k below),
)

pub run_without : (g : ℕ) (gs : List ℕ) (start count : ℕ) → IsZeroRun (g ∷ gs) (suc start) count → IsZeroRun gs start count
run_without g gs start count run = (
  let inside = run.0 in omega arith,
  λ k below. let sum : suc start + k ≡ suc (start + k) = omega arith in let P : ℕ → Type 0 = λ n. get_or (g ∷ gs) n 0 ≡ 0 in
      subst P sum (run.1 k below),
)

front_each : (g : ℕ) (gs : List ℕ) (n : ℕ) → g ≡ 0 → IsZeroRun gs 0 n → (k : ℕ) → k < suc n → get_or (g ∷ gs) (0 + k) 0 ≡ 0
front_each g gs n is_zero run zero below = is_zero
front_each g gs n is_zero run (suc k) below =
    let sum : suc (0 + k) ≡ 0 + suc k = omega arith in let P : ℕ → Type 0 = λ m. get_or (g ∷ gs) m 0 ≡ 0 in
    subst P sum (run.1 k (omega arith))

front_more : (g : ℕ) (gs : List ℕ) (n : ℕ) → g ≡ 0 → IsZeroRun gs 0 n → IsZeroRun (g ∷ gs) 0 (suc n)
front_more g gs n is_zero run = (let inside = run.0 in omega arith, front_each g gs n is_zero run)

pub front_without : (g : ℕ) (gs : List ℕ) (n : ℕ) → IsZeroRun (g ∷ gs) 0 (suc n) → IsZeroRun gs 0 n
front_without g gs n run = (
  let inside = run.0 in omega arith,
  λ k below. let sum : 0 + suc k ≡ suc (0 + k) = omega arith in let P : ℕ → Type 0 = λ m. get_or (g ∷ gs) m 0 ≡ 0 in
      subst P sum (run.1 (suc k) (omega arith)),
)

no_run : (gs : List ℕ) → IsZeroRun gs 0 0
no_run gs = (omega arith, λ k below. absurd (omega arith))

-- ---- the zeros that groups begin with

front_by_test : (g : ℕ) (gs : List ℕ) (n : ℕ) (b : Bool) → eqb g 0 ≡ b → IsZeroRun gs 0 n → IsZeroRun (g ∷ gs) 0 (cond b (suc n) 0)
front_by_test g gs n true test run = front_more g gs n (eqb-true g 0 test) run
front_by_test g gs n false test run = no_run (g ∷ gs)

front_zeros : (gs : List ℕ) → IsZeroRun gs 0 (leading_zeros gs)
unfolding leading_zeros
front_zeros [] = no_run []
front_zeros (g ∷ gs) = front_by_test g gs (leading_zeros gs) (eqb g 0) refl (front_zeros gs)

front_most : (gs : List ℕ) (n : ℕ) → IsZeroRun gs 0 n → n ≤ leading_zeros gs
unfolding leading_zeros
front_most [] n run = let inside = run.0 in omega arith
front_most (g ∷ gs) zero run = omega arith
front_most (g ∷ gs) (suc n) run =
    let is_zero : g ≡ 0 = run.1 0 (omega arith) in
    let more = front_most gs n (front_without g gs n run) in
    omega (arith, cond-true (eqb g 0) (suc (leading_zeros gs)) 0 (eq-eqb g 0 is_zero), more)

-- ---- the longest run

longer_is : (g : ℕ) (gs : List ℕ) (here : ℕ) (behind : Run) (b : Bool) → leb behind.count here ≡ b → IsZeroRun (g ∷ gs) 0 here
    → ((n : ℕ) → IsZeroRun (g ∷ gs) 0 n → n ≤ here) → IsLongestRun gs behind
    → IsLongestRun (g ∷ gs) (cond b (record { start = 0; count = here }) (record { start = suc behind.start; count = behind.count }))
longer_is g gs here behind true test run most longest = record {
  zeros = run;
  longest = every;
  first = λ start zeros. omega arith;
}
  where
    every : (start count : ℕ) → IsZeroRun (g ∷ gs) start count → count ≤ here
    every zero count zeros = most count zeros
    every (suc start) count zeros = omega (arith, leb-true _ _ test, longest.longest start count (run_without g gs start count zeros))
longer_is g gs here behind false test run most longest = record {
  zeros = run_behind g gs behind.start behind.count longest.zeros;
  longest = every;
  first = first_of;
}
  where
    every : (start count : ℕ) → IsZeroRun (g ∷ gs) start count → count ≤ behind.count
    every zero count zeros = omega (arith, leb-false _ _ test, most count zeros)
    every (suc start) count zeros = longest.longest start count (run_without g gs start count zeros)

    first_of : (start : ℕ) → IsZeroRun (g ∷ gs) start behind.count → suc behind.start ≤ start
    first_of zero zeros = absurd (omega (arith, leb-false _ _ test, most behind.count zeros))
    first_of (suc start) zeros = omega (arith, longest.first start (run_without g gs start behind.count zeros))

-- the run that is chosen is of zeros, none is longer, and none as long begins earlier
pub longest_run_is : (gs : List ℕ) → IsLongestRun gs (longest_run gs)
unfolding longest_run longer_run
longest_run_is [] = record {
  zeros = no_run [];
  longest = λ start count zeros. let inside = zeros.0 in omega arith;
  first = λ start zeros. omega arith;
}
longest_run_is (g ∷ gs) =
    longer_is g gs (leading_zeros (g ∷ gs)) (longest_run gs) (leb (longest_run gs).count (leading_zeros (g ∷ gs))) refl
    (front_zeros (g ∷ gs)) (front_most (g ∷ gs)) (longest_run_is gs)
