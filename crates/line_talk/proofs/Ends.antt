-- Where lines end.
use Rattle.std.proofs.Common.{◌≡◌, ℕ, zero, suc, ◌<◌, ◌==◌, true, false, if◌then◌else◌, List, [], ◌∷◌, ◌++◌, length, take, drop, get_or, refl, sym, ap, ◌∙◌, append_assoc, append-nil, arith}
use Rattle.line_talk.specs.Lines.{line_feed, whole_lines_from, last_line_from}

-- where no line ends
pub whole_none : (line xs : List ℕ) → ((k : ℕ) → k < length xs → (get_or xs k 0 == line_feed) ≡ false)
    → (whole_lines_from line xs ≡ []) × (last_line_from line xs ≡ line ++ xs)
whole_none line [] none = (refl, sym (append-nil line))
whole_none line (x ∷ xs) none =
    let head : (x == line_feed) ≡ false = none 0 (omega arith) in
    let rest = whole_none (line ++ x ∷ []) xs (λ k lt. none (suc k) (omega (arith, lt))) in
    (rw head (rest.0), rw head (rest.1 ∙ append_assoc line (x ∷ []) xs))

-- where the first line ends behind these bytes
pub whole_some : (line xs : List ℕ) (i : ℕ) → i < length xs → (get_or xs i 0 == line_feed) ≡ true
    → ((k : ℕ) → k < i → (get_or xs k 0 == line_feed) ≡ false)
    → (whole_lines_from line xs ≡ (line ++ take i xs) ∷ whole_lines_from [] (drop (suc i) xs))
    × (last_line_from line xs ≡ last_line_from [] (drop (suc i) xs))
whole_some line [] i lt hit before = absurd (omega (arith, lt))
whole_some line (x ∷ xs) zero lt hit before =
    (rw hit (ap (λ (l : List ℕ). l ∷ whole_lines_from [] xs) (sym (append-nil line))), rw hit refl)
whole_some line (x ∷ xs) (suc i) lt hit before =
    let head : (x == line_feed) ≡ false = before 0 (omega arith) in
    let rest = whole_some (line ++ x ∷ []) xs i (omega (arith, lt)) hit (λ k low. before (suc k) (omega (arith, low))) in (
      rw head (rest.0 ∙ ap (λ (l : List ℕ). l ∷ whole_lines_from [] (drop (suc i) xs)) (append_assoc line (x ∷ []) (take i xs))),
      rw head (rest.1),
    )

pub whole_append : (line xs ys : List ℕ) → whole_lines_from line (xs ++ ys) ≡ whole_lines_from line xs ++ whole_lines_from (last_line_from line xs) ys
whole_append line [] ys = refl
whole_append line (x ∷ xs) ys =
    elim (x == line_feed) as (λ t. (if t then line ∷ whole_lines_from [] (xs ++ ys) else whole_lines_from (line ++ x ∷ []) (xs ++ ys))
    ≡ (if t then line ∷ whole_lines_from [] xs else whole_lines_from (line ++ x ∷ []) xs)
    ++ whole_lines_from (if t then last_line_from [] xs else last_line_from (line ++ x ∷ []) xs) ys) [
      | true ↦ ap (λ (l : List (List ℕ)). line ∷ l) (whole_append [] xs ys)
      | false ↦ whole_append (line ++ x ∷ []) xs ys
    ]

pub last_append : (line xs ys : List ℕ) → last_line_from line (xs ++ ys) ≡ last_line_from (last_line_from line xs) ys
last_append line [] ys = refl
last_append line (x ∷ xs) ys =
    elim (x == line_feed) as (λ t. (if t then last_line_from [] (xs ++ ys) else last_line_from (line ++ x ∷ []) (xs ++ ys))
    ≡ last_line_from (if t then last_line_from [] xs else last_line_from (line ++ x ∷ []) xs) ys) [
      | true ↦ last_append [] xs ys
      | false ↦ last_append (line ++ x ∷ []) xs ys
    ]
