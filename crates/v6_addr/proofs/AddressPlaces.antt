-- the places in the text of an address: what is reached is what some address begins with
use Rattle.std.proofs.Common.{◌≡◌, ℕ, suc, ◌+◌, ◌-◌, ◌<◌, ◌≤◌, inl, inr, Bool, true, false, List, [], ◌∷◌, ◌++◌, length, Some, sym, ◌∙◌, ap, refl, arith, append_assoc}
use Rattle.std.specs.Prelude.{option_and_then}
use Rattle.std.specs.Char.{digit_value}
use Rattle.std.specs.List.{join_with_byte, AllZip}
use Rattle.std.specs.Str.Parse.{AllDigits}
use Rattle.std.proofs.lemmas.List.{append-nil}
use Rattle.std.proofs.lemmas.Bool.{lt-ltb, cond-true}
use Rattle.v6_addr.specs.declared.scan.Scanned.{Scanned}
use Rattle.v6_addr.specs.declared.scan.Scanned.TheVariants.{Start, Colon, Group, Between, Gap}
use Rattle.v6_addr.specs.AddressGrammar.{IsGroupText, IsGroupsText, IsAddressText}
use Rattle.v6_addr.specs.Scan.{walked}
use Rattle.v6_addr.specs.ScanTerms.{behind_digit, behind_colon, behind, reached}

-- ---- steps

pub step_digit : (place next : Scanned) (c : ℕ) (rest : List ℕ) → digit_value c < 16 → behind_digit place ≡ Some next
    → reached place (c ∷ rest) ≡ reached next rest
unfolding walked behind
step_digit place next c rest digit is_next =
    ap (option_and_then (λ q. reached q rest)) (cond-true _ _ _ (lt-ltb _ _ digit) ∙ is_next)

pub step_colon : (place next : Scanned) (rest : List ℕ) → behind_colon place ≡ Some next → reached place (58 ∷ rest) ≡ reached next rest
unfolding walked behind
step_colon place next rest is_next = ap (option_and_then (λ q. reached q rest)) is_next

pub colon_in_group : (left digits : ℕ) (short : Bool) (rest : List ℕ) → 0 < left
    → reached (Group left digits short) (58 ∷ rest) ≡ reached (Between (left - 1) short) rest
unfolding behind_colon
colon_in_group left digits short rest some =
    step_colon (Group left digits short) (Between (left - 1) short) rest (cond-true _ _ _ (lt-ltb 0 left some))

-- ---- each address is reached

-- groups with a colon before each
abbrev pub more_texts : List (List ℕ) → List ℕ
more_texts [] = []
more_texts (t ∷ ts) = 58 ∷ (t ++ more_texts ts)

pub joined_more : (t : List ℕ) (ts : List (List ℕ)) → join_with_byte 58 (t ∷ ts) ≡ t ++ more_texts ts
joined_more t [] = sym (append-nil t)
joined_more t (u ∷ us) = ap (λ r. t ++ (58 ∷ r)) (joined_more u us)

digits_reach : (left digits : ℕ) (short : Bool) (text rest : List ℕ) → AllDigits 16 text → digits + length text ≤ 4
    → reached (Group left digits short) (text ++ rest) ≡ reached (Group left (digits + length text) short) rest
unfolding behind_digit
digits_reach left digits short [] rest h few =
    let sum : digits ≡ digits + 0 = omega arith in
    ap (λ n. reached (Group left n short) rest) sum
digits_reach left digits short (c ∷ cs) rest h few =
    let sum : digits + 1 + length cs ≡ digits + suc (length cs) = omega arith in
    step_digit (Group left digits short) (Group left (digits + 1) short) c (cs ++ rest) h.0
    (cond-true _ _ _ (lt-ltb digits 4 (omega arith)))
    ∙ digits_reach left (digits + 1) short cs rest h.1 (omega arith)
    ∙ ap (λ n. reached (Group left n short) rest) sum

group_reach : (place : Scanned) (left : ℕ) (short : Bool) (text : List ℕ) (g : ℕ) (rest : List ℕ) → IsGroupText text g
    → behind_digit place ≡ Some (Group left 1 short) → reached place (text ++ rest) ≡ reached (Group left (length text) short) rest
group_reach place left short [] g rest h next = absurd (omega (arith, h.0))
group_reach place left short (c ∷ cs) g rest h next =
    let sum : 1 + length cs ≡ suc (length cs) = omega arith in
    step_digit place (Group left 1 short) c (cs ++ rest) h.2.0 next
    ∙ digits_reach left 1 short cs rest h.2.1 (omega (arith, h.1))
    ∙ ap (λ n. reached (Group left n short) rest) sum

more_reach : (left digits : ℕ) (short : Bool) (texts : List (List ℕ)) (groups : List ℕ) (k : ℕ) (rest : List ℕ)
    → AllZip IsGroupText texts groups → left ≡ length groups + k
    → (d : ℕ) × (reached (Group left digits short) (more_texts texts ++ rest) ≡ reached (Group k d short) rest)
unfolding behind_digit
more_reach left digits short [] [] k rest h sum =
    let same : left ≡ k = omega arith in
    (digits, ap (λ n. reached (Group n digits short) rest) same)
more_reach left digits short [] (g ∷ gs) k rest h sum = absurd h
more_reach left digits short (t ∷ ts) [] k rest h sum = absurd h
more_reach left digits short (t ∷ ts) (g ∷ gs) k rest h sum =
    let behind = more_reach (left - 1) (length t) short ts gs k rest h.1 (omega arith) in (
      behind.0,
      colon_in_group left digits short ((t ++ more_texts ts) ++ rest) (omega arith)
          ∙ ap (reached (Between (left - 1) short)) (append_assoc t (more_texts ts) rest)
          ∙ group_reach (Between (left - 1) short) (left - 1) short t g (more_texts ts ++ rest) h.0 refl
          ∙ behind.1,
    )

-- what is after the last group
more_reach_all : (left digits : ℕ) (short : Bool) (texts : List (List ℕ)) (groups : List ℕ) → AllZip IsGroupText texts groups
    → length groups ≤ left → (p : Scanned) × (reached (Group left digits short) (more_texts texts) ≡ Some p)
unfolding walked
more_reach_all left digits short texts groups h few =
    let k = left - length groups in
    let behind = more_reach left digits short texts groups k [] h (omega arith) in
    (Group k behind.0 short, ap (reached (Group left digits short)) (sym (append-nil (more_texts texts))) ∙ behind.1)

gap_reach : (left : ℕ) (texts : List (List ℕ)) (groups : List ℕ) → AllZip IsGroupText texts groups → length groups ≤ left
    → (p : Scanned) × (reached (Gap left) (join_with_byte 58 texts) ≡ Some p)
unfolding walked behind_digit
gap_reach left [] groups h few = (Gap left, refl)
gap_reach left (t ∷ ts) [] h few = absurd h
gap_reach left (t ∷ ts) (g ∷ gs) h few =
    let behind = more_reach_all (left - 1) (length t) true ts gs h.1 (omega arith) in (
      behind.0,
      ap (reached (Gap left)) (joined_more t ts)
          ∙ group_reach (Gap left) (left - 1) true t g (more_texts ts) h.0 (cond-true _ _ _ (lt-ltb 0 left (omega arith)))
          ∙ behind.1,
    )

gap_text_reach : (left : ℕ) (text groups : List ℕ) → IsGroupsText text groups → length groups ≤ left
    → (p : Scanned) × (reached (Gap left) text ≡ Some p)
gap_text_reach left text groups h few =
    let behind = gap_reach left h.texts groups h.each few in
    (behind.0, ap (reached (Gap left)) h.joined ∙ behind.1)

full_reach : (texts : List (List ℕ)) (groups : List ℕ) → AllZip IsGroupText texts groups → length groups ≡ 8
    → (p : Scanned) × (reached Start (join_with_byte 58 texts) ≡ Some p)
unfolding behind_digit
full_reach [] [] h eight = absurd (omega arith)
full_reach [] (g ∷ gs) h eight = absurd h
full_reach (t ∷ ts) [] h eight = absurd h
full_reach (t ∷ ts) (g ∷ gs) h eight =
    let behind = more_reach_all 7 (length t) false ts gs h.1 (omega arith) in (
      behind.0,
      ap (reached Start) (joined_more t ts) ∙ group_reach Start 7 false t g (more_texts ts) h.0 refl ∙ behind.1,
    )

short_reach : (texts : List (List ℕ)) (groups right_text right : List ℕ) → AllZip IsGroupText texts groups → IsGroupsText right_text right
    → length groups + length right ≤ 7
    → (p : Scanned) × (reached Start (join_with_byte 58 texts ++ (58 ∷ 58 ∷ right_text)) ≡ Some p)
unfolding behind_digit behind_colon
short_reach [] groups right_text right h written few =
    let behind = gap_text_reach 7 right_text right written (omega arith) in
    (behind.0, step_colon Start Colon (58 ∷ right_text) refl ∙ step_colon Colon (Gap 7) right_text refl ∙ behind.1)
short_reach (t ∷ ts) [] right_text right h written few = absurd h
short_reach (t ∷ ts) (g ∷ gs) right_text right h written few =
    let k = 7 - length gs in
    let more = more_reach 7 (length t) false ts gs k (58 ∷ 58 ∷ right_text) h.1 (omega arith) in
    let behind = gap_text_reach (k - 1) right_text right written (omega arith) in (
      behind.0,
      ap (λ r. reached Start (r ++ (58 ∷ 58 ∷ right_text))) (joined_more t ts)
          ∙ ap (reached Start) (append_assoc t (more_texts ts) (58 ∷ 58 ∷ right_text))
          ∙ group_reach Start 7 false t g (more_texts ts ++ (58 ∷ 58 ∷ right_text)) h.0 refl
          ∙ more.1
          ∙ colon_in_group k more.0 false (58 ∷ right_text) (omega arith)
          ∙ step_colon (Between (k - 1) false) (Gap (k - 1)) right_text refl
          ∙ behind.1,
    )

-- the text of an address is reached
pub address_reached : (text : List ℕ) (a : ℕ) → IsAddressText text a → (p : Scanned) × (reached Start text ≡ Some p)
address_reached text a (inl h) =
    let behind = full_reach h.written.texts h.groups h.written.each h.eight in
    (behind.0, ap (reached Start) h.written.joined ∙ behind.1)
address_reached text a (inr h) =
    let behind = short_reach h.left_written.texts h.left h.right_text h.right h.left_written.each h.right_written h.some_zeros in
    (behind.0, ap (reached Start) (h.parts ∙ ap (λ t. t ++ (58 ∷ 58 ∷ h.right_text)) h.left_written.joined) ∙ behind.1)
