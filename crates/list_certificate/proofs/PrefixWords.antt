-- The text of a prefix is a word, and more than one byte.
use Rattle.std.proofs.Common.{◌≡◌, ℕ, suc, ◌<◌, ◌≤◌, inl, inr, Bool, true, false, not, List, [], ◌∷◌, ◌++◌, refl, sym, ◌∙◌, ap, subst, arith, append_assoc, Some, get_or, length, length-append}
use Rattle.std.specs.Char.{digit_value}
use Rattle.std.specs.List.{join_with_byte, AllZip, list_all}
use Rattle.std.specs.Str.Parse.{AllDigits}
use Rattle.std.proofs.lemmas.Bool.{agree_below_at, not-true}
use Rattle.std.proofs.lemmas.List.Elements.{All-nil, All-cons, All-append}
use Rattle.std.proofs.lemmas.List.Sums.{AllPass-from_list_all}
use Rattle.v6_addr.specs.Address.{PrefixValue}
use Rattle.v6_addr.specs.AddressTerms.{IsPrefix}
use Rattle.v6_addr.specs.Text.{length_text, prefix_of_text, prefix_text}
use Rattle.v6_addr.specs.AddressGrammar.{IsGroupText, IsGroupsText, IsAddressText, IsPrefixText}
use Rattle.v6_addr.proofs.PublicLaws.{prefix_text_is}
use Rattle.v6_addr.proofs.RoundTrip.{prefix_read_back}
use Rattle.list_certificate.proofs.Marks.{is_mark, IsWord, no_mark}

digit_plain : (c : ℕ) → digit_value c < 16 → is_mark c ≡ false
digit_plain c digit = no_mark c (other 10 (λ h. absurd (omega (arith, h)))) (other 32 (λ h. absurd (omega (arith, h))))
    (other 64 (λ h. absurd (omega (arith, h))))
  where
    other : (mark : ℕ) → (digit_value mark < 16 → ⊥) → c ≡ mark → ⊥
    other mark absent e = absent (subst (λ (n : ℕ). digit_value n < 16) e digit)

digits_word : (text : List ℕ) → AllDigits 16 text → IsWord text
digits_word [] h = All-nil (λ b. is_mark b ≡ false)
digits_word (c ∷ cs) h = All-cons (λ b. is_mark b ≡ false) c cs (digit_plain c h.0) (digits_word cs h.1)

joined_word : (texts : List (List ℕ)) (groups : List ℕ) → AllZip IsGroupText texts groups → IsWord (join_with_byte 58 texts)
joined_word [] groups h = All-nil (λ b. is_mark b ≡ false)
joined_word (t ∷ ts) [] h = absurd h
joined_word (t ∷ []) (g ∷ gs) h = digits_word t h.0.2
joined_word (t ∷ u ∷ us) (g ∷ gs) h =
    let P : ℕ → Type 0 = λ b. is_mark b ≡ false in
    All-append P t (58 ∷ join_with_byte 58 (u ∷ us)) (digits_word t h.0.2)
    (All-cons P 58 (join_with_byte 58 (u ∷ us)) refl (joined_word (u ∷ us) gs h.1))

groups_word : (text groups : List ℕ) → IsGroupsText text groups → IsWord text
groups_word text groups h = subst IsWord (sym h.joined) (joined_word h.texts groups h.each)

address_word : (text : List ℕ) (a : ℕ) → IsAddressText text a → IsWord text
address_word text a (inl full) = groups_word text full.groups full.written
address_word text a (inr h) =
    let P : ℕ → Type 0 = λ b. is_mark b ≡ false in
    subst IsWord (sym h.parts)
    (All-append P h.left_text (58 ∷ 58 ∷ h.right_text) (groups_word h.left_text h.left h.left_written)
    (All-cons P 58 (58 ∷ h.right_text) refl (All-cons P 58 h.right_text refl (groups_word h.right_text h.right h.right_written))))

abbrev is_plain_text : List ℕ → Bool
is_plain_text text = list_all (λ b. not (is_mark b)) text

length_plain : (n : ℕ) → n ≤ 128 → is_plain_text (length_text n) ≡ true
unfolding length_text
length_plain n short = agree_below_at (λ m. is_plain_text (length_text m)) (λ m. true) 129 n refl (omega (arith, short))

plain_word : (text : List ℕ) → is_plain_text text ≡ true → IsWord text
plain_word text h =
    let all = AllPass-from_list_all (λ b. not (is_mark b)) text h in
    λ k d within. not-true (is_mark (get_or text k d)) (all k d within)

text_word : (text : List ℕ) (p : PrefixValue) → IsPrefixText text p → IsWord text
text_word text p h =
    let P : ℕ → Type 0 = λ b. is_mark b ≡ false in
    subst IsWord (sym h.parts)
    (All-append P h.address_part (47 ∷ length_text p.len) (address_word h.address_part p.value h.address)
    (All-cons P 47 (length_text p.len) refl (plain_word (length_text p.len) (length_plain p.len h.is_prefix.0))))

prefix_grammar : (p : PrefixValue) → IsPrefix p → IsPrefixText (prefix_text p) p
prefix_grammar p is = (prefix_text_is (prefix_text p) p).0 (prefix_read_back p is)

pub prefix_word : (p : PrefixValue) → IsPrefix p → IsWord (prefix_text p)
prefix_word p is = text_word (prefix_text p) p (prefix_grammar p is)

pub prefix_read : (p : PrefixValue) → IsPrefix p → prefix_of_text (prefix_text p) ≡ Some p
prefix_read p is = prefix_read_back p is

-- a text with a slash is not the start's dash
no_dash : (xs ys : List ℕ) → xs ++ 47 ∷ ys ≡ 45 ∷ [] → ⊥
no_dash [] ys e =
    let first : ◌≡◌ {A = ℕ} 47 45 = ap (λ (zs : List ℕ). get_or zs 0 0) e in
    absurd (omega (arith, first))
no_dash (x ∷ xs) ys e =
    let size : suc (length (xs ++ 47 ∷ ys)) ≡ 1 = ap length e in
    absurd (omega (arith, size, length-append xs (47 ∷ ys)))

pub prefix_no_dash : (p : PrefixValue) (rest : List ℕ) → IsPrefix p → prefix_text p ++ rest ≡ 45 ∷ [] → ⊥
prefix_no_dash p rest is e =
    let h = prefix_grammar p is in
    no_dash h.address_part (length_text p.len ++ rest)
    (sym (append_assoc h.address_part (47 ∷ length_text p.len) rest) ∙ ap (λ (xs : List ℕ). xs ++ rest) (sym h.parts) ∙ e)
