-- the texts of IPv4 addresses, whole: what a reader finds, and that what is written is read back
use Rattle.std.proofs.Common.{◌≡◌, ℕ, ◌%◌, ◌^◌, ◌<◌, ◌≤◌, inl, inr, List, [], ◌∷◌, ◌++◌, length, take, Some, None, sym, ◌∙◌, ap, subst, refl, arith, append_assoc, length-append}
use Rattle.std.proofs.lemmas.Bool.{cases_lt}
use Rattle.std.proofs.lemmas.List.{take_all, append-nil}
use Rattle.v6_addr.specs.declared.scan4.Place4.{Place4}
use Rattle.v6_addr.specs.Address.{field_of}
use Rattle.v6_addr.specs.AddressFaults.{Begins, IsLongestBeginning}
use Rattle.v6_addr.specs.Scan.{walked}
use Rattle.v6_addr.specs.Scan4.{start4, behind4, address_at}
use Rattle.v6_addr.specs.Text.{length_text}
use Rattle.v6_addr.specs.Text4.{dotted_text, address4_text}
use Rattle.v6_addr.specs.Text4Terms.{IsAddress4Text}
use Rattle.v6_addr.proofs.Places4.{ended4, no_address4}
use Rattle.v6_addr.proofs.PrefixGrammar.{length_text_1, length_text_2, length_text_3}

-- ---- reading

walk_of_all : (text : List ℕ) (at : ℕ) (place : Place4) → length text ≤ at → walked behind4 start4 (take at text) ≡ Some place
    → walked behind4 start4 text ≡ Some place
walk_of_all text at place end here = ap (walked behind4 start4) (sym (take_all at text end)) ∙ here

pub read_address4 : (text : List ℕ) (at : ℕ) (place : Place4) (a : ℕ) → length text ≤ at
    → walked behind4 start4 (take at text) ≡ Some place → Some a ≡ address_at place place.number → IsAddress4Text text a
read_address4 text at place a end here ends = ended4 text place place.number a refl (walk_of_all text at place end here) (sym ends)

pub refused_end4 : (text : List ℕ) (at : ℕ) (place : Place4) → length text ≤ at
    → walked behind4 start4 (take at text) ≡ Some place → None ≡ address_at place place.number → (a : ℕ) → IsAddress4Text text a → ⊥
refused_end4 text at place end here none a accepted = no_address4 text place a (walk_of_all text at place end here) none accepted

pub refused_early4 : (text : List ℕ) (at : ℕ) → IsLongestBeginning (Begins IsAddress4Text) text at → at < length text
    → (a : ℕ) → IsAddress4Text text a → ⊥
refused_early4 text at longest early a accepted =
    let P : List ℕ → Type 0 = λ t. IsAddress4Text t a in
    let whole = append-nil (take (length text) text) ∙ take_all (length text) text (omega arith) in
    longest.longest (length text) early (omega arith) (record { rest = []; value = a; accepted = subst P (sym whole) accepted })

-- ---- writing

pub written4 : (address a b c d : ℕ) (out0 out1 out2 out3 out4 out5 out6 out7 : List ℕ) → a ≡ field_of address 0 8
    → b ≡ field_of address 8 8 → c ≡ field_of address 16 8 → d ≡ field_of address 24 8
    → out0 ≡ [] → out1 ≡ out0 ++ length_text a → out2 ≡ out1 ++ (46 ∷ []) → out3 ≡ out2 ++ length_text b → out4 ≡ out3 ++ (46 ∷ [])
    → out5 ≡ out4 ++ length_text c → out6 ≡ out5 ++ (46 ∷ []) → out7 ≡ out6 ++ length_text d → out7 ≡ address4_text address
unfolding address4_text dotted_text
written4 address a b c d out0 out1 out2 out3 out4 out5 out6 out7 is_a is_b is_c is_d e0 e1 e2 e3 e4 e5 e6 e7 =
    e7 ∙ ap (λ t. t ++ length_text d) (e6 ∙ ap (λ t. t ++ (46 ∷ [])) (e5 ∙ ap (λ t. t ++ length_text c) (e4
    ∙ ap (λ t. t ++ (46 ∷ [])) (e3 ∙ ap (λ t. t ++ length_text b) (e2 ∙ ap (λ t. t ++ (46 ∷ [])) (e1 ∙ ap (λ t. t ++ length_text a) e0))))))
    ∙ joined (length_text a) (length_text b) (length_text c) (length_text d)
    ∙ ap (λ n. length_text n ++ (46 ∷ (length_text b ++ (46 ∷ (length_text c ++ (46 ∷ length_text d)))))) is_a
    ∙ ap (λ n. length_text (field_of address 0 8) ++ (46 ∷ (length_text n ++ (46 ∷ (length_text c ++ (46 ∷ length_text d)))))) is_b
    ∙ ap (λ n. length_text (field_of address 0 8) ++ (46 ∷ (length_text (field_of address 8 8) ++ (46 ∷ (length_text n
    ++ (46 ∷ length_text d)))))) is_c
    ∙ ap (λ n. length_text (field_of address 0 8) ++ (46 ∷ (length_text (field_of address 8 8) ++ (46 ∷ (length_text (field_of address 16 8)
    ++ (46 ∷ length_text n)))))) is_d
  where
    joined : (a b c d : List ℕ) → ((((((([] ++ a) ++ (46 ∷ [])) ++ b) ++ (46 ∷ [])) ++ c) ++ (46 ∷ [])) ++ d)
        ≡ a ++ (46 ∷ (b ++ (46 ∷ (c ++ (46 ∷ d)))))
    joined a b c d = simp append_assoc refl

pub address4_read_back : (a : ℕ) → a < 2 ^ 128 → a % 2 ^ 96 ≡ 0 → IsAddress4Text (address4_text a) a
unfolding address4_text field_of
address4_read_back a below low = record {
  first = field_of a 0 8;
  second = field_of a 8 8;
  third = field_of a 16 8;
  fourth = field_of a 24 8;
  small = (omega arith, omega arith, omega arith, omega arith);
  written = refl;
  value = omega arith;
}

short_number : (n : ℕ) → length (length_text n) ≤ 3
short_number n =
    let P : List ℕ → Type 0 = λ t. length t ≤ 3 in
    elim (cases_lt n 10) [
      | inl one ↦ subst P (sym (length_text_1 n one)) (omega arith)
      | inr more ↦ elim (cases_lt n 100) [
        | inl two ↦ subst P (sym (length_text_2 n more two)) (omega arith)
        | inr three ↦ subst P (sym (length_text_3 n three)) (omega arith)
      ]
    ]

pub address4_text_length : (a : ℕ) → length (address4_text a) ≤ 15
unfolding address4_text dotted_text
address4_text_length a =
    let w = length_text (field_of a 0 8) in
    let x = length_text (field_of a 8 8) in
    let y = length_text (field_of a 16 8) in
    let z = length_text (field_of a 24 8) in
    omega (
      arith,
      short_number (field_of a 0 8),
      short_number (field_of a 8 8),
      short_number (field_of a 16 8),
      short_number (field_of a 24 8),
      length-append w (46 ∷ (x ++ (46 ∷ (y ++ (46 ∷ z))))),
      length-append x (46 ∷ (y ++ (46 ∷ z))),
      length-append y (46 ∷ z),
    )
