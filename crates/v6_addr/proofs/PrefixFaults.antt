-- the place of the fault of a text that is no prefix, for addresses of one kind
use Rattle.std.proofs.Common.{◌≡◌, ℕ, suc, ◌+◌, ◌-◌, ◌%◌, ◌^◌, ◌<◌, ◌≤◌, inl, inr, false, eqb, List, [], ◌∷◌, ◌++◌, length, take, drop, get_or, sym, ◌∙◌, ap, subst, refl, arith, append_assoc, length-append, length-drop, drop-cons}
use Rattle.std.specs.List.{All}
use Rattle.std.proofs.lemmas.Bool.{cases_lt, cases_order, eq-eqb, true≢false}
use Rattle.std.proofs.lemmas.List.{take-append-drop, take-take, take-append-le, take_all, append-nil, length-take-le}
use Rattle.std.proofs.lemmas.List.Elements.{All-get_or}
use Rattle.std.proofs.Math.Seq.{take-append_seam, drop-append_seam, get_or-append_seam}
use Rattle.v6_addr.specs.Address.{PrefixValue}
use Rattle.v6_addr.specs.Text.{length_text}
use Rattle.v6_addr.specs.AddressFaults.{Begins, IsLongestBeginning, HasSetBits, IsPrefixFault}
use Rattle.v6_addr.specs.LengthsTerms.{IsLengthOf}
use Rattle.v6_addr.proofs.AddressWalks.{take_past}

-- what is known of the texts of addresses of one kind
pub record Texts (IsText : List ℕ → ℕ → Type 0) (limit : ℕ) : Type 0 where
  pub no_slash : (text : List ℕ) (a : ℕ) → IsText text a → All (λ c. eqb c 47 ≡ false) text
  pub one : (text : List ℕ) (a b : ℕ) → IsText text a → IsText text b → a ≡ b
  pub fits : (text : List ℕ) (a : ℕ) → IsText text a → a % 2 ^ (128 - limit) ≡ 0

-- a prefix's text over such addresses
pub record PrefixTextOf (IsText : List ℕ → ℕ → Type 0) (limit : ℕ) (text : List ℕ) (p : PrefixValue) : Type 0 where
  pub address_part : List ℕ
  pub parts : text ≡ address_part ++ (47 ∷ length_text p.len)
  pub address : IsText address_part p.value
  pub short : p.len ≤ limit
  pub clear : p.value % 2 ^ (128 - p.len) ≡ 0

-- ---- lists

-- of two beginnings of one list the shorter begins the longer
front_of : (xs ys r z : List ℕ) → xs ++ r ≡ ys ++ z → length xs ≤ length ys → xs ≡ take (length xs) ys
front_of xs ys r z e shorter =
    sym (take-append_seam xs r) ∙ ap (take (length xs)) e ∙ take-append-le (length xs) ys z shorter

behind_front : (ys a b : List ℕ) → ys ++ a ≡ ys ++ b → a ≡ b
behind_front ys a b e = sym (drop-append_seam ys a) ∙ ap (drop (length ys)) e ∙ drop-append_seam ys b

-- ---- the slash

slash_in : (IsText : List ℕ → ℕ → Type 0) (limit : ℕ) → Texts IsText limit → (front back : List ℕ)
    → Begins IsText (front ++ (47 ∷ back)) → ⊥
slash_in IsText limit texts front back b =
    let P : List ℕ → Type 0 = All (λ c. eqb c 47 ≡ false) in
    let none = subst P (append_assoc front (47 ∷ back) b.rest) (texts.no_slash _ b.value b.accepted) in
    let inside : length front < length (front ++ (47 ∷ (back ++ b.rest))) = omega (arith, length-append front (47 ∷ (back ++ b.rest))) in
    let here = All-get_or (λ c. eqb c 47 ≡ false) (front ++ (47 ∷ (back ++ b.rest))) (length front) 0 inside none in
    true≢false (sym (eq-eqb _ 47 (get_or-append_seam front 47 (back ++ b.rest) 0)) ∙ here)

-- where a longer beginning of the text than the address's is that of an address and a slash
record SlashAt (text : List ℕ) (at k : ℕ) (front back rest : List ℕ) : Type 0 where
  is_front : front ≡ take at text
  inside : at < length text
  slash : get_or text at 0 ≡ 47
  is_back : back ≡ take (k - at - 1) (drop (suc at) text) ++ rest

-- the slash stands after the first part
slash_behind : (text front back rest : List ℕ) (k : ℕ) → k ≤ length text → length front < k
    → take k text ++ rest ≡ front ++ (47 ∷ back) → SlashAt text (length front) k front back rest
slash_behind text front back rest k fits longer e =
    let m = length front in
    let count = length-take-le k text fits in
    let is_front : front ≡ take m text =
    front_of front (take k text) (47 ∷ back) rest (sym e) (omega (arith, count)) ∙ take-take m k text (omega arith) in
    let more = take (k - m - 1) (drop (suc m) text) in
    let whole : take k text ++ rest ≡ front ++ (get_or text m 0 ∷ (more ++ rest)) =
    ap (λ t. t ++ rest) (take_past text m k longer (omega arith) ∙ ap (λ t. t ++ (get_or text m 0 ∷ more)) (sym is_front))
    ∙ append_assoc front (get_or text m 0 ∷ more) rest in
    let same = behind_front front (47 ∷ back) (get_or text m 0 ∷ (more ++ rest)) (sym e ∙ whole) in
    record {
      is_front = is_front;
      inside = omega arith;
      slash = sym (ap (λ t. get_or t 0 0) same);
      is_back = ap (drop 1) same;
    }

slash_at : (IsText : List ℕ → ℕ → Type 0) (limit : ℕ) → Texts IsText limit → (text : List ℕ) (at k : ℕ)
    → IsLongestBeginning (Begins IsText) text at → at < k → k ≤ length text → (front back rest : List ℕ) (a : ℕ)
    → take k text ++ rest ≡ front ++ (47 ∷ back) → IsText front a → SlashAt text at k front back rest
slash_at IsText limit texts text at k longest above fits front back rest a e accepted =
    elim (cases_lt (length front) k) [
      | inl longer ↦ by_place (slash_behind text front back rest k fits longer e)
      | inr shorter ↦ absurd (longest.longest k above fits (inside_address shorter))
    ]
  where
    inside_address : k ≤ length front → Begins IsText (take k text)
    inside_address shorter =
        let count = length-take-le k text fits in
        let n = length (take k text) in
        let begun = front_of (take k text) front rest (47 ∷ back) e (omega (arith, count)) in
        let P : List ℕ → Type 0 = λ t. IsText t a in
        record {
          rest = drop n front;
          value = a;
          accepted = subst P (sym (ap (λ t. t ++ drop n front) begun ∙ take-append-drop n front)) accepted;
        }

    by_place : SlashAt text (length front) k front back rest → SlashAt text at k front back rest
    by_place s =
        let m = length front in
        let P : List ℕ → Type 0 = λ t. IsText t a in
        let Q : ℕ → Type 0 = λ n. SlashAt text n k front back rest in
        elim (cases_order m at) [
          | inl same ↦ subst Q same s
          | inr other ↦ elim other [
            | inl before ↦
                let parts : take at text ≡ take m text ++ (47 ∷ take (at - m - 1) (drop (suc m) text)) =
                take_past text m at before s.inside
                ∙ ap (λ c. take m text ++ (c ∷ take (at - m - 1) (drop (suc m) text))) s.slash in
                absurd (slash_in IsText limit texts (take m text) _ (subst (Begins IsText) parts longest.begins))
            | inr behind ↦
                absurd (longest.longest m behind (omega (arith, s.inside))
                (record { rest = []; value = a; accepted = subst P (s.is_front ∙ sym (append-nil (take m text))) accepted }))
          ]
        ]

-- the same for a whole text
slash_of_whole : (IsText : List ℕ → ℕ → Type 0) (limit : ℕ) → Texts IsText limit → (text : List ℕ) (at : ℕ)
    → IsLongestBeginning (Begins IsText) text at → (front back : List ℕ) (a : ℕ) → text ≡ front ++ (47 ∷ back) → IsText front a
    → SlashAt text at (length text) front back []
slash_of_whole IsText limit texts text at longest front back a parts accepted =
    let whole = take_all (length text) text (omega arith) in
    elim (cases_lt at (length text)) [
      | inl inside ↦ slash_at IsText limit texts text at (length text) longest inside (omega arith) front back [] a
          (append-nil (take (length text) text) ∙ whole ∙ parts) accepted
      | inr past ↦
          absurd (slash_in IsText limit texts front back (subst (Begins IsText) (take_all at text past ∙ parts) longest.begins))
    ]

slash_of_text : (IsText : List ℕ → ℕ → Type 0) (limit : ℕ) → Texts IsText limit → (text : List ℕ) (at : ℕ)
    → IsLongestBeginning (Begins IsText) text at → (h : HasSetBits IsText limit text)
    → SlashAt text at (length text) h.address_part (length_text h.len) []
slash_of_text IsText limit texts text at longest h =
    slash_of_whole IsText limit texts text at longest h.address_part (length_text h.len) h.address h.parts h.accepted

-- what stands after the slash of a whole text
back_of_whole : (text : List ℕ) (at : ℕ) (front back : List ℕ) → SlashAt text at (length text) front back []
    → drop (suc at) text ≡ back
back_of_whole text at front back s =
    sym (s.is_back ∙ append-nil (take (length text - at - 1) (drop (suc at) text))
    ∙ take_all (length text - at - 1) (drop (suc at) text) (omega (arith, length-drop (suc at) text)))

-- ---- a fault before the length

begins_prefix : (IsText : List ℕ → ℕ → Type 0) (limit : ℕ) → Texts IsText limit → (text : List ℕ) → Begins IsText text
    → Begins (PrefixTextOf IsText limit) text
begins_prefix IsText limit texts text b = record {
  rest = b.rest ++ (47 ∷ length_text limit);
  value = record { value = b.value; len = limit };
  accepted = record {
    address_part = text ++ b.rest;
    parts = sym (append_assoc text b.rest (47 ∷ length_text limit));
    address = b.accepted;
    short = omega arith;
    clear = texts.fits (text ++ b.rest) b.value b.accepted;
  };
}

-- no slash stands there after an address
pub fault_in_address : (IsText : List ℕ → ℕ → Type 0) (limit : ℕ) → Texts IsText limit → (text : List ℕ) (at : ℕ)
    → IsLongestBeginning (Begins IsText) text at
    → ((a : ℕ) → at < length text → get_or text at 0 ≡ 47 → IsText (take at text) a → ⊥)
    → IsPrefixFault IsText limit (PrefixTextOf IsText limit) text at
fault_in_address IsText limit texts text at longest none =
    inr (
      (λ h.
          let s = slash_of_text IsText limit texts text at longest h in
          let P : List ℕ → Type 0 = λ t. IsText t h.address in
          none h.address s.inside s.slash (subst P s.is_front h.accepted)),
      record {
        within = longest.within;
        begins = begins_prefix IsText limit texts (take at text) longest.begins;
        longest = λ k above fits b.
            let h = b.accepted in
            let s = slash_at IsText limit texts text at k longest above fits h.address_part (length_text b.value.len) b.rest b.value.value
            h.parts h.address in
            let P : List ℕ → Type 0 = λ t. IsText t b.value.value in
            none b.value.value s.inside s.slash (subst P s.is_front h.address);
      },
    )

-- ---- a set bit

pub text_round_slash : (text : List ℕ) (at : ℕ) → at < length text → get_or text at 0 ≡ 47
    → text ≡ take at text ++ (47 ∷ drop (suc at) text)
text_round_slash text at inside slash =
    sym (take-append-drop at text) ∙ ap (λ t. take at text ++ t) (drop-cons text at 0 inside)
    ∙ ap (λ c. take at text ++ (c ∷ drop (suc at) text)) slash

pub fault_of_bits : (IsText : List ℕ → ℕ → Type 0) (limit : ℕ) (text : List ℕ) (at value len : ℕ)
    → at < length text → get_or text at 0 ≡ 47 → IsText (take at text) value → drop (suc at) text ≡ length_text len → len ≤ limit
    → ((p : PrefixValue) → PrefixTextOf IsText limit text p → ⊥)
    → IsPrefixFault IsText limit (PrefixTextOf IsText limit) text (length text)
fault_of_bits IsText limit text at value len inside slash accepted digits short no_prefix =
    let parts : text ≡ take at text ++ (47 ∷ length_text len) =
    text_round_slash text at inside slash ∙ ap (λ t. take at text ++ (47 ∷ t)) digits in
    inl (
      record {
        address_part = take at text;
        address = value;
        len = len;
        parts = parts;
        accepted = accepted;
        short = short;
        set = λ clear. no_prefix (record { value = value; len = len })
            (record { address_part = take at text; parts = parts; address = accepted; short = short; clear = clear });
      },
      refl,
    )

-- ---- a fault in the length

begins_in_length : (IsText : List ℕ → ℕ → Type 0) (limit : ℕ) (text : List ℕ) (at value j : ℕ)
    → at < length text → get_or text at 0 ≡ 47 → IsText (take at text) value
    → Begins (IsLengthOf limit value) (take j (drop (suc at) text))
    → Begins (PrefixTextOf IsText limit) (take (at + 1 + j) text)
begins_in_length IsText limit text at value j inside slash accepted b =
    let digits = drop (suc at) text in
    let count : at + 1 + j - at - 1 ≡ j = omega arith in
    let front : take (at + 1 + j) text ≡ take at text ++ (47 ∷ take j digits) =
    take_past text at (at + 1 + j) (omega arith) inside ∙ ap (λ c. take at text ++ (c ∷ take (at + 1 + j - at - 1) digits)) slash
    ∙ ap (λ n. take at text ++ (47 ∷ take n digits)) count in
    record {
      rest = b.rest;
      value = record { value = value; len = b.value };
      accepted = record {
        address_part = take at text;
        parts = ap (λ t. t ++ b.rest) front ∙ append_assoc (take at text) (47 ∷ take j digits) b.rest
            ∙ ap (λ t. take at text ++ (47 ∷ t)) b.accepted.digits;
        address = accepted;
        short = b.accepted.short;
        clear = b.accepted.clear;
      };
    }

pub fault_in_length : (IsText : List ℕ → ℕ → Type 0) (limit : ℕ) → Texts IsText limit → (text : List ℕ) (at value j : ℕ)
    → IsLongestBeginning (Begins IsText) text at
    → at < length text → get_or text at 0 ≡ 47 → IsText (take at text) value
    → ((len : ℕ) → len ≤ limit → drop (suc at) text ≡ length_text len → ⊥)
    → IsLongestBeginning (Begins (IsLengthOf limit value)) (drop (suc at) text) j
    → IsPrefixFault IsText limit (PrefixTextOf IsText limit) text (at + 1 + j)
fault_in_length IsText limit texts text at value j longest inside slash accepted no_length far =
    inr (
      (λ h.
          let s = slash_of_text IsText limit texts text at longest h in
          no_length h.len h.short (sym (s.is_back ∙ append-nil (take (length text - at - 1) (drop (suc at) text))
          ∙ take_all (length text - at - 1) (drop (suc at) text) (omega (arith, length-drop (suc at) text))))),
      record {
        within = omega (arith, far.within, length-drop (suc at) text);
        begins = begins_in_length IsText limit text at value j inside slash accepted far.begins;
        longest = λ k above fits b.
            let h = b.accepted in
            let s = slash_at IsText limit texts text at k longest (omega arith) fits h.address_part (length_text b.value.len) b.rest
            b.value.value h.parts h.address in
            let P : List ℕ → Type 0 = λ t. IsText t b.value.value in
            let same = texts.one (take at text) b.value.value value (subst P s.is_front h.address) accepted in
            let Q : ℕ → Type 0 = λ n. n % 2 ^ (128 - b.value.len) ≡ 0 in
            far.longest (k - at - 1) (omega arith) (omega (arith, length-drop (suc at) text)) (record {
              rest = b.rest;
              value = b.value.len;
              accepted = record { digits = sym s.is_back; short = h.short; clear = subst Q same h.clear };
            });
      },
    )

-- ---- no prefix

pub no_prefix_in_address : (IsText : List ℕ → ℕ → Type 0) (limit : ℕ) → Texts IsText limit → (text : List ℕ) (at : ℕ)
    → IsLongestBeginning (Begins IsText) text at
    → ((a : ℕ) → at < length text → get_or text at 0 ≡ 47 → IsText (take at text) a → ⊥)
    → (p : PrefixValue) → PrefixTextOf IsText limit text p → ⊥
no_prefix_in_address IsText limit texts text at longest none p h =
    let s = slash_of_whole IsText limit texts text at longest h.address_part (length_text p.len) p.value h.parts h.address in
    let P : List ℕ → Type 0 = λ t. IsText t p.value in
    none p.value s.inside s.slash (subst P s.is_front h.address)

pub no_prefix_in_length : (IsText : List ℕ → ℕ → Type 0) (limit : ℕ) → Texts IsText limit → (text : List ℕ) (at : ℕ)
    → IsLongestBeginning (Begins IsText) text at → ((len : ℕ) → len ≤ limit → drop (suc at) text ≡ length_text len → ⊥)
    → (p : PrefixValue) → PrefixTextOf IsText limit text p → ⊥
no_prefix_in_length IsText limit texts text at longest none p h =
    none p.len h.short (back_of_whole text at h.address_part (length_text p.len)
    (slash_of_whole IsText limit texts text at longest h.address_part (length_text p.len) p.value h.parts h.address))

pub no_prefix_of_bits : (IsText : List ℕ → ℕ → Type 0) (limit : ℕ) → Texts IsText limit → (text : List ℕ) (at value len : ℕ)
    → IsLongestBeginning (Begins IsText) text at → IsText (take at text) value → drop (suc at) text ≡ length_text len → len ≤ limit
    → (value % 2 ^ (128 - len) ≡ 0 → ⊥)
    → ((m n : ℕ) → m ≤ limit → n ≤ limit → length_text m ≡ length_text n → m ≡ n)
    → (p : PrefixValue) → PrefixTextOf IsText limit text p → ⊥
no_prefix_of_bits IsText limit texts text at value len longest accepted digits short set one_length p h =
    let s = slash_of_whole IsText limit texts text at longest h.address_part (length_text p.len) p.value h.parts h.address in
    let P : List ℕ → Type 0 = λ t. IsText t p.value in
    let same_value = texts.one (take at text) p.value value (subst P s.is_front h.address) accepted in
    let same_len = one_length p.len len h.short short
    (sym (back_of_whole text at h.address_part (length_text p.len) s) ∙ digits) in
    let Q : ℕ → Type 0 = λ v. v % 2 ^ (128 - p.len) ≡ 0 in
    let R : ℕ → Type 0 = λ n. value % 2 ^ (128 - n) ≡ 0 in
    set (subst R same_len (subst Q same_value h.clear))

-- ---- the same for another way to say it

pub fault_said : {V : Type 0} (IsText : List ℕ → ℕ → Type 0) (limit : ℕ) (P Q : List ℕ → V → Type 0) (text : List ℕ) (at : ℕ)
    → ((t : List ℕ) (p : V) → P t p → Q t p) → ((t : List ℕ) (p : V) → Q t p → P t p)
    → IsPrefixFault IsText limit P text at → IsPrefixFault IsText limit Q text at
fault_said IsText limit P Q text at to from (inl h) = inl h
fault_said IsText limit P Q text at to from (inr h) =
    inr (
      h.0,
      record {
        within = h.1.within;
        begins = (let b = h.1.begins in record { rest = b.rest; value = b.value; accepted = to _ _ b.accepted });
        longest = λ k above fits b.
            h.1.longest k above fits (record { rest = b.rest; value = b.value; accepted = from _ _ b.accepted });
      },
    )
