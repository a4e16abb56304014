-- A packet with bytes cut out of its payload, and with the first header of its chain taken out.
use Rattle.std.proofs.Common.{◌≡◌, ℕ, zero, suc, ◌+◌, ◌-◌, ◌≤◌, true, false, List, [], ◌∷◌, ◌++◌, length, take, drop, slice_index, slice_set, All, refl, sym, ap, subst, ◌∙◌, arith, length-drop, length-append}
use Rattle.std.proofs.lemmas.List.{drop-drop, drop_at, take-append-le, length-take-le}
use Rattle.std.proofs.lemmas.List.Elements.{All-nil, All-cons, All-head, All-tail}
use Rattle.srv6_rules.specs.declared.numbers.TheConstants.{NEXT_HEADER_AT}
use Rattle.srv6_rules.specs.Packet.{Packet, header_len}
use Rattle.srv6_rules.specs.Chain.{ChainPlace, Header, Chain, extension_bytes, is_whole, header_in, behind_in, behind, is_first, start_of, chain_of, from_place, cut_out, without}
use Rattle.srv6_rules.specs.ChainTerms.{LiesIn, Follow, place_of, place_behind, chain_at, lowered_to, lowered}
use Rattle.srv6_rules.proofs.Chains.{chain_at_by, chain_at_upper, chain_at_cut, chain_at_header, chain_at_lies, chain_at_follow, behind_header_in, follow_ascends}

-- ---- bytes that are cut out

module _ (a n : ℕ) (xs : List ℕ) (within : a + n ≤ length xs) where
  length_front : length (take a xs) ≡ a
  length_front = length-take-le a xs (omega arith)

  pub length_cut : length (cut_out a n xs) + n ≡ length xs
  length_cut =
      let front = length_front in
      let back = length-drop (a + n) xs in
      let whole = length-append (take a xs) (drop (a + n) xs) in
      omega arith

  -- what stands after them
  drop_cut : (k : ℕ) → a + n ≤ k → drop (k - n) (cut_out a n xs) ≡ drop k xs
  drop_cut k far =
      let j : ℕ = k - (a + n) in
      let low : k - n ≡ a + j = omega arith in
      let high : a + n + j ≡ k = omega arith in
      ap (λ i. drop i (cut_out a n xs)) low
      ∙ sym (drop-drop j a (cut_out a n xs))
      ∙ ap (drop j) (drop_at (take a xs) (drop (a + n) xs) a length_front)
      ∙ drop-drop j (a + n) xs
      ∙ ap (λ i. drop i xs) high

-- the first bytes of the first bytes
pub take_front : (j a : ℕ) (xs : List ℕ) → j ≤ a → take j (take a xs) ≡ take j xs
take_front zero a xs h = refl
take_front (suc j) zero xs h = absurd (omega arith)
take_front (suc j) (suc a) [] h = refl
take_front (suc j) (suc a) (x ∷ xs) h = ap (λ ys. x ∷ ys) (take_front j a xs (omega arith))

-- what stands in front of them
pub take_cut : (a n j : ℕ) (xs : List ℕ) → a + n ≤ length xs → j ≤ a → take j (cut_out a n xs) ≡ take j xs
take_cut a n j xs within near =
    let len = length_front a n xs within in
    take-append-le j (take a xs) (drop (a + n) xs) (omega arith) ∙ take_front j a xs near

-- ---- the packet without a header

pub without_first : (p : Packet) (h : Header) → is_first h.place ≡ true
    → without p h
    ≡ record p { next_header = slice_index h.bytes 0; payload = cut_out (h.place.at - header_len) (length h.bytes) p.payload }
without_first p h first = rw first refl

pub without_later : (p : Packet) (h : Header) → is_first h.place ≡ false
    → without p h
    ≡ record p {
      payload = cut_out (h.place.at - header_len) (length h.bytes)
          (slice_set p.payload (h.place.named_at - header_len) (slice_index h.bytes 0));
    }
without_later p h later = rw later refl

-- the chain after a header of a chain is the headers that stand after it
split_nil : (before after : List Header) (h : Header) → [] ≡ before ++ h ∷ after → ⊥
split_nil [] after h e = cc
split_nil (x ∷ before) after h e = cc

split_cons : (p : Packet) (x h : Header) (hs before after : List Header) (c : Chain) → chain_at p (place_behind x) ≡ c
    → c.headers ≡ hs
    → ((before after : List Header) (h : Header) → hs ≡ before ++ h ∷ after
    → chain_at p (place_behind h) ≡ record { headers = after; end = c.end })
    → x ∷ hs ≡ before ++ h ∷ after → chain_at p (place_behind h) ≡ record { headers = after; end = c.end }
split_cons p x h hs [] after c is same more e =
    let first : h ≡ x = cc in
    let rest : hs ≡ after = cc in
    ap (λ y. chain_at p (place_behind y)) first ∙ is ∙ ap (λ ys. record { headers = ys; end = c.end }) (same ∙ rest)
split_cons p x h hs (y ∷ before) after c is same more e = more before after h cc

-- the chain after a header of a chain is the headers that stand after it there, to the same end
pub chain_at_split : (p : Packet) (q : ChainPlace) → header_len ≤ q.at → (before after : List Header) (h : Header)
    → (chain_at p q).headers ≡ before ++ h ∷ after
    → chain_at p (place_behind h) ≡ record { headers = after; end = (chain_at p q).end }
chain_at_split p q start =
    (chain_at_by p
    (λ k c. (header_len ≤ k.at → chain_at p k ≡ c) × ((before after : List Header) (h : Header) → c.headers ≡ before ++ h ∷ after
    → chain_at p (place_behind h) ≡ record { headers = after; end = c.end }))
    (λ k e w. (λ from. chain_at_cut p k from e w, λ before after h same. absurd (split_nil before after h same)))
    (λ k e. (λ from. chain_at_upper p k from e, λ before after h same. absurd (split_nil before after h same)))
    (λ k c from e w rest.
    let bytes : List ℕ = from_place p k.at in
    let tail = rest.0 (omega arith) in (
      λ again. chain_at_header p k from e w ∙ ap (behind (header_in k bytes)) tail,
      λ before after h same. split_cons p (header_in k bytes) h c.headers before after c
          (ap (chain_at p) (behind_header_in k bytes w) ∙ tail) refl rest.1 same,
    )) q start).1

-- ---- the same bytes so many bytes lower

module _ (p q : Packet) (n from : ℕ) (start : header_len + n ≤ from)
    (same : (at : ℕ) → from ≤ at → from_place q (at - n) ≡ from_place p at) where
  pub chain_at_lowered : (place : ChainPlace) → from ≤ place.at → (named : ℕ)
      → chain_at q (lowered_to n named place) ≡ lowered n named (chain_at p place).headers (chain_at p place).end
  chain_at_lowered place far =
      chain_at_by p
      (λ k c. from ≤ k.at → (named : ℕ) → chain_at q (lowered_to n named k) ≡ lowered n named c.headers c.end)
      (λ k e w near named. chain_at_cut q (lowered_to n named k) (omega arith) e
      (ap (λ xs. is_whole k.kind xs) (same k.at near) ∙ w))
      (λ k e near named. chain_at_upper q (lowered_to n named k) (omega arith) e)
      (λ k c begin e w rest near named.
      let bytes : List ℕ = from_place p k.at in
      let there = same k.at near in
      let to : ChainPlace = lowered_to n named k in
      let m : ℕ = extension_bytes k.kind bytes in
      let next : k.at - n + m ≡ k.at + m - n = omega arith in
      chain_at_header q to (omega arith) e (ap (λ xs. is_whole k.kind xs) there ∙ w)
      ∙ ap (λ xs. behind (header_in to xs) (chain_at q (behind_in to xs))) there
      ∙ ap (λ i. behind (header_in to bytes) (chain_at q (record { at = i; kind = slice_index bytes 0; named_at = k.at - n }))) next
      ∙ ap (behind (header_in to bytes)) (rest (omega arith) (k.at - n)))
      place (omega arith) far

-- what stands after the header that is cut out
pub cut_from : (p q : Packet) (h : Header) (xs : List ℕ) → LiesIn p h
    → q.payload ≡ cut_out (h.place.at - header_len) (length h.bytes) xs → length xs ≡ length p.payload
    → ((k : ℕ) → h.place.at + length h.bytes ≤ k + header_len → drop k xs ≡ drop k p.payload)
    → (at : ℕ) → h.place.at + length h.bytes ≤ at → from_place q (at - length h.bytes) ≡ from_place p at
cut_from p q h xs lies payload len same at far =
    let start = lies.behind_header in
    let within = lies.within in
    let n : ℕ = length h.bytes in
    let a : ℕ = h.place.at - header_len in
    let k : ℕ = at - header_len in
    let place : at - n - header_len ≡ k - n = omega arith in
    ap (λ ys. drop (at - n - header_len) ys) payload
    ∙ ap (λ i. drop i (cut_out a n xs)) place
    ∙ drop_cut a n xs (omega arith) k (omega arith)
    ∙ same k (omega arith)

-- ---- the first header taken out

first_place : (p : Packet) (h : Header) (after : List Header) → (chain_of p).headers ≡ h ∷ after → h.place ≡ start_of p
unfolding chain_at
first_place p h after split =
    let Q : List Header → Type 0 = λ hs. Follow (start_of p) hs (place_of (chain_of p).end) in
    (subst Q split (chain_at_follow p (start_of p) (omega arith))).0

pub headers_lie : (p : Packet) → All (LiesIn p) (chain_of p).headers
unfolding chain_at
headers_lie p = chain_at_lies p (start_of p) (omega arith)

-- the chain of the packet without its first header is that of the headers after it, which its IPv6 header then names
pub without_first_chain : (p : Packet) (h : Header) (after : List Header) → (chain_of p).headers ≡ h ∷ after
    → chain_of (without p h) ≡ lowered (length h.bytes) NEXT_HEADER_AT after (chain_of p).end
unfolding chain_at
without_first_chain p h after split =
    let there = first_place p h after split in
    let first : is_first h.place ≡ true = ap (λ x. is_first x) there in
    let Q : List Header → Type 0 = λ hs. All (LiesIn p) hs in
    let lies = All-head (LiesIn p) h after (subst Q split (headers_lie p)) in
    let at : h.place.at ≡ header_len = ap (λ (x : ChainPlace). x.at) there in
    let n : ℕ = length h.bytes in
    let q : Packet = record p { next_header = slice_index h.bytes 0; payload = cut_out (h.place.at - header_len) n p.payload } in
    let sum : header_len ≡ h.place.at + n - n = omega arith in
    ap (λ x. chain_of x) (without_first p h first)
    ∙ ap (λ i. chain_at q (record { at = i; kind = slice_index h.bytes 0; named_at = NEXT_HEADER_AT })) sum
    ∙ chain_at_lowered p q n (h.place.at + n) (omega arith) (cut_from p q h p.payload lies refl refl (λ k far. refl)) (place_behind h)
    (omega arith) NEXT_HEADER_AT
    ∙ ap (λ (c : Chain). lowered n NEXT_HEADER_AT c.headers c.end) (chain_at_split p (start_of p) (omega arith) [] after h split)

-- ---- headers that follow one another, in parts

pub follow_split : (q : ChainPlace) (xs ys : List Header) (last : ChainPlace) → Follow q (xs ++ ys) last
    → (mid : ChainPlace) × Follow q xs mid × Follow mid ys last
follow_split q [] ys last f = (q, refl, f)
follow_split q (x ∷ xs) ys last f =
    let rest = follow_split (place_behind x) xs ys last f.1 in
    (rest.0, (f.0, rest.1), rest.2)

pub follow_join : (q : ChainPlace) (xs ys : List Header) (mid last : ChainPlace) → Follow q xs mid → Follow mid ys last
    → Follow q (xs ++ ys) last
follow_join q [] ys mid last f g = let Q : ChainPlace → Type 0 = λ x. Follow x ys last in subst Q (sym f) g
follow_join q (x ∷ xs) ys mid last f g = (f.0, follow_join (place_behind x) xs ys mid last f.1 g)

-- each header ends at or before the place up to which headers follow
pub follow_below : (q : ChainPlace) (xs : List Header) (mid : ChainPlace) → Follow q xs mid
    → All (λ x. x.place.at + length x.bytes ≤ mid.at) xs
follow_below q [] mid f = All-nil (λ x. x.place.at + length x.bytes ≤ mid.at)
follow_below q (x ∷ xs) mid f =
    All-cons (λ y. y.place.at + length y.bytes ≤ mid.at) x xs (follow_ascends (place_behind x) xs mid f.1).1
    (follow_below (place_behind x) xs mid f.1)

pub all_split : (P : Header → Type 0) (xs ys : List Header) → All P (xs ++ ys) → All P xs × All P ys
all_split P [] ys all = (All-nil P, all)
all_split P (x ∷ xs) ys all =
    let rest = all_split P xs ys (All-tail P x (xs ++ ys) all) in
    (All-cons P x xs (All-head P x (xs ++ ys) all) rest.0, rest.1)
