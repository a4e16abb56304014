-- Steps from CSID to CSID of an entry.
use Rattle.std.proofs.Common.{◌≡◌, ℕ, zero, suc, ◌+◌, ◌-◌, ◌^◌, ◌<◌, ◌≤◌, Bool, true, false, if◌then◌else◌, ◌==◌, ◌&&◌, ◌||◌, List, [], ◌∷◌, ◌++◌, length, map, get_or, All, refl, sym, ◌∙◌, ap, subst, arith, append_assoc, length-append}
use Rattle.std.proofs.lemmas.Bool.{eq-eqb, ne_eqb}
use Rattle.std.proofs.lemmas.List.Elements.{All-nil, All-cons, All-head, All-tail}
use Rattle.v6_addr.specs.Address.{PrefixValue}
use Rattle.srv6_rules.specs.declared.compression.Compression.{Compression}
use Rattle.srv6_rules.specs.Srh.{Srh, entry_of}
use Rattle.srv6_rules.specs.Compressed.{csid_of, csid_count, csid_at, replace_of}
use Rattle.srv6_rules.specs.CompressedTerms.{IsCsidLen, IsReplaceSid}
use Rattle.srv6_rules.specs.CompressedSteps.{Move, csid_len_of, index_in, listed_csid, is_ended, to_csid, to_entry, move_of}
use Rattle.srv6_rules.specs.CompressedStepsTerms.{IsEntryOf, index_behind}
use Rattle.srv6_rules.proofs.PacketContainers.{csid_below}
use Rattle.srv6_rules.proofs.PackedEntries.{count_some, entry_csid, next_sid, index_back_law}

-- ---- lists

at_behind : (f : PrefixValue → ℕ) (front rest : List PrefixValue) (n k : ℕ) → n ≡ length front + k
    → get_or (map f (front ++ rest)) n 0 ≡ get_or (map f rest) k 0
at_behind f [] rest n k e =
    let same : n ≡ k = omega arith in
    ap (λ m. get_or (map f rest) m 0) same
at_behind f (x ∷ xs) rest zero k e = let no : ⊥ = omega arith in absurd no
at_behind f (x ∷ xs) rest (suc n) k e = at_behind f xs rest n k (omega arith)

length_map_csids : (f : PrefixValue → ℕ) (ss : List PrefixValue) → length (map f ss) ≡ length ss
length_map_csids f [] = refl
length_map_csids f (s ∷ ss) = ap suc (length_map_csids f ss)

all_behind : (block : PrefixValue) (w : ℕ) (front : List PrefixValue) (t : PrefixValue) (after : List PrefixValue)
    → All (λ s. IsReplaceSid block w s) (front ++ t ∷ after) → All (λ s. IsReplaceSid block w s) (t ∷ after)
all_behind block w [] t after all = all
all_behind block w (x ∷ xs) t after all =
    all_behind block w xs t after (All-tail (λ s. IsReplaceSid block w s) x (xs ++ t ∷ after) all)

csid_width : (block : PrefixValue) (w : ℕ) (s : PrefixValue) → IsReplaceSid block w s → csid_of block.len s < 2 ^ w
csid_width block w s is =
    let len : s.len ≡ block.len + w = is.len in
    let width : s.len - block.len ≡ w = omega arith in
    let P : ℕ → Type 0 = λ n. csid_of block.len s < 2 ^ n in
    subst P width (csid_below block.len s)

csids_fit : (block : PrefixValue) (w : ℕ) (ss : List PrefixValue) → All (λ s. IsReplaceSid block w s) ss
    → All (λ c. c < 2 ^ w) (map (csid_of block.len) ss)
csids_fit block w [] all = All-nil (λ c. c < 2 ^ w)
csids_fit block w (s ∷ ss) all =
    All-cons (λ c. c < 2 ^ w) (csid_of block.len s) (map (csid_of block.len) ss)
    (csid_width block w s (All-head (λ s. IsReplaceSid block w s) s ss all))
    (csids_fit block w ss (All-tail (λ s. IsReplaceSid block w s) s ss all))

-- ---- the CSIDs of an entry

-- the CSID at the index after some
entry_listed : (c : Compression) (block : PrefixValue) (sids : List PrefixValue) (entry n : ℕ) → IsCsidLen (csid_len_of c)
    → IsEntryOf c block sids entry → n < csid_count (csid_len_of c)
    → csid_at (csid_len_of c) entry (index_behind c n) ≡ get_or (map (csid_of block.len) sids) n 0
entry_listed c block sids entry n len is below =
    let w : ℕ = csid_len_of c in
    let few : length (map (csid_of block.len) sids) ≤ csid_count w =
    subst (λ (k : ℕ). k ≤ csid_count w) (sym (length_map_csids (csid_of block.len) sids)) is.few in
    ap (λ x. csid_at w x (index_behind c n)) is.packed
    ∙ entry_csid w (map (csid_of block.len) sids) n len (csids_fit block w sids is.each) few below

test_by : (j v m : ℕ) → (m ≡ 0 → 0 < j → v ≡ 0) → (0 < m → (0 < j) × (v ≡ 0 → ⊥)) → ((j == 0) || (v == 0)) ≡ (m == 0)
test_by zero v zero none some = refl
test_by zero v (suc m) none some =
    let both = some (omega arith) in
    let below : 0 < zero = both.0 in
    let no : ⊥ = omega arith in
    absurd no
test_by (suc j) v zero none some = rw (ne_eqb (suc j) 0 (λ e. omega arith), eq-eqb v 0 (none refl (omega arith))) refl
test_by (suc j) v (suc m) none some =
    let both = some (omega arith) in
    rw (ne_eqb (suc j) 0 (λ e. omega arith), ne_eqb v 0 both.1, ne_eqb (suc m) 0 (λ e. omega arith)) refl

and_by : (left : ℕ) (x y : Bool) → (left ≡ 0 → x ≡ y) → ((left == 0) && x) ≡ ((left == 0) && y)
and_by zero x y same = same refl
and_by (suc left) x y same = rw (ne_eqb (suc left) 0 (λ e. omega arith)) refl

-- a SID of an entry, and what stands after it
module _ (c : Compression) (block : PrefixValue) (front : List PrefixValue) (t : PrefixValue) (after : List PrefixValue) (entry : ℕ)
    (is : IsEntryOf c block (front ++ t ∷ after) entry) where
  sid_is : IsReplaceSid block (csid_len_of c) t
  sid_is = All-head (λ s. IsReplaceSid block (csid_len_of c) s) t after (all_behind block (csid_len_of c) front t after is.each)

  room : length front + 1 + length after ≤ csid_count (csid_len_of c)
  room =
      let few = is.few in
      let long = length-append front (t ∷ after) in
      omega arith

  own_csid : csid_at (csid_len_of c) entry (index_behind c (length front)) ≡ csid_of block.len t
  own_csid =
      let fits = room in
      entry_listed c block (front ++ t ∷ after) entry (length front) sid_is.csid is (omega arith)
      ∙ at_behind (csid_of block.len) front (t ∷ after) (length front) 0 (omega arith)

  own_index : index_in c (t.value + index_behind c (length front)) ≡ index_behind c (length front)
  own_index =
      let fits = room in
      index_back_law block t (csid_len_of c) (index_behind c (length front)) sid_is (omega arith)

  -- the next index and what stands there
  index_less : index_behind c (length front) - 1 ≡ index_behind c (length front + 1)
  index_less = omega arith

  next_csid : 0 < index_behind c (length front)
      → csid_at (csid_len_of c) entry (index_behind c (length front) - 1) ≡ get_or (map (csid_of block.len) (t ∷ after)) 1 0
  next_csid above =
      ap (λ n. csid_at (csid_len_of c) entry n) index_less
      ∙ entry_listed c block (front ++ t ∷ after) entry (length front + 1) sid_is.csid is (omega arith)
      ∙ at_behind (csid_of block.len) front (t ∷ after) (length front + 1) 1 refl

none_behind : (f : PrefixValue → ℕ) (t : PrefixValue) (after : List PrefixValue) → length after ≡ 0 → get_or (map f (t ∷ after)) 1 0 ≡ 0
none_behind f t [] none = refl
none_behind f t (u ∷ us) none = let no : ⊥ = omega arith in absurd no

some_behind : (block : PrefixValue) (w : ℕ) (t : PrefixValue) (after : List PrefixValue) → All (λ s. IsReplaceSid block w s) (t ∷ after)
    → 0 < length after → get_or (map (csid_of block.len) (t ∷ after)) 1 0 ≡ 0 → ⊥
some_behind block w t [] all some e = omega arith
some_behind block w t (u ∷ us) all some e =
    let is : IsReplaceSid block w u =
    All-head (λ s. IsReplaceSid block w s) u us (All-tail (λ s. IsReplaceSid block w s) t (u ∷ us) all) in
    is.sid_of.some e

-- no CSID stands after a SID exactly where none follows it
nothing_behind : (c : Compression) (block : PrefixValue) (front : List PrefixValue) (t : PrefixValue) (after : List PrefixValue) (entry : ℕ)
    → IsEntryOf c block (front ++ t ∷ after) entry
    → let d = t.value + index_behind c (length front) in
    ((index_in c d == 0) || (csid_at (csid_len_of c) entry (index_in c d - 1) == 0)) ≡ (length after == 0)
nothing_behind c block front t after entry is =
    let w : ℕ = csid_len_of c in
    let j : ℕ = index_behind c (length front) in
    let all = all_behind block w front t after is.each in
    let fits = room c block front t after entry is in
    ap (λ n. (n == 0) || (csid_at w entry (n - 1) == 0)) (own_index c block front t after entry is)
    ∙ test_by j (csid_at w entry (j - 1)) (length after)
    (λ none above. next_csid c block front t after entry is above ∙ none_behind (csid_of block.len) t after none)
    (λ some. let above : 0 < j = omega arith in
    (above, λ e. some_behind block w t after all some (sym (next_csid c block front t after entry is above) ∙ e)))

pub entry_ended : (c : Compression) (block s : PrefixValue) (srh : Srh) (left : ℕ) (before after : List PrefixValue)
    → IsEntryOf c block (before ++ s ∷ after) (entry_of srh 0)
    → is_ended c srh left (s.value + index_behind c (length before)) ≡ ((left == 0) && (length after == 0))
entry_ended c block s srh left before after is =
    ap (λ b. (left == 0) && b) (nothing_behind c block before s after (entry_of srh 0) is)

-- ---- steps

-- the step to a SID of an entry
csid_step : (c : Compression) (block s t : PrefixValue) (srh : Srh) (left i : ℕ) (front after : List PrefixValue)
    → IsEntryOf c block (front ++ t ∷ after) (entry_of srh left) → IsReplaceSid block (csid_len_of c) s → i < csid_count (csid_len_of c)
    → to_csid c srh (s.value + i) left (index_behind c (length front))
    ≡ record {
      segments_left = left;
      destination = t.value + index_behind c (length front);
      ended = (left == 0) && (length after == 0);
    }
csid_step c block s t srh left i front after is is_s below =
    let w : ℕ = csid_len_of c in
    let j : ℕ = index_behind c (length front) in
    let is_t = sid_is c block front t after (entry_of srh left) is in
    let fits = room c block front t after (entry_of srh left) is in
    let to : ℕ → Move = λ n. record { segments_left = left; destination = n; ended = is_ended c srh left n } in
    let at : Bool → Move = λ b. record { segments_left = left; destination = t.value + j; ended = b } in
    let P : ℕ → Type 0 = λ n. IsEntryOf c block (front ++ t ∷ after) (entry_of srh n) in
    let next : replace_of (s.value + i) c.block_len w (listed_csid c srh left j) j ≡ t.value + j =
    ap (λ n. replace_of (s.value + i) c.block_len w n j) (own_csid c block front t after (entry_of srh left) is)
    ∙ ap (λ n. replace_of (s.value + i) n w (csid_of block.len t) j) is.block_len
    ∙ next_sid block s t w i j is_s is_t below (omega arith) in
    ap to next
    ∙ ap at (and_by left _ (length after == 0) (λ e. nothing_behind c block front t after (entry_of srh 0) (subst P e is)))

-- moves by the index of the destination
move_by : Compression → Srh → ℕ → ℕ → Move
move_by c srh d index =
    if index == 0 then to_csid c srh d (srh.segments_left - 1) (csid_count (csid_len_of c) - 1)
    else if listed_csid c srh srh.segments_left (index - 1) == 0 then to_entry srh
    else to_csid c srh d srh.segments_left (index - 1)

pub entry_first : (c : Compression) (block s t : PrefixValue) (srh : Srh) (after : List PrefixValue)
    → IsReplaceSid block (csid_len_of c) s → IsEntryOf c block (t ∷ after) (entry_of srh (srh.segments_left - 1))
    → move_of c srh s.value
    ≡ record {
      segments_left = srh.segments_left - 1;
      destination = t.value + index_behind c 0;
      ended = (srh.segments_left - 1 == 0) && (length after == 0);
    }
unfolding move_by
entry_first c block s t srh after is_s is =
    let w : ℕ = csid_len_of c in
    let some = count_some w is_s.csid in
    let own : s.value ≡ s.value + 0 = omega arith in
    let index : index_in c (s.value + 0) ≡ 0 = index_back_law block s w 0 is_s some in
    let least : csid_count w - 1 ≡ index_behind c 0 = omega arith in
    ap (λ d. move_of c srh d) own
    ∙ ap (λ n. move_by c srh (s.value + 0) n) index
    ∙ ap (λ n. to_csid c srh (s.value + 0) (srh.segments_left - 1) n) least
    ∙ csid_step c block s t srh (srh.segments_left - 1) 0 [] after is is_s some

-- at a SID of an entry whose index isn't 0
module _ (c : Compression) (block s : PrefixValue) (srh : Srh) (before after : List PrefixValue)
    (is : IsEntryOf c block (before ++ s ∷ after) (entry_of srh srh.segments_left)) (above : 0 < index_behind c (length before)) where
  at_index : move_of c srh (s.value + index_behind c (length before))
      ≡ (if listed_csid c srh srh.segments_left (index_behind c (length before) - 1) == 0 then to_entry srh
      else to_csid c srh (s.value + index_behind c (length before)) srh.segments_left (index_behind c (length before) - 1))
  unfolding move_by
  at_index =
      let d : ℕ = s.value + index_behind c (length before) in
      let j : ℕ = index_behind c (length before) in
      let not_0 : (j == 0) ≡ false = ne_eqb j 0 (λ e. omega arith) in
      ap (λ n. move_by c srh d n) (own_index c block before s after (entry_of srh srh.segments_left) is)
      ∙ ap (λ b. if b then to_csid c srh d (srh.segments_left - 1) (csid_count (csid_len_of c) - 1)
      else if listed_csid c srh srh.segments_left (j - 1) == 0 then to_entry srh
      else to_csid c srh d srh.segments_left (j - 1)) not_0

pub entry_last : (c : Compression) (block s : PrefixValue) (srh : Srh) (before : List PrefixValue)
    → IsEntryOf c block (before ++ s ∷ []) (entry_of srh srh.segments_left) → 0 < index_behind c (length before)
    → move_of c srh (s.value + index_behind c (length before)) ≡ to_entry srh
entry_last c block s srh before is above =
    let d : ℕ = s.value + index_behind c (length before) in
    let j : ℕ = index_behind c (length before) in
    let none : (listed_csid c srh srh.segments_left (j - 1) == 0) ≡ true =
    eq-eqb (listed_csid c srh srh.segments_left (j - 1)) 0
    (next_csid c block before s [] (entry_of srh srh.segments_left) is above ∙ none_behind (csid_of block.len) s [] refl) in
    at_index c block s srh before [] is above
    ∙ ap (λ b. if b then to_entry srh else to_csid c srh d srh.segments_left (j - 1)) none

pub entry_next : (c : Compression) (block s t : PrefixValue) (srh : Srh) (before after : List PrefixValue)
    → IsEntryOf c block (before ++ s ∷ t ∷ after) (entry_of srh srh.segments_left)
    → move_of c srh (s.value + index_behind c (length before))
    ≡ record {
      segments_left = srh.segments_left;
      destination = t.value + index_behind c (length before + 1);
      ended = (srh.segments_left == 0) && (length after == 0);
    }
entry_next c block s t srh before after is =
    let w : ℕ = csid_len_of c in
    let entry : ℕ = entry_of srh srh.segments_left in
    let d : ℕ = s.value + index_behind c (length before) in
    let j : ℕ = index_behind c (length before) in
    let fits = room c block before s (t ∷ after) entry is in
    let above : 0 < j = omega arith in
    let all = all_behind block w before s (t ∷ after) is.each in
    let is_s = sid_is c block before s (t ∷ after) entry is in
    let some : (listed_csid c srh srh.segments_left (j - 1) == 0) ≡ false =
    ne_eqb (listed_csid c srh srh.segments_left (j - 1)) 0
    (λ e. some_behind block w s (t ∷ after) all (omega arith) (sym (next_csid c block before s (t ∷ after) entry is above) ∙ e)) in
    let P : List PrefixValue → Type 0 = λ xs. IsEntryOf c block xs entry in
    let front : List PrefixValue = before ++ s ∷ [] in
    let moved : IsEntryOf c block (front ++ t ∷ after) entry = subst P (sym (append_assoc before (s ∷ []) (t ∷ after))) is in
    let long : length front ≡ length before + 1 = length-append before (s ∷ []) in
    let less : j - 1 ≡ index_behind c (length front) = omega arith in
    let at : ℕ → Move =
    λ n. record {
      segments_left = srh.segments_left;
      destination = t.value + index_behind c n;
      ended = (srh.segments_left == 0) && (length after == 0);
    } in
    at_index c block s srh before (t ∷ after) is above
    ∙ ap (λ b. if b then to_entry srh else to_csid c srh d srh.segments_left (j - 1)) some
    ∙ ap (λ n. to_csid c srh d srh.segments_left n) less
    ∙ csid_step c block s t srh srh.segments_left j front after moved is_s (omega arith)
    ∙ ap at long
