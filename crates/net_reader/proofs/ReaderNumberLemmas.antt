-- The numbers that a map keeps, name by name.
use Rattle.std.proofs.Common.{◌≡◌, ℕ, suc, ◌+◌, ◌<◌, ◌≤◌, Bool, true, false, cond, ltb, List, [], ◌∷◌, ◌++◌, length, take, map, get_or, position, Option, Some, None, refl, sym, ap, subst, ◌∙◌, is_some, true≢false, arith}
use Rattle.std.specs.Str.{bytes_eq}
use Rattle.std.specs.Borrow.{Bor}
use Rattle.std.specs.List.{position_or_len, position_from}
use Rattle.std.specs.Ordering.{nat_cmp}
use Rattle.std.specs.Cmp.Lexicographic.{slice_cmp}
use Rattle.std.specs.BTreeMap.{BTreeMap, get_by, Updates}
use Rattle.std.proofs.lemmas.Bool.{ltb-false}
use Rattle.std.proofs.lemmas.Iterator.Adapters.{position_from-zero}
use Rattle.std.proofs.lemmas.List.{map-append, map_more, length-map, length-take-le}
use Rattle.std.proofs.lemmas.List.Sums.{prefix_len-le-length}
use Rattle.std.proofs.lemmas.Slice.Eq.{bytes_eq-Decides}
use Rattle.std.proofs.lemmas.Cmp.{nat_list_eq_equiv}
use Rattle.std.proofs.lemmas.Map.Text.{btree_map_updates_str}
use Rattle.net_reader.specs.Numbering.{number_of}
use Rattle.net_reader.specs.NumberingTerms.{HasNumbers}

-- the first that is there
abbrev first_some : {X : Type 0} → Option X → Option X → Option X
first_some None other = other
first_some (Some x) other = Some x

with_none : {X : Type 0} (o : Option X) → first_some o None ≡ o
with_none None = refl
with_none (Some x) = refl

behind : {X : Type 0} (b : Bool) (x : X) (o other : Option X) → cond b (Some x) (first_some o other) ≡ first_some (cond b (Some x) o) other
behind true x o other = refl
behind false x o other = refl

position_from_pushed : {X : Type 0} (test : X → Bool) (n : ℕ) (xs : List X) (x : X)
    → position_from test n (xs ++ x ∷ []) ≡ first_some (position_from test n xs) (cond (test x) (Some (n + length xs)) None)
position_from_pushed test n [] x = let same : n + 0 ≡ n = omega arith in ap (λ m. cond (test x) (Some m) None) (sym same)
position_from_pushed test n (y ∷ ys) x =
    let same : n + 1 + length ys ≡ n + suc (length ys) = omega arith in
    let more : position_from test (n + 1) (ys ++ x ∷ [])
    ≡ first_some (position_from test (n + 1) ys) (cond (test x) (Some (n + suc (length ys))) None) =
    position_from_pushed test (n + 1) ys x
    ∙ ap (λ m. first_some (position_from test (n + 1) ys) (cond (test x) (Some m) None)) same in
    ap (cond (test y) (Some n)) more
    ∙ behind (test y) n (position_from test (n + 1) ys) (cond (test x) (Some (n + suc (length ys))) None)

position_pushed : (test : List ℕ → Bool) (names : List (List ℕ)) (x : List ℕ)
    → position test (names ++ x ∷ []) ≡ first_some (position test names) (cond (test x) (Some (length names)) None)
position_pushed test names x =
    let same : 0 + length names ≡ length names = omega arith in
    position_from-zero test (names ++ x ∷ []) ∙ position_from_pushed test 0 names x
    ∙ ap (λ n. first_some (position_from test 0 names) (cond (test x) (Some n) None)) same
    ∙ ap (λ o. first_some o (cond (test x) (Some (length names)) None)) (sym (position_from-zero test names))

-- a name that is there already leaves the numbers as they are
stays : (q x : List ℕ) (names : List (List ℕ)) (b : Bool) → bytes_eq q x ≡ b → is_some (position (bytes_eq x) names) ≡ true
    → first_some (position (bytes_eq q) names) (cond b (Some (length names)) None) ≡ position (bytes_eq q) names
stays q x names false other there = with_none (position (bytes_eq q) names)
stays q x names true same there =
    let P : List ℕ → Type 0 = λ t. is_some (position (bytes_eq t) names) ≡ true in
    some_stays (position (bytes_eq q) names) (subst P (sym ((bytes_eq-Decides q x).0 same)) there)
  where
    some_stays : (o : Option ℕ) → is_some o ≡ true → first_some o (Some (length names)) ≡ o
    some_stays None none = absurd (true≢false (sym none))
    some_stays (Some n) some = refl

pub numbers_known : (numbers : BTreeMap (Bor (List ℕ)) ℕ) (names : List (List ℕ)) (x : List ℕ) → HasNumbers numbers names
    → is_some (get_by (λ k. slice_cmp nat_cmp x k.now) numbers) ≡ true → HasNumbers numbers (names ++ x ∷ [])
numbers_known numbers names x has there = λ q.
    has q ∙ sym (position_pushed (bytes_eq q) names x ∙ stays q x names (bytes_eq q x) refl (ap is_some (sym (has x)) ∙ there))

none_from : {X : Type 0} (o : Option X) → is_some o ≡ false → o ≡ None
none_from None e = refl
none_from (Some x) e = absurd (true≢false e)

-- a new name goes last
last : (q k : List ℕ) (names : List (List ℕ)) (b : Bool) → bytes_eq q k ≡ b → position (bytes_eq k) names ≡ None
    → cond b (Some (length names)) (position (bytes_eq q) names)
    ≡ first_some (position (bytes_eq q) names) (cond b (Some (length names)) None)
last q k names false other none = sym (with_none (position (bytes_eq q) names))
last q k names true same none =
    ap (λ o. first_some o (Some (length names)))
    (sym (ap (λ t. position (bytes_eq t) names) ((bytes_eq-Decides q k).0 same) ∙ none))

pub numbers_new : (old new : BTreeMap (Bor (List ℕ)) ℕ) (names : List (List ℕ)) (k : Bor (List ℕ)) (n : ℕ)
    → HasNumbers old names → n ≡ length names → is_some (get_by (λ other. slice_cmp nat_cmp k.now other.now) old) ≡ false
    → Updates (λ a b. slice_cmp nat_cmp a.now b.now) old new k (Some n) → HasNumbers new (names ++ k.now ∷ [])
numbers_new old new names k n has is absent update = λ q.
    btree_map_updates_str k.now old new (Some n) update q
    ∙ ap (λ b. cond b (Some n) (get_by (λ other. slice_cmp nat_cmp q other.now) old)) (nat_list_eq_equiv.symm k.now q)
    ∙ ap (cond (bytes_eq q k.now) (Some n)) (has q)
    ∙ ap (λ m. cond (bytes_eq q k.now) (Some m) (position (bytes_eq q) names)) is
    ∙ last q k.now names (bytes_eq q k.now) refl (sym (has k.now) ∙ none_from _ absent)
    ∙ sym (position_pushed (bytes_eq q) names k.now)

-- the names of the first items, and of one more
pub names_more : {X : Type 0} (name : X → List ℕ) (items : List X) (i : ℕ) (x : X) → i < length items → x ≡ get_or items i x
    → map name (take (i + 1) items) ≡ map name (take i items) ++ name x ∷ []
names_more name items i x within is =
    map_more name items i x within ∙ ap (λ y. map name (take i items) ++ name y ∷ []) (sym is)

pub names_so_far : {X : Type 0} (name : X → List ℕ) (items : List X) (i : ℕ) → i ≤ length items
    → length (map name (take i items)) ≡ i
names_so_far name items i within = length-map (take i items) name ∙ length-take-le i items within

-- a turn at a name that is there already
pub known_turn : (numbers : BTreeMap (Bor (List ℕ)) ℕ) (names : List (Bor (List ℕ))) (i : ℕ) (d : Bor (List ℕ))
    → i < length names → HasNumbers numbers (map (λ s. s.now) (take i names))
    → is_some (get_by (λ k. slice_cmp nat_cmp (get_or names i d).now k.now) numbers) ≡ true
    → HasNumbers numbers (map (λ s. s.now) (take (i + 1) names))
known_turn numbers names i d within has there =
    subst (HasNumbers numbers) (sym (map_more (λ (s : Bor (List ℕ)). s.now) names i d within))
    (numbers_known numbers (map (λ s. s.now) (take i names)) (get_or names i d).now has there)

-- a turn at a new name
pub new_turn : (old put new : BTreeMap (Bor (List ℕ)) ℕ) (names : List (Bor (List ℕ))) (i : ℕ) (d : Bor (List ℕ))
    → i < length names → HasNumbers old (map (λ s. s.now) (take i names))
    → is_some (get_by (λ other. slice_cmp nat_cmp (get_or names i d).now other.now) old) ≡ false
    → new ≡ put → Updates (λ a b. slice_cmp nat_cmp a.now b.now) old put (get_or names i d) (Some i)
    → HasNumbers new (map (λ s. s.now) (take (i + 1) names))
new_turn old put new names i d within has absent is update =
    subst (λ m. HasNumbers m (map (λ s. s.now) (take (i + 1) names))) (sym is)
    (subst (HasNumbers put) (sym (map_more (λ (s : Bor (List ℕ)). s.now) names i d within))
    (numbers_new old put (map (λ s. s.now) (take i names)) (get_or names i d) i has
    (sym (names_so_far (λ (s : Bor (List ℕ)). s.now) names i (omega (arith, within)))) absent update))

-- looking up

given : (place count : ℕ) (b : Bool) (n : ℕ) → cond b (Some place) None ≡ Some n → n ≡ place
given place count true n e = cc
given place count false n e = cc

pub number_found : (numbers : BTreeMap (Bor (List ℕ)) ℕ) (names : List (List ℕ)) (name : List ℕ) (n : ℕ)
    → HasNumbers numbers names → Some n ≡ get_by (λ k. slice_cmp nat_cmp name k.now) numbers → n ≡ number_of names name
number_found numbers names name n has is =
    given (position_or_len (bytes_eq name) names) (length names) (ltb (position_or_len (bytes_eq name) names) (length names)) n
    (sym (is ∙ has name))

past : (place count : ℕ) (b : Bool) → ltb place count ≡ b → place ≤ count → cond b (Some place) None ≡ None → count ≡ place
past place count true e within none = cc
past place count false e within none = let above : count ≤ place = ltb-false place count e in omega arith

pub number_absent : (numbers : BTreeMap (Bor (List ℕ)) ℕ) (names : List (List ℕ)) (name : List ℕ) (count : ℕ)
    → HasNumbers numbers names → length names ≡ count → None ≡ get_by (λ k. slice_cmp nat_cmp name k.now) numbers
    → count ≡ number_of names name
number_absent numbers names name count has is none =
    sym is ∙ past (position_or_len (bytes_eq name) names) (length names) (ltb (position_or_len (bytes_eq name) names) (length names)) refl
    (prefix_len-le-length _ names) (sym (none ∙ has name))

-- one more of what is read from a list
pub kept_names : {X : Type 0} (name : X → List ℕ) (items : List X) (i : ℕ) (x : X) (names : List (Bor (List ℕ))) (s : Bor (List ℕ))
    → map (λ t. t.now) names ≡ map name (take i items) → i < length items → x ≡ get_or items i x → s.now ≡ name x
    → map (λ t. t.now) (names ++ s ∷ []) ≡ map name (take (i + 1) items)
kept_names name items i x names s so_far within is same =
    map-append (λ (t : Bor (List ℕ)). t.now) names (s ∷ [])
    ∙ ap (λ front. front ++ s.now ∷ []) so_far ∙ ap (λ last. map name (take i items) ++ last ∷ []) same
    ∙ sym (names_more name items i x within is)

pub ruleset looking = (number_found, number_absent)
