-- The SIDs of a position: which they are, in which order, and how many.
use Rattle.std.proofs.Common.{◌≡◌, ℕ, zero, suc, ◌+◌, ◌<◌, ◌≤◌, ◌⊎◌, inl, inr, Bool, true, false, ◌==◌, ◌&&◌, ◌||◌, nat_lt, if◌then◌else◌, List, [], ◌∷◌, length, get_or, take, Some, None, slice_get, Contains, refl, sym, ◌∙◌, ap, subst, arith, add-one}
use Rattle.std.specs.Prelude.{count_by}
use Rattle.std.proofs.lemmas.Bool.{and_parts, and_from, eq-eqb, lt-ltb, or_left, or_right, cases_order, both_ways}
use Rattle.std.proofs.lemmas.Option.{slice_get_within, slice_get_cases, get_or_from_slice_get}
use Rattle.std.proofs.lemmas.List.Sums.{count_by_more_yes, count_by_more_no}
use Rattle.std.proofs.Math.Seq.{take-length}
use Rattle.v6_addr.specs.Address.{PrefixValue}
use Rattle.net_model.specs.Network.{Network}
use Rattle.net_model.specs.NetworkRules.{is_sid_of}
use Rattle.net_model.specs.NetworkKeeps.{Keeps}
use Rattle.intent_reader.specs.declared.intent.Intent.{Intent}
use Rattle.leg_table.specs.PositionSids.{sid_before, comes_before, placed, is_sid_at, sids_below, sids_of, node_at}
use Rattle.leg_table.specs.PositionSidsTerms.{in_order, AreSidsAt}
use Rattle.leg_table.proofs.StrictOptions.{some_same}
use Rattle.leg_table.proofs.TransitFacts.{sid_at}

pub contains_first : {X : Type 0} (x : X) (xs : List X) → Contains (x ∷ xs) x
contains_first x xs = (0, omega arith, refl)

pub contains_later : {X : Type 0} (x y : X) (xs : List X) → Contains xs y → Contains (x ∷ xs) y
contains_later x y xs h = (suc h.0, omega (arith, h.1), h.2)

pub contains_cases : {X : Type 0} (x y : X) (xs : List X) → Contains (x ∷ xs) y → (x ≡ y) ⊎ Contains xs y
contains_cases {X} x y xs h = by_place h.0 h.1 h.2
  where
    by_place : (k : ℕ) → k < length (x ∷ xs) → get_or (x ∷ xs) k y ≡ y → (x ≡ y) ⊎ Contains xs y
    by_place zero h e = inl e
    by_place (suc k) h e = inr (k, omega arith, e)

-- ---- a number put before a list's first or further behind, whatever the order is

pub put_contains : (t : Bool) (n x m : ℕ) (xs put : List ℕ) → (Contains put m → (n ≡ m) ⊎ Contains xs m)
    → Contains (if t then n ∷ x ∷ xs else x ∷ put) m → (n ≡ m) ⊎ Contains (x ∷ xs) m
put_contains true n x m xs put later h = contains_cases n m (x ∷ xs) h
put_contains false n x m xs put later h = by_first (contains_cases x m put h)
  where
    by_rest : (n ≡ m) ⊎ Contains xs m → (n ≡ m) ⊎ Contains (x ∷ xs) m
    by_rest (inl e) = inl e
    by_rest (inr k) = inr (contains_later x m xs k)

    by_first : (x ≡ m) ⊎ Contains put m → (n ≡ m) ⊎ Contains (x ∷ xs) m
    by_first (inl e) = inr (subst (λ (y : ℕ). Contains (x ∷ xs) y) e (contains_first x xs))
    by_first (inr k) = by_rest (later k)

pub put_itself : (t : Bool) (n x : ℕ) (xs put : List ℕ) → Contains put n → Contains (if t then n ∷ x ∷ xs else x ∷ put) n
put_itself true n x xs put later = contains_first n (x ∷ xs)
put_itself false n x xs put later = contains_later x n put later

pub put_others : (t : Bool) (n x m : ℕ) (xs put : List ℕ) → (Contains xs m → Contains put m) → Contains (x ∷ xs) m
    → Contains (if t then n ∷ x ∷ xs else x ∷ put) m
put_others true n x m xs put later h = contains_later n m (x ∷ xs) h
put_others false n x m xs put later h = by_first (contains_cases x m xs h)
  where
    by_first : (x ≡ m) ⊎ Contains xs m → Contains (x ∷ put) m
    by_first (inl e) = subst (λ (y : ℕ). Contains (x ∷ put) y) e (contains_first x put)
    by_first (inr k) = contains_later x m put (later k)

pub put_length : (t : Bool) (n x : ℕ) (xs put : List ℕ) → length put ≡ suc (length xs)
    → length (if t then n ∷ x ∷ xs else x ∷ put) ≡ suc (suc (length xs))
put_length true n x xs put e = refl
put_length false n x xs put e = ap suc e

-- ---- a SID put into its place

pub placed_contains : (net : Network) (n : ℕ) (xs : List ℕ) (m : ℕ) → Contains (placed net n xs) m → (n ≡ m) ⊎ Contains xs m
placed_contains net n [] m h = contains_cases n m [] h
placed_contains net n (x ∷ xs) m h =
    put_contains (sid_before (slice_get net.sids n) (slice_get net.sids x)) n x m xs (placed net n xs) (λ h. placed_contains net n xs m h) h

pub placed_itself : (net : Network) (n : ℕ) (xs : List ℕ) → Contains (placed net n xs) n
placed_itself net n [] = contains_first n []
placed_itself net n (x ∷ xs) =
    put_itself (sid_before (slice_get net.sids n) (slice_get net.sids x)) n x xs (placed net n xs) (placed_itself net n xs)

pub placed_others : (net : Network) (n : ℕ) (xs : List ℕ) (m : ℕ) → Contains xs m → Contains (placed net n xs) m
placed_others net n [] m h = contains_later n m [] h
placed_others net n (x ∷ xs) m h =
    put_others (sid_before (slice_get net.sids n) (slice_get net.sids x)) n x m xs (placed net n xs) (λ h. placed_others net n xs m h) h

pub placed_length : (net : Network) (n : ℕ) (xs : List ℕ) → length (placed net n xs) ≡ suc (length xs)
placed_length net n [] = refl
placed_length net n (x ∷ xs) =
    put_length (sid_before (slice_get net.sids n) (slice_get net.sids x)) n x xs (placed net n xs) (placed_length net n xs)

-- a number put into its place keeps the order, where it is before or after each other
pub placed_order : (net : Network) (n : ℕ) (xs : List ℕ) → in_order net xs ≡ true
    → ((m : ℕ) → Contains xs m → sid_before (slice_get net.sids n) (slice_get net.sids m) ≡ false → sid_before (slice_get net.sids m)
    (slice_get net.sids n) ≡ true)
    → in_order net (placed net n xs) ≡ true
placed_order net n [] order apart = refl
placed_order net n (m ∷ []) order apart = by_test (sid_before (slice_get net.sids n) (slice_get net.sids m)) refl
  where
    by_test : (t : Bool) → sid_before (slice_get net.sids n) (slice_get net.sids m) ≡ t
        → in_order net (if t then n ∷ m ∷ [] else m ∷ n ∷ []) ≡ true
    by_test true e = and_from (sid_before (slice_get net.sids n) (slice_get net.sids m)) true e refl
    by_test false e = and_from (sid_before (slice_get net.sids m) (slice_get net.sids n)) true (apart m (contains_first m []) e) refl
placed_order net n (m ∷ k ∷ ks) order apart =
    by_test (sid_before (slice_get net.sids n) (slice_get net.sids m)) refl
    (placed_order net n (k ∷ ks) parts.1 (λ j there. apart j (contains_later m j (k ∷ ks) there)))
  where
    parts : (sid_before (slice_get net.sids m) (slice_get net.sids k) ≡ true) × (in_order net (k ∷ ks) ≡ true)
    parts = and_parts (sid_before (slice_get net.sids m) (slice_get net.sids k)) (in_order net (k ∷ ks)) order

    by_test : (t : Bool) → sid_before (slice_get net.sids n) (slice_get net.sids m) ≡ t → in_order net (placed net n (k ∷ ks)) ≡ true
        → in_order net (if t then n ∷ m ∷ k ∷ ks else m ∷ placed net n (k ∷ ks)) ≡ true
    by_test true e later = and_from (sid_before (slice_get net.sids n) (slice_get net.sids m)) (in_order net (m ∷ k ∷ ks)) e order
    by_test false e later = by_next (sid_before (slice_get net.sids n) (slice_get net.sids k)) later
      where
        by_next : (u : Bool) → in_order net (if u then n ∷ k ∷ ks else k ∷ placed net n ks) ≡ true
            → in_order net (m ∷ (if u then n ∷ k ∷ ks else k ∷ placed net n ks)) ≡ true
        by_next true later =
            and_from (sid_before (slice_get net.sids m) (slice_get net.sids n)) (in_order net (n ∷ k ∷ ks))
            (apart m (contains_first m (k ∷ ks)) e) later
        by_next false later =
            and_from (sid_before (slice_get net.sids m) (slice_get net.sids k)) (in_order net (k ∷ placed net n ks)) parts.0 later

-- of two numbers that differ in a pair one pair comes first
behind_numbers : (a b c d : ℕ) → (nat_lt a b || ((a == b) && nat_lt c d)) ≡ false → (a ≡ b → c ≡ d → ⊥)
    → (nat_lt b a || ((b == a) && nat_lt d c)) ≡ true
behind_numbers a b c d h apart = by_first (cases_order a b) (cases_order c d)
  where
    by_first : ((a ≡ b) ⊎ ((a < b) ⊎ (b < a))) → ((c ≡ d) ⊎ ((c < d) ⊎ (d < c))) → (nat_lt b a || ((b == a) && nat_lt d c)) ≡ true
    by_first (inl e) (inl f) = absurd (apart e f)
    by_first (inl e) (inr (inl f)) =
        absurd (both_ways _ h (or_right (nat_lt a b) ((a == b) && nat_lt c d)
        (and_from (a == b) (nat_lt c d) (eq-eqb a b e) (lt-ltb c d f))))
    by_first (inl e) (inr (inr f)) =
        or_right (nat_lt b a) ((b == a) && nat_lt d c) (and_from (b == a) (nat_lt d c) (eq-eqb b a (sym e)) (lt-ltb d c f))
    by_first (inr (inl e)) f = absurd (both_ways _ h (or_left (nat_lt a b) ((a == b) && nat_lt c d) (lt-ltb a b e)))
    by_first (inr (inr e)) f = or_left (nat_lt b a) ((b == a) && nat_lt d c) (lt-ltb b a e)

same_prefix : (p q : PrefixValue) → p.value ≡ q.value → p.len ≡ q.len → p ≡ q
same_prefix p q e f = ap (λ (v : ℕ). record p { value = v }) e ∙ ap (λ (l : ℕ). record p { value = q.value; len = l }) f

pub behind_prefixes : (p q : PrefixValue) → comes_before p q ≡ false → (p ≡ q → ⊥) → comes_before q p ≡ true
behind_prefixes p q h apart = behind_numbers p.value q.value p.len q.len h (λ e f. apart (same_prefix p q e f))

count_take : {X : Type 0} (p : X → Bool) (xs : List X) (k : ℕ) → k < length xs → count_by p (take k xs) ≤ count_by p (take (suc k) xs)
count_take {X} p xs k h = by_place (slice_get_cases xs k).1
  where
    by_test : (x : X) (t : Bool) → p (get_or xs k x) ≡ t → count_by p (take k xs) ≤ count_by p (take (suc k) xs)
    by_test x true e =
        let more = ap (λ (j : ℕ). count_by p (take j xs)) (sym (add-one k)) ∙ count_by_more_yes p xs k x h e in omega arith
    by_test x false e =
        let more = ap (λ (j : ℕ). count_by p (take j xs)) (sym (add-one k)) ∙ count_by_more_no p xs k x h e in omega arith

    by_place : ((x : X) × (k < length xs) × (slice_get xs k ≡ Some x) × (get_or xs k x ≡ x)) ⊎ ((length xs ≤ k) × (slice_get xs k ≡ None))
        → count_by p (take k xs) ≤ count_by p (take (suc k) xs)
    by_place (inl there) = by_test there.0 (p (get_or xs k there.0)) refl
    by_place (inr past) = absurd (omega (arith, past.0))

module _ (net : Network) (keeps : Keeps net) (intent : Intent) (position : ℕ) where
  -- two SIDs of a position stand at one node, so each prefix stands once
  apart_sids : (n m : ℕ) → is_sid_at net intent position n ≡ true → is_sid_at net intent position m ≡ true → (n ≡ m → ⊥)
      → sid_before (slice_get net.sids n) (slice_get net.sids m) ≡ false → sid_before (slice_get net.sids m) (slice_get net.sids n) ≡ true
  apart_sids n m hn hm differ before =
      let s = sid_at net intent position n hn in
      let t = sid_at net intent position m hm in
      let same_node : s.0.node ≡ t.0.node = some_same s.0.node t.0.node (sym s.2 ∙ t.2) in
      let e : comes_before s.0.prefix t.0.prefix ≡ false
      = ap (λ o. sid_before o (Some t.0)) (sym s.1) ∙ ap (sid_before (slice_get net.sids n)) (sym t.1) ∙ before in
      let f : comes_before t.0.prefix s.0.prefix ≡ true
      = behind_prefixes s.0.prefix t.0.prefix e (λ same. differ (keeps.sid_prefix n m s.0 t.0 s.1 t.1 same_node same)) in
      ap (λ o. sid_before o (slice_get net.sids n)) t.1 ∙ ap (sid_before (Some t.0)) s.1 ∙ f

  abbrev Row_is : ℕ → List ℕ → Type 0
  Row_is k xs =
      record {
        in_row : (m : ℕ) → Contains xs m → (m < k) × (is_sid_at net intent position m ≡ true);
        of_row : (m : ℕ) → m < k → is_sid_at net intent position m ≡ true → Contains xs m;
        order : in_order net xs ≡ true;
      }

  row_next : (k : ℕ) (xs : List ℕ) (t : Bool) → is_sid_at net intent position k ≡ t → Row_is k xs
      → Row_is (suc k) (if t then placed net k xs else xs)
  row_next k xs true e row =
      record {
        in_row = λ m h. in_it m (placed_contains net k xs m h);
        of_row = λ m below at. of_it m (cases_order m k) below at;
        order =
            placed_order net k xs row.order
            (λ m there before. let old = row.in_row m there in apart_sids k m e old.1 (λ same. absurd (omega (arith, same, old.0))) before);
      }
    where
      in_it : (m : ℕ) → (k ≡ m) ⊎ Contains xs m → (m < suc k) × (is_sid_at net intent position m ≡ true)
      in_it m (inl same) = (omega arith, subst (λ (j : ℕ). is_sid_at net intent position j ≡ true) same e)
      in_it m (inr there) = let old = row.in_row m there in (omega (arith, old.0), old.1)

      of_it : (m : ℕ) → ((m ≡ k) ⊎ ((m < k) ⊎ (k < m))) → m < suc k → is_sid_at net intent position m ≡ true → Contains (placed net k xs) m
      of_it m (inl same) below at = subst (λ (j : ℕ). Contains (placed net k xs) j) (sym same) (placed_itself net k xs)
      of_it m (inr (inl lower)) below at = placed_others net k xs m (row.of_row m lower at)
      of_it m (inr (inr above)) below at = absurd (omega arith)
  row_next k xs false e row =
      record {
        in_row = λ m h. let old = row.in_row m h in (omega (arith, old.0), old.1);
        of_row = λ m below at. of_it m (cases_order m k) below at;
        order = row.order;
      }
    where
      of_it : (m : ℕ) → ((m ≡ k) ⊎ ((m < k) ⊎ (k < m))) → m < suc k → is_sid_at net intent position m ≡ true → Contains xs m
      of_it m (inl same) below at = absurd (both_ways _ e (subst (λ (j : ℕ). is_sid_at net intent position j ≡ true) same at))
      of_it m (inr (inl lower)) below at = row.of_row m lower at
      of_it m (inr (inr above)) below at = absurd (omega arith)

  row_is : (k : ℕ) → Row_is k (sids_below net intent position k)
  unfolding sids_below
  row_is zero =
      record {
        in_row = λ m h. absurd (omega (arith, h.1));
        of_row = λ m below at. absurd (omega arith);
        order = refl;
      }
  row_is (suc k) = row_next k (sids_below net intent position k) (is_sid_at net intent position k) refl (row_is k)

  pub are_sids : AreSidsAt net intent position (sids_of net intent position)
  are_sids =
      let row = row_is (length net.sids) in
      record {
        each = λ n. (
          λ h. (row.in_row n h).1,
          λ at. let s = sid_at net intent position n at in row.of_row n
              (slice_get_within net.sids n s.0 s.1) at,
        );
        order = row.order;
      }

  -- not more of them than SIDs at their node
  row_count : (node : ℕ) → node_at net intent position ≡ Some node → (k : ℕ) → k ≤ length net.sids
      → length (sids_below net intent position k) ≤ count_by (is_sid_of node) (take k net.sids)
  unfolding sids_below
  row_count node stands zero h = omega arith
  row_count node stands (suc k) h = by_test (is_sid_at net intent position k) refl (row_count node stands k (omega arith))
    where
      by_test : (t : Bool) → is_sid_at net intent position k ≡ t
          → length (sids_below net intent position k) ≤ count_by (is_sid_of node) (take k net.sids)
          → length (if t then placed net k (sids_below net intent position k) else sids_below net intent position k)
          ≤ count_by (is_sid_of node) (take (suc k) net.sids)
      by_test true e ih =
          let s = sid_at net intent position k e in
          let same : s.0.node ≡ node = some_same s.0.node node (sym s.2 ∙ stands) in
          let got : get_or net.sids k s.0 ≡ s.0 = get_or_from_slice_get net.sids k s.0 s.0 s.1 in
          let passes : is_sid_of node (get_or net.sids k s.0) ≡ true = ap (is_sid_of node) got ∙ eq-eqb s.0.node node same in
          let more = count_by_more_yes (is_sid_of node) net.sids k s.0 h passes in
          let more2 : count_by (is_sid_of node) (take (suc k) net.sids) ≡ count_by (is_sid_of node) (take k net.sids) + 1
          = ap (λ (j : ℕ). count_by (is_sid_of node) (take j net.sids)) (sym (add-one k)) ∙ more in
          let len = placed_length net k (sids_below net intent position k) in
          omega arith
      by_test false e ih = let more = count_take (is_sid_of node) net.sids k h in omega arith

  pub sids_few : length (sids_of net intent position) ≤ 64
  sids_few = by_row (sids_of net intent position) refl
    where
      by_row : (row : List ℕ) → sids_of net intent position ≡ row → length (sids_of net intent position) ≤ 64
      by_row [] e = let f : length (sids_of net intent position) ≡ 0 = ap length e in omega arith
      by_row (n ∷ ns) e =
          let there : Contains (sids_of net intent position) n = subst (λ (r : List ℕ). Contains r n) (sym e) (contains_first n ns) in
          let s = sid_at net intent position n ((are_sids.each n).0 there) in
          let few = (keeps.sid n s.0 s.1).room in
          let all = row_count s.0.node s.2 (length net.sids) (omega arith) in
          let whole : count_by (is_sid_of s.0.node) (take (length net.sids) net.sids) ≡ count_by (is_sid_of s.0.node) net.sids
          = ap (count_by (is_sid_of s.0.node)) (take-length net.sids) in
          omega arith

  -- a SID of the position is there
  pub sid_within : (n : ℕ) → Contains (sids_of net intent position) n → n < length net.sids
  sid_within n h = let s = sid_at net intent position n ((are_sids.each n).0 h) in slice_get_within net.sids n s.0 s.1
