-- The SIDs of a position: which they are, in which order, and how many.
use Rattle.std.proofs.Common.{◌≡◌, ℕ, zero, suc, ◌<◌, ◌≤◌, ◌⊎◌, inl, inr, Bool, true, false, if◌then◌else◌, List, [], ◌∷◌, length, Option, Some, None, slice_get, Contains, refl, sym, ◌∙◌, ap, subst, arith}
use Rattle.std.proofs.lemmas.Bool.{false≢true, and_parts, and_from, cases_order, both_ways}
use Rattle.std.proofs.lemmas.Option.{slice_get_within}
use Rattle.v6_addr.specs.Address.{PrefixValue}
use Rattle.srv6_rules.specs.declared.sid.SidEntry.{SidEntry}
use Rattle.net_model.specs.Network.{Network}
use Rattle.net_model.specs.NetworkKeeps.{Keeps}
use Rattle.intent_reader.specs.declared.intent.Intent.{Intent}
use Rattle.list_pack.specs.ListOrder.{lex_before}
use Rattle.list_pack.specs.LegsValueTerms.{ascends}
use Rattle.list_pack.proofs.ListOrders.{head_less, head_not, head_same}
use Rattle.intent_traces.specs.declared.trace_steps.TraceStep.{TraceStep}
use Rattle.leg_table.specs.StrictTable.{node_by, node_of, shape_by, shape_of}
use Rattle.leg_table.proofs.StrictPositions.{contains_first, contains_later, contains_cases, put_contains, put_itself, put_length, put_others}
use Rattle.loose_spec.specs.LooseSids.{is_sid_at, sid_suits, step_before}
use Rattle.loose_spec.specs.LooseSteps.{node_at}
use Rattle.loose_spec.specs.LooseLegsValue.{comes_before, loose_legs_value, placed, sids_below, sids_of}

-- ---- an order in which of two that differ one comes first

-- of two keys one comes first, or they are the same
pub keys_apart : (a b c d e f : ℕ) → lex_before (a ∷ b ∷ c ∷ []) (d ∷ e ∷ f ∷ []) ≡ false
    → ((a ≡ d) × (b ≡ e) × (c ≡ f)) ⊎ (lex_before (d ∷ e ∷ f ∷ []) (a ∷ b ∷ c ∷ []) ≡ true)
keys_apart a b c d e f h = first (head_not a d (b ∷ c ∷ []) (e ∷ f ∷ []) h)
  where
    third : a ≡ d → b ≡ e → (f < c) ⊎ ((c ≡ f) × (lex_before [] [] ≡ false))
        → ((a ≡ d) × (b ≡ e) × (c ≡ f)) ⊎ (lex_before (d ∷ e ∷ f ∷ []) (a ∷ b ∷ c ∷ []) ≡ true)
    third x y (inl less) =
        inr (head_same d a (e ∷ f ∷ []) (b ∷ c ∷ []) (sym x) (head_same e b (f ∷ []) (c ∷ []) (sym y) (head_less f c [] [] less)))
    third x y (inr same) = inl (x, y, same.0)

    second : a ≡ d → (e < b) ⊎ ((b ≡ e) × (lex_before (c ∷ []) (f ∷ []) ≡ false))
        → ((a ≡ d) × (b ≡ e) × (c ≡ f)) ⊎ (lex_before (d ∷ e ∷ f ∷ []) (a ∷ b ∷ c ∷ []) ≡ true)
    second x (inl less) = inr (head_same d a (e ∷ f ∷ []) (b ∷ c ∷ []) (sym x) (head_less e b (f ∷ []) (c ∷ []) less))
    second x (inr same) = third x same.0 (head_not c f [] [] same.1)

    first : (d < a) ⊎ ((a ≡ d) × (lex_before (b ∷ c ∷ []) (e ∷ f ∷ []) ≡ false))
        → ((a ≡ d) × (b ≡ e) × (c ≡ f)) ⊎ (lex_before (d ∷ e ∷ f ∷ []) (a ∷ b ∷ c ∷ []) ≡ true)
    first (inl less) = inr (head_less d a (e ∷ f ∷ []) (b ∷ c ∷ []) less)
    first (inr same) = second same.0 (head_not b e (c ∷ []) (f ∷ []) same.1)

same_prefix : (p q : PrefixValue) → p.value ≡ q.value → p.len ≡ q.len → p ≡ q
same_prefix p q e f = ap (λ (v : ℕ). record p { value = v }) e ∙ ap (λ (l : ℕ). record p { value = q.value; len = l }) f

module _ (net : Network) (keeps : Keeps net) (intent : Intent) (steps : List TraceStep) where
  abbrev in_order : List ℕ → Bool
  in_order = ascends (loose_legs_value net intent steps)

  apart : (n m : ℕ) (s t : SidEntry) → slice_get net.sids n ≡ Some s → slice_get net.sids m ≡ Some t → (n ≡ m → ⊥)
      → comes_before net n m ≡ false → comes_before net m n ≡ true
  apart n m s t is_s is_t differ h =
      by_case (keys_apart (shape_of net n).prefix.value (shape_of net n).prefix.len (node_of net n) (shape_of net m).prefix.value
      (shape_of net m).prefix.len (node_of net m) h)
    where
      shape_s : (shape_of net n).prefix ≡ s.prefix
      shape_s = ap (λ (o : Option SidEntry). (shape_by net.blocks o).prefix) is_s

      shape_t : (shape_of net m).prefix ≡ t.prefix
      shape_t = ap (λ (o : Option SidEntry). (shape_by net.blocks o).prefix) is_t

      by_case : (((shape_of net n).prefix.value ≡ (shape_of net m).prefix.value)
          × ((shape_of net n).prefix.len ≡ (shape_of net m).prefix.len)
          × (node_of net n ≡ node_of net m)) ⊎ (comes_before net m n ≡ true) → comes_before net m n ≡ true
      by_case (inr less) = less
      by_case (inl same) =
          let prefix : s.prefix ≡ t.prefix
          = sym shape_s ∙ same_prefix (shape_of net n).prefix (shape_of net m).prefix same.0 same.1 ∙ shape_t in
          let node : s.node ≡ t.node = sym (ap node_by is_s) ∙ same.2 ∙ ap node_by is_t in
          absurd (differ (keeps.sid_prefix n m s t is_s is_t node prefix))

  placed_contains : (n : ℕ) (xs : List ℕ) (m : ℕ) → Contains (placed net n xs) m → (n ≡ m) ⊎ Contains xs m
  placed_contains n [] m h = contains_cases n m [] h
  placed_contains n (x ∷ xs) m h =
      put_contains (comes_before net n x) n x m xs (placed net n xs) (λ h. placed_contains n xs m h) h

  placed_itself : (n : ℕ) (xs : List ℕ) → Contains (placed net n xs) n
  placed_itself n [] = contains_first n []
  placed_itself n (x ∷ xs) = put_itself (comes_before net n x) n x xs (placed net n xs) (placed_itself n xs)

  placed_others : (n : ℕ) (xs : List ℕ) (m : ℕ) → Contains xs m → Contains (placed net n xs) m
  placed_others n [] m h = contains_later n m [] h
  placed_others n (x ∷ xs) m h = put_others (comes_before net n x) n x m xs (placed net n xs) (λ h. placed_others n xs m h) h

  placed_length : (n : ℕ) (xs : List ℕ) → length (placed net n xs) ≡ suc (length xs)
  placed_length n [] = refl
  placed_length n (x ∷ xs) = put_length (comes_before net n x) n x xs (placed net n xs) (placed_length n xs)

  -- a number put into its place keeps the order, where it is before or after each other
  placed_order : (n : ℕ) (xs : List ℕ) → in_order xs ≡ true
      → ((m : ℕ) → Contains xs m → comes_before net n m ≡ false → comes_before net m n ≡ true)
      → in_order (placed net n xs) ≡ true
  placed_order n [] order other = refl
  placed_order n (m ∷ []) order other = by_test (comes_before net n m) refl
    where
      by_test : (t : Bool) → comes_before net n m ≡ t → in_order (if t then n ∷ m ∷ [] else m ∷ n ∷ []) ≡ true
      by_test true e = and_from (comes_before net n m) true e refl
      by_test false e = and_from (comes_before net m n) true (other m (contains_first m []) e) refl
  placed_order n (m ∷ k ∷ ks) order other =
      by_test (comes_before net n m) refl (placed_order n (k ∷ ks) parts.1 (λ j there. other j (contains_later m j (k ∷ ks) there)))
    where
      parts : (comes_before net m k ≡ true) × (in_order (k ∷ ks) ≡ true)
      parts = and_parts (comes_before net m k) (in_order (k ∷ ks)) order

      by_test : (t : Bool) → comes_before net n m ≡ t → in_order (placed net n (k ∷ ks)) ≡ true
          → in_order (if t then n ∷ m ∷ k ∷ ks else m ∷ placed net n (k ∷ ks)) ≡ true
      by_test true e later = and_from (comes_before net n m) (in_order (m ∷ k ∷ ks)) e order
      by_test false e later = by_next (comes_before net n k) later
        where
          by_next : (u : Bool) → in_order (if u then n ∷ k ∷ ks else k ∷ placed net n ks) ≡ true
              → in_order (m ∷ (if u then n ∷ k ∷ ks else k ∷ placed net n ks)) ≡ true
          by_next true later =
              and_from (comes_before net m n) (in_order (n ∷ k ∷ ks)) (other m (contains_first m (k ∷ ks)) e) later
          by_next false later = and_from (comes_before net m k) (in_order (k ∷ placed net n ks)) parts.0 later

  -- ---- the SIDs of a position

  module _ (position : ℕ) where
    pub sid_there : (n : ℕ) → is_sid_at net intent steps position n ≡ true → (s : SidEntry) × (slice_get net.sids n ≡ Some s)
    sid_there n h = by_sid (slice_get net.sids n) refl h
      where
        by_sid : (o : Option SidEntry) → slice_get net.sids n ≡ o
            → sid_suits n (slice_get steps position) (node_at net intent steps position)
            (step_before steps position) o ≡ true
            → (s : SidEntry) × (slice_get net.sids n ≡ Some s)
        by_sid None e h = absurd (false≢true h)
        by_sid (Some s) e h = (s, e)

    record IsRow (k : ℕ) (xs : List ℕ) : Type 0 where
      in_row : (m : ℕ) → Contains xs m → (m < k) × (is_sid_at net intent steps position m ≡ true)
      of_row : (m : ℕ) → m < k → is_sid_at net intent steps position m ≡ true → Contains xs m
      order : in_order xs ≡ true
      few : length xs ≤ k

    row_next : (k : ℕ) (xs : List ℕ) (t : Bool) → is_sid_at net intent steps position k ≡ t → IsRow k xs
        → IsRow (suc k) (if t then placed net k xs else xs)
    row_next k xs true e row =
        record {
          in_row = λ m h. in_it m (placed_contains k xs m h);
          of_row = λ m below at. of_it m (cases_order m k) below at;
          order = placed_order k xs row.order others;
          few = (let len = placed_length k xs in let old = row.few in omega (arith, len, old));
        }
      where
        others : (m : ℕ) → Contains xs m → comes_before net k m ≡ false → comes_before net m k ≡ true
        others m there before =
            let old = row.in_row m there in
            let s = sid_there k e in
            let t = sid_there m old.1 in
            apart k m s.0 t.0 s.1 t.1 (λ same. absurd (omega (arith, same, old.0))) before

        in_it : (m : ℕ) → (k ≡ m) ⊎ Contains xs m → (m < suc k) × (is_sid_at net intent steps position m ≡ true)
        in_it m (inl same) = (omega arith, subst (λ (j : ℕ). is_sid_at net intent steps position j ≡ true) same e)
        in_it m (inr there) = let old = row.in_row m there in (omega (arith, old.0), old.1)

        of_it : (m : ℕ) → ((m ≡ k) ⊎ ((m < k) ⊎ (k < m))) → m < suc k → is_sid_at net intent steps position m ≡ true
            → Contains (placed net k xs) m
        of_it m (inl same) below at = subst (λ (j : ℕ). Contains (placed net k xs) j) (sym same) (placed_itself k xs)
        of_it m (inr (inl lower)) below at = placed_others k xs m (row.of_row m lower at)
        of_it m (inr (inr above)) below at = absurd (omega arith)
    row_next k xs false e row =
        record {
          in_row = λ m h. let old = row.in_row m h in (omega (arith, old.0), old.1);
          of_row = λ m below at. of_it m (cases_order m k) below at;
          order = row.order;
          few = (let old = row.few in omega (arith, old));
        }
      where
        of_it : (m : ℕ) → ((m ≡ k) ⊎ ((m < k) ⊎ (k < m))) → m < suc k → is_sid_at net intent steps position m ≡ true → Contains xs m
        of_it m (inl same) below at =
            absurd (both_ways _ e (subst (λ (j : ℕ). is_sid_at net intent steps position j ≡ true) same at))
        of_it m (inr (inl lower)) below at = row.of_row m lower at
        of_it m (inr (inr above)) below at = absurd (omega arith)

    row_is : (k : ℕ) → IsRow k (sids_below net intent steps position k)
    unfolding sids_below
    row_is zero =
        record {
          in_row = λ m h. absurd (omega (arith, h.1));
          of_row = λ m below at. absurd (omega arith);
          order = refl;
          few = omega arith;
        }
    row_is (suc k) =
        row_next k (sids_below net intent steps position k) (is_sid_at net intent steps position k) refl (row_is k)

    pub sid_contained : (n : ℕ) → is_sid_at net intent steps position n ≡ true → Contains (sids_of net intent steps position) n
    sid_contained n at = let s = sid_there n at in (row_is (length net.sids)).of_row n (slice_get_within net.sids n s.0 s.1) at

    pub sids_ordered : in_order (sids_of net intent steps position) ≡ true
    sids_ordered = (row_is (length net.sids)).order

    pub sids_few : length (sids_of net intent steps position) ≤ length net.sids
    sids_few = (row_is (length net.sids)).few

    pub contained_sid : (n : ℕ) → Contains (sids_of net intent steps position) n → is_sid_at net intent steps position n ≡ true
    contained_sid n h = ((row_is (length net.sids)).in_row n h).1
