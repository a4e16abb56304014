-- The tables of a network while they are filled, entry by entry.
use Rattle.std.proofs.Common.{◌≡◌, ◌↔◌, ℕ, suc, ◌+◌, ◌<◌, Bool, true, false, ◌==◌, ◌&&◌, cond, List, [], ◌∷◌, ◌++◌, length, get_or, take, Option, Some, None, refl, sym, ap, ◌∙◌, subst, arith, inl, inr}
use Rattle.std.specs.Prelude.{not}
use Rattle.std.specs.Option.{unwrap_or}
use Rattle.std.specs.Ordering.{is_eq}
use Rattle.std.specs.Map.{lookup}
use Rattle.std.specs.BTreeMap.{BTreeMap}
use Rattle.std.specs.BTreeMap as map
use Rattle.std.specs.BTreeSet.{BTreeSet}
use Rattle.std.specs.BTreeSet as tree
use Rattle.std.proofs.lemmas.Bool.{cases_Bool, both_ways, and_parts, and_from, eqb-true, eq-eqb}
use Rattle.std.proofs.lemmas.List.{take_more, length-take-le}
use Rattle.std.proofs.lemmas.List.Elements.{Contains-append_left, Contains-push, Contains-push_cases}
use Rattle.v6_addr.specs.Address.{PrefixValue}
use Rattle.prefix_table.specs.PrefixTable.{HasPrefix}
use Rattle.srv6_rules.specs.declared.family.Family.{Family}
use Rattle.net_model.specs.declared.net.Hit.{Hit}
use Rattle.net_model.specs.declared.route_set.EntryKey.{EntryKey}
use Rattle.net_model.specs.declared.lookup_tables.TableKey.{TableKey}
use Rattle.net_model.specs.declared.lookup_tables.TableEntry.{TableEntry}
use Rattle.net_model.specs.Best.{Entry}
use Rattle.net_model.specs.NetworkRules.{same_family}
use Rattle.net_model.specs.EntryKeys.{entry_key_cmp, entry_key}
use Rattle.net_model.specs.LookupTables.{HitTable, table_key_cmp, table_key, table_at, is_entry_of, entries_at, entries_from, IsExact, AnswerFor, AreTaken, HasOneMore}
use Rattle.net_model.proofs.EntryLemmas.{same_family_is}
use Rattle.net_model.proofs.RouteSetLemmas.{number_is_eq, family_is_eq, both_eq, entry_keys_tell}
use Rattle.net_model.proofs.AnswerLemmas.{exact_new, exact_old, exact_none}

-- ---- the keys

and_last : (a b c d : Bool) → (a && (b && (c && d))) ≡ ((a && (b && c)) && d)
and_last true true true d = refl
and_last true true false d = refl
and_last true false c d = refl
and_last false b c d = refl

pub table_key_is : (e : TableEntry) (node table : ℕ) (family : Family)
    → is_eq (table_key_cmp (table_key e.node e.table e.family) (table_key node table family)) ≡ is_entry_of node table family e
table_key_is e node table family =
    both_eq _ _ _ _ (number_is_eq e.node node) (both_eq _ _ _ _ (number_is_eq e.table table) (family_is_eq e.family family))

entry_key_is : (e : TableEntry) (node table : ℕ) (family : Family) (p : PrefixValue)
    → is_eq (entry_key_cmp (entry_key e.node e.table e.family e.prefix) (entry_key node table family p))
    ≡ (is_entry_of node table family e && ((e.prefix.value == p.value) && (e.prefix.len == p.len)))
entry_key_is e node table family p =
    entry_keys_tell e.node e.table e.family e.prefix node table family p
    ∙ and_last (e.node == node) (e.table == table) (same_family e.family family) _

pub same_place : (P : ℕ → ℕ → Family → Type 0) (e : TableEntry) (node table : ℕ) (family : Family) → is_entry_of node table family e ≡ true
    → P e.node e.table e.family → P node table family
same_place P e node table family is p =
    let parts = and_parts _ _ is in
    let more = and_parts _ _ parts.1 in
    subst (λ (f : Family). P node table f) (same_family_is e.family family more.1)
    (subst (λ t. P node t e.family) (eqb-true _ _ more.0) (subst (λ n. P n e.table e.family) (eqb-true _ _ parts.0) p))

same_prefix_from : (p q : PrefixValue) → ((p.value == q.value) && (p.len == q.len)) ≡ true → p ≡ q
same_prefix_from p q is =
    let parts = and_parts (p.value == q.value) (p.len == q.len) is in
    λ i. record { value = eqb-true p.value q.value parts.0 i; len = eqb-true p.len q.len parts.1 i }

same_prefix_to : (p q : PrefixValue) → p ≡ q → ((p.value == q.value) && (p.len == q.len)) ≡ true
same_prefix_to p q is =
    and_from _ _ (eq-eqb p.value q.value (ap (λ (r : PrefixValue). r.value) is)) (eq-eqb p.len q.len (ap (λ (r : PrefixValue). r.len) is))

-- ---- a table is taken out and put back with one entry more

pub one_more : (e : TableEntry) (old mid new : BTreeMap TableKey HitTable) (t u : HitTable)
    → t ≡ table_at old e.node e.table e.family
    → map.UpdatesBy table_key_cmp (table_key_cmp (table_key e.node e.table e.family)) old mid None
    → u ≡ t ++ (e.prefix, e.hit) ∷ []
    → map.UpdatesBy table_key_cmp (table_key_cmp (table_key e.node e.table e.family)) mid new (Some u)
    → HasOneMore e old new
one_more e old mid new t u is_t out is_u back node table family =
    let key = table_key node table family in
    let found : map.get table_key_cmp new key ≡ cond (is_entry_of node table family e) (Some u) (map.get table_key_cmp mid key) =
    back.0 key ∙ ap (λ b. cond b (Some u) (map.get table_key_cmp mid key)) (table_key_is e node table family) in
    let left : map.get table_key_cmp mid key ≡ cond (is_entry_of node table family e) None (map.get table_key_cmp old key) =
    out.0 key ∙ ap (λ b. cond b None (map.get table_key_cmp old key)) (table_key_is e node table family) in
    elim (cases_Bool (is_entry_of node table family e)) [
      | inl here ↦ let one : t ≡ table_at old node table family =
          same_place (λ n m f. t ≡ table_at old n m f) e node table family here is_t in
          let got : map.get table_key_cmp new key ≡ Some u = rw here at found in
          rw here (ap (λ (o : Option HitTable). unwrap_or o []) got ∙ is_u ∙ ap (λ (v : HitTable). v ++ (e.prefix, e.hit) ∷ []) one)
      | inr apart ↦ let got : map.get table_key_cmp new key ≡ map.get table_key_cmp mid key = rw apart at found in
          let was : map.get table_key_cmp mid key ≡ map.get table_key_cmp old key = rw apart at left in
          rw apart (ap (λ (o : Option HitTable). unwrap_or o []) (got ∙ was))
    ]

-- ---- the prefixes that are taken

pub not_there : (b c : Bool) → b ≡ true → b ≡ not c → ¬ (c ≡ true)
not_there true true is e h = cc
not_there true false is e h = cc
not_there false c is e h = cc

pub is_there : (b c : Bool) → b ≡ false → b ≡ not c → c ≡ true
is_there b true is e = refl
is_there true false is e = cc
is_there false false is e = cc

still_told : (c d : Bool) (P Q : Type 0) → d ≡ c → (c ≡ true) ↔ P → (P → Q) → (Q → P) → (d ≡ true) ↔ Q
still_told c d P Q e told to from = (λ h. to (told.0 (sym e ∙ h)), λ q. e ∙ told.1 (from q))

has_behind : (t : HitTable) (p q : PrefixValue) (h : Hit) → HasPrefix t q → HasPrefix (t ++ (p, h) ∷ []) q
has_behind t p q h has = (has.0, Contains-append_left t ((p, h) ∷ []) (q, has.0) has.1)

has_before : (t : HitTable) (p q : PrefixValue) (h : Hit) → ¬ (p ≡ q) → HasPrefix (t ++ (p, h) ∷ []) q → HasPrefix t q
has_before t p q h other has =
    elim (Contains-push_cases t (p, h) (q, has.0) has.1) [
      | inl among ↦ (has.0, among)
      | inr is ↦ absurd (other (ap (λ (e : PrefixValue × Hit). e.0) is))
    ]

has_new : (t : HitTable) (p q : PrefixValue) (h : Hit) → p ≡ q → HasPrefix (t ++ (p, h) ∷ []) q
has_new t p q h is = subst (λ r. HasPrefix (t ++ (p, h) ∷ []) r) is (h, Contains-push t (p, h))

pub taken_more : (e : TableEntry) (taken now : BTreeSet EntryKey) (old new : BTreeMap TableKey HitTable) → AreTaken taken old
    → HasOneMore e old new → tree.Updates entry_key_cmp taken now (entry_key e.node e.table e.family e.prefix) true → AreTaken now new
taken_more e taken now old new are more update node table family p =
    let key = entry_key node table family p in
    let was = tree.contains entry_key_cmp taken key in
    let told : tree.contains entry_key_cmp now key
    ≡ cond (is_entry_of node table family e && ((e.prefix.value == p.value) && (e.prefix.len == p.len))) true was =
    update.0 key ∙ ap (λ b. cond b true was) (entry_key_is e node table family p) in
    elim (cases_Bool (is_entry_of node table family e)) [
      | inl here ↦ let longer : table_at new node table family ≡ table_at old node table family ++ (e.prefix, e.hit) ∷ [] =
          rw here at (more node table family) in
          elim (cases_Bool ((e.prefix.value == p.value) && (e.prefix.len == p.len))) [
            | inl same ↦ (
              λ _. subst (λ (t : HitTable). HasPrefix t p) (sym longer)
                  (has_new (table_at old node table family) e.prefix p e.hit (same_prefix_from e.prefix p same)),
              λ _. rw (here, same) at told,
            )
            | inr other ↦ let kept : tree.contains entry_key_cmp now key ≡ was = rw (here, other) at told in
                still_told was _ _ _ kept (are node table family p)
                (λ has. subst (λ (t : HitTable). HasPrefix t p) (sym longer) (has_behind _ e.prefix p e.hit has))
                (λ has. has_before _ e.prefix p e.hit (λ is. both_ways _ other (same_prefix_to e.prefix p is))
                (subst (λ (t : HitTable). HasPrefix t p) longer has))
          ]
      | inr apart ↦ let same : table_at new node table family ≡ table_at old node table family = rw apart at (more node table family) in
          let kept : tree.contains entry_key_cmp now key ≡ was = rw apart at told in
          still_told was _ _ _ kept (are node table family p) (λ has. subst (λ (t : HitTable). HasPrefix t p) (sym same) has)
          (λ has. subst (λ (t : HitTable). HasPrefix t p) same has)
    ]

-- ---- what the tables answer for

pub entries_at_append : (es fs : List TableEntry) (node table : ℕ) (family : Family)
    → entries_at (es ++ fs) node table family ≡ entries_at es node table family ++ entries_at fs node table family
entries_at_append [] fs node table family = refl
entries_at_append (e ∷ es) fs node table family =
    elim (cases_Bool (is_entry_of node table family e)) [
      | inl here ↦ rw (here, entries_at_append es fs node table family) refl
      | inr apart ↦ rw (apart, entries_at_append es fs node table family) refl
    ]

nothing_more : (es : List Entry) → es ++ [] ≡ es
nothing_more [] = refl
nothing_more (e ∷ es) = ap (λ fs. e ∷ fs) (nothing_more es)

entries_here : (es : List TableEntry) (e : TableEntry) (node table : ℕ) (family : Family) → is_entry_of node table family e ≡ true
    → entries_at (es ++ e ∷ []) node table family ≡ entries_at es node table family ++ record { hit = e.hit; prefix = e.prefix } ∷ []
entries_here es e node table family here = entries_at_append es (e ∷ []) node table family ∙ rw here refl

entries_apart : (es : List TableEntry) (e : TableEntry) (node table : ℕ) (family : Family) → is_entry_of node table family e ≡ false
    → entries_at (es ++ e ∷ []) node table family ≡ entries_at es node table family
entries_apart es e node table family apart =
    entries_at_append es (e ∷ []) node table family ∙ rw apart (nothing_more (entries_at es node table family))

pub answer_more : (e : TableEntry) (before : List TableEntry) (old new : BTreeMap TableKey HitTable)
    → ¬ HasPrefix (table_at old e.node e.table e.family) e.prefix → HasOneMore e old new → AnswerFor before old
    → AnswerFor (before ++ e ∷ []) new
answer_more e before old new is_new more answers node table family =
    elim (cases_Bool (is_entry_of node table family e)) [
      | inl here ↦ let longer : table_at new node table family ≡ table_at old node table family ++ (e.prefix, e.hit) ∷ [] =
          rw here at (more node table family) in
          subst (λ (t : HitTable). IsExact (entries_at (before ++ e ∷ []) node table family) t) (sym longer)
          (subst (λ (es : List Entry). IsExact es (table_at old node table family ++ (e.prefix, e.hit) ∷ []))
          (sym (entries_here before e node table family here))
          (exact_new (entries_at before node table family) (table_at old node table family)
          (record { hit = e.hit; prefix = e.prefix }) (answers node table family)
          (same_place (λ n m f. ¬ HasPrefix (table_at old n m f) e.prefix) e node table family here is_new)))
      | inr apart ↦ let same : table_at new node table family ≡ table_at old node table family = rw apart at (more node table family) in
          subst (λ (t : HitTable). IsExact (entries_at (before ++ e ∷ []) node table family) t) (sym same)
          (subst (λ (es : List Entry). IsExact es (table_at old node table family))
          (sym (entries_apart before e node table family apart)) (answers node table family))
    ]

pub answer_same : (e : TableEntry) (before : List TableEntry) (tables : BTreeMap TableKey HitTable)
    → HasPrefix (table_at tables e.node e.table e.family) e.prefix → AnswerFor before tables → AnswerFor (before ++ e ∷ []) tables
answer_same e before tables has answers node table family =
    elim (cases_Bool (is_entry_of node table family e)) [
      | inl here ↦ subst (λ (es : List Entry). IsExact es (table_at tables node table family))
          (sym (entries_here before e node table family here))
          (exact_old (entries_at before node table family) (table_at tables node table family)
          (record { hit = e.hit; prefix = e.prefix }) (answers node table family)
          (same_place (λ n m f. HasPrefix (table_at tables n m f) e.prefix) e node table family here has))
      | inr apart ↦ subst (λ (es : List Entry). IsExact es (table_at tables node table family))
          (sym (entries_apart before e node table family apart)) (answers node table family)
    ]

-- ---- no entries, and one item more

empty_table : (tables : BTreeMap TableKey HitTable) (node table : ℕ) (family : Family) → tables.entries ≡ []
    → table_at tables node table family ≡ []
empty_table tables node table family none =
    ap (λ (es : List (TableKey × HitTable)). unwrap_or (lookup (λ k. is_eq (table_key_cmp (table_key node table family) k)) es) []) none

pub answer_none : (tables : BTreeMap TableKey HitTable) → tables.entries ≡ [] → AnswerFor [] tables
answer_none tables none node table family =
    subst (λ (t : HitTable). IsExact [] t) (sym (empty_table tables node table family none)) exact_none

entries_from_push : {X : Type 0} (entry : ℕ → X → TableEntry) (n : ℕ) (xs : List X) (x : X)
    → entries_from entry n (xs ++ x ∷ []) ≡ entries_from entry n xs ++ entry (n + length xs) x ∷ []
entries_from_push entry n [] x = let same : n ≡ n + 0 = omega arith in ap (λ k. entry k x ∷ []) same
entries_from_push entry n (y ∷ ys) x =
    let same : n + 1 + length ys ≡ n + suc (length ys) = omega arith in
    ap (λ es. entry n y ∷ es) (entries_from_push entry (n + 1) ys x ∙ ap (λ k. entries_from entry (n + 1) ys ++ entry k x ∷ []) same)

pub entries_more : {X : Type 0} (entry : ℕ → X → TableEntry) (xs : List X) (i : ℕ) (x : X) → i < length xs → x ≡ get_or xs i x
    → entries_from entry 0 (take (i + 1) xs) ≡ entries_from entry 0 (take i xs) ++ entry i x ∷ []
entries_more entry xs i x within is =
    ap (entries_from entry 0) (take_more xs i x within ∙ sym (ap (λ y. take i xs ++ y ∷ []) is))
    ∙ (entries_from_push entry 0 (take i xs) x
    ∙ ap (λ k. entries_from entry 0 (take i xs) ++ entry k x ∷ []) (omega (arith, length-take-le i xs (omega (arith, within)))))
