-- The tables after an entry comes or goes.
use Rattle.std.proofs.Common.{◌≡◌, ℕ, ◌+◌, ◌<◌, ◌≤◌, Bool, true, false, ◌&&◌, cond, List, [], ◌∷◌, ◌++◌, length, get_or, drop, Option, Some, None, refl, sym, ap, ◌∙◌, subst, inl, inr}
use Rattle.std.specs.Prelude.{if◌then◌else◌, Contains, slice_get, is_some, IsSome, Result, Ok, Err, OnErr}
use Rattle.std.specs.List.{filter}
use Rattle.std.specs.Option.{unwrap_or}
use Rattle.std.specs.Ordering.{is_eq}
use Rattle.std.specs.Map.{lookup}
use Rattle.std.specs.BTreeMap.{BTreeMap}
use Rattle.std.specs.BTreeMap as map
use Rattle.std.proofs.lemmas.Bool.{cases_Bool, both_ways, and_parts, and_from, eqb-true, eq-eqb, false≢true}
use Rattle.std.proofs.lemmas.List.{drop_more, drop_all}
use Rattle.std.proofs.lemmas.Option.{none-some, same_Some}
use Rattle.v6_addr.specs.Address.{PrefixValue}
use Rattle.prefix_table.specs.PrefixTable.{HasPrefix, is_one_prefix, value_at, with_value}
use Rattle.prefix_table.proofs.PublicLaws.{one_from, one_to, there_tells, value_pushed, value_with}
use Rattle.srv6_rules.specs.declared.family.Family.{Family}
use Rattle.srv6_rules.specs.declared.sid.SidEntry.{SidEntry}
use Rattle.net_model.specs.declared.parts.NetParts.{NetParts}
use Rattle.net_model.specs.declared.parts.Route.{Route}
use Rattle.net_model.specs.declared.hidden.Hidden.{Hidden}
use Rattle.net_model.specs.declared.net.EntryId.{EntryId}
use Rattle.net_model.specs.declared.net.EntryId.TheVariants as ids
use Rattle.net_model.specs.declared.net.Hit.{Hit}
use Rattle.net_model.specs.declared.net.Hit.TheVariants as hits
use Rattle.net_model.specs.declared.lookup_tables.TableKey.{TableKey}
use Rattle.net_model.specs.declared.lookup_tables.TableEntry.{TableEntry}
use Rattle.net_model.specs.Network.{Network, same_hit, is_shown, hit_of_entry}
use Rattle.net_model.specs.NetworkTerms.{network_of, network_with, hidden_hits}
use Rattle.net_model.specs.Best.{Entry, all_entries_of, entries_of}
use Rattle.net_model.specs.Entries.{IsEntryAs}
use Rattle.net_model.specs.LookupTables.{HitTable, table_key_cmp, table_key, table_at, first_on, AreTables, is_entry_of, entries_from, sid_entry, route_entry, all_entries, IsListed, first_at, stands_on, SettlesIn, Settles}
use Rattle.net_model.proofs.EntryLemmas.{contains_none, contains_cases, contains_first, contains_later, any_entry_means, entry_is_there, same_family_from}
use Rattle.net_model.proofs.FillLemmas.{table_key_is, same_place}
use Rattle.net_model.proofs.ListedLemmas.{all_at}

-- ---- one table

pub settles_with : (t : HitTable) (p : PrefixValue) (h : Hit) → HasPrefix t p → SettlesIn p (Some h) t (with_value t p h)
settles_with t p h has q = value_with t p q h has

pub settles_pushed : (t : HitTable) (p : PrefixValue) (h : Hit) → ¬ HasPrefix t p → SettlesIn p (Some h) t (t ++ (p, h) ∷ [])
settles_pushed t p h new q = value_pushed t p q h new

-- ---- one of all tables

pub settles_by : (e : TableEntry) (old new : BTreeMap TableKey HitTable) (t u : HitTable) (o : Option Hit)
    → t ≡ table_at old e.node e.table e.family
    → map.UpdatesBy table_key_cmp (table_key_cmp (table_key e.node e.table e.family)) old new (Some u)
    → SettlesIn e.prefix o t u → Settles e o old new
settles_by e old new t u o is_t update settles node table family q =
    let key = table_key node table family in
    let found : map.get table_key_cmp new key ≡ cond (is_entry_of node table family e) (Some u) (map.get table_key_cmp old key) =
    update.0 key ∙ ap (λ b. cond b (Some u) (map.get table_key_cmp old key)) (table_key_is e node table family) in
    elim (cases_Bool (is_entry_of node table family e)) [
      | inl here ↦ let got : map.get table_key_cmp new key ≡ Some u = rw here at found in
          let one : t ≡ table_at old node table family = same_place (λ n m f. t ≡ table_at old n m f) e node table family here is_t in
          rw here (ap (λ (o : Option HitTable). value_at (unwrap_or o []) q) got
          ∙ (settles q ∙ ap (λ v. if is_one_prefix e.prefix q then o else value_at v q) one))
      | inr apart ↦ let same : map.get table_key_cmp new key ≡ map.get table_key_cmp old key = rw apart at found in
          rw apart (ap (λ (o : Option HitTable). value_at (unwrap_or o []) q) same)
    ]

-- ---- where an entry stands

pub listed_is : (net : Network) (entry : EntryId) (e : TableEntry) → IsListed net entry e
    → IsEntryAs net e.node e.table e.family e.prefix (hit_of_entry entry) × (e.hit ≡ hit_of_entry entry)
listed_is net (ids.Route n) e (r, at, is) =
    subst (λ (f : TableEntry). IsEntryAs net f.node f.table f.family f.prefix (hits.Route n) × (f.hit ≡ hits.Route n)) (sym is)
    ((r, at, refl, refl, refl, refl), refl)
listed_is net (ids.Sid n) e (s, at, is) =
    subst (λ (f : TableEntry). IsEntryAs net f.node f.table f.family f.prefix (hits.Sid n) × (f.hit ≡ hits.Sid n)) (sym is)
    ((s, at, refl, refl, refl, refl), refl)
listed_is net (ids.Address n) e none = absurd none

-- an entry of a table that is the listed one has its table and its prefix
listed_where : (net : Network) (entry : EntryId) (e : TableEntry) (node table : ℕ) (family : Family) (p : PrefixValue) (h : Hit)
    → IsListed net entry e → IsEntryAs net node table family p h → same_hit (hit_of_entry entry) h ≡ true
    → (is_entry_of node table family e ≡ true) × (e.prefix ≡ p)
listed_where net (ids.Route n) e node table family p (hits.Route m) (r, at, is) (t, at_t, of, in_table, of_family, prefix) same =
    let number : n ≡ m = eqb-true n m same in
    let one : r ≡ t = same_Some r t (sym at ∙ (ap (slice_get net.routes) number ∙ at_t)) in
    subst (λ (f : TableEntry). (is_entry_of node table family f ≡ true) × (f.prefix ≡ p)) (sym is)
    (subst (λ (q : Route). (is_entry_of node table family (route_entry n q) ≡ true) × (q.prefix ≡ p)) (sym one) (
      and_from _ _ (eq-eqb t.node node of) (and_from _ _ (eq-eqb t.table table in_table) (same_family_from t.family family of_family)),
      prefix,
    ))
listed_where net (ids.Sid n) e node table family p (hits.Sid m) (s, at, is) (t, at_t, of, prefix, in_table, of_family) same =
    let number : n ≡ m = eqb-true n m same in
    let one : s ≡ t = same_Some s t (sym at ∙ (ap (slice_get net.sids) number ∙ at_t)) in
    subst (λ (f : TableEntry). (is_entry_of node table family f ≡ true) × (f.prefix ≡ p)) (sym is)
    (subst (λ (q : SidEntry). (is_entry_of node table family (sid_entry n q) ≡ true) × (q.prefix ≡ p)) (sym one) (
      and_from _ _ (eq-eqb t.node node of) (and_from _ _ (eq-eqb 0 table (sym in_table)) (same_family_from _ family (sym of_family))),
      prefix,
    ))
listed_where net (ids.Route n) e node table family p (hits.Sid m) listed is same = cc
listed_where net (ids.Route n) e node table family p hits.Address listed is same = cc
listed_where net (ids.Route n) e node table family p hits.Nothing listed is same = cc
listed_where net (ids.Sid n) e node table family p (hits.Route m) listed is same = cc
listed_where net (ids.Sid n) e node table family p hits.Address listed is same = cc
listed_where net (ids.Sid n) e node table family p hits.Nothing listed is same = cc
listed_where net (ids.Address n) e node table family p h listed is same = absurd listed

-- ---- the first on a prefix where entries come or go on another

pub first_stays : (before after : Entry → Bool) (q : PrefixValue) (es : List Entry)
    → ((x : Entry) → Contains es x → x.prefix ≡ q → after x ≡ before x)
    → first_on q (filter after es) ≡ first_on q (filter before es)
first_stays before after q [] same = refl
first_stays before after q (x ∷ es) same =
    let rest = first_stays before after q es (λ y c. same y (contains_later x es y c)) in
    elim (cases_Bool (is_one_prefix x.prefix q)) [
      | inl on ↦ ap (λ b. first_on q (cond b (x ∷ filter after es) (filter after es)))
          (same x (contains_first x es) (one_from x.prefix q on))
          ∙ keep_both (before x) rest
      | inr off ↦ skip_off (after x) (filter after es) off ∙ (rest ∙ sym (skip_off (before x) (filter before es) off))
    ]
  where
    skip_off : (b : Bool) (fs : List Entry) → is_one_prefix x.prefix q ≡ false → first_on q (cond b (x ∷ fs) fs) ≡ first_on q fs
    skip_off true fs off = rw off refl
    skip_off false fs off = refl

    keep_both : (b : Bool) → first_on q (filter after es) ≡ first_on q (filter before es)
        → first_on q (cond b (x ∷ filter after es) (filter after es)) ≡ first_on q (cond b (x ∷ filter before es) (filter before es))
    keep_both true rest = ap (λ o. if is_one_prefix x.prefix q then Some x.hit else o) rest
    keep_both false rest = rest

module _ (p : NetParts) (old new : Hidden) (entry : EntryId) (e : TableEntry) (listed : IsListed (network_of p) entry e)
    (others : (k : Hit) → same_hit (hit_of_entry entry) k ≡ false → is_shown (hidden_hits new) k ≡ is_shown (hidden_hits old) k) where
  pub tables_settled : (o : Option Hit) (before after : BTreeMap TableKey HitTable)
      → o ≡ first_on e.prefix (entries_of (network_with p new) e.node e.table e.family)
      → AreTables (network_with p old) before → Settles e o before after → AreTables (network_with p new) after
  tables_settled o before after first are settles node table family q =
      let es = all_entries_of (network_of p) node table family in
      let was : Entry → Bool = λ x. is_shown (hidden_hits old) x.hit in
      let now : Entry → Bool = λ x. is_shown (hidden_hits new) x.hit in
      elim (cases_Bool (is_entry_of node table family e && is_one_prefix e.prefix q)) [
        | inl here ↦ let both = and_parts _ _ here in
            let got : value_at (table_at after node table family) q ≡ o = rw here at (settles node table family q) in
            let there : o ≡ first_on e.prefix (entries_of (network_with p new) node table family) =
            same_place (λ n m f. o ≡ first_on e.prefix (entries_of (network_with p new) n m f)) e node table family both.0 first in
            got ∙ (there ∙ ap (λ r. first_on r (entries_of (network_with p new) node table family)) (one_from e.prefix q both.1))
        | inr apart ↦
            let got : value_at (table_at after node table family) q ≡ value_at (table_at before node table family) q =
            rw apart at (settles node table family q) in
            got ∙ (are node table family q ∙ sym (first_stays was now q es (λ x c on.
            others x.hit (elim (cases_Bool (same_hit (hit_of_entry entry) x.hit)) [
              | inl same ↦
                  let stands = listed_where (network_of p) entry e node table family x.prefix x.hit listed
                  (any_entry_means (network_of p) node table family x c) same in
                  absurd (both_ways _ apart (and_from _ _ stands.0 (one_to e.prefix q (stands.1 ∙ on))))
              | inr other ↦ other
            ]))))
      ]

-- ---- the entry is in its table

pub first_some : (q : PrefixValue) (es : List Entry) (x : Entry) → Contains es x → x.prefix ≡ q → IsSome (first_on q es)
first_some q [] x c is = absurd (contains_none x c)
first_some q (y ∷ es) x c is =
    elim (cases_Bool (is_one_prefix y.prefix q)) [
      | inl on ↦ rw on refl
      | inr off ↦ elim (contains_cases y es x c) [
        | inl same ↦ absurd (both_ways _ off (one_to y.prefix q (ap (λ (z : Entry). z.prefix) same ∙ is)))
        | inr later ↦ rw off (first_some q es x later is)
      ]
    ]

pub listed_first : (p : NetParts) (hidden : Hidden) (entry : EntryId) (e : TableEntry) → IsListed (network_of p) entry e
    → is_shown (hidden_hits hidden) (hit_of_entry entry) ≡ true
    → IsSome (first_on e.prefix (entries_of (network_with p hidden) e.node e.table e.family))
listed_first p hidden entry e listed shown =
    first_some e.prefix (entries_of (network_with p hidden) e.node e.table e.family)
    (record { hit = hit_of_entry entry; prefix = e.prefix })
    (entry_is_there (network_with p hidden) e.node e.table e.family e.prefix (hit_of_entry entry)
    (as_with entry (listed_is (network_of p) entry e listed).0) shown) refl
  where
    as_with : (entry : EntryId) → IsEntryAs (network_of p) e.node e.table e.family e.prefix (hit_of_entry entry)
        → IsEntryAs (network_with p hidden) e.node e.table e.family e.prefix (hit_of_entry entry)
    as_with (ids.Route n) is = is
    as_with (ids.Sid n) is = is
    as_with (ids.Address n) is = is

pub listed_there : (p : NetParts) (hidden : Hidden) (entry : EntryId) (e : TableEntry) (tables : BTreeMap TableKey HitTable)
    → IsListed (network_of p) entry e → is_shown (hidden_hits hidden) (hit_of_entry entry) ≡ true
    → AreTables (network_with p hidden) tables → HasPrefix (table_at tables e.node e.table e.family) e.prefix
listed_there p hidden entry e tables listed shown are =
    (there_tells (table_at tables e.node e.table e.family) e.prefix).0
    (subst IsSome (sym (are e.node e.table e.family e.prefix)) (listed_first p hidden entry e listed shown))

-- ---- the search for the first

module _ (hidden : List Hit) (at : TableEntry) where
  pub first_at_cons : (e : TableEntry) (es : List TableEntry)
      → first_at hidden at (e ∷ es) ≡ (if stands_on hidden at e then Some e.hit else first_at hidden at es)
  first_at_cons e es =
      elim (cases_Bool (is_entry_of at.node at.table at.family e)) [
        | inl here ↦ elim (cases_Bool (is_shown hidden e.hit)) [
          | inl shown ↦ elim (cases_Bool (is_one_prefix e.prefix at.prefix)) [
            | inl one ↦ rw (here, shown, one) refl
            | inr other ↦ rw (here, shown, other) refl
          ]
          | inr gone ↦ elim (cases_Bool (is_one_prefix e.prefix at.prefix)) [
            | inl one ↦ rw (here, gone, one) refl
            | inr other ↦ rw (here, gone, other) refl
          ]
        ]
        | inr apart ↦ rw apart refl
      ]

  at_stands : (e : TableEntry) (es : List TableEntry) → stands_on hidden at e ≡ true → first_at hidden at (e ∷ es) ≡ Some e.hit
  at_stands e es stands = first_at_cons e es ∙ chosen (stands_on hidden at e) stands
    where
      chosen : (b : Bool) → b ≡ true → (if b then Some e.hit else first_at hidden at es) ≡ Some e.hit
      chosen true is = refl
      chosen false is = absurd (false≢true is)

  at_passes : (e : TableEntry) (es : List TableEntry) → stands_on hidden at e ≡ false
      → first_at hidden at (e ∷ es) ≡ first_at hidden at es
  at_passes e es passes = first_at_cons e es ∙ chosen (stands_on hidden at e) passes
    where
      chosen : (b : Bool) → b ≡ false → (if b then Some e.hit else first_at hidden at es) ≡ first_at hidden at es
      chosen true is = absurd (false≢true (sym is))
      chosen false is = refl

  pub first_at_left : (es fs : List TableEntry) (h : Hit) → first_at hidden at es ≡ Some h → first_at hidden at (es ++ fs) ≡ Some h
  first_at_left [] fs h is = absurd (none-some h is)
  first_at_left (e ∷ es) fs h is =
      elim (cases_Bool (stands_on hidden at e)) [
        | inl stands ↦ at_stands e (es ++ fs) stands ∙ (sym (at_stands e es stands) ∙ is)
        | inr passes ↦ at_passes e (es ++ fs) passes ∙ first_at_left es fs h (sym (at_passes e es passes) ∙ is)
      ]

  pub first_at_right : (es fs : List TableEntry) → first_at hidden at es ≡ None
      → first_at hidden at (es ++ fs) ≡ first_at hidden at fs
  first_at_right [] fs is = refl
  first_at_right (e ∷ es) fs is =
      elim (cases_Bool (stands_on hidden at e)) [
        | inl stands ↦ absurd (none-some e.hit (sym is ∙ at_stands e es stands))
        | inr passes ↦ at_passes e (es ++ fs) passes ∙ first_at_right es fs (sym (at_passes e es passes) ∙ is)
      ]

  -- the next item stands there, or the search goes on
  next_item : {X : Type 0} (entry : ℕ → X → TableEntry) (items : List X) (i : ℕ) (x : X) → i < length items → x ≡ get_or items i x
      → first_at hidden at (entries_from entry i (drop i items))
      ≡ first_at hidden at (entry i x ∷ entries_from entry (i + 1) (drop (i + 1) items))
  next_item entry items i x within is =
      ap (λ ys. first_at hidden at (entries_from entry i ys))
      (drop_more items i x within ∙ ap (λ y. y ∷ drop (i + 1) items) (sym is))

  pub item_stands : {X : Type 0} (entry : ℕ → X → TableEntry) (items : List X) (i : ℕ) (x : X) → i < length items
      → x ≡ get_or items i x → stands_on hidden at (entry i x) ≡ true
      → first_at hidden at (entries_from entry i (drop i items)) ≡ Some (entry i x).hit
  item_stands entry items i x within is stands =
      next_item entry items i x within is ∙ at_stands (entry i x) (entries_from entry (i + 1) (drop (i + 1) items)) stands

  pub item_passes : {X : Type 0} (entry : ℕ → X → TableEntry) (items : List X) (i : ℕ) (x : X) → i < length items
      → x ≡ get_or items i x → stands_on hidden at (entry i x) ≡ false
      → first_at hidden at (entries_from entry i (drop i items))
      ≡ first_at hidden at (entries_from entry (i + 1) (drop (i + 1) items))
  item_passes entry items i x within is passes =
      next_item entry items i x within is ∙ at_passes (entry i x) (entries_from entry (i + 1) (drop (i + 1) items)) passes

  -- behind the last item there is none
  pub items_end : {X : Type 0} (entry : ℕ → X → TableEntry) (items : List X) (i : ℕ) → length items ≤ i
      → first_at hidden at (entries_from entry i (drop i items)) ≡ None
  items_end entry items i end = ap (λ ys. first_at hidden at (entries_from entry i ys)) (drop_all i items end)

pub first_of_all : (p : NetParts) (hidden : Hidden) (at : TableEntry)
    → first_at (hidden_hits hidden) at (all_entries (network_of p))
    ≡ first_on at.prefix (entries_of (network_with p hidden) at.node at.table at.family)
first_of_all p hidden at =
    ap (λ (es : List Entry). first_on at.prefix (filter (λ x. is_shown (hidden_hits hidden) x.hit) es))
    (all_at (network_of p) at.node at.table at.family)

-- what is there is what it is unwrapped to
pub some_unwrapped : (o : Option Hit) (h d : Hit) → IsSome o → h ≡ unwrap_or o d → Some h ≡ o
some_unwrapped None h d some is = absurd (false≢true some)
some_unwrapped (Some k) h d some is = ap Some is

pub unchanged_tables : (net : Network) (before after : BTreeMap TableKey HitTable) → map.IsUnchanged before after → AreTables net before
    → AreTables net after
unchanged_tables net before after same are node table family q =
    ap (λ (es : List (TableKey × HitTable)). value_at (unwrap_or (lookup (λ k. is_eq (table_key_cmp (table_key node table family) k)) es)
    []) q) same
    ∙ are node table family q

-- ---- a table found by its key

-- the table at a key that is there
pub table_there : (e : TableEntry) (tables : BTreeMap TableKey HitTable) (key : TableKey) (t : HitTable)
    → key ≡ table_key e.node e.table e.family → Some t ≡ map.get table_key_cmp tables key → t ≡ table_at tables e.node e.table e.family
table_there e tables key t is_key is_t =
    ap (λ (o : Option HitTable). unwrap_or o []) (is_t ∙ ap (map.get table_key_cmp tables) is_key)

-- there is none at a key that isn't
pub no_table : (e : TableEntry) (tables : BTreeMap TableKey HitTable) (key : TableKey) → key ≡ table_key e.node e.table e.family
    → None ≡ map.get table_key_cmp tables key → table_at tables e.node e.table e.family ≡ []
no_table e tables key is_key none =
    sym (ap (λ (o : Option HitTable). unwrap_or o []) (none ∙ ap (map.get table_key_cmp tables) is_key))

pub has_none : (p : PrefixValue) → HasPrefix {T = Hit} [] p → ⊥
has_none p has = contains_none (p, has.0) has.1

-- a prefix without a value isn't there
pub not_there : (t : HitTable) (p : PrefixValue) → None ≡ value_at t p → ¬ HasPrefix t p
not_there t p none has = false≢true (subst IsSome (sym none) ((there_tells t p).1 has))

pub there_from : (t : HitTable) (p : PrefixValue) (h : Hit) → Some h ≡ value_at t p → HasPrefix t p
there_from t p h is = (there_tells t p).0 (ap is_some (sym is))

-- what holds anyway holds where an error comes
pub on_err_always : {X F : Type 0} (r : Result X F) (P : Type 0) → P → OnErr r P
on_err_always (Ok x) P holds = tt
on_err_always (Err why) P holds = holds
