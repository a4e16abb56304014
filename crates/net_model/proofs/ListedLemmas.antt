-- The entries of all tables are those of each table.
use Rattle.std.proofs.Common.{◌≡◌, ℕ, zero, suc, ◌+◌, ◌<◌, Bool, true, false, ◌==◌, ◌&&◌, List, [], ◌∷◌, ◌++◌, refl, sym, ap, ◌∙◌, subst, arith, inl, inr}
use Rattle.std.specs.List.{slice_get, filter}
use Rattle.std.proofs.lemmas.Bool.{cases_Bool, both_ways, eqb-true, eq-eqb}
use Rattle.std.proofs.lemmas.List.{append_assoc}
use Rattle.std.proofs.lemmas.List.Elements.{filter-append}
use Rattle.std.specs.BTreeMap.{BTreeMap}
use Rattle.srv6_rules.specs.declared.family.Family.{Family}
use Rattle.srv6_rules.specs.declared.family.Family.TheVariants as families
use Rattle.srv6_rules.specs.declared.sid.SidEntry.{SidEntry}
use Rattle.net_model.specs.declared.parts.Node.{Node}
use Rattle.net_model.specs.declared.parts.Route.{Route}
use Rattle.net_model.specs.declared.net.Hit.{Hit}
use Rattle.net_model.specs.declared.lookup_tables.TableKey.{TableKey}
use Rattle.net_model.specs.declared.lookup_tables.TableEntry.{TableEntry}
use Rattle.net_model.specs.Network.{Network, is_shown}
use Rattle.net_model.specs.NetworkRules.{same_family}
use Rattle.net_model.specs.Best.{Entry, sid_entries, is_route_of, route_entries, address_entries, has_sids, all_entries_of}
use Rattle.net_model.specs.LookupTables.{HitTable, table_at, is_entry_of, entries_at, entries_from, shown_of, sid_entry, address_entry, route_entry, all_entries, IsExact, AnswerFor, AreTables}
use Rattle.net_model.proofs.EntryLemmas.{all_entries_of_first, all_entries_of_other}
use Rattle.net_model.proofs.FillLemmas.{entries_at_append}

-- ---- of table 0 of IPv6, and of other tables

at_first : (P : ℕ → Family → Type 0) (table : ℕ) (family : Family) → has_sids table family ≡ true → P 0 families.V6 → P table family
at_first P table families.V6 first p = subst (λ t. P t families.V6) (sym (eqb-true table 0 first)) p
at_first P table families.V4 first p = cc

and_false : (b : Bool) → (b && false) ≡ false
and_false true = refl
and_false false = refl

apart_from_first : (b : Bool) (table : ℕ) (family : Family) → has_sids table family ≡ false
    → (b && ((0 == table) && same_family families.V6 family)) ≡ false
apart_from_first false table family other = refl
apart_from_first true table families.V6 other =
    elim (cases_Bool (0 == table)) [
      | inl h ↦ absurd (both_ways _ other (eq-eqb table 0 (sym (eqb-true 0 table h))))
      | inr h ↦ rw h refl
    ]
apart_from_first true table families.V4 other = and_false (0 == table)

none_at : {X : Type 0} (entry : ℕ → X → TableEntry) (node table : ℕ) (family : Family)
    → ((n : ℕ) (x : X) → is_entry_of node table family (entry n x) ≡ false) → (n : ℕ) (xs : List X)
    → entries_at (entries_from entry n xs) node table family ≡ []
none_at entry node table family none n [] = refl
none_at entry node table family none n (x ∷ xs) = rw (none n x) (none_at entry node table family none (n + 1) xs)

-- ---- of each kind

sids_at_first : (node n : ℕ) (sids : List SidEntry)
    → entries_at (entries_from sid_entry n sids) node 0 families.V6 ≡ sid_entries node n sids
sids_at_first node n [] = refl
sids_at_first node n (s ∷ sids) =
    elim (cases_Bool (s.node == node)) [
      | inl h ↦ rw (h, sids_at_first node (n + 1) sids) refl
      | inr h ↦ rw (h, sids_at_first node (n + 1) sids) refl
    ]

addresses_past : (node n : ℕ) (nodes : List Node) → node < n → entries_at (entries_from address_entry n nodes) node 0 families.V6 ≡ []
addresses_past node n [] past = refl
addresses_past node n (x ∷ nodes) past =
    elim (cases_Bool (n == node)) [
      | inl h ↦ absurd (omega (arith, past, eqb-true _ _ h))
      | inr h ↦ rw h (addresses_past node (n + 1) nodes (omega (arith, past)))
    ]

addresses_at_first : (node n : ℕ) (nodes : List Node) (k : ℕ) → node ≡ n + k
    → entries_at (entries_from address_entry n nodes) node 0 families.V6 ≡ address_entries (slice_get nodes k)
addresses_at_first node n [] k at = refl
addresses_at_first node n (x ∷ nodes) zero at =
    let here = eq-eqb n node (omega (arith, at)) in rw (here, addresses_past node (n + 1) nodes (omega (arith, at))) refl
addresses_at_first node n (x ∷ nodes) (suc k) at =
    elim (cases_Bool (n == node)) [
      | inl h ↦ absurd (omega (arith, at, eqb-true _ _ h))
      | inr h ↦ rw h (addresses_at_first node (n + 1) nodes k (omega (arith, at)))
    ]

routes_at : (node table : ℕ) (family : Family) (n : ℕ) (routes : List Route)
    → entries_at (entries_from route_entry n routes) node table family ≡ route_entries node table family n routes
routes_at node table family n [] = refl
routes_at node table family n (r ∷ routes) =
    elim (cases_Bool (is_route_of node table family r)) [
      | inl h ↦ rw (h, routes_at node table family (n + 1) routes) refl
      | inr h ↦ rw (h, routes_at node table family (n + 1) routes) refl
    ]

-- ---- of all

three : (xs ys zs us vs ws : List Entry) → xs ≡ us → ys ≡ vs → zs ≡ ws → xs ++ (ys ++ zs) ≡ us ++ (vs ++ ws)
three xs ys zs us vs ws e f g = λ i. e i ++ (f i ++ g i)

pub all_at : (net : Network) (node table : ℕ) (family : Family)
    → entries_at (all_entries net) node table family ≡ all_entries_of net node table family
all_at net node table family =
    let sids = entries_from sid_entry 0 net.sids in
    let nodes = entries_from address_entry 0 net.nodes in
    let routes = entries_from route_entry 0 net.routes in
    let parted = entries_at_append sids (nodes ++ routes) node table family
    ∙ ap (λ es. entries_at sids node table family ++ es) (entries_at_append nodes routes node table family) in
    elim (cases_Bool (has_sids table family)) [
      | inl first ↦ parted
          ∙ (three _ _ _ _ _ _
          (at_first (λ t f. entries_at sids node t f ≡ sid_entries node 0 net.sids) table family first (sids_at_first node 0 net.sids))
          (at_first (λ t f. entries_at nodes node t f ≡ address_entries (slice_get net.nodes node)) table family first
          (addresses_at_first node 0 net.nodes node (omega arith)))
          (routes_at node table family 0 net.routes)
          ∙ sym (all_entries_of_first net node table family first))
      | inr other ↦ parted
          ∙ (three _ _ _ _ _ _
          (none_at sid_entry node table family (λ n s. apart_from_first (s.node == node) table family other) 0 net.sids)
          (none_at address_entry node table family (λ n x. apart_from_first (n == node) table family other) 0 net.nodes)
          (routes_at node table family 0 net.routes)
          ∙ sym (all_entries_of_other net node table family other))
    ]

-- ---- those that are shown

-- of one table's entries those that are shown are the shown ones' of that table
shown_at : (hidden : List Hit) (es : List TableEntry) (node table : ℕ) (family : Family)
    → entries_at (shown_of hidden es) node table family ≡ filter (λ x. is_shown hidden x.hit) (entries_at es node table family)
shown_at hidden [] node table family = refl
shown_at hidden (e ∷ es) node table family =
    let rest = shown_at hidden es node table family in
    elim (cases_Bool (is_entry_of node table family e)) [
      | inl here ↦ elim (cases_Bool (is_shown hidden e.hit)) [
        | inl shown ↦ rw (here, shown, here) (ap (λ (fs : List Entry). record { hit = e.hit; prefix = e.prefix } ∷ fs) rest)
        | inr gone ↦ rw (here, gone) rest
      ]
      | inr apart ↦ elim (cases_Bool (is_shown hidden e.hit)) [
        | inl shown ↦ rw (apart, shown, apart) rest
        | inr gone ↦ rw (apart, gone) rest
      ]
    ]

pub shown_of_append : (hidden : List Hit) (es fs : List TableEntry) → shown_of hidden (es ++ fs) ≡ shown_of hidden es ++ shown_of hidden fs
shown_of_append hidden es fs = filter-append (λ (e : TableEntry). is_shown hidden e.hit) es fs

pub are_tables : (net : Network) (hidden : List Hit) (sids : List SidEntry) (nodes : List Node) (routes : List Route)
    (tables : BTreeMap TableKey HitTable) → sids ≡ net.sids → nodes ≡ net.nodes → routes ≡ net.routes
    → AnswerFor ((shown_of hidden (entries_from sid_entry 0 sids) ++ shown_of hidden (entries_from address_entry 0 nodes))
    ++ shown_of hidden (entries_from route_entry 0 routes)) tables
    → AreTables (record net { hidden = hidden }) tables
are_tables net hidden sids nodes routes tables is_sids is_nodes is_routes answers node table family =
    let Three : List SidEntry → List Node → List Route → List TableEntry =
    λ ss ns rs. (entries_from sid_entry 0 ss ++ entries_from address_entry 0 ns) ++ entries_from route_entry 0 rs in
    let same : Three sids nodes routes ≡ Three net.sids net.nodes net.routes =
    λ i. (entries_from sid_entry 0 (is_sids i) ++ entries_from address_entry 0 (is_nodes i)) ++ entries_from route_entry 0 (is_routes i) in
    let whole : Three sids nodes routes ≡ all_entries net =
    same ∙ append_assoc (entries_from sid_entry 0 net.sids) (entries_from address_entry 0 net.nodes)
    (entries_from route_entry 0 net.routes) in
    let ss = entries_from sid_entry 0 sids in
    let ns = entries_from address_entry 0 nodes in
    let rs = entries_from route_entry 0 routes in
    let joined : (shown_of hidden ss ++ shown_of hidden ns) ++ shown_of hidden rs ≡ shown_of hidden (all_entries net) =
    ap (λ (es : List TableEntry). es ++ shown_of hidden rs) (sym (shown_of_append hidden ss ns))
    ∙ (sym (shown_of_append hidden (ss ++ ns) rs) ∙ ap (shown_of hidden) whole) in
    subst (λ (es : List Entry). IsExact es (table_at tables node table family))
    (shown_at hidden (all_entries net) node table family
    ∙ ap (λ (es : List Entry). filter (λ x. is_shown hidden x.hit) es) (all_at net node table family))
    (subst (λ (es : List TableEntry). IsExact (entries_at es node table family) (table_at tables node table family)) joined
    (answers node table family))
