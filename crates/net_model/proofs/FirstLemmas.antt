-- What stands first on a route's prefix: a SID, or the node's address, or else that route, where it is shown.
use Rattle.std.proofs.Common.{◌≡◌, ℕ, ◌+◌, Bool, true, false, List, [], ◌∷◌, ◌++◌, Option, Some, None, refl, sym, ap, ◌∙◌, subst, arith, inl, inr}
use Rattle.std.specs.Prelude.{if◌then◌else◌, Contains, slice_get, IsSome}
use Rattle.std.specs.List.{filter}
use Rattle.std.specs.Option.{option_or}
use Rattle.std.specs.BTreeMap.{BTreeMap}
use Rattle.std.proofs.lemmas.Bool.{cases_Bool, both_ways, false≢true}
use Rattle.std.proofs.lemmas.Option.{none-some, same_Some}
use Rattle.std.proofs.lemmas.List.{append_assoc}
use Rattle.std.proofs.lemmas.List.Elements.{Contains-append_cases, filter-append}
use Rattle.v6_addr.specs.Address.{PrefixValue}
use Rattle.prefix_table.specs.PrefixTable.{is_one_prefix, value_at}
use Rattle.prefix_table.proofs.PublicLaws.{one_from}
use Rattle.srv6_rules.specs.declared.family.Family.{Family}
use Rattle.net_model.specs.declared.parts.NetParts.{NetParts}
use Rattle.net_model.specs.declared.hidden.Hidden.{Hidden}
use Rattle.net_model.specs.declared.parts.Node.{Node}
use Rattle.net_model.specs.declared.net.EntryId.{EntryId}
use Rattle.net_model.specs.declared.net.Hit.{Hit}
use Rattle.net_model.specs.declared.net.Hit.TheVariants as hits
use Rattle.net_model.specs.declared.lookup_tables.TableKey.{TableKey}
use Rattle.net_model.specs.declared.lookup_tables.TableEntry.{TableEntry}
use Rattle.net_model.specs.Network.{Network, same_hit, is_shown, hit_of_entry}
use Rattle.net_model.specs.NetworkTerms.{network_of, network_with, hidden_hits}
use Rattle.net_model.specs.NetworkRulesTerms.{IsNetwork}
use Rattle.net_model.specs.Best.{Entry, sid_entries, route_entries, address_entries, has_sids, all_entries_of, entries_of}
use Rattle.net_model.specs.Entries.{IsEntryAs}
use Rattle.net_model.specs.LookupTables.{HitTable, table_at, first_on, AreTables, IsListed, unless_route, AreTablesBefore}
use Rattle.net_model.proofs.EntryLemmas.{contains_none, contains_cases, contains_first, contains_later, sid_means, route_means, route_is_there, among_passing, passing_among}
use Rattle.net_model.proofs.HiddenLemmas.{rules_with}
use Rattle.net_model.proofs.NetworkKeepsLemmas.{keeps_from_network}
use Rattle.net_model.proofs.SettleLemmas.{listed_is, first_stays, first_some}

-- ---- the first of entries on a prefix

first_append : (q : PrefixValue) (es fs : List Entry) → first_on q (es ++ fs) ≡ option_or (first_on q es) (first_on q fs)
first_append q [] fs = refl
first_append q (e ∷ es) fs =
    elim (cases_Bool (is_one_prefix e.prefix q)) [ inl on ↦ rw on refl | inr off ↦ rw off (first_append q es fs) ]

-- it is the hit of one of them
first_among : (q : PrefixValue) (es : List Entry) (h : Hit) → first_on q es ≡ Some h
    → (x : Entry) × Contains es x × (x.prefix ≡ q) × (x.hit ≡ h)
first_among q [] h is = cc
first_among q (e ∷ es) h is =
    elim (cases_Bool (is_one_prefix e.prefix q)) [
      | inl on ↦ (e, contains_first e es, one_from e.prefix q on, same_Some e.hit h (rw on at is))
      | inr off ↦ let (x, c, of, hit) = first_among q es h (rw off at is) in (x, contains_later e es x c, of, hit)
    ]

-- ---- a route among the entries of a table

abbrev IsNoRoute : Entry → Type 0
IsNoRoute e = unless_route (Some e.hit) ≡ Some e.hit

module _ (net : Network) (node table : ℕ) (family : Family) where
  -- the entries before the routes
  abbrev before_routes : List Entry
  before_routes =
      if has_sids table family then sid_entries node 0 net.sids ++ address_entries (slice_get net.nodes node) else []

  abbrev routes : List Entry
  routes = route_entries node table family 0 net.routes

  all_is : all_entries_of net node table family ≡ before_routes ++ routes
  all_is =
      elim (cases_Bool (has_sids table family)) [
        | inl first ↦ rw first (sym (append_assoc (sid_entries node 0 net.sids) (address_entries (slice_get net.nodes node)) routes))
        | inr other ↦ rw other refl
      ]

  -- none of those before the routes is a route
  no_route : (x : Entry) → Contains before_routes x → IsNoRoute x
  no_route x c =
      elim (cases_Bool (has_sids table family)) [
        | inl first ↦ elim (Contains-append_cases (sid_entries node 0 net.sids) (address_entries (slice_get net.nodes node)) x
            (rw first at c)) [
              | inl sid ↦ let (i, s, at, of, is) = sid_means node 0 net.sids x sid in subst IsNoRoute (sym is) refl
              | inr own ↦ of_address (slice_get net.nodes node) own
            ]
        | inr other ↦ absurd (contains_none x (rw other at c))
      ]
    where
      of_address : (o : Option Node) → Contains (address_entries o) x → IsNoRoute x
      of_address None own = absurd (contains_none x own)
      of_address (Some m) own =
          elim (contains_cases (record { hit = hits.Address; prefix = record { value = m.address.value; len = 128 } }) [] x own) [
            | inl is ↦ subst IsNoRoute is refl
            | inr none ↦ absurd (contains_none x none)
          ]

  module _ (rules : IsNetwork net) (p : PrefixValue) (n : ℕ) (here : IsEntryAs net node table family p (hits.Route n)) where
    -- a route on the prefix is that one, since no two of a table have one prefix
    one_route : (x : Entry) → Contains routes x → x.prefix ≡ p → x.hit ≡ hits.Route n
    one_route x c on =
        let (r, at, of, in_table, of_family, prefix) = here in
        let (i, t, at_t, of_t, in_table_t, of_family_t, is) = route_means node table family 0 net.routes x c in
        let same : t.prefix ≡ r.prefix = ap (λ (e : Entry). e.prefix) (sym is) ∙ (on ∙ sym prefix) in
        let number : i ≡ n = (keeps_from_network net rules).route_prefix i n t r at_t at (of_t ∙ sym of) (in_table_t ∙ sym in_table)
        (of_family_t ∙ sym of_family) same in
        let k : 0 + i ≡ n = omega (arith, number) in
        ap (λ (e : Entry). e.hit) is ∙ ap hits.Route k

    route_there : Contains routes (record { hit = hits.Route n; prefix = p })
    route_there =
        let (r, at, of, in_table, of_family, prefix) = here in
        subst (λ q. Contains routes (record { hit = hits.Route n; prefix = q })) prefix
        (route_is_there node table family 0 net.routes n n r at of in_table of_family (omega arith))

    module _ (shown : Hit → Bool) where
      abbrev test : Entry → Bool
      test x = shown x.hit

      among_routes : first_on p (filter test routes) ≡ (if shown (hits.Route n) then Some (hits.Route n) else None)
      among_routes = elim (cases_Bool (shown (hits.Route n))) [
        | inl is ↦ rw is (is_it (first_on p (filter test routes)) refl
            (first_some p (filter test routes) (record { hit = hits.Route n; prefix = p })
            (among_passing test routes (record { hit = hits.Route n; prefix = p }) route_there is) refl))
        | inr gone ↦ rw gone (none (first_on p (filter test routes)) refl gone)
      ]
        where
          is_it : (o : Option Hit) → first_on p (filter test routes) ≡ o → IsSome o → o ≡ Some (hits.Route n)
          is_it None is some = absurd (false≢true some)
          is_it (Some h) is some =
              let (x, c, on, hit) = first_among p (filter test routes) h is in
              ap Some (sym hit ∙ one_route x (passing_among test routes x c).0 on)

          none : (o : Option Hit) → first_on p (filter test routes) ≡ o → shown (hits.Route n) ≡ false → o ≡ None
          none None is gone = refl
          none (Some h) is gone =
              let (x, c, on, hit) = first_among p (filter test routes) h is in
              let both = passing_among test routes x c in
              absurd (both_ways _ gone (ap shown (sym (one_route x both.0 on)) ∙ both.1))

      -- what comes before the routes, or else the route where it is shown
      by_kind : first_on p (filter test (all_entries_of net node table family))
          ≡ option_or (first_on p (filter test before_routes)) (if shown (hits.Route n) then Some (hits.Route n) else None)
      by_kind =
          ap (λ es. first_on p (filter test es)) all_is
          ∙ (ap (first_on p) (filter-append test before_routes routes)
          ∙ (first_append p (filter test before_routes) (filter test routes)
          ∙ ap (λ o. option_or (first_on p (filter test before_routes)) o) among_routes))

    -- an entry's flag is set or cleared: what comes before the routes stays
    module _ (was now : List Hit)
        (others : (k : Hit) → same_hit (hits.Route n) k ≡ false → is_shown now k ≡ is_shown was k) where
      apart_from_route : (h : Hit) → unless_route (Some h) ≡ Some h → same_hit (hits.Route n) h ≡ false
      apart_from_route (hits.Sid m) is = refl
      apart_from_route hits.Address is = refl
      apart_from_route (hits.Route m) is = absurd (none-some (hits.Route m) is)
      apart_from_route hits.Nothing is = refl

      before_stays : first_on p (filter (test (is_shown now)) before_routes) ≡ first_on p (filter (test (is_shown was)) before_routes)
      before_stays =
          first_stays (test (is_shown was)) (test (is_shown now)) p before_routes
          (λ x c on. others x.hit (apart_from_route x.hit (no_route x c)))

      -- what isn't a route came before the routes
      was_before : (o : Option Hit) (shown : Bool) → first_on p (filter (test (is_shown was)) before_routes) ≡ o
          → unless_route (option_or o (if shown then Some (hits.Route n) else None)) ≡ o
      was_before None true is = refl
      was_before None false is = refl
      was_before (Some h) shown is =
          let (x, c, on, hit) = first_among p (filter (test (is_shown was)) before_routes) h is in
          subst (λ k. unless_route (Some k) ≡ Some k) hit (no_route x (passing_among (test (is_shown was)) before_routes x c).0)

      route_changed : option_or (unless_route (first_on p (filter (test (is_shown was)) (all_entries_of net node table family))))
          (if is_shown now (hits.Route n) then Some (hits.Route n) else None)
          ≡ first_on p (filter (test (is_shown now)) (all_entries_of net node table family))
      route_changed =
          let own : Option Hit = if is_shown now (hits.Route n) then Some (hits.Route n) else None in
          ap (λ o. option_or (unless_route o) own) (by_kind (is_shown was))
          ∙ (ap (λ o. option_or o own)
          (was_before (first_on p (filter (test (is_shown was)) before_routes)) (is_shown was (hits.Route n)) refl ∙ sym before_stays)
          ∙ sym (by_kind (is_shown now)))

-- a route's table from before its flag was set or cleared tells what stands first on its prefix
pub first_by_table : (parts : NetParts) (hidden : Hidden) (e : TableEntry) (n : ℕ) (tables : BTreeMap TableKey HitTable)
    → IsNetwork (network_of parts) → IsEntryAs (network_of parts) e.node e.table e.family e.prefix e.hit
    → AreTablesBefore (network_with parts hidden) e.hit tables → e.hit ≡ hits.Route n → (found before : Option Hit)
    → found ≡ value_at (table_at tables e.node e.table e.family) e.prefix → before ≡ unless_route found
    → option_or before (if is_shown (hidden_hits hidden) e.hit then Some e.hit else None)
    ≡ first_on e.prefix (entries_of (network_with parts hidden) e.node e.table e.family)
first_by_table parts hidden e n tables rules listed (was, others, are) is found before there left =
    let net = network_with parts hidden in
    let here : IsEntryAs (network_of parts) e.node e.table e.family e.prefix (hits.Route n) =
    subst (λ h. IsEntryAs (network_of parts) e.node e.table e.family e.prefix h) is listed in
    let apart : (k : Hit) → same_hit (hits.Route n) k ≡ false → is_shown net.hidden k ≡ is_shown was k =
    subst (λ h. (k : Hit) → same_hit h k ≡ false → is_shown net.hidden k ≡ is_shown was k) is others in
    ap (λ o. option_or o (if is_shown net.hidden e.hit then Some e.hit else None))
    (left ∙ ap unless_route (there ∙ are e.node e.table e.family e.prefix))
    ∙ subst (λ h. option_or (unless_route (first_on e.prefix (entries_of (record net { hidden = was }) e.node e.table e.family)))
    (if is_shown net.hidden h then Some h else None) ≡ first_on e.prefix (entries_of net e.node e.table e.family)) (sym is)
    (route_changed net e.node e.table e.family (rules_with parts hidden rules) e.prefix n here was net.hidden apart)

-- ---- what is known where an entry's flag was set or cleared

pub entry_listed : (net : Network) (entry : EntryId) (e : TableEntry) → IsListed net entry e
    → IsEntryAs net e.node e.table e.family e.prefix e.hit
entry_listed net entry e listed =
    let both = listed_is net entry e listed in
    subst (λ h. IsEntryAs net e.node e.table e.family e.prefix h) (sym both.1) both.0

pub tables_before : (p : NetParts) (old new : Hidden) (entry : EntryId) (e : TableEntry) (tables : BTreeMap TableKey HitTable)
    → IsListed (network_of p) entry e
    → ((k : Hit) → same_hit (hit_of_entry entry) k ≡ false → is_shown (hidden_hits new) k ≡ is_shown (hidden_hits old) k)
    → AreTables (network_with p old) tables → AreTablesBefore (network_with p new) e.hit tables
tables_before p old new entry e tables listed others are =
    subst (λ h. AreTablesBefore (network_with p new) h tables) (sym (listed_is (network_of p) entry e listed).1)
    (hidden_hits old, others, are)
