-- The entries of a table by what they are.
use Rattle.std.proofs.Common.{◌≡◌, ℕ, zero, suc, ◌+◌, Bool, true, false, ◌==◌, ◌⊎◌, List, [], ◌∷◌, ◌++◌, Option, Some, None, refl, sym, ap, ◌∙◌, subst, arith, inl, inr}
use Rattle.std.specs.List.{slice_get, Contains, filter}
use Rattle.std.proofs.lemmas.Bool.{cases_Bool, and_parts, and_from, eqb-true, eq-eqb}
use Rattle.std.proofs.lemmas.Option.{same_Some}
use Rattle.std.proofs.lemmas.List.Elements.{Contains-append_left, Contains-append_right, Contains-append_cases}
use Rattle.v6_addr.specs.Address.{PrefixValue}
use Rattle.srv6_rules.specs.declared.family.Family.{Family}
use Rattle.srv6_rules.specs.declared.family.Family.TheVariants as families
use Rattle.srv6_rules.specs.declared.sid.SidEntry.{SidEntry}
use Rattle.net_model.specs.declared.parts.Node.{Node}
use Rattle.net_model.specs.declared.parts.Route.{Route}
use Rattle.net_model.specs.declared.net.Hit.{Hit}
use Rattle.net_model.specs.declared.net.Hit.TheVariants as hits
use Rattle.net_model.specs.Network.{Network, is_shown}
use Rattle.net_model.specs.NetworkRules.{same_family}
use Rattle.net_model.specs.Best.{Entry, sid_entries, is_route_of, route_entries, address_entries, has_sids, all_entries_of, entries_of}
use Rattle.net_model.specs.Entries.{IsEntryAs}

pub contains_none : {X : Type 0} (x : X) → Contains [] x → ⊥
contains_none x c = omega (arith, c.1)

pub contains_cases : {X : Type 0} (y : X) (ys : List X) (x : X) → Contains (y ∷ ys) x → (y ≡ x) ⊎ Contains ys x
contains_cases y ys x (zero, within, is) = inl is
contains_cases y ys x (suc k, within, is) = inr (k, omega arith, is)

pub contains_first : {X : Type 0} (y : X) (ys : List X) → Contains (y ∷ ys) y
contains_first y ys = (zero, omega arith, refl)

pub contains_later : {X : Type 0} (y : X) (ys : List X) (x : X) → Contains ys x → Contains (y ∷ ys) x
contains_later y ys x c = (suc c.0, omega (arith, c.1), c.2)

-- a SID of the node among those whose first has the number n
abbrev pub IsSidFrom : ℕ → ℕ → List SidEntry → Entry → Type 0
IsSidFrom node n sids e = (i : ℕ) × (s : SidEntry) × (slice_get sids i ≡ Some s) × (s.node ≡ node)
    × (e ≡ record { hit = hits.Sid (n + i); prefix = s.prefix })

sid_later : (node n : ℕ) (s : SidEntry) (sids : List SidEntry) (e : Entry) → IsSidFrom node (n + 1) sids e → IsSidFrom node n (s ∷ sids) e
sid_later node n s sids e (i, t, at, of, is) =
    let shift : n + 1 + i ≡ n + suc i = omega arith in
    (suc i, t, at, of, is ∙ ap (λ k. record { hit = hits.Sid k; prefix = t.prefix }) shift)

pub sid_means : (node n : ℕ) (sids : List SidEntry) (e : Entry) → Contains (sid_entries node n sids) e → IsSidFrom node n sids e
sid_means node n [] e c = absurd (contains_none e c)
sid_means node n (s ∷ sids) e c =
    elim (cases_Bool (s.node == node)) [
      | inl mine ↦ elim (contains_cases _ _ e (rw mine at c)) [
        | inl is ↦ let shift : n ≡ n + 0 = omega arith in
            (0, s, refl, eqb-true _ _ mine, sym is ∙ ap (λ k. record { hit = hits.Sid k; prefix = s.prefix }) shift)
        | inr more ↦ sid_later node n s sids e (sid_means node (n + 1) sids e more)
      ]
      | inr other ↦ sid_later node n s sids e (sid_means node (n + 1) sids e (rw other at c))
    ]

sid_in_front : (node n : ℕ) (s : SidEntry) (sids : List SidEntry) (e : Entry) → Contains (sid_entries node (n + 1) sids) e
    → Contains (sid_entries node n (s ∷ sids)) e
sid_in_front node n s sids e c =
    elim (cases_Bool (s.node == node)) [ inl mine ↦ rw mine (contains_later _ _ e c) | inr other ↦ rw other c ]

sid_at_front : (node n : ℕ) (s : SidEntry) (sids : List SidEntry) → s.node ≡ node
    → Contains (sid_entries node n (s ∷ sids)) (record { hit = hits.Sid n; prefix = s.prefix })
sid_at_front node n s sids of = let mine = eq-eqb s.node node of in rw mine (contains_first _ _)

pub sid_is_there : (node n : ℕ) (sids : List SidEntry) (i k : ℕ) (s : SidEntry) → slice_get sids i ≡ Some s → s.node ≡ node → k ≡ n + i
    → Contains (sid_entries node n sids) (record { hit = hits.Sid k; prefix = s.prefix })
sid_is_there node n [] i k s at of is = cc
sid_is_there node n (t ∷ sids) zero k s at of is =
    let P : SidEntry → Type 0 = λ x. x.node ≡ node
    → Contains (sid_entries node n (t ∷ sids)) (record { hit = hits.Sid k; prefix = x.prefix }) in
    let same : n ≡ k = omega arith in
    subst P (same_Some t s at) (λ mine. subst
    (λ m. Contains (sid_entries node n (t ∷ sids)) (record { hit = hits.Sid m; prefix = t.prefix })) same
    (sid_at_front node n t sids mine)) of
sid_is_there node n (t ∷ sids) (suc i) k s at of is =
    sid_in_front node n t sids _ (sid_is_there node (n + 1) sids i k s at of (omega arith))

pub same_family_is : (f g : Family) → same_family f g ≡ true → f ≡ g
same_family_is families.V6 families.V6 e = refl
same_family_is families.V6 families.V4 e = cc
same_family_is families.V4 families.V6 e = cc
same_family_is families.V4 families.V4 e = refl

same_family_self : (f : Family) → same_family f f ≡ true
same_family_self families.V6 = refl
same_family_self families.V4 = refl

pub same_family_from : (f g : Family) → f ≡ g → same_family f g ≡ true
same_family_from f g e = subst (λ h. same_family f h ≡ true) e (same_family_self f)

-- a route of the family in the node's table among those whose first has the number n
abbrev pub IsRouteFrom : ℕ → ℕ → Family → ℕ → List Route → Entry → Type 0
IsRouteFrom node table family n routes e = (i : ℕ) × (r : Route) × (slice_get routes i ≡ Some r) × (r.node ≡ node) × (r.table ≡ table)
    × (r.family ≡ family) × (e ≡ record { hit = hits.Route (n + i); prefix = r.prefix })

route_later : (node table : ℕ) (family : Family) (n : ℕ) (r : Route) (routes : List Route) (e : Entry)
    → IsRouteFrom node table family (n + 1) routes e
    → IsRouteFrom node table family n (r ∷ routes) e
route_later node table family n r routes e (i, t, at, of, in_table, of_family, is) =
    let shift : n + 1 + i ≡ n + suc i = omega arith in
    (suc i, t, at, of, in_table, of_family, is ∙ ap (λ k. record { hit = hits.Route k; prefix = t.prefix }) shift)

pub route_means : (node table : ℕ) (family : Family) (n : ℕ) (routes : List Route) (e : Entry)
    → Contains (route_entries node table family n routes) e
    → IsRouteFrom node table family n routes e
route_means node table family n [] e c = absurd (contains_none e c)
route_means node table family n (r ∷ routes) e c =
    elim (cases_Bool (is_route_of node table family r)) [
      | inl mine ↦ elim (contains_cases _ _ e (rw mine at c)) [
        | inl is ↦ let shift : n ≡ n + 0 = omega arith in
            let both = and_parts _ _ mine in
            let two = and_parts _ _ both.1 in (
              0,
              r,
              refl,
              eqb-true _ _ both.0,
              eqb-true _ _ two.0,
              same_family_is _ _ two.1,
              sym is
                  ∙ ap (λ k. record { hit = hits.Route k; prefix = r.prefix }) shift,
            )
        | inr more ↦ route_later node table family n r routes e (route_means node table family (n + 1) routes e more)
      ]
      | inr other ↦ route_later node table family n r routes e (route_means node table family (n + 1) routes e (rw other at c))
    ]

route_in_front : (node table : ℕ) (family : Family) (n : ℕ) (r : Route) (routes : List Route) (e : Entry)
    → Contains (route_entries node table family (n + 1) routes) e
    → Contains (route_entries node table family n (r ∷ routes)) e
route_in_front node table family n r routes e c =
    elim (cases_Bool (is_route_of node table family r)) [ inl mine ↦ rw mine (contains_later _ _ e c) | inr other ↦ rw other c ]

route_at_front : (node table : ℕ) (family : Family) (n : ℕ) (r : Route) (routes : List Route) → r.node ≡ node → r.table ≡ table
    → r.family ≡ family
    → Contains (route_entries node table family n (r ∷ routes)) (record { hit = hits.Route n; prefix = r.prefix })
route_at_front node table family n r routes of in_table of_family =
    let mine = and_from _ _ (eq-eqb r.node node of) (and_from _ _ (eq-eqb r.table table in_table) (same_family_from _ _ of_family)) in
    rw mine (contains_first _ _)

pub route_is_there : (node table : ℕ) (family : Family) (n : ℕ) (routes : List Route) (i k : ℕ) (r : Route) → slice_get routes i ≡ Some r
    → r.node ≡ node → r.table ≡ table → r.family ≡ family → k ≡ n + i
    → Contains (route_entries node table family n routes) (record { hit = hits.Route k; prefix = r.prefix })
route_is_there node table family n [] i k r at of in_table of_family is = cc
route_is_there node table family n (t ∷ routes) zero k r at of in_table of_family is =
    let P : Route → Type 0 = λ x. x.node ≡ node → x.table ≡ table → x.family ≡ family
    → Contains (route_entries node table family n (t ∷ routes)) (record { hit = hits.Route k; prefix = x.prefix }) in
    let same : n ≡ k = omega arith in
    subst P (same_Some t r at) (λ mine in_it family_too. subst
    (λ m. Contains (route_entries node table family n (t ∷ routes)) (record { hit = hits.Route m; prefix = t.prefix })) same
    (route_at_front node table family n t routes mine in_it family_too)) of in_table of_family
route_is_there node table family n (t ∷ routes) (suc i) k r at of in_table of_family is =
    route_in_front node table family n t routes _
    (route_is_there node table family (n + 1) routes i k r at of in_table of_family (omega arith))

-- the entries of a table by what they are, both ways, hidden or not

abbrev pub IsAnyEntry : Network → ℕ → ℕ → Family → Entry → Type 0
IsAnyEntry net node table family e = IsEntryAs net node table family e.prefix e.hit

by_sid : (net : Network) (node table : ℕ) (family : Family) (e : Entry) → (table ≡ 0) × (family ≡ families.V6)
    → Contains (sid_entries node 0 net.sids) e → IsAnyEntry net node table family e
by_sid net node table family e first c =
    let (i, s, at, of, is) = sid_means node 0 net.sids e c in
    let same : i ≡ 0 + i = omega arith in
    subst (IsAnyEntry net node table family) (sym is) (s, subst (λ k. slice_get net.sids k ≡ Some s) same at, of, refl, first.0, first.1)

by_address : (net : Network) (node table : ℕ) (family : Family) (e : Entry) (o : Option Node) → slice_get net.nodes node ≡ o
    → (table ≡ 0) × (family ≡ families.V6) → Contains (address_entries o) e → IsAnyEntry net node table family e
by_address net node table family e None at first c = absurd (contains_none e c)
by_address net node table family e (Some n) at first c =
    elim (contains_cases (record { hit = hits.Address; prefix = record { value = n.address.value; len = 128 } }) [] e c) [
      | inl is ↦ subst (IsAnyEntry net node table family) is (n, at, refl, first.0, first.1)
      | inr none ↦ absurd (contains_none e none)
    ]

by_route : (net : Network) (node table : ℕ) (family : Family) (e : Entry) → Contains (route_entries node table family 0 net.routes) e
    → IsAnyEntry net node table family e
by_route net node table family e c =
    let (i, r, at, of, in_table, of_family, is) = route_means node table family 0 net.routes e c in
    let same : i ≡ 0 + i = omega arith in
    subst (IsAnyEntry net node table family) (sym is) (
      r,
      subst (λ k. slice_get net.routes k ≡ Some r) same at,
      of,
      in_table,
      of_family,
      refl,
    )

-- the table with the node's SIDs is table 0 of IPv6
has_sids_is : (table : ℕ) (family : Family) → has_sids table family ≡ true → (table ≡ 0) × (family ≡ families.V6)
has_sids_is table families.V6 e = (eqb-true table 0 e, refl)
has_sids_is table families.V4 e = cc

has_sids_from : (table : ℕ) (family : Family) → (table ≡ 0) × (family ≡ families.V6) → has_sids table family ≡ true
has_sids_from table family first = rw (first.0, first.1) refl

-- the entries of that table, and of another
pub all_entries_of_first : (net : Network) (node table : ℕ) (family : Family) → has_sids table family ≡ true
    → all_entries_of net node table family ≡ sid_entries node 0 net.sids
    ++ (address_entries (slice_get net.nodes node) ++ route_entries node table family 0 net.routes)
all_entries_of_first net node table family first = rw first refl

pub all_entries_of_other : (net : Network) (node table : ℕ) (family : Family) → has_sids table family ≡ false
    → all_entries_of net node table family ≡ route_entries node table family 0 net.routes
all_entries_of_other net node table family other = rw other refl

pub any_entry_means : (net : Network) (node table : ℕ) (family : Family) (e : Entry) → Contains (all_entries_of net node table family) e
    → IsAnyEntry net node table family e
any_entry_means net node table family e c =
    elim (cases_Bool (has_sids table family)) [
      | inl is ↦ let first = has_sids_is table family is in
          elim (Contains-append_cases (sid_entries node 0 net.sids) _ e
          (subst (λ es. Contains es e) (all_entries_of_first net node table family is) c)) [
            | inl sid ↦ by_sid net node table family e first sid
            | inr more ↦ elim (Contains-append_cases (address_entries (slice_get net.nodes node))
                (route_entries node table family 0 net.routes) e more) [
                  | inl own ↦ by_address net node table family e (slice_get net.nodes node) refl first own
                  | inr route ↦ by_route net node table family e route
                ]
          ]
      | inr other ↦ by_route net node table family e (subst (λ es. Contains es e) (all_entries_of_other net node table family other) c)
    ]

route_among : (net : Network) (node table : ℕ) (family : Family) (e : Entry) → Contains (route_entries node table family 0 net.routes) e
    → Contains (all_entries_of net node table family) e
route_among net node table family e c =
    elim (cases_Bool (has_sids table family)) [
      | inl is ↦ subst (λ es. Contains es e) (sym (all_entries_of_first net node table family is))
          (Contains-append_right (sid_entries node 0 net.sids) _ e
          (Contains-append_right (address_entries (slice_get net.nodes node)) (route_entries node table family 0 net.routes) e c))
      | inr other ↦ subst (λ es. Contains es e) (sym (all_entries_of_other net node table family other)) c
    ]

any_entry_is_there : (net : Network) (node table : ℕ) (family : Family) (p : PrefixValue) (h : Hit) → IsEntryAs net node table family p h
    → Contains (all_entries_of net node table family) (record { hit = h; prefix = p })
any_entry_is_there net node table family p (hits.Sid n) (s, at, of, is, first, v6) =
    let e : Entry = record { hit = hits.Sid n; prefix = p } in
    let there = subst (λ q. Contains (sid_entries node 0 net.sids) (record { hit = hits.Sid n; prefix = q })) is
    (sid_is_there node 0 net.sids n n s at of (omega arith)) in
    subst (λ es. Contains es e) (sym (all_entries_of_first net node table family (has_sids_from table family (first, v6))))
    (Contains-append_left (sid_entries node 0 net.sids) _ e there)
any_entry_is_there net node table family p hits.Address (n, at, is, first, v6) =
    let e : Entry = record { hit = hits.Address; prefix = p } in
    let own = subst (λ q. Contains (address_entries (Some n)) (record { hit = hits.Address; prefix = q })) (sym is)
    (contains_first (record { hit = hits.Address; prefix = record { value = n.address.value; len = 128 } }) []) in
    let there = subst (λ o. Contains (address_entries o) e) (sym at) own in
    subst (λ es. Contains es e) (sym (all_entries_of_first net node table family (has_sids_from table family (first, v6))))
    (Contains-append_right (sid_entries node 0 net.sids) _ e
    (Contains-append_left (address_entries (slice_get net.nodes node)) (route_entries node table family 0 net.routes) e there))
any_entry_is_there net node table family p (hits.Route n) (r, at, of, in_table, of_family, is) =
    let there = subst (λ q. Contains (route_entries node table family 0 net.routes) (record { hit = hits.Route n; prefix = q })) is
    (route_is_there node table family 0 net.routes n n r at of in_table of_family (omega arith)) in
    route_among net node table family _ there
any_entry_is_there net node table family p hits.Nothing none = absurd none

-- ---- those that are shown

pub among_passing : (test : Entry → Bool) (es : List Entry) (e : Entry) → Contains es e → test e ≡ true → Contains (filter test es) e
among_passing test [] e c passes = c
among_passing test (x ∷ es) e c passes =
    elim (contains_cases x es e c) [
      | inl is ↦ let x_passes : test x ≡ true = ap test is ∙ passes in
          rw x_passes (subst (Contains (x ∷ filter test es)) is (contains_first x (filter test es)))
      | inr later ↦ let rest = among_passing test es e later passes in
          elim (cases_Bool (test x)) [ inl t ↦ rw t (contains_later x (filter test es) e rest) | inr f ↦ rw f rest ]
    ]

pub passing_among : (test : Entry → Bool) (es : List Entry) (e : Entry) → Contains (filter test es) e → Contains es e × (test e ≡ true)
passing_among test [] e c = absurd (contains_none e c)
passing_among test (x ∷ es) e c =
    elim (cases_Bool (test x)) [
      | inl t ↦ elim (contains_cases x (filter test es) e (rw t at c)) [
        | inl is ↦ (subst (Contains (x ∷ es)) is (contains_first x es), ap test (sym is) ∙ t)
        | inr more ↦ let rest = passing_among test es e more in (contains_later x es e rest.0, rest.1)
      ]
      | inr f ↦ let rest = passing_among test es e (rw f at c) in (contains_later x es e rest.0, rest.1)
    ]

pub entry_means : (net : Network) (node table : ℕ) (family : Family) (e : Entry) → Contains (entries_of net node table family) e
    → IsEntryAs net node table family e.prefix e.hit
entry_means net node table family e c =
    any_entry_means net node table family e
    (passing_among (λ f. is_shown net.hidden f.hit) (all_entries_of net node table family) e c).0

pub entry_shown : (net : Network) (node table : ℕ) (family : Family) (e : Entry) → Contains (entries_of net node table family) e
    → is_shown net.hidden e.hit ≡ true
entry_shown net node table family e c =
    (passing_among (λ f. is_shown net.hidden f.hit) (all_entries_of net node table family) e c).1

pub entry_is_there : (net : Network) (node table : ℕ) (family : Family) (p : PrefixValue) (h : Hit) → IsEntryAs net node table family p h
    → is_shown net.hidden h ≡ true → Contains (entries_of net node table family) (record { hit = h; prefix = p })
entry_is_there net node table family p h is shown =
    among_passing (λ f. is_shown net.hidden f.hit) (all_entries_of net node table family) (record { hit = h; prefix = p })
    (any_entry_is_there net node table family p h is) shown

-- where nothing is hidden they are all
all_pass : (es : List Entry) → filter (λ e. is_shown [] e.hit) es ≡ es
all_pass [] = refl
all_pass (e ∷ es) = ap (λ fs. e ∷ fs) (all_pass es)

pub whole_entries : (net : Network) (node table : ℕ) (family : Family) → net.hidden ≡ []
    → entries_of net node table family ≡ all_entries_of net node table family
whole_entries net node table family whole =
    let es = all_entries_of net node table family in
    subst (λ (hidden : List Hit). filter (λ e. is_shown hidden e.hit) es ≡ es) (sym whole) (all_pass es)
