-- Look-ups in the joined network with the added entries hidden are those of the old description, at its numbers.
use Rattle.std.proofs.Common.{◌≡◌, ℕ, ◌+◌, ◌≤◌, ◌<◌, Bool, true, false, ◌==◌, cond, if◌then◌else◌, List, [], ◌∷◌, ◌++◌, length, Option, Some, None, refl, sym, ap, ap₂, ◌∙◌, arith}
use Rattle.std.proofs.lemmas.Bool.{lt-ltb, le-ltb}
use Rattle.std.specs.List.{slice_get, filter}
use Rattle.srv6_rules.specs.declared.family.Family.{Family}
use Rattle.srv6_rules.specs.declared.sid.SidEntry.{SidEntry}
use Rattle.net_model.specs.declared.parts.Node.{Node}
use Rattle.net_model.specs.declared.parts.Route.{Route}
use Rattle.net_model.specs.declared.net.Hit.{Hit}
use Rattle.net_model.specs.declared.net.Hit.TheVariants as hits
use Rattle.net_model.specs.Network.{Network, is_shown}
use Rattle.net_model.specs.Best.{Entry, sid_entries, is_route_of, route_entries, address_entries, has_sids, all_entries_of, longest, hit_of, lookup_of}
use Rattle.net_model.proofs.PublicLaws.{whole_entries}
use Rattle.update_spec.specs.Joined.{joined_of}
use Rattle.update_theory.specs.LookupsTerms.{shown_entries, shown_lookup, is_of_old}

-- ---- the old description

abbrev pub shows : (Hit → Bool) → Entry → Bool
shows shown e = shown e.hit

-- an entry is shown where its number is below one, and else not
one_shown : (shown : Hit → Bool) (e : Entry) (es fs : List Entry) → shown e.hit ≡ true → filter (shows shown) es ≡ fs
    → filter (shows shown) (e ∷ es) ≡ e ∷ fs
one_shown shown e es fs is same = rw is (ap (λ l. e ∷ l) same)

one_hidden : (shown : Hit → Bool) (e : Entry) (es fs : List Entry) → shown e.hit ≡ false → filter (shows shown) es ≡ fs
    → filter (shows shown) (e ∷ es) ≡ fs
one_hidden shown e es fs is same = rw is same

hidden_sids : (shown : Hit → Bool) (node n : ℕ) (ss : List SidEntry) → ((k : ℕ) → n ≤ k → shown (hits.Sid k) ≡ false)
    → filter (shows shown) (sid_entries node n ss) ≡ []
hidden_sids shown node n [] h = refl
hidden_sids shown node n (s ∷ ss) h =
    let rest = hidden_sids shown node (n + 1) ss (λ k above. h k (omega (arith, above))) in
    elim (s.node == node) as (λ b. filter (shows shown)
    (if b then record { hit = hits.Sid n; prefix = s.prefix } ∷ sid_entries node (n + 1) ss else sid_entries node (n + 1) ss) ≡ [])
    [ true ↦ one_hidden shown (record { hit = hits.Sid n; prefix = s.prefix }) _ [] (h n (omega arith)) rest | false ↦ rest ]

shown_sids : (shown : Hit → Bool) (node n : ℕ) (ss ts : List SidEntry)
    → ((k : ℕ) → k < n + length ss → shown (hits.Sid k) ≡ true) → ((k : ℕ) → n + length ss ≤ k → shown (hits.Sid k) ≡ false)
    → filter (shows shown) (sid_entries node n (ss ++ ts)) ≡ sid_entries node n ss
shown_sids shown node n [] ts h g = hidden_sids shown node n ts (λ k above. g k (omega (arith, above)))
shown_sids shown node n (s ∷ ss) ts h g =
    let rest = shown_sids shown node (n + 1) ss ts (λ k below. h k (omega (arith, below))) (λ k above. g k (omega (arith, above))) in
    elim (s.node == node) as (λ b. filter (shows shown)
    (if b then record { hit = hits.Sid n; prefix = s.prefix } ∷ sid_entries node (n + 1) (ss ++ ts)
    else sid_entries node (n + 1) (ss ++ ts))
    ≡ (if b then record { hit = hits.Sid n; prefix = s.prefix } ∷ sid_entries node (n + 1) ss else sid_entries node (n + 1) ss))
    [ true ↦ one_shown shown (record { hit = hits.Sid n; prefix = s.prefix }) _ _ (h n (omega arith)) rest | false ↦ rest ]

hidden_routes : (shown : Hit → Bool) (node table : ℕ) (family : Family) (n : ℕ) (rs : List Route)
    → ((k : ℕ) → n ≤ k → shown (hits.Route k) ≡ false) → filter (shows shown) (route_entries node table family n rs) ≡ []
hidden_routes shown node table family n [] h = refl
hidden_routes shown node table family n (r ∷ rs) h =
    let rest = hidden_routes shown node table family (n + 1) rs (λ k above. h k (omega (arith, above))) in
    elim (is_route_of node table family r) as (λ b. filter (shows shown)
    (if b then record { hit = hits.Route n; prefix = r.prefix } ∷ route_entries node table family (n + 1) rs
    else route_entries node table family (n + 1) rs) ≡ [])
    [ true ↦ one_hidden shown (record { hit = hits.Route n; prefix = r.prefix }) _ [] (h n (omega arith)) rest | false ↦ rest ]

shown_routes : (shown : Hit → Bool) (node table : ℕ) (family : Family) (n : ℕ) (rs qs : List Route)
    → ((k : ℕ) → k < n + length rs → shown (hits.Route k) ≡ true) → ((k : ℕ) → n + length rs ≤ k → shown (hits.Route k) ≡ false)
    → filter (shows shown) (route_entries node table family n (rs ++ qs)) ≡ route_entries node table family n rs
shown_routes shown node table family n [] qs h g = hidden_routes shown node table family n qs (λ k above. g k (omega (arith, above)))
shown_routes shown node table family n (r ∷ rs) qs h g =
    let rest = shown_routes shown node table family (n + 1) rs qs (λ k below. h k (omega (arith, below)))
    (λ k above. g k (omega (arith, above))) in
    elim (is_route_of node table family r) as (λ b. filter (shows shown)
    (if b then record { hit = hits.Route n; prefix = r.prefix } ∷ route_entries node table family (n + 1) (rs ++ qs)
    else route_entries node table family (n + 1) (rs ++ qs))
    ≡ (if b then record { hit = hits.Route n; prefix = r.prefix } ∷ route_entries node table family (n + 1) rs
    else route_entries node table family (n + 1) rs))
    [ true ↦ one_shown shown (record { hit = hits.Route n; prefix = r.prefix }) _ _ (h n (omega arith)) rest | false ↦ rest ]

filter_append : {X : Type 0} (p : X → Bool) (xs ys : List X) → filter p (xs ++ ys) ≡ filter p xs ++ filter p ys
filter_append p [] ys = refl
filter_append p (x ∷ xs) ys =
    elim (p x) as (λ b. cond b (x ∷ filter p (xs ++ ys)) (filter p (xs ++ ys)) ≡ cond b (x ∷ filter p xs) (filter p xs) ++ filter p ys)
    [ true ↦ ap (λ l. x ∷ l) (filter_append p xs ys) | false ↦ filter_append p xs ys ]

shown_address : (shown : Hit → Bool) (o : Option Node) → shown hits.Address ≡ true
    → filter (shows shown) (address_entries o) ≡ address_entries o
shown_address shown None is = refl
shown_address shown (Some n) is =
    one_shown shown (record { hit = hits.Address; prefix = record { value = n.address.value; len = 128 } }) [] [] is refl

old_entries : (old new : Network) (node table : ℕ) (family : Family)
    → shown_entries (is_of_old old) (joined_of old new) node table family ≡ all_entries_of old node table family
old_entries old new node table family =
    let shown = is_of_old old in
    let joined = joined_of old new in
    let routes = shown_routes shown node table family 0 old.routes _ (λ k below. lt-ltb k (length old.routes) (omega (arith, below)))
    (λ k above. le-ltb k (length old.routes) (omega (arith, above))) in
    let sids = shown_sids shown node 0 old.sids _ (λ k below. lt-ltb k (length old.sids) (omega (arith, below)))
    (λ k above. le-ltb k (length old.sids) (omega (arith, above))) in
    ap (λ es. filter (shows shown) es) (whole_entries joined node table family refl)
    ∙ (elim (has_sids table family) as (λ b. filter (shows shown)
    (if b then sid_entries node 0 joined.sids
    ++ (address_entries (slice_get joined.nodes node) ++ route_entries node table family 0 joined.routes)
    else route_entries node table family 0 joined.routes)
    ≡ (if b then sid_entries node 0 old.sids ++ (address_entries (slice_get old.nodes node) ++ route_entries node table family 0 old.routes)
    else route_entries node table family 0 old.routes)) [
      | true ↦
          filter_append (shows shown) (sid_entries node 0 joined.sids) _
          ∙ ap₂ (λ l m. l ++ m) sids
          (filter_append (shows shown) (address_entries (slice_get old.nodes node)) _
          ∙ ap₂ (λ l m. l ++ m) (shown_address shown (slice_get old.nodes node) refl) routes)
      | false ↦ routes
    ])

pub old_lookups : (old new : Network) (node table : ℕ) (family : Family) (a : ℕ) → old.hidden ≡ []
    → shown_lookup (is_of_old old) (joined_of old new) node table family a ≡ lookup_of old node table family a
unfolding lookup_of
old_lookups old new node table family a whole =
    ap (λ es. hit_of (longest a es)) (old_entries old new node table family ∙ sym (whole_entries old node table family whole))

-- a look-up among those that are shown is that in the network with the others hidden
pub hidden_lookups : (net : Network) (hidden : List Hit) (node table : ℕ) (family : Family) (a : ℕ) → net.hidden ≡ []
    → shown_lookup (is_shown hidden) net node table family a ≡ lookup_of (record net { hidden = hidden }) node table family a
unfolding lookup_of
hidden_lookups net hidden node table family a whole =
    ap (λ es. hit_of (longest a (filter (λ e. is_shown hidden e.hit) es))) (whole_entries net node table family whole)
