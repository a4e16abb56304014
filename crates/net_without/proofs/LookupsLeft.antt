-- Look-ups in a network without parts.
use Rattle.std.proofs.Common.{◌≡◌, ℕ, zero, suc, ◌+◌, Bool, true, false, cond, ◌==◌, if◌then◌else◌, nat_lt, List, [], ◌∷◌, ◌++◌, length, map, take, Option, None, Some, option_map, refl, sym, ap, ap₂, ◌∙◌, append_assoc, append-nil}
use Rattle.std.proofs.lemmas.Option.{same_Some}
use Rattle.std.proofs.lemmas.List.{length-append}
use Rattle.std.specs.List.{filter, slice_get}
use Rattle.v6_addr.specs.Address.{PrefixValue, holds_address}
use Rattle.srv6_rules.specs.declared.family.Family.{Family}
use Rattle.srv6_rules.specs.declared.sid.SidEntry.{SidEntry}
use Rattle.net_model.specs.declared.parts.Node.{Node}
use Rattle.net_model.specs.declared.parts.Route.{Route}
use Rattle.net_model.specs.declared.net.Hit.{Hit}
use Rattle.net_model.specs.declared.net.Hit.TheVariants as hits
use Rattle.net_model.specs.Network.{Network}
use Rattle.net_model.specs.Best.{Entry, sid_entries, is_route_of, route_entries, address_entries, has_sids, all_entries_of, longer, longest, hit_of, lookup_of}
use Rattle.net_model.specs.NetworkJudging.{title_text}
use Rattle.net_model.proofs.PublicLaws.{whole_entries}
use Rattle.update_spec.specs.Joined.{numbered_beside, numbered}
use Rattle.update_theory.specs.LookupsTerms.{passes_or_absent, shown_lookup}
use Rattle.net_without.specs.Without.{is_left_route, is_left_sid, cut_route, cut_sid, left_routes, left_sids, network_left}
use Rattle.net_without.specs.WithoutTerms.{place_left, renumbered, is_left_hit}

-- ---- the entries of items of any kind

abbrev listed : {X : Type 0} → (X → Bool) → (ℕ → Hit) → (X → PrefixValue) → ℕ → List X → List Entry
listed mine hit prefix n [] = []
listed mine hit prefix n (x ∷ xs) =
    if mine x then record { hit = hit n; prefix = prefix x } ∷ listed mine hit prefix (n + 1) xs else listed mine hit prefix (n + 1) xs

routes_listed : (node table : ℕ) (family : Family) (n : ℕ) (rs : List Route)
    → route_entries node table family n rs ≡ listed (is_route_of node table family) hits.Route (λ r. r.prefix) n rs
routes_listed node table family n [] = refl
routes_listed node table family n (r ∷ rs) =
    ap (λ (l : List Entry). if is_route_of node table family r then record { hit = hits.Route n; prefix = r.prefix } ∷ l else l) (routes_listed node table family (n + 1) rs)

sids_listed : (node n : ℕ) (ss : List SidEntry) → sid_entries node n ss ≡ listed (λ s. s.node == node) hits.Sid (λ s. s.prefix) n ss
sids_listed node n [] = refl
sids_listed node n (s ∷ ss) =
    ap (λ (l : List Entry). if s.node == node then record { hit = hits.Sid n; prefix = s.prefix } ∷ l else l) (sids_listed node (n + 1) ss)

-- numbering titles anew leaves the entries
numbered_entries : (node n k : ℕ) (titles : List (List ℕ)) (ss : List SidEntry) → sid_entries node n (numbered titles k ss) ≡ sid_entries node n ss
numbered_entries node n k titles [] = refl
numbered_entries node n k titles (s ∷ ss) =
    elim (title_text titles s) as (λ o. sid_entries node n (numbered_beside o k s (λ m. numbered titles m ss)) ≡ sid_entries node n (s ∷ ss)) [
      | None ↦ ap (λ (l : List Entry). if s.node == node then record { hit = hits.Sid n; prefix = s.prefix } ∷ l else l) (numbered_entries node (n + 1) k titles ss)
      | Some t ↦ ap (λ (l : List Entry). if s.node == node then record { hit = hits.Sid n; prefix = s.prefix } ∷ l else l) (numbered_entries node (n + 1) (k + 1) titles ss)
    ]

-- ---- places

at_seam : {X : Type 0} (front : List X) (x : X) (rest : List X) → slice_get (front ++ x ∷ rest) (length front) ≡ Some x
at_seam [] x rest = refl
at_seam (y ∷ front) x rest = at_seam front x rest

front_of : {X : Type 0} (front rest : List X) → take (length front) (front ++ rest) ≡ front
front_of [] rest = refl
front_of (y ∷ front) rest = ap (λ l. y ∷ l) (front_of front rest)

filter_append : {X : Type 0} (p : X → Bool) (xs ys : List X) → filter p (xs ++ ys) ≡ filter p xs ++ filter p ys
filter_append p [] ys = refl
filter_append p (x ∷ xs) ys =
    elim (p x) as (λ b. cond b (x ∷ filter p (xs ++ ys)) (filter p (xs ++ ys)) ≡ cond b (x ∷ filter p xs) (filter p xs) ++ filter p ys)
    [ true ↦ ap (λ l. x ∷ l) (filter_append p xs ys) | false ↦ filter_append p xs ys ]

map_append : {X Y : Type 0} (f : X → Y) (xs ys : List X) → map f (xs ++ ys) ≡ map f xs ++ map f ys
map_append f [] ys = refl
map_append f (x ∷ xs) ys = ap (λ l. f x ∷ l) (map_append f xs ys)

left_more : {X : Type 0} (left : X → Bool) (front : List X) (x : X) → left x ≡ true → length (filter left (front ++ x ∷ [])) ≡ length (filter left front) + 1
left_more left front x e =
    ap length (filter_append left front (x ∷ [])) ∙ length-append (filter left front) (filter left (x ∷ []))
    ∙ ap (λ (b : Bool). length (filter left front) + length (cond b (x ∷ []) [])) e

left_same : {X : Type 0} (left : X → Bool) (front : List X) (x : X) → left x ≡ false → length (filter left (front ++ x ∷ [])) ≡ length (filter left front)
left_same left front x e =
    ap length (filter_append left front (x ∷ []) ∙ ap (λ (b : Bool). filter left front ++ cond b (x ∷ []) []) e ∙ append-nil (filter left front))

-- ---- the entries that stay, with their numbers

abbrev moved : (Hit → Hit) → Entry → Entry
moved number e = record e { hit = number e.hit }

abbrev kept : (Hit → Bool) → (Hit → Hit) → List Entry → List Entry
kept stays number es = map (moved number) (filter (λ e. stays e.hit) es)

record Moves {X : Type 0} (left : X → Bool) (hit : ℕ → Hit) (all : List X) (stays : Hit → Bool) (number : Hit → Hit) : Type 0 where
  stay : (n : ℕ) → stays (hit n) ≡ passes_or_absent left (slice_get all n)
  place : (n : ℕ) → number (hit n) ≡ hit (place_left left all n)

listed_left : {X : Type 0} (mine left : X → Bool) (f : X → X) (hit : ℕ → Hit) (prefix : X → PrefixValue) (all : List X) (stays : Hit → Bool) (number : Hit → Hit)
    → ((x : X) → mine (f x) ≡ mine x) → ((x : X) → prefix (f x) ≡ prefix x) → Moves left hit all stays number → (front rest : List X) → all ≡ front ++ rest
    → listed mine hit prefix (length (filter left front)) (map f (filter left rest)) ≡ kept stays number (listed mine hit prefix (length front) rest)
listed_left mine left f hit prefix all stays number same same_prefix moves front [] e = refl
listed_left {X} mine left f hit prefix all stays number same same_prefix moves front (x ∷ rest) e =
    by (listed_left mine left f hit prefix all stays number same same_prefix moves (front ++ x ∷ []) rest (e ∙ sym (append_assoc front (x ∷ []) rest))
    ∙ ap (λ n. kept stays number (listed mine hit prefix n rest)) (length-append front (x ∷ []))) (left x) (mine x) refl refl
  where
    stays_here : stays (hit (length front)) ≡ left x
    stays_here = moves.stay (length front) ∙ ap (λ (l : List X). passes_or_absent left (slice_get l (length front))) e ∙ ap (passes_or_absent left) (at_seam front x rest)

    number_here : number (hit (length front)) ≡ hit (length (filter left front))
    number_here = moves.place (length front) ∙ ap (λ (l : List X). hit (length (filter left (take (length front) l)))) e
        ∙ ap (λ (l : List X). hit (length (filter left l))) (front_of front (x ∷ rest))

    by : listed mine hit prefix (length (filter left (front ++ x ∷ []))) (map f (filter left rest)) ≡ kept stays number (listed mine hit prefix (length front + 1) rest)
        → (b c : Bool) → left x ≡ b → mine x ≡ c
        → listed mine hit prefix (length (filter left front)) (map f (cond b (x ∷ filter left rest) (filter left rest)))
        ≡ kept stays number (if c then record { hit = hit (length front); prefix = prefix x } ∷ listed mine hit prefix (length front + 1) rest else listed mine hit prefix (length front + 1) rest)
    by next true true l m =
        let behind : listed mine hit prefix (length (filter left front) + 1) (map f (filter left rest)) ≡ kept stays number (listed mine hit prefix (length front + 1) rest) =
        ap (λ n. listed mine hit prefix n (map f (filter left rest))) (sym (left_more left front x l)) ∙ next in
        let passes : stays (hit (length front)) ≡ true = stays_here ∙ l in
        rw (same x ∙ m, same_prefix x, passes, number_here)
        (ap (λ (es : List Entry). record { hit = hit (length (filter left front)); prefix = prefix x } ∷ es) behind)
    by next true false l m =
        let behind : listed mine hit prefix (length (filter left front) + 1) (map f (filter left rest)) ≡ kept stays number (listed mine hit prefix (length front + 1) rest) =
        ap (λ n. listed mine hit prefix n (map f (filter left rest))) (sym (left_more left front x l)) ∙ next in
        rw (same x ∙ m) behind
    by next false true l m =
        let fails : stays (hit (length front)) ≡ false = stays_here ∙ l in
        rw fails (ap (λ n. listed mine hit prefix n (map f (filter left rest))) (sym (left_same left front x l)) ∙ next)
    by next false false l m = ap (λ n. listed mine hit prefix n (map f (filter left rest))) (sym (left_same left front x l)) ∙ next

-- ---- the entries of a table

routes_left_entries : (net : Network) (up : ℕ → Bool) (node table : ℕ) (family : Family)
    → route_entries node table family 0 (left_routes up net.routes) ≡ kept (is_left_hit up net) (renumbered up net) (route_entries node table family 0 net.routes)
routes_left_entries net up node table family =
    routes_listed node table family 0 (left_routes up net.routes)
    ∙ listed_left (is_route_of node table family) (is_left_route up) (cut_route up) hits.Route (λ r. r.prefix) net.routes (is_left_hit up net) (renumbered up net)
    (λ r. refl) (λ r. refl) (record { stay = λ n. refl; place = λ n. refl }) [] net.routes refl
    ∙ ap (kept (is_left_hit up net) (renumbered up net)) (sym (routes_listed node table family 0 net.routes))

sids_left_entries : (net : Network) (up : ℕ → Bool) (node : ℕ)
    → sid_entries node 0 (network_left up net).sids ≡ kept (is_left_hit up net) (renumbered up net) (sid_entries node 0 net.sids)
sids_left_entries net up node =
    numbered_entries node 0 0 net.titles (left_sids up net.sids)
    ∙ sids_listed node 0 (left_sids up net.sids)
    ∙ listed_left (λ s. s.node == node) (is_left_sid up) (cut_sid up) hits.Sid (λ s. s.prefix) net.sids (is_left_hit up net) (renumbered up net)
    (λ s. refl) (λ s. refl) (record { stay = λ n. refl; place = λ n. refl }) [] net.sids refl
    ∙ ap (kept (is_left_hit up net) (renumbered up net)) (sym (sids_listed node 0 net.sids))

address_stays : (net : Network) (up : ℕ → Bool) (o : Option Node) → address_entries o ≡ kept (is_left_hit up net) (renumbered up net) (address_entries o)
address_stays net up None = refl
address_stays net up (Some node) = refl

kept_append : (stays : Hit → Bool) (number : Hit → Hit) (xs ys : List Entry) → kept stays number (xs ++ ys) ≡ kept stays number xs ++ kept stays number ys
kept_append stays number xs ys =
    ap (map (moved number)) (filter_append (λ e. stays e.hit) xs ys) ∙ map_append (moved number) (filter (λ e. stays e.hit) xs) (filter (λ e. stays e.hit) ys)

entries_left : (net : Network) (up : ℕ → Bool) (node table : ℕ) (family : Family)
    → all_entries_of (network_left up net) node table family ≡ kept (is_left_hit up net) (renumbered up net) (all_entries_of net node table family)
entries_left net up node table family =
    let routes = route_entries node table family 0 net.routes in
    let address = address_entries (slice_get net.nodes node) in
    let sids = sid_entries node 0 net.sids in
    let keep : List Entry → List Entry = kept (is_left_hit up net) (renumbered up net) in
    elim (has_sids table family) as (λ b. (if b then sid_entries node 0 (network_left up net).sids
    ++ (address ++ route_entries node table family 0 (left_routes up net.routes))
    else route_entries node table family 0 (left_routes up net.routes))
    ≡ keep (if b then sids ++ (address ++ routes) else routes)) [
      | true ↦ ap₂ (λ (a b : List Entry). a ++ b) (sids_left_entries net up node)
          (ap₂ (λ (a b : List Entry). a ++ b) (address_stays net up (slice_get net.nodes node)) (routes_left_entries net up node table family)
          ∙ sym (kept_append (is_left_hit up net) (renumbered up net) address routes))
          ∙ sym (kept_append (is_left_hit up net) (renumbered up net) sids (address ++ routes))
      | false ↦ routes_left_entries net up node table family
    ]

-- ---- the longest

longer_moved : (number : Hit → Hit) (e : Entry) (o : Option Entry) → longer (Some (moved number e)) (option_map (moved number) o) ≡ option_map (moved number) (longer (Some e) o)
longer_moved number e None = refl
longer_moved number e (Some f) =
    elim (nat_lt e.prefix.len f.prefix.len) as (λ b. (if b then Some (moved number f) else Some (moved number e)) ≡ option_map (moved number) (if b then Some f else Some e))
    [ true ↦ refl | false ↦ refl ]

longest_moved : (number : Hit → Hit) (a : ℕ) (es : List Entry) → longest a (map (moved number) es) ≡ option_map (moved number) (longest a es)
longest_moved number a [] = refl
longest_moved number a (e ∷ es) =
    elim (holds_address e.prefix a) as (λ b. (if b then longer (Some (moved number e)) (longest a (map (moved number) es)) else longest a (map (moved number) es))
    ≡ option_map (moved number) (if b then longer (Some e) (longest a es) else longest a es)) [
      | true ↦ ap (longer (Some (moved number e))) (longest_moved number a es) ∙ longer_moved number e (longest a es)
      | false ↦ longest_moved number a es
    ]

hit_moved : (net : Network) (up : ℕ → Bool) (o : Option Entry) → hit_of (option_map (moved (renumbered up net)) o) ≡ renumbered up net (hit_of o)
hit_moved net up None = refl
hit_moved net up (Some e) = refl

pub left_lookups : (net : Network) (up : ℕ → Bool) (node table : ℕ) (family : Family) (a : ℕ) → net.hidden ≡ []
    → lookup_of (network_left up net) node table family a ≡ renumbered up net (shown_lookup (is_left_hit up net) net node table family a)
unfolding lookup_of
left_lookups net up node table family a whole =
    let es = all_entries_of net node table family in
    let number = renumbered up net in
    ap (λ (l : List Entry). hit_of (longest a l)) (whole_entries (network_left up net) node table family refl ∙ entries_left net up node table family)
    ∙ ap hit_of (longest_moved number a (filter (λ e. is_left_hit up net e.hit) es))
    ∙ hit_moved net up (longest a (filter (λ e. is_left_hit up net e.hit) es))
    ∙ ap (λ (l : List Entry). number (hit_of (longest a (filter (λ e. is_left_hit up net e.hit) l)))) (sym (whole_entries net node table family whole))

-- ---- a route by its new number

place_of : {X : Type 0} (left : X → Bool) (f : X → X) (xs : List X) (n : ℕ) (x : X) → slice_get xs n ≡ Some x → left x ≡ true
    → slice_get (map f (filter left xs)) (place_left left xs n) ≡ Some (f x)
place_of left f [] n x at e = cc
place_of left f (y ∷ xs) zero x at e =
    let same : y ≡ x = same_Some y x at in
    let passes : left y ≡ true = ap left same ∙ e in
    rw passes (ap (λ z. Some (f z)) same)
place_of left f (y ∷ xs) (suc n) x at e =
    elim (left y) as (λ b. slice_get (map f (cond b (y ∷ filter left xs) (filter left xs))) (length (cond b (y ∷ filter left (take n xs)) (filter left (take n xs)))) ≡ Some (f x))
    [ true ↦ place_of left f xs n x at e | false ↦ place_of left f xs n x at e ]

pub left_route_places : (net : Network) (up : ℕ → Bool) (n : ℕ) (r : Route) → slice_get net.routes n ≡ Some r → is_left_route up r ≡ true
    → slice_get (network_left up net).routes (place_left (is_left_route up) net.routes n) ≡ Some (cut_route up r)
left_route_places net up n r at e = place_of (is_left_route up) (cut_route up) net.routes n r at e
