-- What a look-up gives is there: its SID or route has that number, and is the node's.
use Rattle.std.proofs.Common.{◌≡◌, ℕ, suc, ◌+◌, Bool, true, false, ◌==◌, ◌&&◌, nat_lt, cond, if◌then◌else◌, List, [], ◌∷◌, ◌++◌, Option, Some, None, slice_get, refl, arith, add-zero, eqb-true, subst, sym}
use Rattle.std.proofs.lemmas.Option.{slice_get_within}
use Rattle.v6_addr.specs.Address.{holds_address}
use Rattle.srv6_rules.specs.declared.family.Family.{Family}
use Rattle.srv6_rules.specs.declared.sid.SidEntry.{SidEntry}
use Rattle.net_model.specs.declared.parts.Node.{Node}
use Rattle.net_model.specs.declared.parts.Route.{Route}
use Rattle.net_model.specs.declared.net.Hit.{Hit}
use Rattle.net_model.specs.declared.net.Hit.TheVariants as hits
use Rattle.std.specs.List.{filter}
use Rattle.net_model.specs.Network.{Network, is_shown}
use Rattle.net_model.specs.NetworkRules.{same_family}
use Rattle.net_model.specs.Best.{Entry, sid_entries, route_entries, address_entries, has_sids, all_entries_of, entries_of, longer, longest, hit_of, lookup_of}
use Rattle.walk_rules.specs.WayTerms.{StandsAt, IsRouteOf, IsNumbered, IsThere}

abbrev Each : (Entry → Type 0) → List Entry → Type 0
Each P [] = Unit {0}
Each P (e ∷ es) = P e × Each P es

abbrev IfEntry : (Entry → Type 0) → Option Entry → Type 0
IfEntry P None = Unit {0}
IfEntry P (Some e) = P e

longer_one : (P : Entry → Type 0) (e : Entry) (later : Option Entry) → P e → IfEntry P later → IfEntry P (longer (Some e) later)
longer_one P e None here there = here
longer_one P e (Some f) here there = by_test (nat_lt e.prefix.len f.prefix.len)
  where
    by_test : (t : Bool) → IfEntry P (if t then Some f else Some e)
    by_test true = there
    by_test false = here

longest_one : (P : Entry → Type 0) (a : ℕ) (es : List Entry) → Each P es → IfEntry P (longest a es)
longest_one P a [] each = tt
longest_one P a (e ∷ es) each = by_test (holds_address e.prefix a) (longest a es) (longest_one P a es each.1)
  where
    by_test : (t : Bool) (later : Option Entry) → IfEntry P later → IfEntry P (if t then longer (Some e) later else later)
    by_test true later there = longer_one P e later each.0 there
    by_test false later there = there

Each_append : (P : Entry → Type 0) (es fs : List Entry) → Each P es → Each P fs → Each P (es ++ fs)
Each_append P [] fs here there = there
Each_append P (e ∷ es) fs here there = (here.0, Each_append P es fs here.1 there)

-- the list from its place n on
abbrev IsFrom : {X : Type 0} → List X → ℕ → List X → Type 0
IsFrom xs n ys = (k : ℕ) → slice_get xs (n + k) ≡ slice_get ys k

IsFrom_head : {X : Type 0} (xs : List X) (n : ℕ) (y : X) (ys : List X) → IsFrom xs n (y ∷ ys) → slice_get xs n ≡ Some y
IsFrom_head xs n y ys same = rw add-zero at (same 0)

IsFrom_tail : {X : Type 0} (xs : List X) (n : ℕ) (y : X) (ys : List X) → IsFrom xs n (y ∷ ys) → IsFrom xs (n + 1) ys
IsFrom_tail xs n y ys same = λ k. let e : n + 1 + k ≡ n + suc k = omega arith in rw e (same (suc k))

IsFrom_whole : {X : Type 0} (xs : List X) → IsFrom xs 0 xs
IsFrom_whole xs = λ k. let e : 0 + k ≡ k = omega arith in rw e

abbrev EntryIsThere : Network → ℕ → Entry → Type 0
EntryIsThere net node e = IsThere net node e.hit

stands_at : (net : Network) (node n : ℕ) (s : SidEntry) → slice_get net.sids n ≡ Some s → (s.node == node) ≡ true → StandsAt net node n
stands_at net node n s there e =
    record { within = slice_get_within net.sids n s there; sid = s; is_there = there; stands = eqb-true s.node node e }

route_of : (net : Network) (node n : ℕ) (r : Route) → slice_get net.routes n ≡ Some r → (r.node == node) ≡ true → IsRouteOf net node n
route_of net node n r there e =
    record { within = slice_get_within net.routes n r there; route = r; is_there = there; stands = eqb-true r.node node e }

sids_there : (net : Network) (node n : ℕ) (ss : List SidEntry) → IsFrom net.sids n ss → Each (EntryIsThere net node) (sid_entries node n ss)
sids_there net node n [] same = tt
sids_there net node n (s ∷ ss) same =
    by_test (s.node == node) refl (sids_there net node (n + 1) ss (IsFrom_tail net.sids n s ss same))
  where
    by_test : (t : Bool) → (s.node == node) ≡ t → Each (EntryIsThere net node) (sid_entries node (n + 1) ss)
        → Each (EntryIsThere net node)
        (if t then record { hit = hits.Sid n; prefix = s.prefix } ∷ sid_entries node (n + 1) ss else sid_entries node (n + 1) ss)
    by_test true e rest = (stands_at net node n s (IsFrom_head net.sids n s ss same) e, rest)
    by_test false e rest = rest

routes_there : (net : Network) (node table : ℕ) (family : Family) (n : ℕ) (rs : List Route) → IsFrom net.routes n rs
    → Each (EntryIsThere net node) (route_entries node table family n rs)
routes_there net node table family n [] same = tt
routes_there net node table family n (r ∷ rs) same =
    by_test (r.node == node) ((r.table == table) && same_family r.family family) refl
    (routes_there net node table family (n + 1) rs (IsFrom_tail net.routes n r rs same))
  where
    by_test : (t u : Bool) → (r.node == node) ≡ t → Each (EntryIsThere net node) (route_entries node table family (n + 1) rs)
        → Each (EntryIsThere net node)
        (if t && u then record { hit = hits.Route n; prefix = r.prefix } ∷ route_entries node table family (n + 1) rs
        else route_entries node table family (n + 1) rs)
    by_test true true e rest = (route_of net node n r (IsFrom_head net.routes n r rs same) e, rest)
    by_test true false e rest = rest
    by_test false u e rest = rest

address_there : (net : Network) (node : ℕ) (at : Option Node) → Each (EntryIsThere net node) (address_entries at)
address_there net node None = tt
address_there net node (Some n) = (tt, tt)

all_there : (net : Network) (node table : ℕ) (family : Family) → Each (EntryIsThere net node) (all_entries_of net node table family)
all_there net node table family = by_test (has_sids table family)
  where
    by_test : (t : Bool) → Each (EntryIsThere net node)
        (if t then sid_entries node 0 net.sids ++
        (address_entries (slice_get net.nodes node) ++ route_entries node table family 0 net.routes)
        else route_entries node table family 0 net.routes)
    by_test true =
        Each_append (EntryIsThere net node) _ _ (sids_there net node 0 net.sids (IsFrom_whole net.sids))
        (Each_append (EntryIsThere net node) _ _ (address_there net node (slice_get net.nodes node))
        (routes_there net node table family 0 net.routes (IsFrom_whole net.routes)))
    by_test false = routes_there net node table family 0 net.routes (IsFrom_whole net.routes)

Each_filter : (P : Entry → Type 0) (test : Entry → Bool) (es : List Entry) → Each P es → Each P (filter test es)
Each_filter P test [] each = tt
Each_filter P test (e ∷ es) each = by_test (test e) (Each_filter P test es each.1)
  where
    by_test : (t : Bool) → Each P (filter test es) → Each P (cond t (e ∷ filter test es) (filter test es))
    by_test true rest = (each.0, rest)
    by_test false rest = rest

entries_there : (net : Network) (node table : ℕ) (family : Family) → Each (EntryIsThere net node) (entries_of net node table family)
entries_there net node table family =
    Each_filter (EntryIsThere net node) (λ e. is_shown net.hidden e.hit) (all_entries_of net node table family)
    (all_there net node table family)

hit_there : (net : Network) (node : ℕ) (found : Option Entry) → IfEntry (EntryIsThere net node) found → IsThere net node (hit_of found)
hit_there net node None there = tt
hit_there net node (Some e) there = there

-- what a look-up gives is there, and the node's
pub lookup_there : (net : Network) (node table : ℕ) (family : Family) (a : ℕ) → IsThere net node (lookup_of net node table family a)
unfolding lookup_of
lookup_there net node table family a =
    hit_there net node (longest a (entries_of net node table family))
    (longest_one (EntryIsThere net node) a (entries_of net node table family) (entries_there net node table family))

-- so its number is one of the network's
numbered : (net : Network) (node : ℕ) (hit : Hit) → IsThere net node hit → IsNumbered net hit
numbered net node (hits.Sid n) there = there.within
numbered net node hits.Address there = tt
numbered net node (hits.Route n) there = there.within
numbered net node hits.Nothing there = tt

pub lookup_numbered : (net : Network) (node table : ℕ) (family : Family) (a : ℕ) (hit : Hit) → hit ≡ lookup_of net node table family a
    → IsNumbered net hit
lookup_numbered net node table family a hit e =
    subst (IsNumbered net) (sym e) (numbered net node (lookup_of net node table family a) (lookup_there net node table family a))
