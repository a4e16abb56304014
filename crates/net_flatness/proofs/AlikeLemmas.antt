-- A flat network looks all own addresses of a SID up alike.
use Rattle.std.proofs.Common.{◌≡◌, ℕ, ◌≤◌, Bool, true, false, cond, List, [], ◌∷◌, Some, refl, sym, ap, ◌∙◌, subst, arith, inl, inr}
use Rattle.std.specs.List.{slice_get, Contains}
use Rattle.std.proofs.lemmas.Bool.{cases_lt}
use Rattle.std.proofs.lemmas.Option.{same_Some}
use Rattle.v6_addr.specs.Address.{PrefixValue, Holds, holds_address, IsInside}
use Rattle.v6_addr.proofs.PublicLaws.{holds_address_is, Holds_nested, Holds_alike, same_value}
use Rattle.srv6_rules.specs.declared.family.Family.TheVariants as families
use Rattle.srv6_rules.specs.declared.sid.SidEntry.{SidEntry}
use Rattle.net_model.specs.declared.net.Hit.{Hit}
use Rattle.net_model.specs.declared.net.Hit.TheVariants as hits
use Rattle.net_model.specs.Network.{Network, is_shown}
use Rattle.net_model.specs.NetworkRulesTerms.{IsNetwork}
use Rattle.net_model.specs.Best.{Entry, entries_of, longer, longest, hit_of, lookup_of}
use Rattle.net_model.specs.BestTerms.{IsBestEntry, IsBest}
use Rattle.net_model.specs.Entries.{IsEntryAs}
use Rattle.net_model.proofs.PublicLaws.{keeps_from_network, entry_means, entry_is_there, contains_first, contains_later, lookup_is_best, best_is_one, same_prefix_value, contains_from_get}
use Rattle.net_flatness.specs.Nests.{IsNest}
use Rattle.net_flatness.specs.NestsTerms.{IsOwn}
use Rattle.net_flatness.specs.Flat.{IsFlat}

-- the scans agree where each entry holds both addresses or neither
longest_alike : (a b : ℕ) (es : List Entry) → ((e : Entry) → Contains es e → holds_address e.prefix a ≡ holds_address e.prefix b)
    → longest a es ≡ longest b es
longest_alike a b [] same = refl
longest_alike a b (e ∷ es) same =
    ap (λ h. cond h (longer (Some e) (longest a es)) (longest a es)) (same e (contains_first e es))
    ∙ ap (λ o. cond (holds_address e.prefix b) (longer (Some e) o) o) (longest_alike a b es (λ f c. same f (contains_later e es f c)))

-- in a flat network no entry of IPv6 that holds an own address of a SID lies strictly inside that SID
none_inside : (net : Network) (node table n a : ℕ) (s : SidEntry) (p : PrefixValue) (h : Hit) → IsFlat net → slice_get net.sids n ≡ Some s
    → IsOwn net s a → IsEntryAs net node table families.V6 p h → Holds p a → ¬ IsInside p s.prefix
none_inside net node table n a s p (hits.Sid m) flat at own (t, at_t, of, is, first, v6) holds inside =
    let in_t = contains_from_get net.sids m t at_t in
    own.clear t in_t
    (flat.nested.sids s t (contains_from_get net.sids n s at) in_t (subst (λ (q : PrefixValue). IsInside q s.prefix) (sym is) inside))
    (subst (λ (q : PrefixValue). Holds q a) (sym is) holds)
none_inside net node table n a s p hits.Address flat at own (k, at_k, is, first, v6) holds inside =
    flat.nested.addresses s k (contains_from_get net.sids n s at) (contains_from_get net.nodes node k at_k)
    (subst (λ (q : PrefixValue). IsInside q s.prefix) is inside)
none_inside net node table n a s p (hits.Route m) flat at own (r, at_r, of, in_table, v6, is) holds inside =
    flat.nested.routes s r (contains_from_get net.sids n s at) (contains_from_get net.routes m r at_r) v6
    (subst (λ (q : PrefixValue). IsInside q s.prefix) (sym is) inside)
none_inside net node table n a s p hits.Nothing flat at own none holds inside = none

-- none is longer than its prefix
no_longer : (net : Network) (node table n a : ℕ) (s : SidEntry) (e : Entry) → IsFlat net → slice_get net.sids n ≡ Some s → IsOwn net s a
    → Contains (entries_of net node table families.V6) e → Holds e.prefix a → e.prefix.len ≤ s.prefix.len
no_longer net node table n a s e flat at own there e_a =
    elim (cases_lt s.prefix.len e.prefix.len) [
      | inl longer ↦ absurd (none_inside net node table n a s e.prefix e.hit flat at own
          (entry_means net node table families.V6 e there) e_a (longer, Holds_nested s.prefix e.prefix a (omega arith) own.held e_a))
      | inr shorter ↦ shorter
    ]

same_answer : (x y : Bool) → (x ≡ true → y ≡ true) → (y ≡ true → x ≡ true) → x ≡ y
same_answer true y to from = sym (to refl)
same_answer false true to from = from refl
same_answer false false to from = refl

entry_alike : (net : Network) (node table n a b : ℕ) (s : SidEntry) (e : Entry) → IsFlat net → slice_get net.sids n ≡ Some s
    → IsOwn net s a → IsOwn net s b
    → Contains (entries_of net node table families.V6) e → holds_address e.prefix a ≡ holds_address e.prefix b
entry_alike net node table n a b s e flat at own_a own_b there =
    same_answer (holds_address e.prefix a) (holds_address e.prefix b)
    (λ h. let e_a = (holds_address_is e.prefix a).0 h in
    (holds_address_is e.prefix b).1 (Holds_alike e.prefix s.prefix a b
    (no_longer net node table n a s e flat at own_a there e_a) own_a.held own_b.held e_a))
    (λ h. let e_b = (holds_address_is e.prefix b).0 h in
    (holds_address_is e.prefix a).1 (Holds_alike e.prefix s.prefix b a
    (no_longer net node table n b s e flat at own_b there e_b) own_b.held own_a.held e_b))

pub lookups_alike : (net : Network) (n : ℕ) (s : SidEntry) (node table a b : ℕ) → IsFlat net → slice_get net.sids n ≡ Some s
    → IsOwn net s a → IsOwn net s b → lookup_of net node table families.V6 a ≡ lookup_of net node table families.V6 b
unfolding lookup_of
lookups_alike net n s node table a b flat at own_a own_b =
    ap hit_of (longest_alike a b (entries_of net node table families.V6)
    (λ e there. entry_alike net node table n a b s e flat at own_a own_b there))

-- at its own node the SID is the best match of each of its own addresses
shown_is_best : (net : Network) (n : ℕ) (s : SidEntry) (a : ℕ) → IsNetwork net → IsFlat net → slice_get net.sids n ≡ Some s
    → IsOwn net s a → is_shown net.hidden (hits.Sid n) ≡ true → lookup_of net s.node 0 families.V6 a ≡ hits.Sid n
shown_is_best net n s a rules flat at own shown =
    let best : IsBestEntry (entries_of net s.node 0 families.V6) a (record { hit = hits.Sid n; prefix = s.prefix }) = record {
      is_there = entry_is_there net s.node 0 families.V6 s.prefix (hits.Sid n) (s, at, refl, refl, refl, refl) shown;
      holds = own.held;
      no_better = λ other there other_a. (no_longer net s.node 0 n a s other flat at own there other_a, λ same. omega arith);
    } in
    best_is_one net s.node 0 families.V6 a (lookup_of net s.node 0 families.V6 a) (hits.Sid n) rules
    (lookup_is_best net s.node 0 families.V6 a) (s.prefix, best)

-- the SID that is hit by an own address of a SID is not shorter: else the two were a nest, and at the node of both the inner one is the
-- better match
no_shorter : (net : Network) (n m a node table : ℕ) (s t : SidEntry) → IsFlat net → slice_get net.sids n ≡ Some s
    → slice_get net.sids m ≡ Some t → IsOwn net s a → is_shown net.hidden (hits.Sid n) ≡ true → Holds t.prefix a → t.node ≡ node
    → table ≡ 0
    → IsBestEntry (entries_of net node table families.V6) a (record { hit = hits.Sid m; prefix = t.prefix }) → s.prefix.len ≤ t.prefix.len
no_shorter net n m a node table s t flat at_n at_m own shown t_a of first best =
    elim (cases_lt t.prefix.len s.prefix.len) [
      | inl shorter ↦
          let nest : IsNest net t s = flat.nested.sids t s (contains_from_get net.sids m t at_m) (contains_from_get net.sids n s at_n)
          (shorter, Holds_nested t.prefix s.prefix a (omega arith) t_a own.held) in
          let there = entry_is_there net node table families.V6 s.prefix (hits.Sid n)
          (s, at_n, sym nest.node ∙ of, refl, first, refl) shown in
          (best.no_better (record { hit = hits.Sid n; prefix = s.prefix }) there own.held).0
      | inr longer ↦ longer
    ]

-- a SID that is hit by an own address of a SID has its prefix
shown_prefix : (net : Network) (n m : ℕ) (s t : SidEntry) (node table a : ℕ) → IsNetwork net → IsFlat net
    → slice_get net.sids n ≡ Some s → IsOwn net s a → is_shown net.hidden (hits.Sid n) ≡ true
    → lookup_of net node table families.V6 a ≡ hits.Sid m → slice_get net.sids m ≡ Some t → s.prefix ≡ t.prefix
shown_prefix net n m s t node table a rules flat at_n own shown hit at_m =
    let keeps = keeps_from_network net rules in
    let (p, best) = subst (IsBest net node table families.V6 a) hit (lookup_is_best net node table families.V6 a) in
    let (u, at_u, of, is, first, v6) = entry_means net node table families.V6 (record { hit = hits.Sid m; prefix = p }) best.is_there in
    let same : t ≡ u = same_Some t u (sym at_m ∙ at_u) in
    let prefix : p ≡ t.prefix = sym (ap (λ (v : SidEntry). v.prefix) same ∙ is) in
    let mine : IsBestEntry (entries_of net node table families.V6) a (record { hit = hits.Sid m; prefix = t.prefix }) =
    subst (λ (q : PrefixValue). IsBestEntry (entries_of net node table families.V6) a (record { hit = hits.Sid m; prefix = q })) prefix
    best in
    let short = no_longer net node table n a s (record { hit = hits.Sid m; prefix = t.prefix }) flat at_n own mine.is_there mine.holds in
    let long = no_shorter net n m a node table s t flat at_n at_m own shown mine.holds
    (ap (λ (v : SidEntry). v.node) same ∙ of) first mine in
    let len : s.prefix.len ≡ t.prefix.len = omega (arith, short, long) in
    same_prefix_value s.prefix t.prefix
    (same_value s.prefix t.prefix a (keeps.sid n s at_n).prefix (keeps.sid m t at_m).prefix len own.held mine.holds) len

-- in a flat network nothing is hidden
all_shown : (net : Network) → IsFlat net → (h : Hit) → is_shown net.hidden h ≡ true
all_shown net flat h = ap (λ (hidden : List Hit). is_shown hidden h) flat.whole

pub own_sid_is_best : (net : Network) (n : ℕ) (s : SidEntry) (a : ℕ) → IsNetwork net → IsFlat net → slice_get net.sids n ≡ Some s
    → IsOwn net s a → lookup_of net s.node 0 families.V6 a ≡ hits.Sid n
own_sid_is_best net n s a rules flat at own = shown_is_best net n s a rules flat at own (all_shown net flat (hits.Sid n))

pub one_sid_prefix : (net : Network) (n m : ℕ) (s t : SidEntry) (node table a : ℕ) → IsNetwork net → IsFlat net
    → slice_get net.sids n ≡ Some s → IsOwn net s a
    → lookup_of net node table families.V6 a ≡ hits.Sid m → slice_get net.sids m ≡ Some t → s.prefix ≡ t.prefix
one_sid_prefix net n m s t node table a rules flat at_n own hit at_m =
    shown_prefix net n m s t node table a rules flat at_n own (all_shown net flat (hits.Sid n)) hit at_m
