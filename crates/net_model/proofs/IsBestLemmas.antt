-- Best match: the look-up meets the relation, and the relation has one answer.
use Rattle.std.proofs.Common.{◌≡◌, ℕ, ◌≤◌, Bool, true, false, ltb, List, [], ◌∷◌, ◌++◌, Option, Some, None, refl, sym, ap, ◌∙◌, subst, arith, inl, inr}
use Rattle.std.specs.List.{slice_get, Contains, filter}
use Rattle.std.proofs.lemmas.Bool.{cases_Bool, both_ways, ltb-true, ltb-false}
use Rattle.std.proofs.lemmas.Option.{same_Some}
use Rattle.std.proofs.lemmas.List.Elements.{Contains-append_cases}
use Rattle.v6_addr.specs.Address.{PrefixValue, Holds, holds_address}
use Rattle.v6_addr.specs.AddressTerms.{IsPrefix}
use Rattle.v6_addr.proofs.PublicLaws.{holds_address_is, same_value}
use Rattle.srv6_rules.specs.declared.family.Family.{Family}
use Rattle.srv6_rules.specs.declared.family.Family.TheVariants as families
use Rattle.srv6_rules.specs.declared.sid.SidEntry.{SidEntry}
use Rattle.net_model.specs.declared.parts.Node.{Node}
use Rattle.net_model.specs.declared.net.Hit.{Hit}
use Rattle.net_model.specs.declared.net.Hit.TheVariants as hits
use Rattle.net_model.specs.Network.{Network, is_shown}
use Rattle.net_model.specs.Best.{Entry, sid_entries, route_entries, address_entries, has_sids, all_entries_of, entries_of, longer, longest, hit_of, lookup_of}
use Rattle.net_model.specs.BestTerms.{rank_of, FitsNoWorse, IsBestEntry, IsBest}
use Rattle.net_model.specs.NetworkRulesTerms.{IsNetwork}
use Rattle.net_model.specs.NetworkKeeps.{Keeps}
use Rattle.net_model.proofs.NetworkKeepsLemmas.{keeps_from_network}
use Rattle.net_model.proofs.EntryLemmas.{contains_none, contains_cases, contains_first, contains_later, sid_means, route_means, passing_among, entry_means, all_entries_of_first, all_entries_of_other}

-- each entry ranks no later than those after it
abbrev pub IsRanked : List Entry → Type 0
IsRanked [] = Unit {0}
IsRanked (e ∷ es) = ((other : Entry) → Contains es other → rank_of e.hit ≤ rank_of other.hit) × IsRanked es

-- the scan's answer on a list of entries
abbrev pub IsLongest : ℕ → List Entry → Option Entry → Type 0
IsLongest a es None = (e : Entry) → Contains es e → ¬ Holds e.prefix a
IsLongest a es (Some e) = IsBestEntry es a e

holds_from : (p : PrefixValue) (a : ℕ) → holds_address p a ≡ true → Holds p a
holds_from p a h = (holds_address_is p a).0 h

fails_from : (p : PrefixValue) (a : ℕ) → holds_address p a ≡ false → ¬ Holds p a
fails_from p a h held = both_ways _ h ((holds_address_is p a).1 held)

-- an entry in front that doesn't hold the address
past_one : (a : ℕ) (x : Entry) (xs : List Entry) (o : Option Entry) → ¬ Holds x.prefix a → IsLongest a xs o → IsLongest a (x ∷ xs) o
past_one a x xs None fails best = λ e c held. elim (contains_cases x xs e c) [
  | inl is ↦ fails (subst (λ z. Holds z.prefix a) (sym is) held)
  | inr more ↦ best e more held
]
past_one a x xs (Some f) fails best = record {
  is_there = contains_later x xs f best.is_there;
  holds = best.holds;
  no_better = λ other c held. elim (contains_cases x xs other c) [
    | inl is ↦ absurd (fails (subst (λ z. Holds z.prefix a) (sym is) held))
    | inr more ↦ best.no_better other more held
  ];
}

-- an entry in front that holds the address, by whether the best of the rest is longer
with_one : (a : ℕ) (x : Entry) (xs : List Entry) (o : Option Entry) → Holds x.prefix a → IsRanked (x ∷ xs) → IsLongest a xs o
    → IsLongest a (x ∷ xs) (longer (Some x) o)
with_one a x xs None held ranked best = record {
  is_there = contains_first x xs;
  holds = held;
  no_better = λ other c other_held. elim (contains_cases x xs other c) [
    | inl is ↦ subst (FitsNoWorse x) is (omega arith, λ _. omega arith)
    | inr more ↦ absurd (best other more other_held)
  ];
}
with_one a x xs (Some f) held ranked best =
    elim (cases_Bool (ltb x.prefix.len f.prefix.len)) [
      | inl longer ↦ rw longer (record {
        is_there = contains_later x xs f best.is_there;
        holds = best.holds;
        no_better = λ other c other_held. elim (contains_cases x xs other c) [
          | inl is ↦ subst (FitsNoWorse f) is (let below = ltb-true _ _ longer in (omega arith, λ same. absurd (omega arith)))
          | inr more ↦ best.no_better other more other_held
        ];
      })
      | inr shorter ↦ rw shorter (record {
        is_there = contains_first x xs;
        holds = held;
        no_better = λ other c other_held. elim (contains_cases x xs other c) [
          | inl is ↦ subst (FitsNoWorse x) is (omega arith, λ _. omega arith)
          | inr more ↦ let no_longer = ltb-false _ _ shorter in
              let rest = best.no_better other more other_held in
              (omega (arith, rest.0), λ same. ranked.0 other more)
        ];
      })
    ]

longest_best : (a : ℕ) (es : List Entry) → IsRanked es → IsLongest a es (longest a es)
longest_best a [] ranked = λ e c. absurd (contains_none e c)
longest_best a (x ∷ xs) ranked =
    elim (cases_Bool (holds_address x.prefix a)) [
      | inl held ↦ rw held (with_one a x xs (longest a xs) (holds_from x.prefix a held) ranked (longest_best a xs ranked.1))
      | inr fails ↦ rw fails (past_one a x xs (longest a xs) (fails_from x.prefix a fails) (longest_best a xs ranked.1))
    ]

-- entries of one rank, and entries in the order of their ranks

abbrev pub HasRank : ℕ → List Entry → Type 0
HasRank k es = (e : Entry) → Contains es e → rank_of e.hit ≡ k

ranked_from : (k : ℕ) (es : List Entry) → HasRank k es → IsRanked es
ranked_from k [] rank = tt
ranked_from k (e ∷ es) rank = (
  λ other c. omega (arith, rank e (contains_first e es), rank other (contains_later e es other c)),
  ranked_from k es (λ f c. rank f (contains_later e es f c)),
)

ranked_append : (xs ys : List Entry) → IsRanked xs → IsRanked ys
    → ((x y : Entry) → Contains xs x → Contains ys y → rank_of x.hit ≤ rank_of y.hit) → IsRanked (xs ++ ys)
ranked_append [] ys first later between = later
ranked_append (x ∷ xs) ys first later between = (
  λ other c. elim (Contains-append_cases xs ys other c) [
    | inl among ↦ first.0 other among
    | inr behind ↦ between x other (contains_first x xs) behind
  ],
  ranked_append xs ys first.1 later (λ y z c d. between y z (contains_later x xs y c) d),
)

sids_rank : (node n : ℕ) (net : Network) → HasRank 0 (sid_entries node n net.sids)
sids_rank node n net e c = let (i, s, at, of, is) = sid_means node n net.sids e c in ap (λ f. rank_of f.hit) is

routes_rank : (node table : ℕ) (family : Family) (n : ℕ) (net : Network) → HasRank 2 (route_entries node table family n net.routes)
routes_rank node table family n net e c =
    let (i, r, at, of, in_table, of_family, is) = route_means node table family n net.routes e c in ap (λ f. rank_of f.hit) is

address_rank : (o : Option Node) → HasRank 1 (address_entries o)
address_rank None e c = absurd (contains_none e c)
address_rank (Some n) e c =
    elim (contains_cases (record { hit = hits.Address; prefix = record { value = n.address.value; len = 128 } }) [] e c) [
      | inl is ↦ ap (λ f. rank_of f.hit) (sym is)
      | inr none ↦ absurd (contains_none e none)
    ]

first_ranked : (net : Network) (node table : ℕ) (family : Family)
    → IsRanked (sid_entries node 0 net.sids ++ (address_entries (slice_get net.nodes node) ++ route_entries node table family 0 net.routes))
first_ranked net node table family =
    let sids = sid_entries node 0 net.sids in
    let own = address_entries (slice_get net.nodes node) in
    let routes = route_entries node table family 0 net.routes in
    ranked_append sids (own ++ routes) (ranked_from 0 sids (sids_rank node 0 net))
    (ranked_append own routes (ranked_from 1 own (address_rank (slice_get net.nodes node)))
    (ranked_from 2 routes (routes_rank node table family 0 net))
    (λ x y c d. omega (arith, address_rank (slice_get net.nodes node) x c, routes_rank node table family 0 net y d)))
    (λ x y c d. omega (arith, sids_rank node 0 net x c))

all_ranked : (net : Network) (node table : ℕ) (family : Family) → IsRanked (all_entries_of net node table family)
all_ranked net node table family =
    elim (cases_Bool (has_sids table family)) [
      | inl is ↦ subst IsRanked (sym (all_entries_of_first net node table family is)) (first_ranked net node table family)
      | inr other ↦ subst IsRanked (sym (all_entries_of_other net node table family other))
          (ranked_from 2 (route_entries node table family 0 net.routes) (routes_rank node table family 0 net))
    ]

-- of entries in the order of their ranks those that pass a test are in that order too
passing_ranked : (test : Entry → Bool) (es : List Entry) → IsRanked es → IsRanked (filter test es)
passing_ranked test [] ranked = tt
passing_ranked test (e ∷ es) ranked =
    elim (cases_Bool (test e)) [
      | inl passes ↦ rw passes
          (λ other c. ranked.0 other (passing_among test es other c).0, passing_ranked test es ranked.1)
      | inr fails ↦ rw fails (passing_ranked test es ranked.1)
    ]

entries_ranked : (net : Network) (node table : ℕ) (family : Family) → IsRanked (entries_of net node table family)
entries_ranked net node table family =
    passing_ranked (λ e. is_shown net.hidden e.hit) (all_entries_of net node table family) (all_ranked net node table family)

-- the look-up is a best match

best_by_hit : (net : Network) (node table : ℕ) (family : Family) (a : ℕ) (p : PrefixValue) (h : Hit)
    → IsBestEntry (entries_of net node table family) a (record { hit = h; prefix = p }) → IsBest net node table family a h
best_by_hit net node table family a p (hits.Sid n) best = (p, best)
best_by_hit net node table family a p hits.Address best = (p, best)
best_by_hit net node table family a p (hits.Route n) best = (p, best)
best_by_hit net node table family a p hits.Nothing best =
    absurd (entry_means net node table family (record { hit = hits.Nothing; prefix = p }) best.is_there)

best_from : (net : Network) (node table : ℕ) (family : Family) (a : ℕ) (o : Option Entry) → IsLongest a (entries_of net node table family) o
    → IsBest net node table family a (hit_of o)
best_from net node table family a None best = best
best_from net node table family a (Some e) best = best_by_hit net node table family a e.prefix e.hit best

pub lookup_is_best : (net : Network) (node table : ℕ) (family : Family) (a : ℕ)
    → IsBest net node table family a (lookup_of net node table family a)
unfolding lookup_of
lookup_is_best net node table family a =
    best_from net node table family a (longest a (entries_of net node table family))
    (longest_best a (entries_of net node table family) (entries_ranked net node table family))

-- two best entries are equally long and of one rank
best_agree : (es : List Entry) (a : ℕ) (e f : Entry) → IsBestEntry es a e → IsBestEntry es a f
    → (e.prefix.len ≡ f.prefix.len) × (rank_of e.hit ≡ rank_of f.hit)
best_agree es a e f is_e is_f =
    let to_f = is_e.no_better f is_f.is_there is_f.holds in
    let to_e = is_f.no_better e is_e.is_there is_e.holds in
    let same : e.prefix.len ≡ f.prefix.len = omega (arith, to_f.0, to_e.0) in
    (same, omega (arith, to_f.1 (sym same), to_e.1 same))

pub same_prefix_value : (p q : PrefixValue) → p.value ≡ q.value → p.len ≡ q.len → p ≡ q
same_prefix_value p q value len = λ i. record { value = value i; len = len i }

-- two best entries of one rank have one prefix
same_best_prefix : (es : List Entry) (a : ℕ) (e f : Entry) → IsBestEntry es a e → IsBestEntry es a f → IsPrefix e.prefix → IsPrefix f.prefix
    → e.prefix ≡ f.prefix
same_best_prefix es a e f is_e is_f prefix_e prefix_f =
    let len = (best_agree es a e f is_e is_f).0 in
    same_prefix_value e.prefix f.prefix (same_value e.prefix f.prefix a prefix_e prefix_f len is_e.holds is_f.holds) len

one_sid : (net : Network) (node table : ℕ) (family : Family) (a m n : ℕ) (p q : PrefixValue) → Keeps net
    → IsBestEntry (entries_of net node table family) a (record { hit = hits.Sid m; prefix = p })
    → IsBestEntry (entries_of net node table family) a (record { hit = hits.Sid n; prefix = q }) → m ≡ n
one_sid net node table family a m n p q keeps is_m is_n =
    let (s, at_m, of_s, prefix_s, first, v6) = entry_means net node table family _ is_m.is_there in
    let (t, at_n, of_t, prefix_t, also, too) = entry_means net node table family _ is_n.is_there in
    let same = same_best_prefix (entries_of net node table family) a _ _ is_m is_n
    (subst IsPrefix prefix_s (keeps.sid m s at_m).prefix) (subst IsPrefix prefix_t (keeps.sid n t at_n).prefix) in
    keeps.sid_prefix m n s t at_m at_n (of_s ∙ sym of_t) (prefix_s ∙ same ∙ sym prefix_t)

one_route : (net : Network) (node table : ℕ) (family : Family) (a m n : ℕ) (p q : PrefixValue) → Keeps net
    → IsBestEntry (entries_of net node table family) a (record { hit = hits.Route m; prefix = p })
    → IsBestEntry (entries_of net node table family) a (record { hit = hits.Route n; prefix = q }) → m ≡ n
one_route net node table family a m n p q keeps is_m is_n =
    let (r, at_m, of_r, in_r, family_r, prefix_r) = entry_means net node table family _ is_m.is_there in
    let (t, at_n, of_t, in_t, family_t, prefix_t) = entry_means net node table family _ is_n.is_there in
    let same = same_best_prefix (entries_of net node table family) a _ _ is_m is_n
    (subst IsPrefix prefix_r (keeps.route m r at_m).prefix.prefix) (subst IsPrefix prefix_t (keeps.route n t at_n).prefix.prefix) in
    keeps.route_prefix m n r t at_m at_n (of_r ∙ sym of_t) (in_r ∙ sym in_t) (family_r ∙ sym family_t) (prefix_r ∙ same ∙ sym prefix_t)

-- a best match has one rank
rank_of_best : (net : Network) (node table : ℕ) (family : Family) (a : ℕ) (p q : PrefixValue) (h k : Hit)
    → IsBestEntry (entries_of net node table family) a (record { hit = h; prefix = p })
    → IsBestEntry (entries_of net node table family) a (record { hit = k; prefix = q }) → rank_of h ≡ rank_of k
rank_of_best net node table family a p q h k is_h is_k = (best_agree (entries_of net node table family) a _ _ is_h is_k).1

pub best_is_one : (net : Network) (node table : ℕ) (family : Family) (a : ℕ) (h k : Hit) → IsNetwork net
    → IsBest net node table family a h → IsBest net node table family a k
    → h ≡ k
best_is_one net node table family a (hits.Sid m) (hits.Sid n) rules (p, is_h) (q, is_k) =
    ap hits.Sid (one_sid net node table family a m n p q (keeps_from_network net rules) is_h is_k)
best_is_one net node table family a (hits.Sid m) hits.Address rules (p, is_h) (q, is_k) =
    absurd (omega (arith, rank_of_best net node table family a p q (hits.Sid m) hits.Address is_h is_k))
best_is_one net node table family a (hits.Sid m) (hits.Route n) rules (p, is_h) (q, is_k) =
    absurd (omega (arith, rank_of_best net node table family a p q (hits.Sid m) (hits.Route n) is_h is_k))
best_is_one net node table family a (hits.Sid m) hits.Nothing rules (p, is_h) none = absurd (none _ is_h.is_there is_h.holds)
best_is_one net node table family a hits.Address (hits.Sid n) rules (p, is_h) (q, is_k) =
    absurd (omega (arith, rank_of_best net node table family a p q hits.Address (hits.Sid n) is_h is_k))
best_is_one net node table family a hits.Address hits.Address rules is_h is_k = refl
best_is_one net node table family a hits.Address (hits.Route n) rules (p, is_h) (q, is_k) =
    absurd (omega (arith, rank_of_best net node table family a p q hits.Address (hits.Route n) is_h is_k))
best_is_one net node table family a hits.Address hits.Nothing rules (p, is_h) none = absurd (none _ is_h.is_there is_h.holds)
best_is_one net node table family a (hits.Route m) (hits.Sid n) rules (p, is_h) (q, is_k) =
    absurd (omega (arith, rank_of_best net node table family a p q (hits.Route m) (hits.Sid n) is_h is_k))
best_is_one net node table family a (hits.Route m) hits.Address rules (p, is_h) (q, is_k) =
    absurd (omega (arith, rank_of_best net node table family a p q (hits.Route m) hits.Address is_h is_k))
best_is_one net node table family a (hits.Route m) (hits.Route n) rules (p, is_h) (q, is_k) =
    ap hits.Route (one_route net node table family a m n p q (keeps_from_network net rules) is_h is_k)
best_is_one net node table family a (hits.Route m) hits.Nothing rules (p, is_h) none = absurd (none _ is_h.is_there is_h.holds)
best_is_one net node table family a hits.Nothing (hits.Sid n) rules none (q, is_k) = absurd (none _ is_k.is_there is_k.holds)
best_is_one net node table family a hits.Nothing hits.Address rules none (q, is_k) = absurd (none _ is_k.is_there is_k.holds)
best_is_one net node table family a hits.Nothing (hits.Route n) rules none (q, is_k) = absurd (none _ is_k.is_there is_k.holds)
best_is_one net node table family a hits.Nothing hits.Nothing rules none also = refl

-- a SID that an address is looked up to holds the address
pub matched_sid_holds : (net : Network) (m : ℕ) (t : SidEntry) (node table : ℕ) (family : Family) (a : ℕ)
    → lookup_of net node table family a ≡ hits.Sid m
    → slice_get net.sids m ≡ Some t → (t.node ≡ node) × (table ≡ 0) × (family ≡ families.V6) × Holds t.prefix a
matched_sid_holds net m t node table family a hit at_m =
    let (p, best) = subst (IsBest net node table family a) hit (lookup_is_best net node table family a) in
    let (u, at_u, of, is, first, v6) = entry_means net node table family (record { hit = hits.Sid m; prefix = p }) best.is_there in
    let same = same_Some t u (sym at_m ∙ at_u) in
    (ap (λ v. v.node) same ∙ of, first, v6, subst (λ q. Holds q a) (sym (ap (λ (v : SidEntry). v.prefix) same ∙ is)) best.holds)
