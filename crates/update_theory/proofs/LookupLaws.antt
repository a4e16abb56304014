-- Look-ups in the joined network with the removed entries hidden are those of the new description, and own matches stay.
use Rattle.std.proofs.Common.{◌≡◌, ◌≢◌, ◌⊎◌, ℕ, ◌≤◌, Bool, true, false, List, [], ◌∷◌, length, Some, None, Ok, zero, suc, not, refl, sym, ap, ◌∙◌, subst, subst₂, arith, inl, inr}
use Rattle.std.proofs.lemmas.Bool.{both_ways, lt-ltb, ltb-false, le-ltb, not-true}
use Rattle.std.proofs.lemmas.Option.{slice_get_within}
use Rattle.std.specs.Prelude.{nat_lt}
use Rattle.std.specs.List.{Contains, slice_get}
use Rattle.v6_addr.specs.Address.{PrefixValue, Holds}
use Rattle.srv6_rules.specs.declared.family.Family.{Family}
use Rattle.srv6_rules.specs.declared.sid.SidEntry.{SidEntry}
use Rattle.net_model.specs.declared.parts.Route.{Route}
use Rattle.net_model.specs.declared.net.Hit.{Hit}
use Rattle.net_model.specs.declared.net.Hit.TheVariants as hits
use Rattle.net_model.specs.Network.{Network, is_shown}
use Rattle.net_model.specs.NetworkRulesTerms.{IsNetwork}
use Rattle.net_model.specs.NetworkKeeps.{Keeps}
use Rattle.net_model.specs.NetworkJudging.{title_text}
use Rattle.net_model.specs.Best.{Entry, entries_of, longest, hit_of, lookup_of}
use Rattle.net_model.specs.BestTerms.{rank_of, IsBestEntry, IsBest}
use Rattle.net_model.specs.Entries.{IsEntryAs}
use Rattle.net_model.proofs.PublicLaws.{keeps_from_network, lookup_is_best, best_is_one, entry_means, entry_is_there}
use Rattle.update_spec.specs.Joined.{is_old_route, is_new_route, is_old_sid, is_new_sid, joined_of}
use Rattle.update_spec.specs.Planning.{planning}
use Rattle.update_spec.specs.Lookups.{SameHit}
use Rattle.update_theory.specs.LookupsTerms.{shown_entries, shown_lookup, is_of_old, passes_or_absent, stays, is_of_new}
use Rattle.update_theory.proofs.PlanParts.{HasNoFault, no_fault}
use Rattle.update_theory.proofs.SameItems.{get_past, filtered_from, renumbered_same}
use Rattle.update_theory.proofs.PlanLists.{get_front}
use Rattle.update_theory.proofs.Longest.{longest_of_all, NoneShown, none_shown, shown_or_none}
use Rattle.update_theory.proofs.Partners.{option_cases, old_sid_text, added_from, partner, partner_back, meeting_are_kept}
use Rattle.update_theory.proofs.OldLookups.{shows}

-- ---- what holds an address beside a match

abbrev AllHolding : (Hit → Bool) → Network → ℕ → ℕ → Family → ℕ → Type 0
AllHolding shown net node table family a =
    (e : Entry) → Contains (entries_of net node table family) e → Holds e.prefix a → shown e.hit ≡ true

there_below : {X : Type 0} (xs : List X) (n : ℕ) (x : X) → slice_get xs n ≡ Some x → nat_lt n (length xs) ≡ true
there_below xs n x at = lt-ltb n (length xs) (slice_get_within xs n x at)

absent_above : {X : Type 0} (xs : List X) (n : ℕ) → slice_get xs n ≡ None → nat_lt n (length xs) ≡ false
absent_above [] n none = le-ltb n 0 (omega arith)
absent_above (x ∷ xs) zero none = cc
absent_above (x ∷ xs) (suc n) none =
    let above = ltb-false n (length xs) (absent_above xs n none) in
    le-ltb (suc n) (suc (length xs)) (omega (arith, above))

-- what an entry of the joined network is that isn't the old description's
record IsAdded (old new : Network) (node table : ℕ) (family : Family) (p : PrefixValue) (h : Hit) : Type 0 where
  is_new : is_of_new old new h ≡ true
  not_old : is_of_old old h ≡ false
  there : (k : Hit) × IsEntryAs new node table family p k × (stays (is_old_route old) (is_old_sid old new) new k ≡ false)

-- an entry of the joined network is one of the old description, or one that the new description adds
old_or_added : (old new : Network) (node table : ℕ) (family : Family) (p : PrefixValue) (h : Hit)
    → IsEntryAs (joined_of old new) node table family p h
    → (IsEntryAs old node table family p h × (is_of_old old h ≡ true)) ⊎ IsAdded old new node table family p h
old_or_added old new node table family p (hits.Sid n) (s, at, of, is, first, v6) =
    elim (option_cases (slice_get old.sids n)) [
      | inl some ↦ inl (
        (s, some.1 ∙ (sym (get_front old.sids _ n some.0 some.1) ∙ at), of, is, first, v6),
        there_below old.sids n some.0 some.1,
      )
      | inr none ↦
          let (i, behind) = get_past old.sids _ n s none at in
          let (t, added, r) = added_from old new i s behind in
          let (m, there, kept) = filtered_from (λ u. not (is_old_sid old new u)) new.sids i t added in
          let same = renumbered_same (joined_of old new) new s t r in
          inr (record {
            is_new = ap (passes_or_absent (is_new_sid old new)) none;
            not_old = absent_above old.sids n none;
            there = (
              hits.Sid m,
              (t, there, sym same.node ∙ of, sym same.prefix ∙ is, first, v6),
              ap (passes_or_absent (is_old_sid old new)) there ∙ not-true _ kept,
            );
          })
    ]
old_or_added old new node table family p hits.Address is = inl (is, refl)
old_or_added old new node table family p (hits.Route n) (r, at, of, in_table, of_family, is) =
    elim (option_cases (slice_get old.routes n)) [
      | inl some ↦ inl (
        (r, some.1 ∙ (sym (get_front old.routes _ n some.0 some.1) ∙ at), of, in_table, of_family, is),
        there_below old.routes n some.0 some.1,
      )
      | inr none ↦
          let (i, behind) = get_past old.routes _ n r none at in
          let (m, there, kept) = filtered_from (λ q. not (is_old_route old q)) new.routes i r behind in
          inr (record {
            is_new = ap (passes_or_absent (is_new_route new)) none;
            not_old = absent_above old.routes n none;
            there = (
              hits.Route m,
              (r, there, of, in_table, of_family, is),
              ap (passes_or_absent (is_old_route old)) there ∙ not-true _ kept,
            );
          })
    ]
old_or_added old new node table family p hits.Nothing none = absurd none

-- beside an old entry that holds the address all that hold it are old
all_old : (old new : Network) (node table : ℕ) (family : Family) (a : ℕ) (p : PrefixValue) (h : Hit) → HasNoFault old new
    → IsEntryAs old node table family p h → Holds p a → AllHolding (is_of_old old) (joined_of old new) node table family a
all_old old new node table family a p h fine is_old holds = λ e c held.
    elim (old_or_added old new node table family e.prefix e.hit (entry_means (joined_of old new) node table family e c)) [
      | inl of_old ↦ of_old.1
      | inr added ↦
          let (k, is_new, gone) = added.there in
          absurd (both_ways _ gone (meeting_are_kept old new node table family a p e.prefix h k fine is_old is_new holds held).1)
    ]

-- and beside a new one all are new
all_new : (old new : Network) (node table : ℕ) (family : Family) (a : ℕ) (q : PrefixValue) (k : Hit) → HasNoFault old new
    → IsEntryAs new node table family q k → Holds q a → AllHolding (is_of_new old new) (joined_of old new) node table family a
all_new old new node table family a q k fine is_new holds = λ e c held.
    elim (old_or_added old new node table family e.prefix e.hit (entry_means (joined_of old new) node table family e c)) [
      | inl of_old ↦ (meeting_are_kept old new node table family a e.prefix q e.hit k fine of_old.0 is_new held holds).0
      | inr added ↦ added.is_new
    ]

-- an entry of the joined network that isn't added is the old description's
old_entry : (old new : Network) (node table : ℕ) (family : Family) (e : Entry)
    → Contains (entries_of (joined_of old new) node table family) e
    → is_of_old old e.hit ≡ true → IsEntryAs old node table family e.prefix e.hit
old_entry old new node table family e c is =
    elim (old_or_added old new node table family e.prefix e.hit (entry_means (joined_of old new) node table family e c)) [
      | inl of_old ↦ of_old.0
      | inr added ↦ absurd (both_ways _ added.not_old is)
    ]

-- ---- an own match stays

all_is_whole : (own : Hit → Bool) (net : Network) (node table : ℕ) (family : Family) (a : ℕ) → AllHolding own net node table family a
    → longest a (shown_entries own net node table family) ≡ longest a (entries_of net node table family)
all_is_whole own net node table family a all = longest_of_all (shows own) a (entries_of net node table family) all

match_stays : (own shown : Hit → Bool) (net : Network) (node table : ℕ) (family : Family) (a : ℕ)
    → ((h : Hit) → own h ≡ true → shown h ≡ true) → AllHolding own net node table family a
    → shown_lookup shown net node table family a ≡ shown_lookup own net node table family a
match_stays own shown net node table family a more all =
    ap hit_of (all_is_whole shown net node table family a (λ e c held. more e.hit (all e c held))
    ∙ sym (all_is_whole own net node table family a all))

nothing_shown : (own : Hit → Bool) (net : Network) (node table : ℕ) (family : Family) (a : ℕ)
    → NoneShown (shows own) a (entries_of net node table family) → shown_lookup own net node table family a ≡ hits.Nothing
nothing_shown own net node table family a none = ap hit_of (none_shown (shows own) a (entries_of net node table family) none)

pub old_match_stays : (old new : Network) (shown : Hit → Bool) (node table : ℕ) (family : Family) (a : ℕ) → planning old new ≡ Ok tt
    → ((h : Hit) → is_of_old old h ≡ true → shown h ≡ true)
    → shown_lookup (is_of_old old) (joined_of old new) node table family a ≢ hits.Nothing
    → shown_lookup shown (joined_of old new) node table family a ≡ shown_lookup (is_of_old old) (joined_of old new) node table family a
old_match_stays old new shown node table family a accepted more some =
    elim (shown_or_none (shows (is_of_old old)) a (entries_of (joined_of old new) node table family)) [
      | inl found ↦
          let e = found.0 in
          let is = old_entry old new node table family e found.1.0 found.1.1 in
          match_stays (is_of_old old) shown (joined_of old new) node table family a more
          (all_old old new node table family a e.prefix e.hit (no_fault old new accepted) is found.1.2)
      | inr none ↦ absurd (some (nothing_shown (is_of_old old) (joined_of old new) node table family a none))
    ]

pub new_match_stays : (old new : Network) (shown : Hit → Bool) (node table : ℕ) (family : Family) (a : ℕ) → IsNetwork old
    → planning old new ≡ Ok tt → ((h : Hit) → is_of_new old new h ≡ true → shown h ≡ true)
    → shown_lookup (is_of_new old new) (joined_of old new) node table family a ≢ hits.Nothing
    → shown_lookup shown (joined_of old new) node table family a ≡ shown_lookup (is_of_new old new) (joined_of old new) node table family a
new_match_stays old new shown node table family a rules accepted more some =
    elim (shown_or_none (shows (is_of_new old new)) a (entries_of (joined_of old new) node table family)) [
      | inl found ↦
          let e = found.0 in
          let fine = no_fault old new accepted in
          let (k, is, same) = partner old new node table family e.prefix e.hit (keeps_from_network old rules) fine
          (entry_means (joined_of old new) node table family e found.1.0) found.1.1 in
          match_stays (is_of_new old new) shown (joined_of old new) node table family a more
          (all_new old new node table family a e.prefix k fine is found.1.2)
      | inr none ↦ absurd (some (nothing_shown (is_of_new old new) (joined_of old new) node table family a none))
    ]

-- ---- the new description

same_rank : (a b : Network) (h k : Hit) → SameHit a b h k → rank_of h ≡ rank_of k
same_rank a b (hits.Sid m) (hits.Sid n) s = refl
same_rank a b (hits.Sid m) hits.Address s = absurd s
same_rank a b (hits.Sid m) (hits.Route n) s = absurd s
same_rank a b (hits.Sid m) hits.Nothing s = absurd s
same_rank a b hits.Address (hits.Sid n) s = absurd s
same_rank a b hits.Address hits.Address s = refl
same_rank a b hits.Address (hits.Route n) s = absurd s
same_rank a b hits.Address hits.Nothing s = absurd s
same_rank a b (hits.Route m) (hits.Sid n) s = absurd s
same_rank a b (hits.Route m) hits.Address s = absurd s
same_rank a b (hits.Route m) (hits.Route n) s = refl
same_rank a b (hits.Route m) hits.Nothing s = absurd s
same_rank a b hits.Nothing (hits.Sid n) s = absurd s
same_rank a b hits.Nothing hits.Address s = absurd s
same_rank a b hits.Nothing (hits.Route n) s = absurd s
same_rank a b hits.Nothing hits.Nothing s = refl

abbrev entry_with : Hit → PrefixValue → Entry
entry_with h p = record { hit = h; prefix = p }

-- a best match is an entry that fits best, or nothing
best_entry : (net : Network) (node table : ℕ) (family : Family) (a : ℕ) (h : Hit) → IsBest net node table family a h
    → ((p : PrefixValue) × IsBestEntry (entries_of net node table family) a (entry_with h p))
    ⊎ ((h ≡ hits.Nothing) × ((e : Entry) → Contains (entries_of net node table family) e → ¬ Holds e.prefix a))
best_entry net node table family a (hits.Sid n) best = inl best
best_entry net node table family a hits.Address best = inl best
best_entry net node table family a (hits.Route n) best = inl best
best_entry net node table family a hits.Nothing best = inr (refl, best)

best_from : (net : Network) (node table : ℕ) (family : Family) (a : ℕ) (h : Hit) (p : PrefixValue) → IsEntryAs net node table family p h
    → IsBestEntry (entries_of net node table family) a (entry_with h p) → IsBest net node table family a h
best_from net node table family a (hits.Sid n) p is best = (p, best)
best_from net node table family a hits.Address p is best = (p, best)
best_from net node table family a (hits.Route n) p is best = (p, best)
best_from net node table family a hits.Nothing p is best = absurd is

-- what fits best in the joined network has a partner that fits best in the new one
partner_is_best : (old new : Network) (node table : ℕ) (family : Family) (a : ℕ) (h k : Hit) (p : PrefixValue) → Keeps old
    → HasNoFault old new → new.hidden ≡ [] → IsBestEntry (entries_of (joined_of old new) node table family) a (entry_with h p)
    → IsEntryAs new node table family p k → SameHit (joined_of old new) new h k
    → IsBestEntry (entries_of new node table family) a (entry_with k p)
partner_is_best old new node table family a h k p keeps fine whole best is same = record {
  is_there = entry_is_there new node table family p k is (ap (λ (hidden : List Hit). is_shown hidden k) whole);
  holds = best.holds;
  no_better = λ f c held.
      let (g, is_g, own, same_g) =
      partner_back old new node table family f.prefix f.hit keeps fine (entry_means new node table family f c) in
      let fits = best.no_better (entry_with g f.prefix) (entry_is_there (joined_of old new) node table family f.prefix g is_g refl) held in
      let one = same_rank (joined_of old new) new h k same in
      let other = same_rank (joined_of old new) new g f.hit same_g in
      (fits.0, λ equal. subst₂ (λ m n. m ≤ n) one other (fits.1 equal));
}

-- the look-up in the whole joined network, where all entries that hold the address are of the new description
whole_lookups : (old new : Network) (node table : ℕ) (family : Family) (a : ℕ) (e : Entry) (h : Hit) → IsNetwork new → Keeps old
    → HasNoFault old new → new.hidden ≡ [] → Contains (entries_of (joined_of old new) node table family) e → Holds e.prefix a
    → AllHolding (is_of_new old new) (joined_of old new) node table family a → IsBest (joined_of old new) node table family a h
    → SameHit (joined_of old new) new h (lookup_of new node table family a)
whole_lookups old new node table family a e h rules keeps fine whole there holds all best =
    elim (best_entry (joined_of old new) node table family a h best) [
      | inl found ↦
          let p = found.0 in
          let fits = found.1 in
          let (k, is, same) = partner old new node table family p h keeps fine
          (entry_means (joined_of old new) node table family (entry_with h p) fits.is_there)
          (all (entry_with h p) fits.is_there fits.holds) in
          let best_k = best_from new node table family a k p is
          (partner_is_best old new node table family a h k p keeps fine whole fits is same) in
          subst (SameHit (joined_of old new) new h)
          (best_is_one new node table family a k (lookup_of new node table family a) rules best_k
          (lookup_is_best new node table family a)) same
      | inr nothing ↦ absurd (nothing.1 e there holds)
    ]

none_back : (old new : Network) (node table : ℕ) (family : Family) (a : ℕ) (k : Hit) (q : PrefixValue) → Keeps old → HasNoFault old new
    → NoneShown (shows (is_of_new old new)) a (entries_of (joined_of old new) node table family)
    → IsBestEntry (entries_of new node table family) a (entry_with k q) → ⊥
none_back old new node table family a k q keeps fine none best =
    let (h, is, own, same) = partner_back old new node table family q k keeps fine
    (entry_means new node table family (entry_with k q) best.is_there) in
    none (entry_with h q) (entry_is_there (joined_of old new) node table family q h is refl) own best.holds

nothing_new : (old new : Network) (node table : ℕ) (family : Family) (a : ℕ) (k : Hit) → Keeps old → HasNoFault old new
    → NoneShown (shows (is_of_new old new)) a (entries_of (joined_of old new) node table family) → IsBest new node table family a k
    → SameHit (joined_of old new) new hits.Nothing k
nothing_new old new node table family a k keeps fine none best =
    elim (best_entry new node table family a k best) [
      | inl found ↦ absurd (none_back old new node table family a k found.0 keeps fine none found.1)
      | inr nothing ↦ subst (SameHit (joined_of old new) new hits.Nothing) (sym nothing.0) tt
    ]

whole_is : (net : Network) (node table : ℕ) (family : Family) (a : ℕ)
    → hit_of (longest a (entries_of net node table family)) ≡ lookup_of net node table family a
unfolding lookup_of
whole_is net node table family a = refl

pub new_lookups : (old new : Network) (node table : ℕ) (family : Family) (a : ℕ) → IsNetwork old → IsNetwork new → new.hidden ≡ []
    → planning old new ≡ Ok tt
    → SameHit (joined_of old new) new (shown_lookup (is_of_new old new) (joined_of old new) node table family a)
    (lookup_of new node table family a)
new_lookups old new node table family a rules_old rules_new whole accepted =
    let joined = joined_of old new in
    let own = is_of_new old new in
    let fine = no_fault old new accepted in
    let keeps = keeps_from_network old rules_old in
    elim (shown_or_none (shows own) a (entries_of joined node table family)) [
      | inl found ↦
          let e = found.0 in
          let (k, is, same) = partner old new node table family e.prefix e.hit keeps fine (entry_means joined node table family e found.1.0)
          found.1.1 in
          let all = all_new old new node table family a e.prefix k fine is found.1.2 in
          subst (λ h. SameHit joined new h (lookup_of new node table family a))
          (sym (ap hit_of (all_is_whole own joined node table family a all) ∙ whole_is joined node table family a))
          (whole_lookups old new node table family a e
          (lookup_of joined node table family a) rules_new keeps fine whole found.1.0 found.1.2 all
          (lookup_is_best joined node table family a))
      | inr none ↦
          subst (λ h. SameHit joined new h (lookup_of new node table family a)) (sym (nothing_shown own joined node table family a none))
          (nothing_new old new node table family a (lookup_of new node table family a) keeps fine none
          (lookup_is_best new node table family a))
    ]

-- ---- old items at their numbers

pub old_routes : (old new : Network) (n : ℕ) (r : Route) → slice_get old.routes n ≡ Some r → slice_get (joined_of old new).routes n ≡ Some r
old_routes old new n r at = get_front old.routes _ n r at

pub old_sids : (old new : Network) (n : ℕ) (s : SidEntry) → IsNetwork old → slice_get old.sids n ≡ Some s
    → (slice_get (joined_of old new).sids n ≡ Some s) × (title_text (joined_of old new).titles s ≡ title_text old.titles s)
old_sids old new n s rules at = (get_front old.sids _ n s at, old_sid_text old new n s (keeps_from_network old rules) at)
