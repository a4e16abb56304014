-- Tables that show what the edits of an accepted plan leave pass from the old description to the new one.
use Rattle.std.proofs.Common.{◌≡◌, ◌≢◌, inl, inr, ℕ, suc, ◌+◌, ◌-◌, ◌<◌, ◌≤◌, Bool, true, false, cond, not, ◌||◌, List, [], ◌∷◌, length, take, drop, slice_get, Option, Some, None, Ok, refl, sym, ap, ap₂, ◌∙◌, arith, subst, length-append}
use Rattle.std.proofs.lemmas.Bool.{cases_Bool, cases_lt, le-ltb, lt-ltb}
use Rattle.std.proofs.lemmas.List.{drop_all, take_all}
use Rattle.std.proofs.lemmas.List.Folds.{list_any-append}
use Rattle.std.proofs.lemmas.Option.{slice_get_within}
use Rattle.std.specs.List.{Contains, filter}
use Rattle.v6_addr.specs.Address.{PrefixValue}
use Rattle.srv6_rules.specs.declared.family.Family.{Family}
use Rattle.srv6_rules.specs.declared.sid.SidEntry.{SidEntry}
use Rattle.net_model.specs.declared.net.Hit.{Hit}
use Rattle.net_model.specs.declared.net.Hit.TheVariants as hits
use Rattle.net_model.specs.Network.{Network}
use Rattle.net_model.specs.NetworkRulesTerms.{IsNetwork}
use Rattle.net_model.specs.NetworkJudging.{title_text}
use Rattle.net_model.specs.Best.{Entry, entries_of, hit_of, longest, lookup_of}
use Rattle.net_model.specs.Entries.{IsEntryAs}
use Rattle.net_model.proofs.PublicLaws.{contains_first, contains_later, entry_means}
use Rattle.net_model.specs.declared.net.EntryId.{EntryId}
use Rattle.update_spec.specs.Joined.{added_routes, added_sids, joined_of, numbered, numbered_beside}
use Rattle.update_spec.specs.Lookups.{SameHit}
use Rattle.update_theory.specs.LookupsTerms.{is_of_new, is_of_old, shown_lookup}
use Rattle.update_spec.specs.Planning.{planning}
use Rattle.update_theory.proofs.PublicLaws.{new_lookups, new_match_stays, old_match_stays, old_lookups}
use Rattle.update_flight.specs.Interleaving.{PassOver}
use Rattle.update_flight.specs.Planned.{added_entries, removed_entries}
use Rattle.update_flight.specs.PlannedTerms.{ShowsEdits, is_shown_after, names}
use Rattle.update_flight.specs.MomentTablesTerms.{KeepsOwn}
use Rattle.update_flight.specs.Transition.{edits}
use Rattle.update_flight.proofs.EditNames.{added_none, added_route, added_sid, named_in, none_dropped, none_taken, removed_none, removed_some}
use Rattle.update_flight.proofs.PassingEditLemmas.{length_edits}

-- entries that pass one test are those that pass another, where both tests say the same of each entry that is there
filter_same : (p q : Entry → Bool) (es : List Entry) → ((e : Entry) → Contains es e → p e ≡ q e) → filter p es ≡ filter q es
filter_same p q [] same = refl
filter_same p q (x ∷ xs) same =
    ap₂ (λ b l. cond b (x ∷ l) l) (same x (contains_first x xs)) (filter_same p q xs (λ e c. same e (contains_later x xs e c)))

-- SIDs that are numbered anew are as many as before

length_beside : (o : Option (List ℕ)) (c : ℕ) (s : SidEntry) (rest : ℕ → List SidEntry) (n : ℕ) → ((m : ℕ) → length (rest m) ≡ n)
    → length (numbered_beside o c s rest) ≡ suc n
length_beside None c s rest n each = ap suc (each c)
length_beside (Some text) c s rest n each = ap suc (each (c + 1))

length_numbered : (texts : List (List ℕ)) (c : ℕ) (ss : List SidEntry) → length (numbered texts c ss) ≡ length ss
length_numbered texts c [] = refl
length_numbered texts c (s ∷ ss) =
    length_beside (title_text texts s) c s (λ m. numbered texts m ss) (length ss) (λ m. length_numbered texts m ss)

-- what is shown, by what is still to be added and what was removed

module _ (added removed : List EntryId) (done : ℕ) (h : Hit) where
  shown_by : (front back : Bool) → named_in h (drop done added) ≡ front → named_in h (take (done - suc (length added)) removed) ≡ back
      → is_shown_after added removed done h ≡ not (front || back)
  shown_by front back one other =
      ap not (list_any-append (λ entry. names entry h) (drop done added) (take (done - suc (length added)) removed)
      ∙ ap₂ (λ b c. b || c) one other)

  -- before the first removal
  none_removed : done ≤ suc (length added) → named_in h (take (done - suc (length added)) removed) ≡ false
  none_removed few =
      let e : done - suc (length added) ≡ 0 = omega (arith, few) in ap (λ n. named_in h (take n removed)) e ∙ taken_none removed where
        taken_none : (entries : List EntryId) → named_in h (take 0 entries) ≡ false
        taken_none [] = refl
        taken_none (entry ∷ entries) = refl

  pub shown_old : done ≤ suc (length added) → named_in h added ≡ false → is_shown_after added removed done h ≡ true
  shown_old few none = shown_by false false (none_dropped h added done none) (none_removed few)

  -- after the last addition
  pub shown_new : length added ≤ done → named_in h removed ≡ false → is_shown_after added removed done h ≡ true
  shown_new all none =
      shown_by false false (ap (named_in h) (drop_all done added all)) (none_taken h removed (done - suc (length added)) none)

  -- after the last edit
  pub hidden_new : done ≡ length added + length removed + 1 → named_in h removed ≡ true → is_shown_after added removed done h ≡ false
  hidden_new is some =
      let e : done - suc (length added) ≡ length removed = omega (arith, is) in
      shown_by false true (ap (named_in h) (drop_all done added (omega (arith, is))))
      (ap (λ n. named_in h (take n removed)) e ∙ (ap (named_in h) (take_all (length removed) removed (omega arith)) ∙ some))

-- before the first edit
hidden_old : (added removed : List EntryId) (h : Hit) → named_in h added ≡ true → is_shown_after added removed 0 h ≡ false
hidden_old added removed h some =
    shown_by added removed 0 h true false (dropped_none added some) (none_removed added removed 0 h (omega arith)) where
      dropped_none : (entries : List EntryId) → named_in h entries ≡ true → named_in h (drop 0 entries) ≡ true
      dropped_none [] is = is
      dropped_none (entry ∷ entries) is = is

module _ (old new : Network) where
  abbrev added : List EntryId
  added = added_entries old new

  abbrev removed : List EntryId
  removed = removed_entries old new

  abbrev joined : Network
  joined = joined_of old new

  abbrev last : ℕ
  last = length (edits added removed)

  -- no entry of the joined network that isn't an old one is shown before the first edit

  hidden_sid : (n : ℕ) (s : SidEntry) → slice_get joined.sids n ≡ Some s → length old.sids ≤ n
      → is_shown_after added removed 0 (hits.Sid n) ≡ false
  hidden_sid n s there above =
      let within : n < length joined.sids = slice_get_within joined.sids n s there in
      let e : length joined.sids ≡ length old.sids + length (numbered new.titles (length old.titles) (added_sids old new)) =
      length-append old.sids (numbered new.titles (length old.titles) (added_sids old new)) in
      let f = length_numbered new.titles (length old.titles) (added_sids old new) in
      hidden_old added removed (hits.Sid n) (added_sid old new n above (omega (arith, within, e, f)))

  at_start : (node table : ℕ) (family : Family) (p : PrefixValue) (h : Hit) → IsEntryAs joined node table family p h
      → is_shown_after added removed 0 h ≡ is_of_old old h
  at_start node table family p (hits.Sid n) is = elim (cases_lt n (length old.sids)) [
    | inl below ↦ (let here : is_of_old old (hits.Sid n) ≡ true = lt-ltb n (length old.sids) below in
        shown_old added removed 0 (hits.Sid n) (omega arith) (added_none old new (hits.Sid n) here) ∙ sym here)
    | inr above ↦ hidden_sid n is.0 is.1 above ∙ sym (le-ltb n (length old.sids) above)
  ]
  at_start node table family p hits.Address is = shown_old added removed 0 hits.Address (omega arith) (added_none old new hits.Address refl)
  at_start node table family p (hits.Route n) is = elim (cases_lt n (length old.routes)) [
    | inl below ↦ (let here : is_of_old old (hits.Route n) ≡ true = lt-ltb n (length old.routes) below in
        shown_old added removed 0 (hits.Route n) (omega arith) (added_none old new (hits.Route n) here) ∙ sym here)
    | inr above ↦ (let within : n < length joined.routes = slice_get_within joined.routes n is.0 is.1 in
        let e : length joined.routes ≡ length old.routes + length (added_routes old new) =
        length-append old.routes (added_routes old new) in
        hidden_old added removed (hits.Route n) (added_route old new n above (omega (arith, within, e)))
        ∙ sym (le-ltb n (length old.routes) above))
  ]
  at_start node table family p hits.Nothing is = absurd is

  at_end_law : (h : Hit) → is_shown_after added removed last h ≡ is_of_new old new h
  at_end_law h =
      let e = length_edits added removed in
      elim (cases_Bool (is_of_new old new h)) [
        | inl is ↦ shown_new added removed last h (omega (arith, e)) (removed_none old new h is) ∙ sym is
        | inr other ↦ hidden_new added removed last h e (removed_some old new h other) ∙ sym other
      ]

  module _ (node table : ℕ) (family : Family) (a : ℕ) where
    abbrev found : (Hit → Bool) → Hit
    found shown = shown_lookup shown joined node table family a

    first_found : found (is_shown_after added removed 0) ≡ found (is_of_old old)
    first_found = ap (λ es. hit_of (longest a es))
        (filter_same (λ e. is_shown_after added removed 0 e.hit) (λ e. is_of_old old e.hit) (entries_of joined node table family)
        (λ e c. at_start node table family e.prefix e.hit (entry_means joined node table family e c)))

    last_found : found (is_shown_after added removed last) ≡ found (is_of_new old new)
    last_found = ap (λ es. hit_of (longest a es))
        (filter_same (λ e. is_shown_after added removed last e.hit) (λ e. is_of_new old new e.hit) (entries_of joined node table family)
        (λ e c. at_end_law e.hit))

  module _ (tables : ℕ → Network) (rules : IsNetwork old) (accepted : planning old new ≡ Ok tt) (shows : ShowsEdits old new tables) where
    keeps_by : (first done : ℕ)
        → ((node table : ℕ) (family : Family) (a : ℕ) → lookup_of (tables first) node table family a ≢ hits.Nothing
        → lookup_of (tables done) node table family a ≡ lookup_of (tables first) node table family a)
        → KeepsOwn (tables first) (tables done)
    keeps_by first done matches = record {
      nodes = shows.nodes done ∙ sym (shows.nodes first);
      links = shows.links done ∙ sym (shows.links first);
      routes = shows.routes done ∙ sym (shows.routes first);
      policies = shows.policies done ∙ sym (shows.policies first);
      sids = shows.sids done ∙ sym (shows.sids first);
      matches = matches;
    }

    old_kept : (done : ℕ) → done ≤ suc (length added) → KeepsOwn (tables 0) (tables done)
    old_kept done few = keeps_by 0 done (λ node table family a some.
        let base : lookup_of (tables 0) node table family a ≡ found node table family a (is_of_old old) =
        shows.looks_up 0 node table family a ∙ first_found node table family a in
        shows.looks_up done node table family a
        ∙ (old_match_stays old new (is_shown_after added removed done) node table family a accepted
        (λ h is. shown_old added removed done h few (added_none old new h is)) (λ none. some (base ∙ none)) ∙ sym base))

    new_kept : (done : ℕ) → length added ≤ done → done ≤ last → KeepsOwn (tables last) (tables done)
    new_kept done all within = keeps_by last done (λ node table family a some.
        let base : lookup_of (tables last) node table family a ≡ found node table family a (is_of_new old new) =
        shows.looks_up last node table family a ∙ last_found node table family a in
        shows.looks_up done node table family a
        ∙ (new_match_stays old new (is_shown_after added removed done) node table family a rules accepted
        (λ h is. shown_new added removed done h all (removed_none old new h is)) (λ none. some (base ∙ none)) ∙ sym base))

    pub passes_over : PassOver tables added removed
    passes_over = record { old = old_kept; new = new_kept }

  -- the first tables look up as the old description, and the last as the new one

  pub starts_old : (tables : ℕ → Network) (node table : ℕ) (family : Family) (a : ℕ) → old.hidden ≡ [] → ShowsEdits old new tables
      → lookup_of (tables 0) node table family a ≡ lookup_of old node table family a
  starts_old tables node table family a whole shows =
      shows.looks_up 0 node table family a ∙ (first_found node table family a ∙ old_lookups old new node table family a whole)

  pub ends_new : (tables : ℕ → Network) (node table : ℕ) (family : Family) (a : ℕ) → IsNetwork old → IsNetwork new
      → new.hidden ≡ [] → planning old new ≡ Ok tt → ShowsEdits old new tables
      → SameHit joined new (lookup_of (tables last) node table family a) (lookup_of new node table family a)
  ends_new tables node table family a rules new_rules whole accepted shows =
      subst (λ (h : Hit). SameHit joined new h (lookup_of new node table family a))
      (sym (shows.looks_up last node table family a ∙ last_found node table family a))
      (new_lookups old new node table family a rules new_rules whole accepted)
