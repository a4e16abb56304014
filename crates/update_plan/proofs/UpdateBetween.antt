-- Tables between two descriptions: what is hidden of them by hits and by names is one.
use Rattle.std.proofs.Common.{◌≡◌, ℕ, zero, suc, ◌-◌, Bool, true, false, ◌||◌, not, List, [], ◌∷◌, ◌++◌, map, length, take, drop, Ok, refl, sym, ap, ap₂, ◌∙◌}
use Rattle.std.proofs.lemmas.List.Folds.{list_any-append}
use Rattle.std.specs.List.{filter, list_any}
use Rattle.srv6_rules.specs.declared.family.Family.{Family}
use Rattle.net_model.specs.declared.net.EntryId.{EntryId}
use Rattle.net_model.specs.declared.net.EntryId.TheVariants as ids
use Rattle.net_model.specs.declared.net.Hit.{Hit}
use Rattle.net_model.specs.declared.net.Hit.TheVariants as hits
use Rattle.net_model.specs.Best.{all_entries_of, hit_of, longest, lookup_of}
use Rattle.net_model.specs.Network.{Network, hit_of_entry, is_shown, same_hit}
use Rattle.net_model.specs.NetworkTerms.{CanHide}
use Rattle.net_model.specs.NetworkRulesTerms.{IsNetwork}
use Rattle.update_spec.specs.Joined.{joined_of}
use Rattle.update_spec.specs.Changes.{added_entries, removed_entries}
use Rattle.update_spec.specs.Lookups.{SameHit}
use Rattle.update_theory.specs.LookupsTerms.{shown_lookup}
use Rattle.update_spec.specs.Planning.{planning}
use Rattle.update_theory.proofs.PublicLaws.{hidden_lookups}
use Rattle.update_flight.specs.Interleaving.{PassOver}
use Rattle.update_flight.specs.Planned.{hidden_after}
use Rattle.update_flight.specs.PlannedTerms.{ShowsEdits, is_shown_after, names}
use Rattle.update_flight.specs.MomentTablesTerms.{AreAlike}
use Rattle.update_flight.specs.Transition.{edits}
use Rattle.update_flight.proofs.PublicLaws.{ends_new, passes_over, starts_old}
use Rattle.update_plan.specs.UpdateStateTerms.{AreHideable, tables_between}
use Rattle.update_plan.proofs.UpdateShown.{same_back, shown_without}
use Rattle.update_plan.proofs.Hideable.{added_hideable, removed_hideable}

-- ---- a name of an entry that can be hidden is that of its hit

names_hit : (net : Network) (e : EntryId) (h : Hit) → CanHide net e → names e h ≡ same_hit h (hit_of_entry e)
names_hit net (ids.Route n) h can = same_back (hits.Route n) h ∙ refl
names_hit net (ids.Sid n) h can = same_back (hits.Sid n) h ∙ refl
names_hit net (ids.Address n) h can = absurd can

named_hits : (net : Network) (es : List EntryId) (h : Hit) → AreHideable net es
    → list_any (λ e. names e h) es ≡ list_any (same_hit h) (map hit_of_entry es)
named_hits net [] h can = refl
named_hits net (e ∷ es) h can = ap₂ (λ b c. b || c) (names_hit net e h can.0) (named_hits net es h can.2)

-- parts of entries that can be hidden

drop_none : (k : ℕ) → drop k (let none : List EntryId = [] in none) ≡ []
drop_none zero = refl
drop_none (suc k) = refl

hideable_drop : (net : Network) (k : ℕ) (es : List EntryId) (h : Hit) → AreHideable net es
    → list_any (λ e. names e h) (drop k es) ≡ list_any (same_hit h) (map hit_of_entry (drop k es))
hideable_drop net k [] h can =
    ap (λ (es : List EntryId). list_any (λ e. names e h) es) (drop_none k)
    ∙ sym (ap (λ (es : List EntryId). list_any (same_hit h) (map hit_of_entry es)) (drop_none k))
hideable_drop net zero (e ∷ es) h can = named_hits net (e ∷ es) h can
hideable_drop net (suc k) (e ∷ es) h can = hideable_drop net k es h can.2

hideable_take : (net : Network) (k : ℕ) (es : List EntryId) (h : Hit) → AreHideable net es
    → list_any (λ e. names e h) (take k es) ≡ list_any (same_hit h) (map hit_of_entry (take k es))
hideable_take net zero [] h can = refl
hideable_take net (suc k) [] h can = refl
hideable_take net zero (e ∷ es) h can = refl
hideable_take net (suc k) (e ∷ es) h can = ap₂ (λ b c. b || c) (names_hit net e h can.0) (hideable_take net k es h can.2)

any_append : (f : EntryId → Bool) (es fs : List EntryId) → list_any f (es ++ fs) ≡ (list_any f es || list_any f fs)
any_append f es fs = list_any-append f es fs

any_hits : (h : Hit) (es fs : List EntryId)
    → list_any (same_hit h) (map hit_of_entry (es ++ fs))
    ≡ (list_any (same_hit h) (map hit_of_entry es) || list_any (same_hit h) (map hit_of_entry fs))
any_hits h [] fs = refl
any_hits h (e ∷ es) fs =
    ap (λ b. same_hit h (hit_of_entry e) || b) (any_hits h es fs)
    ∙ or_assoc (same_hit h (hit_of_entry e)) (list_any (same_hit h) (map hit_of_entry es))
    (list_any (same_hit h) (map hit_of_entry fs)) where
      or_assoc : (a b c : Bool) → (a || (b || c)) ≡ ((a || b) || c)
      or_assoc true b c = refl
      or_assoc false b c = refl

-- what is shown after some edits, by names and by hits
shown_after : (net : Network) (added removed : List EntryId) (done : ℕ) (h : Hit) → AreHideable net added → AreHideable net removed
    → is_shown_after added removed done h ≡ shown_without (hidden_after added removed done) h
shown_after net added removed done h one other =
    ap not (any_append (λ e. names e h) (drop done added) (take (done - suc (length added)) removed)
    ∙ (ap₂ (λ b c. b || c) (hideable_drop net done added h one) (hideable_take net (done - suc (length added)) removed h other)
    ∙ sym (any_hits h (drop done added) (take (done - suc (length added)) removed))))

-- ---- networks of which the same is shown look up alike

finds_by : (one : Network) (hidden : List Hit) → ((h : Hit) → is_shown hidden h ≡ is_shown one.hidden h)
    → (node table : ℕ) (family : Family) (a : ℕ)
    → lookup_of (record one { hidden = hidden }) node table family a ≡ lookup_of one node table family a
unfolding lookup_of
finds_by one hidden shown node table family a =
    let same : is_shown hidden ≡ is_shown one.hidden = λ i. λ h. shown h i in
    ap (λ (f : Hit → Bool). hit_of (longest a (filter (λ e. f e.hit) (all_entries_of one node table family)))) same

pub alike_shown : (one other : Network) → other ≡ record one { hidden = other.hidden }
    → ((h : Hit) → is_shown other.hidden h ≡ is_shown one.hidden h) → AreAlike one other
alike_shown one other same shown = record {
  nodes = ap (λ (n : Network). n.nodes) same;
  links = ap (λ (n : Network). n.links) same;
  routes = ap (λ (n : Network). n.routes) same;
  policies = ap (λ (n : Network). n.policies) same;
  sids = ap (λ (n : Network). n.sids) same;
  finds = λ node table family a.
      ap (λ (n : Network). lookup_of n node table family a) same ∙ finds_by one other.hidden shown node table family a;
}

-- ---- the tables between two descriptions

module _ (old new : Network) where
  pub between_shows : ShowsEdits old new (tables_between old new)
  between_shows = record {
    nodes = λ done. refl;
    links = λ done. refl;
    routes = λ done. refl;
    policies = λ done. refl;
    sids = λ done. refl;
    looks_up = λ done node table family a.
        let added = added_entries old new in
        let removed = removed_entries old new in
        let joined = joined_of old new in
        let same : is_shown_after added removed done ≡ shown_without (hidden_after added removed done) =
        λ i. λ h. shown_after joined added removed done h (added_hideable old new) (removed_hideable old new) i in
        sym (ap (λ (f : Hit → Bool). shown_lookup f joined node table family a) same
        ∙ hidden_lookups joined (map hit_of_entry (hidden_after added removed done)) node table family a refl);
  }

  pub between_pass : IsNetwork old → planning old new ≡ Ok tt
      → PassOver (tables_between old new) (added_entries old new) (removed_entries old new)
  between_pass rules accepted = passes_over old new (tables_between old new) rules accepted between_shows

  pub between_old : (node table : ℕ) (family : Family) (a : ℕ) → old.hidden ≡ []
      → lookup_of (tables_between old new 0) node table family a ≡ lookup_of old node table family a
  between_old node table family a whole = starts_old old new (tables_between old new) node table family a whole between_shows

  pub between_new : (node table : ℕ) (family : Family) (a : ℕ) → IsNetwork old → IsNetwork new → new.hidden ≡ []
      → planning old new ≡ Ok tt
      → SameHit (joined_of old new) new
      (lookup_of (tables_between old new (length (edits (added_entries old new) (removed_entries old new)))) node table family a)
      (lookup_of new node table family a)
  between_new node table family a rules new_rules whole accepted =
      ends_new old new (tables_between old new) node table family a rules new_rules whole accepted between_shows
