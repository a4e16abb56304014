-- What is shown where some entries are hidden.
use Rattle.std.proofs.Common.{◌≡◌, ℕ, zero, suc, Bool, true, false, ◌&&◌, ◌||◌, not, List, [], ◌∷◌, take, drop, Some, slice_get, refl, sym, ap, ap₂, ◌∙◌, subst}
use Rattle.std.proofs.lemmas.Bool.{false≢true}
use Rattle.net_model.specs.declared.net.EntryId.{EntryId}
use Rattle.net_model.specs.declared.net.Hit.{Hit}
use Rattle.net_model.specs.Network.{Network, hit_of_entry, same_hit}
use Rattle.net_model.specs.NetworkTerms.{CanHide, IsEdited}
use Rattle.update_plan.specs.UpdateStateTerms.{AreHideable, ShowsWithout}
pub use Rattle.net_model.proofs.ShownLemmas.{same_back, same_self, shown_without, shown_first, shown_append, last_taken, by_hit, hide_next}

-- of entries that stand once, one is not among those before it, nor among those behind it

pub hideable_at : (net : Network) (es : List EntryId) (k : ℕ) (e : EntryId) → AreHideable net es → slice_get es k ≡ Some e → CanHide net e
hideable_at net [] k e all there = cc
hideable_at net (x ∷ es) zero e all there = let same : x ≡ e = cc in subst (CanHide net) same all.0
hideable_at net (x ∷ es) (suc k) e all there = hideable_at net es k e all.2 there

pub first_dropped : (es : List EntryId) (k : ℕ) (e : EntryId) → slice_get es k ≡ Some e → drop k es ≡ e ∷ drop (suc k) es
first_dropped [] k e there = cc
first_dropped (x ∷ es) zero e there = let same : x ≡ e = cc in ap (λ (y : EntryId). y ∷ es) same
first_dropped (x ∷ es) (suc k) e there = first_dropped es k e there

pub none_behind : (net : Network) (es : List EntryId) (k : ℕ) (e : EntryId) → AreHideable net es → slice_get es k ≡ Some e
    → shown_without (drop (suc k) es) (hit_of_entry e) ≡ true
none_behind net [] k e all there = cc
none_behind net (x ∷ es) zero e all there =
    let same : x ≡ e = cc in ap (λ (y : EntryId). shown_without es (hit_of_entry y)) (sym same) ∙ all.1
none_behind net (x ∷ es) (suc k) e all there = none_behind net es k e all.2 there

pub none_before : (net : Network) (es : List EntryId) (k : ℕ) (e : EntryId) → AreHideable net es → slice_get es k ≡ Some e
    → shown_without (take k es) (hit_of_entry e) ≡ true
none_before net [] k e all there = cc
none_before net (x ∷ es) zero e all there = refl
none_before net (x ∷ es) (suc k) e all there =
    shown_first x (take k es) (hit_of_entry e)
    ∙ ap₂ (λ b c. not b && c) (same_back (hit_of_entry e) (hit_of_entry x) ∙ apart es k all.1 there) (none_before net es k e all.2 there)
  where
    or_none : (b c : Bool) → not (b || c) ≡ true → (b ≡ false) × (not c ≡ true)
    or_none true c is = absurd (false≢true is)
    or_none false c is = (refl, is)

    apart : (ys : List EntryId) (j : ℕ) → shown_without ys (hit_of_entry x) ≡ true → slice_get ys j ≡ Some e
        → same_hit (hit_of_entry x) (hit_of_entry e) ≡ false
    apart [] j none at = cc
    apart (y ∷ ys) zero none at =
        let same : y ≡ e = cc in
        ap (λ (z : EntryId). same_hit (hit_of_entry x) (hit_of_entry z)) (sym same) ∙ (or_none _ _ none).0
    apart (y ∷ ys) (suc j) none at = apart ys j (or_none _ _ none).1 at

-- ---- an edit of what is shown

module _ (old new : Network) (e : EntryId) where
  -- the next of the entries that are hidden is shown
  pub show_next : (net : Network) (es : List EntryId) (k : ℕ) → AreHideable net es → slice_get es k ≡ Some e
      → IsEdited old new (hit_of_entry e) true → ShowsWithout old (drop k es) → ShowsWithout new (drop (suc k) es)
  show_next net es k all there edited shows =
      by_hit old new e true (drop k es) (drop (suc k) es) edited shows (none_behind net es k e all there) (λ h other.
      let apart : same_hit h (hit_of_entry e) ≡ false = same_back h (hit_of_entry e) ∙ other in
      sym (ap (λ l. shown_without l h) (first_dropped es k e there)
      ∙ (shown_first e (drop (suc k) es) h ∙ ap (λ b. not b && shown_without (drop (suc k) es) h) apart)))
