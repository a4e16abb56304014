-- What an edit leaves of an update.
use Rattle.std.proofs.Common.{◌≡◌, ℕ, zero, suc, ◌+◌, ◌-◌, ◌<◌, ◌≤◌, Bool, true, false, ◌&&◌, not, List, [], ◌∷◌, ◌++◌, map, length, take, drop, Option, Some, None, slice_get, Ok, refl, sym, ap, ap₂, ◌∙◌, subst, arith}
use Rattle.std.proofs.lemmas.List.{drop_all}
use Rattle.net_model.specs.declared.net.EntryId.{EntryId}
use Rattle.net_model.specs.Network.{Network, hit_of_entry, is_shown}
use Rattle.net_model.specs.NetworkTerms.{IsEdited}
use Rattle.packet_walk.specs.FlightTerms.{ArePlaced}
use Rattle.update_flight.specs.declared.table_edit.Edit.{Edit}
use Rattle.update_flight.specs.declared.table_edit.Edit.TheVariants.{Added, Switched, Removed, Finished}
use Rattle.update_flight.specs.Interleaving.{PassOver}
use Rattle.update_flight.specs.Planned.{hidden_after}
use Rattle.update_flight.specs.Transition.{Transition, answer_of, answer_to, done_after, edited, edits, first_early, next_edit, or_finished, steps}
use Rattle.update_plan.specs.UpdateState.{tables_after, without}
use Rattle.update_plan.specs.UpdateStateTerms.{AreHideable, CanChange, IsChanged, IsUpdate, ShowsWithout, whole}
use Rattle.update_plan.proofs.UpdateShown.{first_dropped, hide_next, hideable_at, none_before, same_self, show_next, shown_without, shown_first}

-- ---- which edit is next

next_by : (going : Option ℕ) (next edit : Edit) → Ok edit ≡ answer_to going next → next ≡ edit
next_by going (Added e) edit is = cc
next_by going Switched edit is = cc
next_by None (Removed e) edit is = cc
next_by (Some n) (Removed e) edit is = cc
next_by going Finished edit is = cc

pub next_is : (t : Transition) (edit : Edit) → Ok edit ≡ answer_of t → next_edit t ≡ edit
next_is t edit is = next_by (first_early t) (next_edit t) edit is

none_removed : (removed : List EntryId) (k : ℕ) (e : EntryId) → or_finished (slice_get (map Removed removed) k) ≡ Added e → ⊥
none_removed [] k e is = cc
none_removed (r ∷ removed) zero e is = cc
none_removed (r ∷ removed) (suc k) e is = none_removed removed k e is

no_switch : (removed : List EntryId) (k : ℕ) → or_finished (slice_get (map Removed removed) k) ≡ Switched → ⊥
no_switch [] k is = cc
no_switch (r ∷ removed) zero is = cc
no_switch (r ∷ removed) (suc k) is = no_switch removed k is

one_removed : (removed : List EntryId) (k : ℕ) (e : EntryId) → or_finished (slice_get (map Removed removed) k) ≡ Removed e
    → slice_get removed k ≡ Some e
one_removed [] k e is = cc
one_removed (r ∷ removed) zero e is = cc
one_removed (r ∷ removed) (suc k) e is = one_removed removed k e is

at_added : (added removed : List EntryId) (k : ℕ) (e : EntryId) → or_finished (slice_get (edits added removed) k) ≡ Added e
    → slice_get added k ≡ Some e
at_added [] removed zero e is = cc
at_added [] removed (suc k) e is = absurd (none_removed removed k e is)
at_added (a ∷ added) removed zero e is = cc
at_added (a ∷ added) removed (suc k) e is = at_added added removed k e is

at_switch : (added removed : List EntryId) (k : ℕ) → or_finished (slice_get (edits added removed) k) ≡ Switched → k ≡ length added
at_switch [] removed zero is = refl
at_switch [] removed (suc k) is = absurd (no_switch removed k is)
at_switch (a ∷ added) removed zero is = cc
at_switch (a ∷ added) removed (suc k) is = ap suc (at_switch added removed k is)

at_removed : (added removed : List EntryId) (k : ℕ) (e : EntryId) → or_finished (slice_get (edits added removed) k) ≡ Removed e
    → (j : ℕ) × (k ≡ suc (length added) + j) × (slice_get removed j ≡ Some e)
at_removed [] removed zero e is = cc
at_removed [] removed (suc k) e is = (k, omega arith, one_removed removed k e is)
at_removed (a ∷ added) removed zero e is = cc
at_removed (a ∷ added) removed (suc k) e is =
    let (j, at, there) = at_removed added removed k e is in (j, omega (arith, at), there)

-- ---- what is hidden between the edits

none_taken : (es : List EntryId) → take 0 es ≡ []
none_taken [] = refl
none_taken (e ∷ es) = refl

append_none : (es : List EntryId) → es ++ [] ≡ es
append_none [] = refl
append_none (e ∷ es) = ap (λ l. e ∷ l) (append_none es)

-- before the first removal
pub hidden_adding : (added removed : List EntryId) (done : ℕ) → done ≤ suc (length added)
    → hidden_after added removed done ≡ drop done added
hidden_adding added removed done few =
    let e : done - suc (length added) ≡ 0 = omega (arith, few) in
    ap (λ n. drop done added ++ take n removed) e ∙ (ap (λ l. drop done added ++ l) (none_taken removed) ∙ append_none (drop done added))

-- from the last addition on
pub hidden_removing : (added removed : List EntryId) (j done : ℕ) → done ≡ suc (length added) + j
    → hidden_after added removed done ≡ take j removed
hidden_removing added removed j done is =
    let e : done - suc (length added) ≡ j = omega (arith, is) in
    ap₂ (λ (l : List EntryId) n. l ++ take n removed) (drop_all done added (omega (arith, is))) e

within_by : (es : List EntryId) (k : ℕ) (e : EntryId) → slice_get es k ≡ Some e → k < length es
within_by [] k e there = cc
within_by (x ∷ es) zero e there = omega arith
within_by (x ∷ es) (suc k) e there = let h = within_by es k e there in omega (arith, h)

module _ (net : Network) (t : Transition) (h : IsUpdate net t) where
  -- what an edit that is next asks for
  can_change : (edit : Edit) → next_edit t ≡ edit → CanChange edit net
  can_change (Added e) next =
      let there = at_added t.added t.removed t.done e next in
      let few : t.done < length t.added = within_by t.added t.done e there in (
        hideable_at net t.added t.done e h.added_there there,
        h.shows (hit_of_entry e)
            ∙ (ap (λ es. shown_without es (hit_of_entry e))
            (hidden_adding t.added t.removed t.done (omega (arith, few)) ∙ first_dropped t.added t.done e there)
            ∙ (shown_first e (drop (suc t.done) t.added) (hit_of_entry e)
            ∙ ap (λ b. not b && shown_without (drop (suc t.done) t.added) (hit_of_entry e)) (same_self (hit_of_entry e)))),
      )
  can_change Switched next = tt
  can_change (Removed e) next =
      let (j, at, there) = at_removed t.added t.removed t.done e next in (
        hideable_at net t.removed j e h.removed_there there,
        h.shows (hit_of_entry e)
            ∙ (ap (λ es. shown_without es (hit_of_entry e)) (hidden_removing t.added t.removed j t.done at)
            ∙ none_before net t.removed j e h.removed_there there),
      )
  can_change Finished next = tt

  pub can_edit : (edit : Edit) → Ok edit ≡ answer_of t → CanChange edit net
  can_edit edit is = can_change edit (next_is t edit is)

  module _ (now : Network) where
    -- all but what is hidden stays
    same_parts : (edit : Edit) → IsChanged edit net now → now ≡ record net { hidden = now.hidden }
    same_parts (Added e) changed = changed.same
    same_parts Switched same = ap (λ (n : Network). record n { hidden = now.hidden }) same
    same_parts (Removed e) changed = changed.same
    same_parts Finished same = ap (λ (n : Network). record n { hidden = now.hidden }) same

    shows_same : (es fs : List EntryId) → es ≡ fs → now ≡ net → ShowsWithout net es → ShowsWithout now fs
    shows_same es fs one other shows k =
        ap (λ (n : Network). is_shown n.hidden k) other ∙ (shows k ∙ ap (λ l. shown_without l k) one)

    shows_after : (edit : Edit) → next_edit t ≡ edit → IsChanged edit net now
        → ShowsWithout now (hidden_after t.added t.removed (t.done + steps edit))
    shows_after (Added e) next changed =
        let there = at_added t.added t.removed t.done e next in
        let few : t.done < length t.added = within_by t.added t.done e there in
        let one : t.done + 1 ≡ suc t.done = omega arith in
        let was : ShowsWithout net (drop t.done t.added) =
        subst (ShowsWithout net) (hidden_adding t.added t.removed t.done (omega (arith, few))) h.shows in
        subst (ShowsWithout now)
        (sym (ap (hidden_after t.added t.removed) one ∙ hidden_adding t.added t.removed (suc t.done) (omega (arith, few))))
        (show_next net now e net t.added t.done h.added_there there changed was)
    shows_after Switched next same =
        let at : t.done ≡ length t.added = at_switch t.added t.removed t.done next in
        shows_same (hidden_after t.added t.removed t.done) (hidden_after t.added t.removed (t.done + 1))
        (hidden_adding t.added t.removed t.done (omega (arith, at))
        ∙ (drop_all t.done t.added (omega (arith, at))
        ∙ sym (hidden_removing t.added t.removed 0 (t.done + 1) (omega (arith, at)) ∙ none_taken t.removed))) same h.shows
    shows_after (Removed e) next changed =
        let (j, at, there) = at_removed t.added t.removed t.done e next in
        let was : ShowsWithout net (take j t.removed) =
        subst (ShowsWithout net) (hidden_removing t.added t.removed j t.done at) h.shows in
        subst (ShowsWithout now) (sym (hidden_removing t.added t.removed (suc j) (t.done + 1) (omega (arith, at))))
        (hide_next net now e t.removed j there changed was)
    shows_after Finished next same =
        let one : t.done ≡ t.done + 0 = omega arith in
        shows_same (hidden_after t.added t.removed t.done) (hidden_after t.added t.removed (t.done + 0))
        (ap (hidden_after t.added t.removed) one) same h.shows

    done_is : (edit : Edit) → Ok edit ≡ answer_of t → t.done + steps edit ≡ (edited t).done
    done_is edit is = ap (done_after t.done) is

    pub update_after : (edit : Edit) → Ok edit ≡ answer_of t → IsChanged edit net now → IsUpdate now (edited t)
    update_after edit is changed =
        let same = same_parts edit changed in
        record {
          shows = subst (λ (n : ℕ). ShowsWithout now (hidden_after t.added t.removed n)) (done_is edit is)
              (shows_after edit (next_is t edit is) changed);
          added_there = subst (λ (n : Network). AreHideable n t.added) (sym same) h.added_there;
          removed_there = subst (λ (n : Network). AreHideable n t.removed) (sym same) h.removed_there;
          placed = subst (λ (n : Network). ArePlaced n t.packets.packets) (sym same) h.placed;
          pass = subst (λ (n : Network). PassOver (tables_after (whole n) t.added t.removed) t.added t.removed) (sym same) h.pass;
        }

    -- the joined network stays, and its tables change as the edit says

    tables_edited : (e : EntryId) (shown : Bool) (before after : List EntryId) → ShowsWithout net before → ShowsWithout now after
        → IsEdited net now (hit_of_entry e) shown → IsEdited (without (whole net) before) (without (whole now) after) (hit_of_entry e) shown
    tables_edited e shown before after was shows changed = record {
      same = ap (λ (n : Network). without n after) changed.same;
      there = sym (shows (hit_of_entry e)) ∙ changed.there;
      others = λ k other. sym (shows k) ∙ (changed.others k other ∙ was k);
    }

    tables_changed : (edit : Edit) (after : ℕ) → next_edit t ≡ edit → t.done + steps edit ≡ after → IsChanged edit net now
        → IsChanged edit (tables_after (whole net) t.added t.removed t.done) (tables_after (whole now) t.added t.removed after)
    tables_changed (Added e) after next is changed =
        tables_edited e true (hidden_after t.added t.removed t.done) (hidden_after t.added t.removed after) h.shows
        (subst (λ (n : ℕ). ShowsWithout now (hidden_after t.added t.removed n)) is (shows_after (Added e) next changed)) changed
    tables_changed Switched after next is same =
        let at : t.done ≡ length t.added = at_switch t.added t.removed t.done next in
        ap₂ (λ (n : Network) (l : List EntryId). without (whole n) l) same
        (ap (hidden_after t.added t.removed) (sym is)
        ∙ ((hidden_removing t.added t.removed 0 (t.done + 1) (omega (arith, at)) ∙ none_taken t.removed)
        ∙ sym (hidden_adding t.added t.removed t.done (omega (arith, at)) ∙ drop_all t.done t.added (omega (arith, at)))))
    tables_changed (Removed e) after next is changed =
        tables_edited e false (hidden_after t.added t.removed t.done) (hidden_after t.added t.removed after) h.shows
        (subst (λ (n : ℕ). ShowsWithout now (hidden_after t.added t.removed n)) is (shows_after (Removed e) next changed)) changed
    tables_changed Finished after next is same =
        let one : after ≡ t.done = omega (arith, is) in
        ap₂ (λ (n : Network) (l : List EntryId). without (whole n) l) same (ap (hidden_after t.added t.removed) one)

    pub changed_tables : (edit : Edit) → Ok edit ≡ answer_of t → IsChanged edit net now
        → IsChanged edit (tables_after (whole net) t.added t.removed t.done)
        (tables_after (whole now) t.added t.removed (edited t).done)
    changed_tables edit is changed = tables_changed edit (edited t).done (next_is t edit is) (done_is edit is) changed
