-- Which edit is next, and what is so after it.
use Rattle.std.proofs.Common.{◌≡◌, ◌⊎◌, inl, inr, ℕ, zero, suc, ◌+◌, ◌-◌, ◌<◌, ◌≤◌, List, [], ◌∷◌, length, map, slice_get, Option, Some, None, option_map, refl, ap, ◌∙◌, arith, length-append, subst}
use Rattle.std.proofs.lemmas.List.{length-map}
use Rattle.std.proofs.lemmas.Option.{slice_get_within}
use Rattle.net_model.specs.declared.net.EntryId.{EntryId}
use Rattle.update_flight.specs.declared.table_edit.Edit.{Edit}
use Rattle.update_flight.specs.declared.table_edit.Edit.TheVariants.{Added, Switched, Removed, Finished}
use Rattle.update_flight.specs.Transition.{edits, or_finished, removed_or_busy, answer_to, done_after}

pub length_edits : (added removed : List EntryId) → length (edits added removed) ≡ length added + length removed + 1
length_edits added removed =
    let whole : length (edits added removed) ≡ length (map Added added) + length (Switched ∷ map Removed removed) =
    length-append (map Added added) (Switched ∷ map Removed removed) in
    let front : length (map Added added) ≡ length added = length-map added Added in
    let back : length (map Removed removed) ≡ length removed = length-map removed Removed in
    omega (arith, whole, front, back)

get_map : (removed : List EntryId) (k : ℕ) → slice_get (map Removed removed) k ≡ option_map Removed (slice_get removed k)
get_map [] k = refl
get_map (r ∷ removed) zero = refl
get_map (r ∷ removed) (suc k) = get_map removed k

removed_next : (added removed : List EntryId) (j k : ℕ) → j ≡ k + suc (length added)
    → slice_get (edits added removed) j ≡ option_map Removed (slice_get removed k)
removed_next [] removed zero k is = absurd (omega (arith, is))
removed_next [] removed (suc j) k is =
    let e : j ≡ k = omega (arith, is) in ap (slice_get (map Removed removed)) e ∙ get_map removed k
removed_next (a ∷ added) removed zero k is = absurd (omega (arith, is))
removed_next (a ∷ added) removed (suc j) k is = removed_next added removed j k (omega (arith, is))

-- behind the switch an edit that is answered is a removal, for which no early packet is in flight

removal_free : (going : Option ℕ) (o : Option EntryId) (done : ℕ)
    → done < done_after done (answer_to going (or_finished (option_map Removed o)))
    → going ≡ None
removal_free None o done more = refl
removal_free (Some n) None done more = absurd (omega (arith, more))
removal_free (Some n) (Some entry) done more = absurd (omega (arith, more))

module _ (added removed : List EntryId) (going : Option ℕ) (done : ℕ) where
  abbrev later : ℕ
  later = done_after done (answer_to going (or_finished (slice_get (edits added removed) done)))

  done_by : (o : Option Edit) → (done_after done (answer_to going (or_finished o)) ≡ done)
      ⊎ ((edit : Edit) × (o ≡ Some edit) × (done_after done (answer_to going (or_finished o)) ≡ done + 1))
  done_by None = inl (omega arith)
  done_by (Some (Added entry)) = inr (Added entry, refl, refl)
  done_by (Some Switched) = inr (Switched, refl, refl)
  done_by (Some (Removed entry)) = done_removed going where
    done_removed : (g : Option ℕ) → (done_after done (removed_or_busy entry g) ≡ done)
        ⊎ ((edit : Edit) × (Some (Removed entry) ≡ Some edit) × (done_after done (removed_or_busy entry g) ≡ done + 1))
    done_removed None = inr (Removed entry, refl, refl)
    done_removed (Some n) = inl refl
  done_by (Some Finished) = inl (omega arith)

  pub done_either : (later ≡ done) ⊎ (done < later)
  done_either = elim (done_by (slice_get (edits added removed) done)) [
    | inl same ↦ inl same
    | inr next ↦ inr (let e = next.2 in omega (arith, e))
  ]

  pub done_most : done ≤ length (edits added removed) → later ≤ length (edits added removed)
  done_most few = elim (done_by (slice_get (edits added removed) done)) [
    | inl same ↦ omega (arith, same, few)
    | inr next ↦
        let within : done < length (edits added removed) = slice_get_within (edits added removed) done next.0 next.1 in
        let e = next.2 in
        omega (arith, within, e)
  ]

  pub done_least : done ≤ later
  done_least = elim (done_by (slice_get (edits added removed) done)) [
    | inl same ↦ omega (arith, same)
    | inr next ↦ (let e = next.2 in omega (arith, e))
  ]

  pub done_one : later ≤ suc done
  done_one = elim (done_by (slice_get (edits added removed) done)) [
    | inl same ↦ omega (arith, same)
    | inr next ↦ (let e = next.2 in omega (arith, e))
  ]

  -- a removal that was done found no early packet in flight
  pub removal_done : length added < done → done < later → going ≡ None
  removal_done behind more =
      let k : ℕ = done - suc (length added) in
      let is : done ≡ k + suc (length added) = omega (arith, behind) in
      let next : slice_get (edits added removed) done ≡ option_map Removed (slice_get removed k) =
      removed_next added removed done k is in
      removal_free going (slice_get removed k) done
      (subst (λ (o : Option Edit). done < done_after done (answer_to going (or_finished o))) next more)
