-- Lists read back from their values, container by container, as the code reads them.
use Rattle.std.proofs.Common.{◌≡◌, ℕ, ◌+◌, List, [], ◌∷◌, ◌++◌, length, map, get_or, drop, Option, Some, None, slice_get, ◌<◌, ◌≤◌, refl, sym, ◌∙◌, ap, subst, append_assoc}
use Rattle.std.proofs.lemmas.Option.{slice_get-get_or}
use Rattle.v6_addr.specs.declared.address.Addr.{Addr}
use Rattle.net_model.specs.Network.{Network}
use Rattle.net_model.specs.NetworkRulesTerms.{IsNetwork}
use Rattle.net_flatness.specs.Flat.{IsFlat}
use Rattle.sid_list_spec.specs.SegmentLists.{SidBlock}
use Rattle.list_pack.specs.declared.types.Container.{Container}
use Rattle.list_pack.specs.SegmentValues.{addr_value}
use Rattle.list_pack.specs.SidLists.{list_values}
use Rattle.list_pack.proofs.SidLoops.{drop_item, drop_past}
use Rattle.segment_reading.specs.Readings.{AreAt, IsAt, asked_behind}
use Rattle.segment_reading.specs.Spellings.{IsSpelled}
use Rattle.segment_reading.proofs.MoreSteps.{append_none}
use Rattle.segment_reading.proofs.ReadingLists.{legal_at, none_at, some_at, split_at}

-- of the containers of a list these were read, and others are left, at the values that are left
pub record ListRead (net : Network) (list read : List Container) (asked : Option SidBlock) (values : List ℕ) : Type 0 where
  pub left : List Container
  pub all : list ≡ read ++ left
  pub on : AreAt net asked left values

abbrev pub ListReads : Network → List ℕ → List Container → Option SidBlock → List ℕ → Type 0
ListReads net told read asked values = (list : List Container) → AreAt net None list told → ListRead net list read asked values

pub list_first : (net : Network) (told : List ℕ) → ListReads net told [] None told
list_first net told = λ list is. record { left = list; all = refl; on = is }

pub addr_read : (segments : List Addr) (i : ℕ) → i < length segments
    → slice_get segments i ≡ Some (get_or segments i (record { value = 0 }))
addr_read segments i h = slice_get-get_or segments i (record { value = 0 }) h

-- the values that are left, where an item is next
values_next : (segments : List Addr) (i : ℕ) (a : Addr) → slice_get segments i ≡ Some a
    → map addr_value (drop i segments) ≡ a.value ∷ map addr_value (drop (i + 1) segments)
values_next segments i a at = ap (map addr_value) (drop_item segments i a at)

module _ (net : Network) (told : List ℕ) (read : List Container) (asked : Option SidBlock) (segments : List Addr) (i : ℕ) (a : Addr)
    (at : slice_get segments i ≡ Some a) (reads : ListReads net told read asked (map addr_value (drop i segments))) where
  -- the next container of a list is at the next value
  pub list_on : (list : List Container) → AreAt net None list told
      → (c : Container) × IsAt net asked c a.value
      × ListRead net list (read ++ (c ∷ [])) (asked_behind net asked c) (map addr_value (drop (i + 1) segments))
  list_on list is =
      let r = reads list is in
      let on = subst (AreAt net asked r.left) (values_next segments i a at) r.on in
      let some = some_at net asked r.left a.value (map addr_value (drop (i + 1) segments)) on in
      let c = some.0 in
      let cs = some.1 in
      let parts = split_at net asked c cs a.value (map addr_value (drop (i + 1) segments))
      (subst (λ (l : List Container). AreAt net asked l (a.value ∷ map addr_value (drop (i + 1) segments))) some.2 on) in (
        c,
        parts.first,
        record {
          left = cs;
          all = r.all ∙ ap (λ (l : List Container). read ++ l) some.2 ∙ sym (append_assoc read (c ∷ []) cs);
          on = parts.behind;
        },
      )

  -- where none is there, no list is
  pub list_lost : ((c : Container) → IsAt net asked c a.value → Path (Option Container) None (Some c)) → (list : List Container)
      → (found : Option (List Container)) → AreAt net None list told → found ≡ Some list
  list_lost none list found is = let on = list_on list is in let e = none on.0 on.1 in absurd (cc)

  -- where this one is there, it was read
  pub list_next : (c : Container) (next : Option SidBlock)
      → ((d : Container) → IsAt net asked d a.value → Path (Option Container) (Some c) (Some d)) → next ≡ asked_behind net asked c
      → ListReads net told (read ++ (c ∷ [])) next (map addr_value (drop (i + 1) segments))
  list_next c next one is_next = λ list is.
      let on = list_on list is in
      let same : on.0 ≡ c = let e = one on.0 on.1 in cc in
      let r = subst (λ (d : Container). ListRead net list (read ++ (d ∷ [])) (asked_behind net asked d)
      (map addr_value (drop (i + 1) segments))) same on.2 in
      subst (λ (o : Option SidBlock). ListRead net list (read ++ (c ∷ [])) o (map addr_value (drop (i + 1) segments))) (sym is_next) r

-- where no values are left the whole list was read
pub list_whole : (net : Network) (told : List ℕ) (read : List Container) (asked : Option SidBlock) (segments : List Addr) (i : ℕ)
    → length segments ≤ i → ListReads net told read asked (map addr_value (drop i segments)) → (list : List Container)
    → AreAt net None list told → Path (Option (List Container)) (Some read) (Some list)
list_whole net told read asked segments i past reads list is =
    let r = reads list is in
    let on = subst (λ (l : List Addr). AreAt net asked r.left (map addr_value l)) (drop_past segments i past) r.on in
    let none = none_at net asked r.left on in
    ap Some (sym (r.all ∙ ap (λ (l : List Container). read ++ l) none ∙ append_none read))

-- a list that is spelled so is at the values
pub spelled_at : (net : Network) (segments : List Addr) (list : List Container) → IsNetwork net → IsFlat net → IsSpelled net segments list
    → AreAt net None list (map addr_value segments)
spelled_at net segments list network flat is =
    subst (AreAt net None list) is.values (legal_at net network flat list is.legal)
