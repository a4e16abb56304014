-- The rule on nested SIDs, in the list of a path and after a REPLACE SID.
use Rattle.std.proofs.Common.{◌≡◌, ℕ, true, false, List, [], ◌∷◌, map, All, Option, Some, None, refl, sym, ◌∙◌, ap}
use Rattle.std.specs.List.{slice_get}
use Rattle.std.proofs.lemmas.Option.{slice_get-get_or}
use Rattle.std.proofs.lemmas.List.Elements.{All-nil, All-cons}
use Rattle.v6_addr.specs.Address.{PrefixValue}
use Rattle.srv6_rules.specs.declared.sid.Csid.{Csid}
use Rattle.srv6_rules.specs.declared.sid.Csid.TheVariants.{Next, Replace}
use Rattle.srv6_rules.specs.declared.sid.SidEntry.{SidEntry}
use Rattle.net_model.specs.Network.{Network}
use Rattle.net_flatness.specs.Nests.{MayFollow}
use Rattle.sid_list_spec.specs.SegmentLists.{SidBlock}
use Rattle.list_pack.specs.LegsValue.{LegsValue}
use Rattle.list_pack.specs.LegsValueTerms.{KeepsLaws}
use Rattle.list_pack.specs.Costs.{Move, room_to}
use Rattle.list_pack.specs.PathsTerms.{sids_of_moves, may_move, SuitsLists}
use Rattle.list_pack.specs.PathLists.{container_as, staying, asked_after, list_from}
use Rattle.list_pack.specs.SidLists.{list_sid, FollowOn, KeepsNests}
use Rattle.list_pack.proofs.Barring.{room_free}
use Rattle.list_pack.proofs.Hops.{HopsFrom, hops_here, hops_next, room_parts}
use Rattle.list_pack.proofs.PathsToLists.{by_stays, steps_by}
use Rattle.list_pack.proofs.ListsToPaths.{PackedFollow}
use Rattle.list_pack.proofs.FlatSids.{prefix_has}

-- a SID that others are nested in stands on its prefix alone, and has NEXT
pub packed_follow : (net : Network) → PackedFollow (list_sid net) (MayFollow net)
packed_follow net p next replace outer inner among within on nest =
    let (m, less, same) = among in
    let at : slice_get net.sids m ≡ Some outer = slice_get-get_or net.sids m outer less ∙ ap (λ (s : SidEntry). Some s) same in
    absurd (prefix_has net p (λ (c : Csid). c ≡ Replace → ⊥) (λ e. absurd (cc))
    (λ n t there own e.
    let one : n ≡ m = nest.outer_alone n m t outer there at (own ∙ sym on) refl in
    let found : Some t ≡ Some outer = sym there ∙ ap (λ (k : ℕ). slice_get net.sids k) one ∙ at in
    let flavour : t.csid ≡ outer.csid = cc in
    let next_csid : outer.csid ≡ Next = nest.csid in
    absurd (cc)) replace)

-- ---- the list of a path

module _ (v : LegsValue) (net : Network) (laws : KeepsLaws v) (suits : SuitsLists v (list_sid net) (MayFollow net)) where
  -- moves that stay after a SID name SIDs that may follow
  abbrev StayOn : List Move → Type 0
  StayOn moves = (position n room : ℕ) → may_move v (Some n) room moves ≡ true → HopsFrom v position (Some n) (sids_of_moves moves)
      → FollowOn (MayFollow net) (v.shape n).prefix (staying (steps_by v moves))

  stay_follows : (moves : List Move) → StayOn moves → (m : ℕ) → StayOn (record { stays = true; sid = m } ∷ moves)
  stay_follows moves rest m position n room may hops =
      let parts = room_parts (room_to v (Some n) room (record { stays = true; sid = m })) (λ left. may_move v (Some m) left moves) may in
      let free = room_free v n m room parts.0 parts.1 in
      let here = hops_here v laws position n m (sids_of_moves moves) hops in
      let next = hops_next v position (Some n) m (sids_of_moves moves) hops in
      ((suits.stays n m here.via_sid here.next_sid).0 free, rest next.0 m parts.0 parts.2 next.1)

  moves_follow : (moves : List Move) → StayOn moves
  moves_follow [] = λ position n room may hops. tt
  moves_follow (m ∷ ms) =
      by_stays (λ (x : Move). StayOn (x ∷ ms)) (stay_follows ms (moves_follow ms)) (λ n position from room may hops. tt) m

  keeps_as : (k : Option SidBlock) (p : PrefixValue) (ps : List PrefixValue) → FollowOn (MayFollow net) p ps
      → KeepsNests net (container_as k p ps)
  keeps_as None p ps follow = follow
  keeps_as (Some b) p ps follow = tt

  -- and so do the containers that moves open
  abbrev Keep : List Move → Type 0
  Keep moves = (k : Option SidBlock) (position : ℕ) (via : Option ℕ) (room : ℕ) → may_move v via room moves ≡ true
      → HopsFrom v position via (sids_of_moves moves) → All (KeepsNests net) (list_from (list_sid net) k (steps_by v moves))

  keep_stay : (moves : List Move) → Keep moves → (m : ℕ) → Keep (record { stays = true; sid = m } ∷ moves)
  keep_stay moves rest m k position via room may hops =
      let parts = room_parts (room_to v via room (record { stays = true; sid = m })) (λ left. may_move v (Some m) left moves) may in
      let next = hops_next v position via m (sids_of_moves moves) hops in
      rest k next.0 (Some m) parts.0 parts.2 next.1

  keep_open : (moves : List Move) → Keep moves → (m : ℕ) → Keep (record { stays = false; sid = m } ∷ moves)
  keep_open moves rest m k position via room may hops =
      let parts = room_parts (room_to v via room (record { stays = false; sid = m })) (λ left. may_move v (Some m) left moves) may in
      let next = hops_next v position via m (sids_of_moves moves) hops in
      let more = staying (steps_by v moves) in
      let asked = asked_after k (list_sid net (v.shape m).prefix) (map (list_sid net) more) in
      All-cons (KeepsNests net) (container_as k (v.shape m).prefix more) (list_from (list_sid net) asked (steps_by v moves))
      (keeps_as k (v.shape m).prefix more (moves_follow moves next.0 m parts.0 parts.2 next.1))
      (rest asked next.0 (Some m) parts.0 parts.2 next.1)

  pub path_keeps : (moves : List Move) → Keep moves
  path_keeps [] = λ k position via room may hops. All-nil (KeepsNests net)
  path_keeps (m ∷ ms) = by_stays (λ (x : Move). Keep (x ∷ ms)) (keep_stay ms (path_keeps ms)) (keep_open ms (path_keeps ms)) m
