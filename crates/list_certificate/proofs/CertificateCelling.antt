-- The moves of all states of a cell, and what it says of the states that they pass.
use Rattle.std.proofs.Common.{◌≡◌, ℕ, ◌+◌, ◌<◌, ◌≤◌, inl, inr, Bool, true, false, List, Option, Some, slice_get, refl, sym, ◌∙◌, ap, subst, arith}
use Rattle.std.proofs.lemmas.Bool.{cases_lt}
use Rattle.list_pack.specs.declared.types.State.{State}
use Rattle.list_pack.specs.declared.types.Shape.{Shape}
use Rattle.list_pack.specs.declared.types.Cost.{Cost}
use Rattle.list_pack.specs.LegsValue.{LegsValue}
use Rattle.list_pack.specs.Rooms.{top_room}
use Rattle.list_pack.specs.Costs.{Edge, IsStateBy, behind, Under}
use Rattle.list_pack.specs.Least.{IsGoodAt}
use Rattle.list_certificate.specs.declared.certificate_types.PotentialLine.{PotentialLine}
use Rattle.list_certificate.specs.declared.potential_cells.Cell.{Cell}
use Rattle.list_certificate.specs.Certs.{potential_at}
use Rattle.list_certificate.specs.Tests.{Assures, state_in, PassesMove, PassesLast, move_of, PassLegs, PassEnds, CellPassesLegs, CellPassesEnds, PassAmong, OfSid, OfPosition}
use Rattle.list_certificate.proofs.MovesPassing.{LegsBelow, SomeLegsTo, SomeEnds}
use Rattle.list_certificate.proofs.States.{state_made}

-- a state passes where its moves by legs do and those to the end
good_by : (v : LegsValue) (lines : List PotentialLine) (s : State) → PassLegs v lines s → PassEnds v lines s
    → IsGoodAt v (potential_at lines) s
good_by v lines s legs ends =
    record {
      edges = λ m e h. subst (λ (o : Option Edge). Under (potential_at lines s) (behind o (potential_at lines))) h (legs m);
      lasts = λ m c h. subst (λ (o : Option Cost). Under (potential_at lines s) o) h (ends m);
    }

module _ (v : LegsValue) (lines : List PotentialLine) (cell : Cell) where
  -- the moves of the first rooms by a leg to a SID, and to the end by one
  abbrev pub RoomsMove : ℕ → ℕ → Type 0
  RoomsMove n count = (room : ℕ) (stays : Bool) → room < count → PassesMove v lines (state_in cell room) (move_of n stays)

  abbrev pub RoomsLast : ℕ → ℕ → Type 0
  RoomsLast n count = (room : ℕ) (stays : Bool) → room < count → PassesLast v lines (state_in cell room) (move_of n stays)

  pub rooms_move : (n count : ℕ) → ((stays : Bool) → PassesMove v lines (state_in cell count) (move_of n stays)) → RoomsMove n count
      → RoomsMove n (count + 1)
  rooms_move n count here so room stays less =
      elim (cases_lt room count) as (λ w. PassesMove v lines (state_in cell room) (move_of n stays)) [
        | inl low ↦ so room stays low
        | inr high ↦
            let same : count ≡ room = omega (arith, less, high) in
            subst (λ (r : ℕ). PassesMove v lines (state_in cell r) (move_of n stays)) same (here stays)
      ]

  pub rooms_last : (n count : ℕ) → ((stays : Bool) → PassesLast v lines (state_in cell count) (move_of n stays)) → RoomsLast n count
      → RoomsLast n (count + 1)
  rooms_last n count here so room stays less =
      elim (cases_lt room count) as (λ w. PassesLast v lines (state_in cell room) (move_of n stays)) [
        | inl low ↦ so room stays low
        | inr high ↦
            let same : count ≡ room = omega (arith, less, high) in
            subst (λ (r : ℕ). PassesLast v lines (state_in cell r) (move_of n stays)) same (here stays)
      ]

  -- legs to the first SIDs of a position, legs to positions below one, and the end by the first SIDs, from all rooms
  abbrev pub AllLegsTo : ℕ → List ℕ → ℕ → Type 0
  AllLegsTo to sids count = (room : ℕ) → room ≤ top_room cell.shape → SomeLegsTo v lines (state_in cell room) to sids count

  abbrev pub AllBelow : ℕ → Type 0
  AllBelow to = (room : ℕ) → room ≤ top_room cell.shape → LegsBelow v lines (state_in cell room) to

  abbrev pub AllEnds : List ℕ → ℕ → Type 0
  AllEnds sids count = (room : ℕ) → room ≤ top_room cell.shape → SomeEnds v lines (state_in cell room) sids count

-- the states of a SID whose moves all pass
module _ (v : LegsValue) (lines : List PotentialLine) (cell : Cell) (position n : ℕ) (at : cell.position ≡ position) (is_n : cell.sid ≡ n)
    (shape_is : cell.shape ≡ v.shape n) where
  sid_passes : CellPassesLegs v lines cell → CellPassesEnds v lines cell → PassAmong v lines (OfSid position n)
  sid_passes legs ends t is_t of =
      let same : state_in cell t.room ≡ t =
      state_made (state_in cell t.room) t (at ∙ sym of.0) (ap (λ (x : ℕ). Some x) is_n ∙ sym of.1) refl in
      let parts : IsStateBy v t.position (Some n) t.room = subst (λ (o : Option ℕ). IsStateBy v t.position o t.room) of.1 is_t in
      let few = subst (λ (s : Shape). t.room ≤ top_room s) (sym shape_is) parts.3 in
      subst (IsGoodAt v (potential_at lines)) same (good_by v lines (state_in cell t.room) (legs t.room few) (ends t.room few))

  pub sid_assured : CellPassesLegs v lines cell → (told : Bool) → Assures (CellPassesEnds v lines cell) told
      → Assures (PassAmong v lines (OfSid position n)) told
  sid_assured legs true ends = sid_passes legs ends
  sid_assured legs false ends = tt

-- the states of the first SIDs of a position, and those of the first positions
module _ (v : LegsValue) (lines : List PotentialLine) where
  abbrev pub SidsGood : ℕ → List ℕ → ℕ → Type 0
  SidsGood position sids count = (i n : ℕ) → i < count → slice_get sids i ≡ Some n → PassAmong v lines (OfSid position n)

  abbrev pub PositionsGood : ℕ → Type 0
  PositionsGood count = (position : ℕ) → position < count → PassAmong v lines (OfPosition position)
