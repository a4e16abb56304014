-- Need not be believed: helps proofs and other laws.
-- What a settled state offers to those in front of it.
use Rattle.std.specs.Prelude.{◌≡◌, ℕ, ◌+◌, ◌*◌, ◌<◌, ◌≤◌, Bool, true, false, List, length, slice_get, Option, Some, None, Contains}
use Rattle.std.specs.BTreeSet.{BTreeSet}
use Rattle.list_pack.specs.declared.types.Cost.{Cost}
use Rattle.list_pack.specs.LegsValue.{LegsValue}
use Rattle.list_pack.specs.Costs.{plus, move_cost, room_to, Under}
use Rattle.list_encoder.specs.declared.cells.Cell.{Cell}
use Rattle.list_encoder.specs.declared.cell_table.CellEdge.{CellEdge}
use Rattle.list_encoder.specs.declared.waiting.Waiting.{Waiting}
use Rattle.list_encoder.specs.declared.offers.Offer.{Offer}
use Rattle.list_encoder.specs.CellTable.{Costs, at, entry, rest_at, IsCellEdge, move_by, IsSound}
use Rattle.list_encoder.specs.Waiting.{is_done, IsFront}

-- the state that an edge leads to, with so much room, is settled; the end always is
abbrev pub IsSettledAt : List Bool → Option ℕ → ℕ → Type 0
IsSettledAt done None left = Unit {0}
IsSettledAt done (Some to) left = is_done done (8 * to + left) ≡ true

-- what is left from a settled state is offered by an edge into its cell, and is at most what is left from those that wait
pub record IsOffer (v : LegsValue) (cells : List Cell) (t : Costs) (waiting : BTreeSet Waiting) (done : List Bool) (offer : Offer) : Type 0
  where
    pub is_edge : IsCellEdge v cells offer.edge
    pub sound : IsSound v cells t
    pub front : IsFront t waiting done offer.rest
    pub early : 8 * offer.edge.from + 8 ≤ length done
    pub rest_is : rest_at t offer.edge.to offer.left ≡ Some offer.rest
    pub settled : IsSettledAt done offer.edge.to offer.left

-- costs of states that aren't settled were lowered, and wait so
pub record Advances (v : LegsValue) (cells : List Cell) (before : Costs) (was : List Bool) (after : Costs) (waiting : BTreeSet Waiting)
    (done : List Bool) (top : Cost) : Type 0 where
  pub sound : IsSound v cells after
  pub front : IsFront after waiting done top
  pub same : done ≡ was
  pub falls : (i : ℕ) → Under (at after i) (at before i)
  pub still : (i : ℕ) → is_done was i ≡ true → at after i ≡ at before i
  pub past : (i : ℕ) → length was ≤ i → at after i ≡ at before i

-- a state of an edge's first cell has at most what it gets by an offer
abbrev pub Takes : LegsValue → Offer → Bool → Costs → ℕ → Type 0
Takes v offer stays t room =
    Under (entry t offer.edge.from room) (Some (plus (move_cost v.sid_cost stays offer.edge.hops) offer.rest))

pub record OffersRoom (v : LegsValue) (cells : List Cell) (offer : Offer) (room : ℕ) (left : Option ℕ) (before : Costs) (was : List Bool)
    (after : Costs) (waiting : BTreeSet Waiting) (done : List Bool) : Type 0 where
  pub advances : Advances v cells before was after waiting done offer.rest
  pub takes : left ≡ Some offer.left → Takes v offer offer.stays after room

-- a room after which the offer's is left
abbrev pub LeavesIt : LegsValue → List Cell → Offer → Bool → ℕ → Type 0
LeavesIt v cells offer stays room =
    (cell : Cell) × (slice_get cells offer.edge.from ≡ Some cell)
    × (room_to v cell.via room (move_by offer.edge stays) ≡ Some offer.left)

-- the first rooms
pub record OffersWay (v : LegsValue) (cells : List Cell) (offer : Offer) (rooms : ℕ) (before : Costs) (was : List Bool) (after : Costs)
    (waiting : BTreeSet Waiting) (done : List Bool) : Type 0 where
  pub advances : Advances v cells before was after waiting done offer.rest
  pub takes : (room : ℕ) → room < rooms → LeavesIt v cells offer offer.stays room → Takes v offer offer.stays after room

pub record OffersEdge (v : LegsValue) (cells : List Cell) (offer : Offer) (before : Costs) (was : List Bool) (after : Costs)
    (waiting : BTreeSet Waiting) (done : List Bool) : Type 0 where
  pub advances : Advances v cells before was after waiting done offer.rest
  pub takes : (stays : Bool) (room : ℕ) → room < 8 → LeavesIt v cells offer stays room → Takes v offer stays after room

abbrev pub offer_of : CellEdge → ℕ → Cost → Offer
offer_of edge left rest = record { edge = edge; stays = false; left = left; rest = rest }

-- by each of the edges the state is an offer
abbrev pub LeadInto : LegsValue → List Cell → Costs → BTreeSet Waiting → List Bool → List CellEdge → ℕ → Cost → Type 0
LeadInto v cells t waiting done edges left rest =
    IsSound v cells t × IsFront t waiting done rest
    × ((edge : CellEdge) → Contains edges edge → IsOffer v cells t waiting done (offer_of edge left rest))

-- the first edges
pub record OffersAll (v : LegsValue) (cells : List Cell) (edges : List CellEdge) (count left : ℕ) (rest : Cost) (before : Costs)
    (was : List Bool) (after : Costs) (waiting : BTreeSet Waiting) (done : List Bool) : Type 0 where
  pub advances : Advances v cells before was after waiting done rest
  pub takes : (edge : CellEdge) (i : ℕ) (stays : Bool) (room : ℕ) → i < count → slice_get edges i ≡ Some edge → room < 8
      → LeavesIt v cells (offer_of edge left rest) stays room → Takes v (offer_of edge left rest) stays after room
