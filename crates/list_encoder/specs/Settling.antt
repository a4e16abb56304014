-- Need not be believed: helps proofs and other laws.
-- The states that wait are settled, from the least cost up.
use Rattle.std.specs.Prelude.{◌≡◌, ℕ, ◌+◌, ◌*◌, ◌<◌, ◌≤◌, Bool, true, List, length, slice_get, Some}
use Rattle.std.specs.BTreeSet.{BTreeSet}
use Rattle.list_pack.specs.declared.types.Cost.{Cost}
use Rattle.list_pack.specs.LegsValue.{LegsValue}
use Rattle.list_pack.specs.Costs.{room_to, Under}
use Rattle.list_encoder.specs.declared.cells.Cell.{Cell}
use Rattle.list_encoder.specs.declared.cell_table.CellEdge.{CellEdge}
use Rattle.list_encoder.specs.declared.waiting.Waiting.{Waiting}
use Rattle.list_encoder.specs.CellTable.{Costs, at, entry, offer, IsCellEdge, move_by, IsSound, Holds}
use Rattle.list_encoder.specs.Waiting.{is_done, IsFront}
use Rattle.list_encoder.specs.Grouped.{Groups, IsIn}

-- each group has edges into its cell, from cells that have a group
abbrev pub LeadToCells : LegsValue → List Cell → Groups → Type 0
LeadToCells v cells groups =
    (to : ℕ) (edge : CellEdge) → IsIn groups to edge → IsCellEdge v cells edge × (edge.to ≡ Some to) × (edge.from < length groups)

-- the cost of an edge into a cell, with what is left from the cell's settled states, bounds what is left in front of it
abbrev pub HoldsDone : LegsValue → List Cell → Costs → List Bool → CellEdge → ℕ → Type 0
HoldsDone v cells t done edge to =
    (cell : Cell) (stays : Bool) (room left : ℕ) → slice_get cells edge.from ≡ Some cell → room < 8 → left < 8
    → room_to v cell.via room (move_by edge stays) ≡ Some left → is_done done (8 * to + left) ≡ true
    → Under (entry t edge.from room) (offer v.sid_cost stays edge.hops (entry t to left))

-- so far the edges into the settled states hold
pub record SettlesSoFar (v : LegsValue) (cells : List Cell) (groups : Groups) (before : Costs) (t : Costs) (waiting : BTreeSet Waiting)
    (done : List Bool) : Type 0 where
  pub sound : IsSound v cells t
  pub top : Cost
  pub front : IsFront t waiting done top
  pub long : length done ≡ 8 * length groups
  pub falls : (i : ℕ) → Under (at t i) (at before i)
  pub past : (i : ℕ) → 8 * length groups ≤ i → at t i ≡ at before i
  pub hold : (to : ℕ) (edge : CellEdge) → IsIn groups to edge → HoldsDone v cells t done edge to

-- the edges of all groups hold
pub record SettlesAll (v : LegsValue) (cells : List Cell) (groups : Groups) (before after : Costs) : Type 0 where
  pub sound : IsSound v cells after
  pub falls : (i : ℕ) → Under (at after i) (at before i)
  pub past : (i : ℕ) → 8 * length groups ≤ i → at after i ≡ at before i
  pub holds : (to : ℕ) (edge : CellEdge) → IsIn groups to edge → Holds v cells after edge
