-- Need not be believed: helps proofs and other laws.
-- A table of costs, eight rooms to a cell, and what is done to it.
use Rattle.std.specs.Prelude.{◌≡◌, ℕ, ◌+◌, ◌*◌, ◌<◌, ◌≤◌, Bool, true, false, List, length, slice_get, slice_index_or, slice_set, nat_lt, sum_by, count_by, Option, Some, None, is_some, Contains, MatchBool}
use Rattle.std.specs.Option.{option_map}
use Rattle.list_pack.specs.declared.types.Cost.{Cost}
use Rattle.list_pack.specs.declared.types.Shape.{Shape}
use Rattle.list_pack.specs.LegsValue.{LegsValue}
use Rattle.list_pack.specs.Costs.{Move, plus, move_cost, room_to, Under}
use Rattle.list_pack.specs.CostsTerms.{Below, nothing}
use Rattle.list_pack.specs.Least.{Attains, IsLeast}
use Rattle.list_encoder.specs.declared.cells.Cell.{Cell}
use Rattle.list_encoder.specs.declared.cell_table.CellEdge.{CellEdge}
use Rattle.list_encoder.specs.declared.cell_table.TheConstants.{MAX_PATH_CONTAINERS}
use Rattle.list_encoder.specs.Cells.{cell_at, state_at}

abbrev pub Costs : Type 0
Costs = List (Option Cost)

abbrev pub at : Costs → ℕ → Option Cost
at t i = slice_index_or t i None

abbrev pub entry : Costs → ℕ → ℕ → Option Cost
entry t cell room = at t (8 * cell + room)

-- what is left to the end after an edge: nothing at the end itself
abbrev pub rest_at : Costs → Option ℕ → ℕ → Option Cost
rest_at t None room = Some nothing
rest_at t (Some cell) room = entry t cell room

abbrev pub offer : ℕ → Bool → ℕ → Option Cost → Option Cost
offer sid_cost stays hops rest = option_map (plus (move_cost sid_cost stays hops)) rest

-- a finish, or a leg into a cell
abbrev pub LeadsTo : LegsValue → List Cell → Cell → ℕ → ℕ → Option ℕ → Type 0
LeadsTo v cells cell sid hops None = v.finish cell.position cell.via sid ≡ Some hops
LeadsTo v cells cell sid hops (Some to) =
    (position : ℕ) × (slice_get cells to ≡ Some (cell_at position sid))
    × (v.leg cell.position cell.via sid ≡ Some (record { to = position; hops = hops }))

pub record IsCellEdge (v : LegsValue) (cells : List Cell) (edge : CellEdge) : Type 0 where
  pub cell : Cell
  pub from : slice_get cells edge.from ≡ Some cell
  pub leads : LeadsTo v cells cell edge.sid edge.hops edge.to

-- an edge as a move, which stays in the container or opens one
abbrev pub move_by : CellEdge → Bool → Move
move_by edge stays = record { stays = stays; sid = edge.sid }

-- how many entries have a cost
abbrev pub filled : Costs → ℕ
filled t = count_by is_some t

pub record IsBounded (n room : ℕ) (c : Cost) : Type 0 where
  pub containers : c.containers ≤ n
  pub sids : c.sids ≤ 1 + room + 9 * c.containers
  pub hops : c.hops ≤ 1000 * (1 + room + 9 * c.containers)

-- each cost in the table is that of a path
pub record IsSound (v : LegsValue) (cells : List Cell) (t : Costs) : Type 0 where
  pub long : length t ≡ 8 * length cells
  pub attained : (k room : ℕ) (cell : Cell) (c : Cost) → slice_get cells k ≡ Some cell → room < 8 → entry t k room ≡ Some c
      → Attains v (state_at cell room) (Some c)
  pub bounded : (k room : ℕ) (c : Cost) → room < 8 → entry t k room ≡ Some c → IsBounded (filled t) room c

-- a cost in place of one above it, or of none
abbrev pub Improves : Option Cost → Cost → Type 0
Improves None c = Unit {0}
Improves (Some d) c = Below c d

pub record IsLowered (before after : Costs) (i : ℕ) (c : Cost) : Type 0 where
  pub is : after ≡ slice_set before i (Some c)
  pub improves : Improves (at before i) c

pub record IsKept (before after : Costs) (i : ℕ) (c : Cost) : Type 0 where
  pub is : after ≡ before
  pub under : Under (at before i) (Some c)

-- the entry is lowered to the cost where that is below it
abbrev pub Lowers : Costs → Costs → ℕ → Cost → Bool → Type 0
Lowers before after i c changed = MatchBool changed (IsLowered before after i c) (IsKept before after i c)

-- none is above every cost that there may be
abbrev pub rank : Option Cost → ℕ
rank None = 1000000000 * 1000000 * 1000000
rank (Some c) = 1000000000 * (1000000 * c.containers + c.sids) + c.hops

abbrev pub total : Costs → ℕ
total t = sum_by rank t

-- costs were lowered, none of them in the cells from one on
pub record Passed (cell : ℕ) (before after : Costs) (changed : Bool) : Type 0 where
  pub falls : (i : ℕ) → Under (at after i) (at before i)
  pub later : (i : ℕ) → 8 * cell ≤ i → at after i ≡ at before i
  pub same : changed ≡ false → after ≡ before
  pub smaller : changed ≡ true → total after < total before

-- the cost of an edge, with what is left after it in one table, bounds what is left in front of it in another
abbrev pub EdgeHolds : LegsValue → List Cell → CellEdge → Costs → Costs → Type 0
EdgeHolds v cells edge before after =
    (cell : Cell) (stays : Bool) (room left : ℕ) → slice_get cells edge.from ≡ Some cell → room < 8
    → room_to v cell.via room (move_by edge stays) ≡ Some left
    → Under (entry after edge.from room) (offer v.sid_cost stays edge.hops (rest_at before edge.to left))

abbrev pub Holds : LegsValue → List Cell → Costs → CellEdge → Type 0
Holds v cells t edge = EdgeHolds v cells edge t t

-- one room of an edge
abbrev pub RoomHolds : LegsValue → Option Cost → Bool → CellEdge → Costs → Option ℕ → Type 0
RoomHolds v o stays edge before None = Unit {0}
RoomHolds v o stays edge before (Some left) = Under o (offer v.sid_cost stays edge.hops (rest_at before edge.to left))

-- what lowering a table by an edge gives
pub record Relaxed (v : LegsValue) (cells : List Cell) (edge : CellEdge) (before after : Costs) (changed : Bool) : Type 0 where
  pub sound : IsSound v cells after
  pub passed : Passed (edge.from + 1) before after changed
  pub holds : EdgeHolds v cells edge before after

pub record RoomRelaxed (v : LegsValue) (cells : List Cell) (edge : CellEdge) (before after : Costs) (stays : Bool) (room : ℕ)
    (left : Option ℕ)
    (changed : Bool) : Type 0 where
  pub sound : IsSound v cells after
  pub passed : Passed (edge.from + 1) before after changed
  pub holds : RoomHolds v (entry after edge.from room) stays edge before left

-- the rooms from one on and before another of an edge's first cell, where the edge stays in the container, or where it opens one
pub record RoomsRelaxed (v : LegsValue) (cells : List Cell) (edge : CellEdge) (stays : Bool) (low high : ℕ) (before after : Costs)
    (changed : Bool) : Type 0 where
  pub sound : IsSound v cells after
  pub passed : Passed (edge.from + 1) before after changed
  pub holds : (cell : Cell) (room left : ℕ) → slice_get cells edge.from ≡ Some cell → low ≤ room → room < high
      → room_to v cell.via room (move_by edge stays) ≡ Some left
      → Under (entry after edge.from room) (offer v.sid_cost stays edge.hops (rest_at before edge.to left))

-- all edges from a cell on hold
abbrev pub HoldFrom : LegsValue → List Cell → Costs → ℕ → Type 0
HoldFrom v cells t cell = (edge : CellEdge) → cell ≤ edge.from → IsCellEdge v cells edge → Holds v cells t edge

-- edges within a position, each from a cell before a given one
abbrev pub AreCellEdges : LegsValue → List Cell → ℕ → List CellEdge → Type 0
AreCellEdges v cells cell edges = (edge : CellEdge) → Contains edges edge → IsCellEdge v cells edge × (edge.from < cell)

-- each entry is the least cost of a path from its state
abbrev pub AreLeast : LegsValue → List Cell → Costs → Type 0
AreLeast v cells t = (k room : ℕ) (cell : Cell) → slice_get cells k ≡ Some cell → room < 8 → IsLeast v (state_at cell room) (entry t k room)

-- no entry has more containers than there are states
abbrev pub HasFewContainers : Costs → Type 0
HasFewContainers t = (i : ℕ) (c : Cost) → at t i ≡ Some c → c.containers ≤ MAX_PATH_CONTAINERS

-- the places of a cell's costs are within the table
abbrev pub AreInRange : Costs → Option ℕ → ℕ → Type 0
AreInRange t None room = Unit {0}
AreInRange t (Some cell) room = 8 * cell + room < length t

-- the room after an edge's SID, from a room after its first cell's
abbrev pub LeavesRoom : LegsValue → List Cell → CellEdge → Bool → ℕ → Option ℕ → Type 0
LeavesRoom v cells edge stays room left =
    (cell : Cell) → slice_get cells edge.from ≡ Some cell → left ≡ room_to v cell.via room (move_by edge stays)

-- the shape of a cell's SID
abbrev pub IsShapeOf : LegsValue → List Cell → ℕ → Option Shape → Type 0
IsShapeOf v cells k shape = (cell : Cell) → slice_get cells k ≡ Some cell → shape ≡ option_map v.shape cell.via

-- the finishes from a cell
abbrev pub EndsHold : LegsValue → List Cell → ℕ → Costs → Type 0
EndsHold v cells k t = (edge : CellEdge) → edge.from ≡ k → edge.to ≡ None → IsCellEdge v cells edge → Holds v cells t edge

pub record EndsRelaxed (v : LegsValue) (cells : List Cell) (k : ℕ) (before after : Costs) (changed : Bool) : Type 0 where
  pub sound : IsSound v cells after
  pub passed : Passed (k + 1) before after changed
  pub holds : EndsHold v cells k after

-- the leg from a cell into another, where there is one
abbrev pub IsEdgeInto : LegsValue → List Cell → ℕ → ℕ → Option CellEdge → Type 0
IsEdgeInto v cells from to (Some edge) = IsCellEdge v cells edge × (edge.from ≡ from) × (edge.to ≡ Some to)
IsEdgeInto v cells from to None = (edge : CellEdge) → edge.from ≡ from → edge.to ≡ Some to → ¬ IsCellEdge v cells edge

-- the legs from a cell into the cells from one on and before another: those to later positions hold, the others are listed
abbrev pub LegsHold : LegsValue → List Cell → ℕ → ℕ → ℕ → ℕ → Costs → List CellEdge → Type 0
LegsHold v cells k first later end t edges =
    (edge : CellEdge) (to : ℕ) → edge.from ≡ k → edge.to ≡ Some to → first ≤ to → to < end → IsCellEdge v cells edge
    → MatchBool (nat_lt to later) (Contains edges edge) (Holds v cells t edge)

abbrev pub Keeps : List CellEdge → List CellEdge → Type 0
Keeps before after = (edge : CellEdge) → Contains before edge → Contains after edge

pub record LegsRelaxed (v : LegsValue) (cells : List Cell) (k first later : ℕ) (before after : Costs) (listed edges : List CellEdge)
    (changed : Bool)
    : Type 0 where
  pub sound : IsSound v cells after
  pub passed : Passed (k + 1) before after changed
  pub holds : LegsHold v cells k first later (length cells) after edges
  pub keeps : Keeps listed edges
  pub are : AreCellEdges v cells later edges

-- the cells from one on and before another
pub record Gathers (v : LegsValue) (cells : List Cell) (first later : ℕ) (before after : Costs) (edges : List CellEdge) : Type 0 where
  pub sound : IsSound v cells after
  pub falls : (i : ℕ) → Under (at after i) (at before i)
  pub above : (i : ℕ) → 8 * later ≤ i → at after i ≡ at before i
  pub ends : (k : ℕ) → first ≤ k → k < later → EndsHold v cells k after
  pub legs : (k : ℕ) → first ≤ k → k < later → LegsHold v cells k first later (length cells) after edges
  pub are : AreCellEdges v cells later edges

-- an edge to the end, or to a cell from one on
abbrev pub IsOnward : ℕ → Option ℕ → Type 0
IsOnward cell None = Unit {0}
IsOnward cell (Some to) = cell ≤ to

pub record Settled (v : LegsValue) (cells : List Cell) (first later : ℕ) (before after : Costs) : Type 0 where
  pub sound : IsSound v cells after
  pub above : (i : ℕ) → 8 * later ≤ i → at after i ≡ at before i
  pub holds : (edge : CellEdge) → first ≤ edge.from → edge.from < later → IsCellEdge v cells edge → IsOnward first edge.to
      → Holds v cells after edge
