-- Need not be believed: helps proofs and other laws.
-- Cells: the start, and the SIDs of all positions.
use Rattle.std.specs.Prelude.{◌≡◌, ℕ, ◌<◌, ◌≤◌, List, length, slice_get, Option, Some, None, Contains}
use Rattle.list_encoder.specs.declared.cells.Cell.{Cell}
use Rattle.list_encoder.specs.declared.cells.TheConstants.{MAX_CELLS}
use Rattle.list_pack.specs.declared.types.State.{State}
use Rattle.list_pack.specs.LegsValue.{LegsValue}
use Rattle.list_pack.specs.Rooms.{top_room}
use Rattle.list_pack.specs.Least.{IsBefore}

abbrev pub cell_at : ℕ → ℕ → Cell
cell_at position n = record { position = position; via = Some n }

abbrev pub start_cell : Cell
start_cell = record { position = 0; via = None }

-- the state of a cell with so much room
abbrev pub state_at : Cell → ℕ → State
state_at cell room = record { position = cell.position; via = cell.via; room = room }

abbrev pub IsCellBy : LegsValue → ℕ → Option ℕ → Type 0
IsCellBy v position None = position ≡ 0
IsCellBy v position (Some n) = (position ≤ v.steps) × Contains (v.sids_at position) n

-- the start's, or a SID's of a position
abbrev pub IsCell : LegsValue → Cell → Type 0
IsCell v cell = IsCellBy v cell.position cell.via

abbrev pub top_at_by : LegsValue → Option ℕ → ℕ
top_at_by v None = 0
top_at_by v (Some n) = top_room (v.shape n)

abbrev pub top_at : LegsValue → Cell → ℕ
top_at v cell = top_at_by v cell.via

-- the start's cell first, and then each SID's of each position, in the order of states
pub record AreCells (v : LegsValue) (cells : List Cell) : Type 0 where
  pub begins : slice_get cells 0 ≡ Some start_cell
  pub each : (position n : ℕ) → position ≤ v.steps → Contains (v.sids_at position) n → Contains cells (cell_at position n)
  pub real : (k : ℕ) (cell : Cell) → slice_get cells k ≡ Some cell → IsCell v cell
  pub order : (i j : ℕ) (a b : Cell) (p q : ℕ) → i < j → slice_get cells i ≡ Some a → slice_get cells j ≡ Some b
      → IsBefore v (state_at a p) (state_at b q)
  pub few : length cells ≤ MAX_CELLS

-- the place of the first cell of a position or of a later one
pub record IsFirst (cells : List Cell) (position k : ℕ) : Type 0 where
  pub within : k ≤ length cells
  pub earlier : (j : ℕ) (cell : Cell) → j < k → slice_get cells j ≡ Some cell → cell.position < position
  pub later : (j : ℕ) (cell : Cell) → k ≤ j → slice_get cells j ≡ Some cell → position ≤ cell.position
