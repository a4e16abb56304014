-- Need not be believed: helps proofs and other laws.
-- The listing of a table's costs, up to a place of the table.
use Rattle.std.specs.Prelude.{◌≡◌, ℕ, ◌+◌, ◌*◌, ◌<◌, ◌≤◌, List, slice_get, Some, All, Contains, AllPairs}
use Rattle.list_pack.specs.declared.types.Cost.{Cost}
use Rattle.list_pack.specs.declared.types.Potential.{Potential}
use Rattle.list_pack.specs.LegsValue.{LegsValue}
use Rattle.list_pack.specs.Least.{IsBefore}
use Rattle.list_encoder.specs.declared.cells.Cell.{Cell}
use Rattle.list_encoder.specs.declared.cell_table.TheConstants.{MAX_PATH_CONTAINERS}
use Rattle.list_encoder.specs.Cells.{state_at, top_at}
use Rattle.list_encoder.specs.CellTable.{Costs, entry}

-- a potential is that of a place before another
pub record IsOfPlace (v : LegsValue) (cells : List Cell) (t : Costs) (n : ℕ) (q : Potential) : Type 0 where
  pub k : ℕ
  pub room : ℕ
  pub cell : Cell
  pub at : slice_get cells k ≡ Some cell
  pub top : room ≤ top_at v cell
  pub before : 8 * k + room < n
  pub cost : entry t k room ≡ Some q.cost
  pub state : q.state ≡ state_at cell room

-- so far the costs before a place are listed
pub record IsListed (v : LegsValue) (cells : List Cell) (t : Costs) (n : ℕ) (ps : List Potential) : Type 0 where
  pub all : (k room : ℕ) (cell : Cell) (c : Cost) → slice_get cells k ≡ Some cell → room ≤ top_at v cell → 8 * k + room < n
      → entry t k room ≡ Some c → Contains ps (record { state = state_at cell room; cost = c })
  pub only : (q : Potential) → Contains ps q → IsOfPlace v cells t n q
  pub order : AllPairs (λ (p q : Potential). IsBefore v p.state q.state) ps

-- no cost that is listed has more containers than there are states
abbrev pub ListsFewContainers : List Potential → Type 0
ListsFewContainers ps = All (λ (p : Potential). p.cost.containers ≤ MAX_PATH_CONTAINERS) ps

-- the most room after a cell's SID
abbrev pub IsTop : LegsValue → List Cell → ℕ → ℕ → Type 0
IsTop v cells k top = (cell : Cell) → slice_get cells k ≡ Some cell → top ≡ top_at v cell
