-- Need not be believed: helps proofs and other laws.
-- The edges within a position by the cell that they lead to.
use Rattle.std.specs.Prelude.{◌≡◌, ℕ, ◌<◌, ◌⊎◌, List, length, slice_get, Some, Contains, Vec}
use Rattle.std.specs.Global.{Global}
use Rattle.list_encoder.specs.declared.cell_table.CellEdge.{CellEdge}

abbrev pub Groups : Type 0
Groups = List (Vec CellEdge Global)

-- the edge is in the group of a cell
abbrev pub IsIn : Groups → ℕ → CellEdge → Type 0
IsIn groups to edge = (group : Vec CellEdge Global) × (slice_get groups to ≡ Some group) × Contains group.items edge

abbrev pub AreEmpty : ℕ → Groups → Type 0
AreEmpty count groups = (length groups ≡ count) × ((to : ℕ) (edge : CellEdge) → ¬ IsIn groups to edge)

-- one edge more, in the group of its cell
pub record PutsEdge (before after : Groups) (edge : CellEdge) : Type 0 where
  pub long : length after ≡ length before
  pub kept : (to : ℕ) (other : CellEdge) → IsIn before to other → IsIn after to other
  pub put : (to : ℕ) → edge.to ≡ Some to → to < length before → IsIn after to edge
  pub only : (to : ℕ) (other : CellEdge) → IsIn after to other → IsIn before to other ⊎ ((edge ≡ other) × (edge.to ≡ Some to))

-- edges more, each in the group of its cell
pub record PutsEdges (before : Groups) (edges : List CellEdge) (after : Groups) : Type 0 where
  pub long : length after ≡ length before
  pub put : (to : ℕ) (edge : CellEdge) → Contains edges edge → edge.to ≡ Some to → to < length before → IsIn after to edge
  pub only : (to : ℕ) (edge : CellEdge) → IsIn after to edge → IsIn before to edge ⊎ (Contains edges edge × (edge.to ≡ Some to))

-- the edges into each of the first cells
pub record AreGrouped (edges : List CellEdge) (count : ℕ) (groups : Groups) : Type 0 where
  pub long : length groups ≡ count
  pub each : (to : ℕ) (edge : CellEdge) → Contains edges edge → edge.to ≡ Some to → to < count → IsIn groups to edge
  pub only : (to : ℕ) (edge : CellEdge) → IsIn groups to edge → Contains edges edge × (edge.to ≡ Some to)
