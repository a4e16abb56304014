-- Need not be believed: helps proofs and other laws.
-- The first tight move from a state.
use Rattle.std.specs.Prelude.{◌≡◌, ℕ, ◌+◌, ◌<◌, Bool, false, ◌==◌, ◌&&◌, if◌then◌else◌, List, [], ◌∷◌, slice_get, Option, Some, None}
use Rattle.list_pack.specs.declared.types.Cost.{Cost}
use Rattle.list_pack.specs.declared.types.PathStep.{PathStep}
use Rattle.list_pack.specs.LegsValue.{LegsValue}
use Rattle.list_pack.specs.Costs.{plus, move_cost, room_to}
use Rattle.list_pack.specs.Least.{path_before}
use Rattle.list_encoder.specs.declared.cells.Cell.{Cell}
use Rattle.list_encoder.specs.declared.cell_table.CellEdge.{CellEdge}
use Rattle.list_encoder.specs.declared.picks.Pick.{Pick}
use Rattle.list_encoder.specs.declared.picks.CostedState.{CostedState}
use Rattle.list_encoder.specs.CellTable.{Costs, entry, rest_at, IsCellEdge, move_by}

-- where a tight move is taken, the one that comes first
abbrev pub better_of : Option Pick → Option Pick → Option Pick
better_of None b = b
better_of (Some p) None = Some p
better_of (Some p) (Some q) = if path_before (q.step ∷ []) (p.step ∷ []) then Some q else Some p

abbrev pub is_sum : Cost → Cost → Cost → Bool
is_sum a b c =
    (a.containers + b.containers == c.containers) && (a.sids + b.sids == c.sids) && (a.hops + b.hops == c.hops)

-- a state of a cell from which there is a path, with its least cost
pub record IsCostedState (cells : List Cell) (t : Costs) (costed_state : CostedState) : Type 0 where
  pub here : slice_get cells costed_state.place ≡ Some costed_state.cell
  pub few : costed_state.room < 8
  pub is : entry t costed_state.place costed_state.room ≡ Some costed_state.cost

-- a move by an edge is tight: its cost with what is left after it is what is left in front of it
pub record IsTight (v : LegsValue) (t : Costs) (costed_state : CostedState) (edge : CellEdge) (stays : Bool) (left : ℕ) (rest : Cost) : Type 0 where
  pub room_is : room_to v costed_state.cell.via costed_state.room (move_by edge stays) ≡ Some left
  pub rest_is : rest_at t edge.to left ≡ Some rest
  pub cost_is : plus (move_cost v.sid_cost stays edge.hops) rest ≡ costed_state.cost

pub record IsPick (v : LegsValue) (cells : List Cell) (t : Costs) (costed_state : CostedState) (pick : Pick) : Type 0 where
  pub edge : CellEdge
  pub from : edge.from ≡ costed_state.place
  pub is_edge : IsCellEdge v cells edge
  pub tight : IsTight v t costed_state edge pick.step.stays pick.room pick.rest
  pub prefix_is : pick.step.prefix ≡ (v.shape edge.sid).prefix
  pub to_is : pick.to ≡ edge.to

abbrev pub IsPickOrNone : LegsValue → List Cell → Costs → CostedState → Option Pick → Type 0
IsPickOrNone v cells t costed_state None = Unit {0}
IsPickOrNone v cells t costed_state (Some p) = IsPick v cells t costed_state p

-- a pick is there, and the step doesn't come before it
abbrev pub Covers : Option Pick → PathStep → Type 0
Covers None step = ⊥
Covers (Some p) step = path_before (step ∷ []) (p.step ∷ []) ≡ false

abbrev pub edge_step : LegsValue → CellEdge → Bool → PathStep
edge_step v edge stays = record { stays = stays; prefix = (v.shape edge.sid).prefix }

-- the tight moves by an edge that stay, or those that don't
abbrev pub CoversMoves : LegsValue → Costs → CostedState → Option Pick → CellEdge → Bool → Type 0
CoversMoves v t costed_state best edge stays =
    (left : ℕ) (rest : Cost) → IsTight v t costed_state edge stays left rest → Covers best (edge_step v edge stays)

-- all tight moves by an edge
abbrev pub CoversEdge : LegsValue → Costs → CostedState → Option Pick → CellEdge → Type 0
CoversEdge v t costed_state best edge = (stays : Bool) → CoversMoves v t costed_state best edge stays

pub record PicksMoves (v : LegsValue) (cells : List Cell) (t : Costs) (costed_state : CostedState) (edge : CellEdge) (stays : Bool) (best : Option Pick) :
    Type 0 where
  pub found : IsPickOrNone v cells t costed_state best
  pub covers : CoversMoves v t costed_state best edge stays

pub record PicksEdge (v : LegsValue) (cells : List Cell) (t : Costs) (costed_state : CostedState) (edge : CellEdge) (best : Option Pick) : Type 0 where
  pub found : IsPickOrNone v cells t costed_state best
  pub covers : CoversEdge v t costed_state best edge

-- of all finishes from the cell
pub record PicksEnds (v : LegsValue) (cells : List Cell) (t : Costs) (costed_state : CostedState) (best : Option Pick) : Type 0 where
  pub found : IsPickOrNone v cells t costed_state best
  pub covers : (edge : CellEdge) → edge.from ≡ costed_state.place → edge.to ≡ None → IsCellEdge v cells edge → CoversEdge v t costed_state best edge

-- of all legs from the cell
pub record PicksLegs (v : LegsValue) (cells : List Cell) (t : Costs) (costed_state : CostedState) (best : Option Pick) : Type 0 where
  pub found : IsPickOrNone v cells t costed_state best
  pub covers : (edge : CellEdge) (to : ℕ) → edge.from ≡ costed_state.place → edge.to ≡ Some to → IsCellEdge v cells edge
      → CoversEdge v t costed_state best edge

-- of all edges from the cell
pub record PicksFirst (v : LegsValue) (cells : List Cell) (t : Costs) (costed_state : CostedState) (best : Option Pick) : Type 0 where
  pub found : IsPickOrNone v cells t costed_state best
  pub covers : (edge : CellEdge) → edge.from ≡ costed_state.place → IsCellEdge v cells edge → CoversEdge v t costed_state best edge
