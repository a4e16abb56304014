-- Where all edges hold, each cost is the least of a path.
use Rattle.std.proofs.Common.{◌≡◌, ℕ, ◌<◌, List, [], ◌∷◌, Option, Some, None, slice_get, refl, ◌∙◌, subst, arith}
use Rattle.std.specs.Option.{option_map}
use Rattle.list_pack.specs.declared.types.Cost.{Cost}
use Rattle.list_pack.specs.declared.types.State.{State}
use Rattle.list_pack.specs.LegsValue.{LegsValue}
use Rattle.list_pack.specs.LegsValueTerms.{KeepsLaws}
use Rattle.list_pack.specs.Costs.{Move, Edge, plus, move_cost, edge_of, last_of, cost_of, Under}
use Rattle.list_pack.specs.CostsTerms.{nothing}
use Rattle.list_pack.specs.Least.{Attains}
use Rattle.list_pack.proofs.PublicLaws.{under_none, under_trans, under_plus, edge_parts, last_parts, EdgeParts, under_behind, under_last}
use Rattle.list_encoder.specs.declared.cells.Cell.{Cell}
use Rattle.list_encoder.specs.declared.cell_table.CellEdge.{CellEdge}
use Rattle.list_encoder.specs.Cells.{cell_at, state_at, AreCells}
use Rattle.list_encoder.specs.CellTable.{Costs, entry, offer, IsCellEdge, IsSound, HoldFrom, AreLeast}
use Rattle.list_encoder.proofs.SearchCelling.{place_of}
use Rattle.list_encoder.proofs.SearchRooms.{behind_few}
use Rattle.list_encoder.proofs.SearchTables.{edge_shape, plus_nothing}
use Rattle.list_encoder.proofs.Settling.{Tabled, tabled_all}

module _ (v : LegsValue) (laws : KeepsLaws v) (cells : List Cell) (are : AreCells v cells) where
  -- an edge of a state is an edge of its cell, to the cell of the state that it leads to
  pub cell_edge : (k room : ℕ) (cell : Cell) (m : Move) (e : Edge) → slice_get cells k ≡ Some cell
      → (parts : EdgeParts v (state_at cell room) m e)
      → (j : ℕ) × (slice_get cells j ≡ Some (cell_at parts.leg.to m.sid))
  cell_edge k room cell m e here parts =
      let leg = laws.leg cell.position cell.via m.sid parts.leg parts.leg_is in
      place_of cells (cell_at parts.leg.to m.sid) (are.each parts.leg.to m.sid leg.within leg.is_next)

  module _ (t : Costs) (hold : HoldFrom v cells t 0) where
    under_end : (k room : ℕ) (cell : Cell) (m : Move) (c : Cost) → slice_get cells k ≡ Some cell → room < 8
        → last_of v (state_at cell room) m ≡ Some c
        → Under (entry t k room) (Some c)
    under_end k room cell m c here l h =
        let parts = last_parts v (state_at cell room) m c h in
        let edge : CellEdge = record { from = k; to = None; sid = m.sid; hops = parts.hops } in
        let is : IsCellEdge v cells edge = record { cell = cell; from = here; leads = parts.finish_is } in
        let bound = hold edge (omega arith) is cell m.stays room parts.room here l parts.room_is in
        let same : plus (move_cost v.sid_cost m.stays parts.hops) nothing ≡ c = plus_nothing (move_cost v.sid_cost m.stays parts.hops) ∙ parts.is in
        subst (λ (d : Cost). Under (entry t k room) (Some d)) same bound

    bounds : (moves : List Move) (k room : ℕ) (cell : Cell) → slice_get cells k ≡ Some cell → room < 8
        → Under (entry t k room) (cost_of v (state_at cell room) moves)
    bounds [] k room cell here l = under_none (entry t k room)
    bounds (m ∷ []) k room cell here l =
        under_last (entry t k room) (last_of v (state_at cell room) m) (λ c h. under_end k room cell m c here l h)
    bounds (m ∷ n ∷ more) k room cell here l =
        under_behind v (entry t k room) (edge_of v (state_at cell room) m) (λ (s : State). cost_of v s (n ∷ more)) (λ e h.
        let parts = edge_parts v (state_at cell room) m e h in
        let there = cell_edge k room cell m e here parts in
        let edge : CellEdge = record { from = k; to = Some there.0; sid = m.sid; hops = parts.leg.hops } in
        let is : IsCellEdge v cells edge = record { cell = cell; from = here; leads = (parts.leg.to, there.1, parts.leg_is) } in
        let few = behind_few v cell.via room m parts.room (edge_shape v laws cells edge is) l
        parts.room_is in
        let first = hold edge (omega arith) is cell m.stays room parts.room here l parts.room_is in
        let rest = bounds (n ∷ more) there.0 parts.room (cell_at parts.leg.to m.sid) there.1 few in
        subst (λ (x : Edge). Under (entry t k room) (option_map (plus x.cost) (cost_of v x.to (n ∷ more)))) parts.is
        (under_trans (entry t k room) (offer v.sid_cost m.stays parts.leg.hops (entry t there.0 parts.room)) _ first
        (under_plus (move_cost v.sid_cost m.stays parts.leg.hops) (entry t there.0 parts.room)
        (cost_of v (state_at (cell_at parts.leg.to m.sid) parts.room) (n ∷ more)) rest)))

  attains_entry : (t : Costs) (k room : ℕ) (cell : Cell) (o : Option Cost) → IsSound v cells t → slice_get cells k ≡ Some cell → room < 8
      → entry t k room ≡ o → Attains v (state_at cell room) o
  attains_entry t k room cell None sound here l e = tt
  attains_entry t k room cell (Some c) sound here l e = sound.attained k room cell c here l e

  pub are_least : (p later : ℕ) (t : Costs) → p ≡ 0 → Tabled v cells p later t → AreLeast v cells t
  are_least p later t e so k room cell here l =
      record {
        attains = attains_entry t k room cell (entry t k room) so.sound here l refl;
        least = λ moves. bounds t (tabled_all v cells p later t e so) moves k room cell here l;
      }
