-- A least path begins with a tight move.
use Rattle.std.proofs.Common.{◌≡◌, ℕ, ◌+◌, List, [], ◌∷◌, Option, Some, None, slice_get, refl, sym, ◌∙◌, ap, subst, arith}
use Rattle.std.specs.Option.{option_map}
use Rattle.std.proofs.lemmas.Option.{none-some}
use Rattle.list_pack.specs.declared.types.Cost.{Cost}
use Rattle.list_pack.specs.declared.types.State.{State}
use Rattle.list_pack.specs.LegsValue.{LegsValue}
use Rattle.list_pack.specs.LegsValueTerms.{KeepsLaws}
use Rattle.list_pack.specs.Costs.{Move, Edge, AtMost, plus, move_cost, edge_of, last_of, behind, cost_of, Under}
use Rattle.list_pack.specs.CostsTerms.{nothing}
use Rattle.list_pack.specs.Least.{IsLeast}
use Rattle.list_pack.proofs.PublicLaws.{at_most_both, edge_parts, last_parts, attained}
use Rattle.list_encoder.specs.declared.cells.Cell.{Cell}
use Rattle.list_encoder.specs.declared.cell_table.CellEdge.{CellEdge}
use Rattle.list_encoder.specs.declared.picks.CostedState.{CostedState}
use Rattle.list_encoder.specs.Cells.{cell_at, state_at, AreCells}
use Rattle.list_encoder.specs.CellTable.{Costs, entry, IsCellEdge, AreLeast}
use Rattle.list_encoder.specs.Picks.{IsCostedState, IsTight}
use Rattle.list_encoder.proofs.SearchCelling.{some_same}
use Rattle.list_encoder.proofs.SearchRooms.{behind_few}
use Rattle.list_encoder.proofs.SearchTables.{edge_shape, plus_nothing}
use Rattle.list_encoder.proofs.Leasting.{cell_edge}

-- what is after the first move of a path: nothing, or the rest of it from the state of a cell
abbrev pub Behind : LegsValue → List Cell → ℕ → List Move → Cost → Option ℕ → Type 0
Behind v cells left more rest None = more ≡ []
Behind v cells left more rest (Some j) = (cell : Cell) × (slice_get cells j ≡ Some cell) × (cost_of v (state_at cell left) more ≡ Some rest)

pub record Head (v : LegsValue) (cells : List Cell) (t : Costs) (costed_state : CostedState) (n : Move) (more : List Move) : Type 0 where
  pub edge : CellEdge
  pub from : edge.from ≡ costed_state.place
  pub is_edge : IsCellEdge v cells edge
  pub sid : edge.sid ≡ n.sid
  pub left : ℕ
  pub rest : Cost
  pub tight : IsTight v t costed_state edge n.stays left rest
  pub behind : Behind v cells left more rest edge.to

-- a sum that is at most another with the same first part
at_most_cancel : (k a b : Cost) → AtMost (plus k a) (plus k b) → AtMost a b
at_most_cancel k a b h =
    record {
      containers = omega (arith, h.containers);
      sids = λ e.
          let sums : k.containers + a.containers ≡ k.containers + b.containers = omega (arith, e) in
          let less = h.sids sums in
          omega (arith, less);
      hops = λ e f.
          let sums : k.containers + a.containers ≡ k.containers + b.containers = omega (arith, e) in
          let also : k.sids + a.sids ≡ k.sids + b.sids = omega (arith, f) in
          let less = h.hops sums also in
          omega (arith, less);
    }

pub map_some : (k c : Cost) (o : Option Cost) → option_map (plus k) o ≡ Some c → (d : Cost) × (o ≡ Some d) × (plus k d ≡ c)
map_some k c None h = absurd (none-some c h)
map_some k c (Some d) h = (d, refl, some_same (plus k d) c h)

pub edge_some : (v : LegsValue) (s : State) (c : Cost) (o : Option Edge) (later : State → Option Cost) → behind o later ≡ Some c
    → (e : Edge) × (o ≡ Some e) × (option_map (plus e.cost) (later e.to) ≡ Some c)
edge_some v s c None later h = absurd (none-some c h)
edge_some v s c (Some e) later h = (e, refl, h)

module _ (v : LegsValue) (laws : KeepsLaws v) (cells : List Cell) (are : AreCells v cells) (t : Costs) (least : AreLeast v cells t) where
  -- what is left after a tight edge is the least that there is after it
  rest_least : (costed_state : CostedState) (n : Move) (e : Edge) (more : List Move) (d : Cost) (o : Option Cost) → IsCostedState cells t costed_state
      → edge_of v (state_at costed_state.cell costed_state.room) n ≡ Some e → cost_of v e.to more ≡ Some d → plus e.cost d ≡ costed_state.cost → IsLeast v e.to o
      → o ≡ Some d
  rest_least costed_state n e more d None is edge_fact cost sum is_least =
      absurd (subst (λ (q : Option Cost). Under None q) cost (is_least.least more))
  rest_least costed_state n e more d (Some b) is edge_fact cost sum is_least =
      let below : AtMost b d = subst (λ (q : Option Cost). Under (Some b) q) cost (is_least.least more) in
      let moves = is_least.attains.0 in
      let all : cost_of v (state_at costed_state.cell costed_state.room) (n ∷ moves) ≡ Some (plus e.cost b) =
      attained v (state_at costed_state.cell costed_state.room) n e moves b edge_fact is_least.attains.1 in
      let bound : Under (Some costed_state.cost) (Some (plus e.cost b)) =
      subst (λ (q : Option Cost). Under q (Some (plus e.cost b))) is.is
      (subst (λ (q : Option Cost). Under (entry t costed_state.place costed_state.room) q) all
      ((least costed_state.place costed_state.room costed_state.cell is.here is.few).least (n ∷ moves))) in
      let above : AtMost (plus e.cost d) (plus e.cost b) = subst (λ (c : Cost). AtMost c (plus e.cost b)) (sym sum) bound in
      ap (λ (c : Cost). Some c) (at_most_both b d below (at_most_cancel e.cost d b above))

  head_last : (costed_state : CostedState) (n : Move) → IsCostedState cells t costed_state → last_of v (state_at costed_state.cell costed_state.room) n ≡ Some costed_state.cost
      → Head v cells t costed_state n []
  head_last costed_state n is h =
      let parts = last_parts v (state_at costed_state.cell costed_state.room) n costed_state.cost h in
      let edge : CellEdge = record { from = costed_state.place; to = None; sid = n.sid; hops = parts.hops } in
      record {
        edge = edge;
        from = refl;
        is_edge = record { cell = costed_state.cell; from = is.here; leads = parts.finish_is };
        sid = refl;
        left = parts.room;
        rest = nothing;
        tight = record { room_is = parts.room_is; rest_is = refl; cost_is = plus_nothing (move_cost v.sid_cost n.stays parts.hops) ∙ parts.is };
        behind = refl;
      }

  head_edge : (costed_state : CostedState) (n : Move) (e : Edge) (more : List Move) (d : Cost) → IsCostedState cells t costed_state
      → edge_of v (state_at costed_state.cell costed_state.room) n ≡ Some e → cost_of v e.to more ≡ Some d → plus e.cost d ≡ costed_state.cost
      → Head v cells t costed_state n more
  head_edge costed_state n e more d is h cost sum =
      let parts = edge_parts v (state_at costed_state.cell costed_state.room) n e h in
      let there = cell_edge v laws cells are costed_state.place costed_state.room costed_state.cell n e is.here parts in
      let edge : CellEdge = record { from = costed_state.place; to = Some there.0; sid = n.sid; hops = parts.leg.hops } in
      let is_edge : IsCellEdge v cells edge = record { cell = costed_state.cell; from = is.here; leads = (parts.leg.to, there.1, parts.leg_is) } in
      let to : State = state_at (cell_at parts.leg.to n.sid) parts.room in
      let few = behind_few v costed_state.cell.via costed_state.room n parts.room
      (edge_shape v laws cells edge is_edge) is.few
      parts.room_is in
      let is_to : to ≡ e.to = ap (λ (x : Edge). x.to) parts.is in
      let is_cost : move_cost v.sid_cost n.stays parts.leg.hops ≡ e.cost = ap (λ (x : Edge). x.cost) parts.is in
      let its = least there.0 parts.room (cell_at parts.leg.to n.sid) there.1 few in
      let rest : entry t there.0 parts.room ≡ Some d =
      rest_least costed_state n e more d (entry t there.0 parts.room) is h cost sum
      (subst (λ (x : State). IsLeast v x (entry t there.0 parts.room)) is_to its) in
      record {
        edge = edge;
        from = refl;
        is_edge = is_edge;
        sid = refl;
        left = parts.room;
        rest = d;
        tight = record { room_is = parts.room_is; rest_is = rest; cost_is = ap (λ (x : Cost). plus x d) is_cost ∙ sum };
        behind = (cell_at parts.leg.to n.sid, there.1, ap (λ (x : State). cost_of v x more) is_to ∙ cost);
      }

  pub head_of : (costed_state : CostedState) (n : Move) (more : List Move) → IsCostedState cells t costed_state
      → cost_of v (state_at costed_state.cell costed_state.room) (n ∷ more) ≡ Some costed_state.cost
      → Head v cells t costed_state n more
  head_of costed_state n [] is h = head_last costed_state n is h
  head_of costed_state n (m ∷ more) is h =
      let edge_fact = edge_some v (state_at costed_state.cell costed_state.room) costed_state.cost (edge_of v (state_at costed_state.cell costed_state.room) n)
      (λ (s : State). cost_of v s (m ∷ more)) h in
      let rest = map_some edge_fact.0.cost costed_state.cost (cost_of v edge_fact.0.to (m ∷ more)) edge_fact.2 in
      head_edge costed_state n edge_fact.0 (m ∷ more) rest.0 is edge_fact.1 rest.1 rest.2
