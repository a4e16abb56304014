-- The better of two picks covers what either covers.
use Rattle.std.proofs.Common.{◌≡◌, ℕ, ◌+◌, ◌*◌, ◌<◌, ◌≤◌, inl, inr, Bool, true, false, ◌&&◌, List, [], ◌∷◌, length, Option, Some, None, slice_get, refl, sym, ◌∙◌, ap, subst, arith}
use Rattle.std.specs.Prelude.{cond}
use Rattle.std.specs.Option.{option_map}
use Rattle.std.proofs.lemmas.Bool.{false≢true, cases_lt, false_from_ne_true}
use Rattle.std.proofs.lemmas.Option.{slice_get_within}
use Rattle.list_pack.specs.declared.types.Shape.{Shape}
use Rattle.list_pack.specs.declared.types.PathStep.{PathStep}
use Rattle.list_pack.specs.LegsValue.{LegsValue}
use Rattle.list_pack.specs.LegsValueTerms.{KeepsLaws}
use Rattle.list_pack.specs.Rooms.{room_behind}
use Rattle.list_pack.specs.Costs.{room_to, bars}
use Rattle.list_pack.specs.Least.{path_before, path_key}
use Rattle.list_encoder.specs.declared.cells.Cell.{Cell}
use Rattle.list_encoder.specs.declared.cell_table.CellEdge.{CellEdge}
use Rattle.list_encoder.specs.declared.picks.Pick.{Pick}
use Rattle.list_encoder.specs.declared.picks.CostedState.{CostedState}
use Rattle.list_encoder.specs.Cells.{cell_at}
use Rattle.list_encoder.specs.CellTable.{Costs, IsCellEdge, move_by, AreInRange}
use Rattle.list_encoder.specs.Picks.{better_of, IsCostedState, IsPick, IsPickOrNone, Covers, edge_step, CoversMoves, CoversEdge, PicksMoves, PicksEdge, PicksEnds, PicksLegs, PicksFirst}
use Rattle.list_pack.proofs.ListOrders.{lex_weak, lex_not_both}
use Rattle.list_encoder.proofs.SearchCelling.{some_same}
use Rattle.list_encoder.proofs.SearchRooms.{behind_few}
use Rattle.list_encoder.proofs.SearchTables.{to_range, edge_shape}
use Rattle.list_encoder.proofs.RelaxedRooms.{end_one, leg_one, leg_parts, room_open}
use Rattle.list_encoder.proofs.Relaxing.{no_end, end_place}

-- of two picks the first in order
better_by : (p q : Pick) (s : PathStep) (b : Bool) → path_before (q.step ∷ []) (p.step ∷ []) ≡ b
    → path_before (s ∷ []) (p.step ∷ []) ≡ false
    → Covers (cond b (Some q) (Some p)) s
better_by p q s false e h = h
better_by p q s true e h = lex_not_both (path_key (q.step ∷ [])) (path_key (s ∷ []))
    (lex_weak (path_key (q.step ∷ [])) (path_key (p.step ∷ [])) (path_key (s ∷ [])) e h)

better_also : (p q : Pick) (s : PathStep) (b : Bool) → path_before (q.step ∷ []) (p.step ∷ []) ≡ b
    → path_before (s ∷ []) (q.step ∷ []) ≡ false
    → Covers (cond b (Some q) (Some p)) s
better_also p q s true e h = h
better_also p q s false e h =
    false_from_ne_true (path_before (s ∷ []) (p.step ∷ [])) (λ k.
    false≢true (sym h ∙ lex_weak (path_key (s ∷ [])) (path_key (p.step ∷ [])) (path_key (q.step ∷ [])) k e))

pub covers_left : (a b : Option Pick) (s : PathStep) → Covers a s → Covers (better_of a b) s
covers_left None b s h = absurd h
covers_left (Some p) None s h = h
covers_left (Some p) (Some q) s h = better_by p q s (path_before (q.step ∷ []) (p.step ∷ [])) refl h

pub covers_right : (a b : Option Pick) (s : PathStep) → Covers b s → Covers (better_of a b) s
covers_right None b s h = h
covers_right (Some p) None s h = absurd h
covers_right (Some p) (Some q) s h = better_also p q s (path_before (q.step ∷ []) (p.step ∷ [])) refl h

either_pick : (v : LegsValue) (cells : List Cell) (t : Costs) (costed_state : CostedState) (p q : Pick) (b : Bool) → IsPick v cells t costed_state p
    → IsPick v cells t costed_state q
    → IsPickOrNone v cells t costed_state (cond b (Some q) (Some p))
either_pick v cells t costed_state p q true h k = k
either_pick v cells t costed_state p q false h k = h

pub found_both : (v : LegsValue) (cells : List Cell) (t : Costs) (costed_state : CostedState) (a b : Option Pick) → IsPickOrNone v cells t costed_state a
    → IsPickOrNone v cells t costed_state b → IsPickOrNone v cells t costed_state (better_of a b)
found_both v cells t costed_state None b h k = k
found_both v cells t costed_state (Some p) None h k = h
found_both v cells t costed_state (Some p) (Some q) h k = either_pick v cells t costed_state p q (path_before (q.step ∷ []) (p.step ∷ [])) h k

-- one move
pub pick_range : (v : LegsValue) → KeepsLaws v → (cells : List Cell) (t : Costs) (costed_state : CostedState) (edge : CellEdge) (stays : Bool) (left : ℕ)
    → IsCellEdge v cells edge
    → length t ≡ 8 * length cells → costed_state.room < 8
    → room_to v costed_state.cell.via costed_state.room (move_by edge stays) ≡ Some left
    → AreInRange t edge.to left
pick_range v laws cells t costed_state edge stays left is long few e =
    to_range v laws cells t is.cell edge.sid edge.hops left edge.to long is.leads
    (behind_few v costed_state.cell.via costed_state.room (move_by edge stays) left (edge_shape v laws cells edge is) few e)

pub both_moves : (v : LegsValue) (cells : List Cell) (t : Costs) (costed_state : CostedState) (edge : CellEdge) (a b : Option Pick)
    → PicksMoves v cells t costed_state edge true a
    → PicksMoves v cells t costed_state edge false b → PicksEdge v cells t costed_state edge (better_of a b)
both_moves v cells t costed_state edge a b h k =
    record { found = found_both v cells t costed_state a b h.found k.found; covers = covers }
  where
    covers : (stays : Bool) → CoversMoves v t costed_state (better_of a b) edge stays
    covers true left rest tight = covers_left a b (edge_step v edge true) (h.covers left rest tight)
    covers false left rest tight = covers_right a b (edge_step v edge false) (k.covers left rest tight)

pub edge_kept : (v : LegsValue) (t : Costs) (costed_state : CostedState) (a b : Option Pick) (edge : CellEdge) → CoversEdge v t costed_state a edge
    → CoversEdge v t costed_state (better_of a b) edge
edge_kept v t costed_state a b edge h stays left rest tight = covers_left a b (edge_step v edge stays) (h stays left rest tight)

pub edge_added : (v : LegsValue) (t : Costs) (costed_state : CostedState) (a b : Option Pick) (edge : CellEdge) → CoversEdge v t costed_state b edge
    → CoversEdge v t costed_state (better_of a b) edge
edge_added v t costed_state a b edge h stays left rest tight = covers_right a b (edge_step v edge stays) (h stays left rest tight)

pub picks_first : (v : LegsValue) (cells : List Cell) (t : Costs) (costed_state : CostedState) (a b : Option Pick) → PicksEnds v cells t costed_state a
    → PicksLegs v cells t costed_state b
    → PicksFirst v cells t costed_state (better_of a b)
picks_first v cells t costed_state a b h k =
    record { found = found_both v cells t costed_state a b h.found k.found; covers = λ edge from is. by edge from is edge.to refl }
  where
    by : (edge : CellEdge) → edge.from ≡ costed_state.place → IsCellEdge v cells edge → (to : Option ℕ) → edge.to ≡ to
        → CoversEdge v t costed_state (better_of a b) edge
    by edge from is None e = edge_kept v t costed_state a b edge (h.covers edge from e is)
    by edge from is (Some to) e = edge_added v t costed_state a b edge (k.covers edge to from e is)

-- the first finishes from a cell
pub record EndsPicked (v : LegsValue) (cells : List Cell) (t : Costs) (costed_state : CostedState) (sids : List ℕ) (count : ℕ) (best : Option Pick) :
    Type 0 where
  pub found : IsPickOrNone v cells t costed_state best
  pub covers : (edge : CellEdge) (i : ℕ) → edge.from ≡ costed_state.place → edge.to ≡ None → IsCellEdge v cells edge → i < count
      → slice_get sids i ≡ Some edge.sid
      → CoversEdge v t costed_state best edge

pub ends_pass : (v : LegsValue) (cells : List Cell) (t : Costs) (costed_state : CostedState) (sids : List ℕ) (count sid : ℕ) (best : Option Pick)
    → IsCostedState cells t costed_state
    → slice_get sids count ≡ Some sid → v.finish costed_state.cell.position costed_state.cell.via sid ≡ None → EndsPicked v cells t costed_state sids count best
    → EndsPicked v cells t costed_state sids (count + 1) best
ends_pass v cells t costed_state sids count sid best is_costed_state here none so =
    record {
      found = so.found;
      covers = λ edge i from to is h e.
          elim (cases_lt i count) as (λ w. CoversEdge v t costed_state best edge) [
            | inl less ↦ so.covers edge i from to is less e
            | inr more ↦
                let same : i ≡ count = omega (arith, h, more) in
                let is_sid : sid ≡ edge.sid = some_same sid edge.sid (sym here ∙ ap (slice_get sids) (sym same) ∙ e) in
                absurd (no_end v cells edge costed_state.place costed_state.cell is_costed_state.here from to is
                (subst (λ (n : ℕ). v.finish costed_state.cell.position costed_state.cell.via n ≡ None) is_sid none))
          ];
    }

pub ends_add : (v : LegsValue) (cells : List Cell) (t : Costs) (costed_state : CostedState) (sids : List ℕ) (count : ℕ) (best other : Option Pick)
    (taken : CellEdge)
    → IsCostedState cells t costed_state → slice_get sids count ≡ Some taken.sid → taken.from ≡ costed_state.place → taken.to ≡ None
    → v.finish costed_state.cell.position costed_state.cell.via taken.sid ≡ Some taken.hops → EndsPicked v cells t costed_state sids count best
    → PicksEdge v cells t costed_state taken other → EndsPicked v cells t costed_state sids (count + 1) (better_of best other)
ends_add v cells t costed_state sids count best other taken is_costed_state here at none finish so picks =
    record {
      found = found_both v cells t costed_state best other so.found picks.found;
      covers = λ edge i from to is h e.
          elim (cases_lt i count) as (λ w. CoversEdge v t costed_state (better_of best other) edge) [
            | inl less ↦ edge_kept v t costed_state best other edge (so.covers edge i from to is less e)
            | inr more ↦
                let same : i ≡ count = omega (arith, h, more) in
                let is_sid : edge.sid ≡ taken.sid = some_same edge.sid taken.sid (sym e ∙ ap (slice_get sids) same ∙ here) in
                let it : taken ≡ edge =
                end_one v cells taken edge costed_state.cell (ap (slice_get cells) at ∙ is_costed_state.here) finish none (from ∙ sym at) to is_sid is in
                edge_added v t costed_state best other edge (subst (λ (l : CellEdge). CoversEdge v t costed_state other l) it picks.covers)
          ];
    }

pub ends_picked : (v : LegsValue) → KeepsLaws v
    → (cells : List Cell) (t : Costs) (costed_state : CostedState) (sids : List ℕ) (steps count : ℕ) (best : Option Pick)
    → steps ≡ v.steps → sids ≡ v.sids_at steps → length sids ≤ count → EndsPicked v cells t costed_state sids count best
    → PicksEnds v cells t costed_state best
ends_picked v laws cells t costed_state sids steps count best e is h so =
    record {
      found = so.found;
      covers = λ edge from to is_edge.
          let place = end_place v laws cells edge sids steps e is to is_edge in
          let w = slice_get_within sids place.0 edge.sid place.1 in
          so.covers edge place.0 from to is_edge (omega (arith, h, w)) place.1;
    }

-- the legs from a cell into the first cells
pub record LegsPicked (v : LegsValue) (cells : List Cell) (t : Costs) (costed_state : CostedState) (count : ℕ) (best : Option Pick) : Type 0 where
  pub found : IsPickOrNone v cells t costed_state best
  pub covers : (edge : CellEdge) (to : ℕ) → edge.from ≡ costed_state.place → edge.to ≡ Some to → IsCellEdge v cells edge → to < count
      → CoversEdge v t costed_state best edge

pub legs_pass : (v : LegsValue) (cells : List Cell) (t : Costs) (costed_state : CostedState) (count : ℕ) (best : Option Pick)
    → ((edge : CellEdge) → edge.from ≡ costed_state.place → edge.to ≡ Some count → ¬ IsCellEdge v cells edge) → LegsPicked v cells t costed_state count best
    → LegsPicked v cells t costed_state (count + 1) best
legs_pass v cells t costed_state count best none so =
    record {
      found = so.found;
      covers = λ edge to from e is h.
          elim (cases_lt to count) as (λ w. CoversEdge v t costed_state best edge) [
            | inl less ↦ so.covers edge to from e is less
            | inr more ↦
                let same : to ≡ count = omega (arith, h, more) in
                absurd (none edge from (e ∙ ap (λ (n : ℕ). Some n) same) is)
          ];
    }

pub legs_add : (v : LegsValue) (cells : List Cell) (t : Costs) (costed_state : CostedState) (count : ℕ) (best other : Option Pick) (taken : CellEdge)
    → IsCellEdge v cells taken
    → taken.from ≡ costed_state.place → taken.to ≡ Some count → LegsPicked v cells t costed_state count best → PicksEdge v cells t costed_state taken other
    → LegsPicked v cells t costed_state (count + 1) (better_of best other)
legs_add v cells t costed_state count best other taken is_taken at into so picks =
    record {
      found = found_both v cells t costed_state best other so.found picks.found;
      covers = λ edge to from e is h.
          elim (cases_lt to count) as (λ w. CoversEdge v t costed_state (better_of best other) edge) [
            | inl less ↦ edge_kept v t costed_state best other edge (so.covers edge to from e is less)
            | inr more ↦
                let same : count ≡ to = omega (arith, h, more) in
                let it : taken ≡ edge = leg_one v cells taken edge to (into ∙ ap (λ (n : ℕ). Some n) same) (from ∙ sym at) e is_taken is in
                edge_added v t costed_state best other edge (subst (λ (l : CellEdge). CoversEdge v t costed_state other l) it picks.covers)
          ];
    }

pub legs_picked : (v : LegsValue) (cells : List Cell) (t : Costs) (costed_state : CostedState) (count : ℕ) (best : Option Pick) → length cells ≤ count
    → LegsPicked v cells t costed_state count best → PicksLegs v cells t costed_state best
legs_picked v cells t costed_state count best h so =
    record {
      found = so.found;
      covers = λ edge to from e is.
          let leads = leg_parts v cells edge to e is in
          let w = slice_get_within cells to (cell_at leads.0 edge.sid) leads.1 in
          so.covers edge to from e is (omega (arith, h, w));
    }

-- the room after a move, as it was asked for
pub room_at : (v : LegsValue) (stays : Bool) (from : Option Shape) (next : Shape) (via : Option ℕ) (sid room : ℕ) (o p : Option ℕ)
    → from ≡ option_map v.shape via → next ≡ v.shape sid → (stays && bars v via sid) ≡ false → o ≡ room_behind stays from room next → o ≡ p
    → room_to v via room (record { stays = stays; sid = sid }) ≡ p
room_at v stays from next via sid room o p e f free h k = sym (h ∙ room_open v stays via sid room from next e f free) ∙ k
