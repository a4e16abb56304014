-- Lowering by the finishes and by the legs of a cell, and by all edges within a position.
use Rattle.std.proofs.Common.{◌≡◌, ℕ, zero, suc, ◌+◌, ◌*◌, ◌<◌, ◌≤◌, inl, inr, Bool, false, ◌||◌, List, [], ◌∷◌, ◌++◌, length, Option, Some, None, slice_get, Contains, refl, sym, ◌∙◌, ap, subst, arith}
use Rattle.std.specs.Prelude.{nat_lt, MatchBool}
use Rattle.std.proofs.lemmas.Bool.{cases_lt, lt-ltb, le-ltb}
use Rattle.std.proofs.lemmas.List.Elements.{Contains-append_left, Contains-push, Contains-push_cases}
use Rattle.std.proofs.lemmas.Option.{none-some, slice_get_within}
use Rattle.list_pack.specs.declared.types.Shape.{Shape}
use Rattle.list_pack.specs.LegsValue.{LegsValue}
use Rattle.list_pack.specs.LegsValueTerms.{KeepsLaws}
use Rattle.list_pack.specs.Rooms.{room_behind, new_room_by}
use Rattle.srv6_rules.specs.declared.sid.Csid.{Csid}
use Rattle.srv6_rules.specs.declared.sid.Csid.TheVariants.{Plain, Next, Replace}
use Rattle.list_pack.specs.Costs.{Under}
use Rattle.list_pack.proofs.PublicLaws.{under_itself, under_trans}
use Rattle.list_encoder.specs.declared.cells.Cell.{Cell}
use Rattle.list_encoder.specs.declared.cell_table.CellEdge.{CellEdge}
use Rattle.list_encoder.specs.CellTable.{Costs, at, LeadsTo, IsCellEdge, IsSound, Passed, EdgeHolds, Holds, Relaxed, EndsHold, EndsRelaxed, LegsHold, Keeps, LegsRelaxed, AreCellEdges, Gathers}
use Rattle.list_encoder.proofs.SearchCelling.{some_same, place_of}
use Rattle.list_encoder.proofs.SearchTables.{passed_then}
use Rattle.list_encoder.proofs.RelaxedRooms.{holds_later, rest_end, rest_far, end_one, leg_one}

-- without a finish there is no edge to the end
pub no_end : (v : LegsValue) (cells : List Cell) (edge : CellEdge) (k : ℕ) (cell : Cell) → slice_get cells k ≡ Some cell → edge.from ≡ k
    → edge.to ≡ None
    → IsCellEdge v cells edge → v.finish cell.position cell.via edge.sid ≡ None → ⊥
no_end v cells edge k cell here f to is none =
    let is_cell : is.cell ≡ cell = some_same is.cell cell (sym is.from ∙ ap (slice_get cells) f ∙ here) in
    let leads : v.finish is.cell.position is.cell.via edge.sid ≡ Some edge.hops =
    subst (λ (o : Option ℕ). LeadsTo v cells is.cell edge.sid edge.hops o) to is.leads in
    none-some edge.hops (sym none ∙ ap (λ (c : Cell). v.finish c.position c.via edge.sid) (sym is_cell) ∙ leads)

-- each finish is to a SID of the last position
pub end_place : (v : LegsValue) → KeepsLaws v → (cells : List Cell) (edge : CellEdge) (sids : List ℕ) (steps : ℕ) → steps ≡ v.steps
    → sids ≡ v.sids_at steps
    → edge.to ≡ None → IsCellEdge v cells edge → (i : ℕ) × (slice_get sids i ≡ Some edge.sid)
end_place v laws cells edge sids steps e is to is_edge =
    let leads : v.finish is_edge.cell.position is_edge.cell.via edge.sid ≡ Some edge.hops =
    subst (λ (o : Option ℕ). LeadsTo v cells is_edge.cell edge.sid edge.hops o) to is_edge.leads in
    let last = (laws.finish is_edge.cell.position is_edge.cell.via edge.sid edge.hops leads).is_next in
    place_of sids edge.sid (subst (λ (xs : List ℕ). Contains xs edge.sid) (sym (is ∙ ap v.sids_at e)) last)

-- the first finishes from a cell
pub record EndsSoFar (v : LegsValue) (cells : List Cell) (k : ℕ) (before after : Costs) (sids : List ℕ) (count : ℕ) (changed : Bool) :
    Type 0 where
  pub sound : IsSound v cells after
  pub passed : Passed (k + 1) before after changed
  pub holds : (edge : CellEdge) (i : ℕ) → edge.from ≡ k → edge.to ≡ None → IsCellEdge v cells edge → i < count → slice_get sids i
      ≡ Some edge.sid
      → Holds v cells after edge

pub ends_skip : (v : LegsValue) (cells : List Cell) (k : ℕ) (t0 t : Costs) (sids : List ℕ) (count sid : ℕ) (changed : Bool) (cell : Cell)
    → slice_get cells k ≡ Some cell → slice_get sids count ≡ Some sid → v.finish cell.position cell.via sid ≡ None
    → EndsSoFar v cells k t0 t sids count changed → EndsSoFar v cells k t0 t sids (count + 1) changed
ends_skip v cells k t0 t sids count sid changed cell here at none so =
    record {
      sound = so.sound;
      passed = so.passed;
      holds = λ edge i f to is h e.
          elim (cases_lt i count) as (λ w. Holds v cells t edge) [
            | inl less ↦ so.holds edge i f to is less e
            | inr more ↦
                let same : i ≡ count = omega (arith, h, more) in
                let is_sid : sid ≡ edge.sid = some_same sid edge.sid (sym at ∙ ap (slice_get sids) (sym same) ∙ e) in
                absurd (no_end v cells edge k cell here f to is (subst (λ (n : ℕ). v.finish cell.position cell.via n ≡ None) is_sid none))
          ];
    }

pub ends_more : (v : LegsValue) (cells : List Cell) (k : ℕ) (t0 t t1 : Costs) (sids : List ℕ) (count : ℕ) (changed x : Bool) (cell : Cell)
    (taken : CellEdge)
    → slice_get cells k ≡ Some cell → slice_get sids count ≡ Some taken.sid → taken.from ≡ k → taken.to ≡ None
    → v.finish cell.position cell.via taken.sid ≡ Some taken.hops → EndsSoFar v cells k t0 t sids count changed
    → Relaxed v cells taken t t1 x
    → EndsSoFar v cells k t0 t1 sids (count + 1) (changed || x)
ends_more v cells k t0 t t1 sids count changed x cell taken here there from none finish so relaxed =
    let passed : Passed (k + 1) t t1 x = subst (λ (n : ℕ). Passed (n + 1) t t1 x) from relaxed.passed in
    record {
      sound = relaxed.sound;
      passed = passed_then (k + 1) t0 t t1 changed x so.passed passed;
      holds = λ edge i f to is h e.
          elim (cases_lt i count) as (λ w. Holds v cells t1 edge) [
            | inl less ↦ holds_later v cells edge t t t1 (so.holds edge i f to is less e) passed.falls
                (λ left. rest_end t t1 edge.to left to)
            | inr more ↦
                let same : i ≡ count = omega (arith, h, more) in
                let is_sid : edge.sid ≡ taken.sid = some_same edge.sid taken.sid (sym e ∙ ap (slice_get sids) same ∙ there) in
                let it : taken ≡ edge =
                end_one v cells taken edge cell (ap (slice_get cells) from ∙ here) finish none (f ∙ sym from) to is_sid is in
                holds_later v cells edge t t1 t1 (subst (λ (l : CellEdge). EdgeHolds v cells l t t1) it relaxed.holds)
                (λ j. under_itself (at t1 j))
                (λ left. rest_end t t1 edge.to left to)
          ];
    }

-- the legs from a cell into the first cells
pub record LegsSoFar (v : LegsValue) (cells : List Cell) (k first later end : ℕ) (before after : Costs) (listed edges : List CellEdge)
    (changed : Bool)
    : Type 0 where
  pub sound : IsSound v cells after
  pub passed : Passed (k + 1) before after changed
  pub holds : LegsHold v cells k first later end after edges
  pub keeps : Keeps listed edges
  pub are : AreCellEdges v cells later edges

near_at : (P Q : Type 0) (to later : ℕ) → to < later → P → MatchBool (nat_lt to later) P Q
near_at P Q to later h p = subst (λ (b : Bool). MatchBool b P Q) (sym (lt-ltb to later h)) p

far_at : (P Q : Type 0) (to later : ℕ) → later ≤ to → Q → MatchBool (nat_lt to later) P Q
far_at P Q to later h q = subst (λ (b : Bool). MatchBool b P Q) (sym (le-ltb to later h)) q

pub at_near : (P Q : Type 0) (to later : ℕ) → to < later → MatchBool (nat_lt to later) P Q → P
at_near P Q to later h m = subst (λ (b : Bool). MatchBool b P Q) (lt-ltb to later h) m

pub at_far : (P Q : Type 0) (to later : ℕ) → later ≤ to → MatchBool (nat_lt to later) P Q → Q
at_far P Q to later h m = subst (λ (b : Bool). MatchBool b P Q) (le-ltb to later h) m

-- what is known of a leg stays so in a later table, with more edges listed
pub leg_stays : (v : LegsValue) (cells : List Cell) (k later to : ℕ) (t t1 : Costs) (edges more : List CellEdge) (edge : CellEdge)
    → k < later
    → ((i : ℕ) → Under (at t1 i) (at t i)) → ((i : ℕ) → 8 * later ≤ i → at t1 i ≡ at t i) → Keeps edges more → edge.to ≡ Some to
    → MatchBool (nat_lt to later) (Contains edges edge) (Holds v cells t edge)
    → MatchBool (nat_lt to later) (Contains more edge) (Holds v cells t1 edge)
leg_stays v cells k later to t t1 edges more edge within falls above keeps e m =
    elim (cases_lt to later) as (λ w. MatchBool (nat_lt to later) (Contains more edge) (Holds v cells t1 edge)) [
      | inl near ↦
          near_at (Contains more edge) (Holds v cells t1 edge) to later near
          (keeps edge (at_near (Contains edges edge) (Holds v cells t edge) to later near m))
      | inr far ↦
          far_at (Contains more edge) (Holds v cells t1 edge) to later far
          (holds_later v cells edge t t t1 (at_far (Contains edges edge) (Holds v cells t edge) to later far m) falls
          (λ left. rest_far later t t1 edge.to to left above e far))
    ]

module _ (v : LegsValue) (cells : List Cell) (k first later end : ℕ) (t0 t : Costs) (listed edges : List CellEdge) (changed : Bool)
    (within : k < later)
    (so : LegsSoFar v cells k first later end t0 t listed edges changed) where
  pub legs_skip : ((edge : CellEdge) → edge.from ≡ k → edge.to ≡ Some end → ¬ IsCellEdge v cells edge)
      → LegsSoFar v cells k first later (end + 1) t0 t listed edges changed
  legs_skip none =
      record {
        sound = so.sound;
        passed = so.passed;
        holds = λ edge to f e h l is.
            elim (cases_lt to end) as (λ w. MatchBool (nat_lt to later) (Contains edges edge) (Holds v cells t edge)) [
              | inl less ↦ so.holds edge to f e h less is
              | inr more ↦
                  let same : to ≡ end = omega (arith, l, more) in
                  absurd (none edge f (e ∙ ap (λ (n : ℕ). Some n) same) is)
            ];
        keeps = so.keeps;
        are = so.are;
      }

  -- a leg within the position is listed
  pub legs_list : (taken : CellEdge) → IsCellEdge v cells taken → taken.from ≡ k → taken.to ≡ Some end → end < later
      → LegsSoFar v cells k first later (end + 1) t0 t listed (edges ++ taken ∷ []) changed
  legs_list taken is_taken from to near =
      let more : List CellEdge = edges ++ taken ∷ [] in
      let keeps : Keeps edges more = λ edge c. Contains-append_left edges (taken ∷ []) edge c in
      record {
        sound = so.sound;
        passed = so.passed;
        holds = λ edge j f e h l is.
            elim (cases_lt j end) as (λ w. MatchBool (nat_lt j later) (Contains more edge) (Holds v cells t edge)) [
              | inl less ↦
                  leg_stays v cells k later j t t edges more edge within (λ i. under_itself (at t i)) (λ i x. refl) keeps e
                  (so.holds edge j f e h less is)
              | inr above ↦
                  let same : end ≡ j = omega (arith, l, above) in
                  let it : taken ≡ edge =
                  leg_one v cells taken edge j (to ∙ ap (λ (n : ℕ). Some n) same) (f ∙ sym from) e is_taken is in
                  near_at (Contains more edge) (Holds v cells t edge) j later (omega (arith, near, same))
                  (subst (λ (x : CellEdge). Contains more x) it (Contains-push edges taken))
            ];
        keeps = λ edge c. keeps edge (so.keeps edge c);
        are = λ edge c.
            elim (Contains-push_cases edges taken edge c) as (λ w. IsCellEdge v cells edge × (edge.from < later)) [
              | inl old ↦ so.are edge old
              | inr new ↦ subst (λ (x : CellEdge). IsCellEdge v cells x × (x.from < later)) new (is_taken, omega (arith, from, within))
            ];
      }

  -- by a leg to a later position the costs are lowered
  pub legs_more : (taken : CellEdge) (t1 : Costs) (x : Bool) → IsCellEdge v cells taken → taken.from ≡ k → taken.to ≡ Some end → later ≤ end
      → Relaxed v cells taken t t1 x → LegsSoFar v cells k first later (end + 1) t0 t1 listed edges (changed || x)
  legs_more taken t1 x is_taken from to far relaxed =
      let passed : Passed (k + 1) t t1 x = subst (λ (n : ℕ). Passed (n + 1) t t1 x) from relaxed.passed in
      let above : (i : ℕ) → 8 * later ≤ i → at t1 i ≡ at t i = λ i h. passed.later i (omega (arith, h, within)) in
      record {
        sound = relaxed.sound;
        passed = passed_then (k + 1) t0 t t1 changed x so.passed passed;
        holds = λ edge j f e h l is.
            elim (cases_lt j end) as (λ w. MatchBool (nat_lt j later) (Contains edges edge) (Holds v cells t1 edge)) [
              | inl less ↦
                  leg_stays v cells k later j t t1 edges edges edge within passed.falls above (λ y c. c) e (so.holds edge j f e h less is)
              | inr over ↦
                  let same : end ≡ j = omega (arith, l, over) in
                  let it : taken ≡ edge =
                  leg_one v cells taken edge j (to ∙ ap (λ (n : ℕ). Some n) same) (f ∙ sym from) e is_taken is in
                  let beyond : later ≤ j = omega (arith, far, same) in
                  far_at (Contains edges edge) (Holds v cells t1 edge) j later beyond
                  (holds_later v cells edge t t1 t1 (subst (λ (y : CellEdge). EdgeHolds v cells y t t1) it relaxed.holds)
                  (λ i. under_itself (at t1 i))
                  (λ left. rest_far later t t1 edge.to j left above e beyond))
            ];
        keeps = so.keeps;
        are = so.are;
      }

-- the first cells of a position
pub record GatheredSoFar (v : LegsValue) (cells : List Cell) (first later k : ℕ) (before after : Costs)
    (edges : List CellEdge) : Type 0 where
  pub sound : IsSound v cells after
  pub falls : (i : ℕ) → Under (at after i) (at before i)
  pub above : (i : ℕ) → 8 * later ≤ i → at after i ≡ at before i
  pub ends : (j : ℕ) → first ≤ j → j < k → EndsHold v cells j after
  pub legs : (j : ℕ) → first ≤ j → j < k → LegsHold v cells j first later (length cells) after edges
  pub are : AreCellEdges v cells later edges

-- no cell yet
pub gathered_none : (v : LegsValue) (cells : List Cell) (first later : ℕ) (t : Costs) → IsSound v cells t
    → GatheredSoFar v cells first later first t t []
gathered_none v cells first later t sound =
    record {
      sound = sound;
      falls = λ i. under_itself (at t i);
      above = λ i h. refl;
      ends = λ j h l edge f e is. absurd (omega (arith, h, l));
      legs = λ j h l edge to f e g m is. absurd (omega (arith, h, l));
      are = λ edge among. absurd (omega (arith, among.1));
    }

-- all cells of the position
pub gathered_all : (v : LegsValue) (cells : List Cell) (first later k : ℕ) (t0 t : Costs) (edges : List CellEdge)
    → GatheredSoFar v cells first later k t0 t edges → later ≤ k → Gathers v cells first later t0 t edges
gathered_all v cells first later k t0 t edges so done =
    record {
      sound = so.sound;
      falls = so.falls;
      above = so.above;
      ends = λ j h l. so.ends j h (omega (arith, l, done));
      legs = λ j h l. so.legs j h (omega (arith, l, done));
      are = so.are;
    }

module _ (v : LegsValue) (cells : List Cell) (first later k : ℕ) (t0 t t1 t2 : Costs) (edges more : List CellEdge) (x y : Bool)
    (within : k < later)
    (so : GatheredSoFar v cells first later k t0 t edges) (ended : EndsRelaxed v cells k t t1 x)
    (led : LegsRelaxed v cells k first later t1 t2 edges more y) where
  pub gathered_more : GatheredSoFar v cells first later (k + 1) t0 t2 more
  gathered_more =
      let passed = passed_then (k + 1) t t1 t2 x y ended.passed led.passed in
      let above : (i : ℕ) → 8 * later ≤ i → at t2 i ≡ at t i = λ i h. passed.later i (omega (arith, h, within)) in
      record {
        sound = led.sound;
        falls = λ i. under_trans (at t2 i) (at t i) (at t0 i) (passed.falls i) (so.falls i);
        above = λ i h. above i h ∙ so.above i h;
        ends = λ j h l edge f e is.
            elim (cases_lt j k) as (λ w. Holds v cells t2 edge) [
              | inl less ↦ holds_later v cells edge t t t2 (so.ends j h less edge f e is) passed.falls
                  (λ left. rest_end t t2 edge.to left e)
              | inr over ↦
                  let same : j ≡ k = omega (arith, l, over) in
                  holds_later v cells edge t1 t1 t2 (ended.holds edge (f ∙ same) e is) led.passed.falls
                  (λ left. rest_end t1 t2 edge.to left e)
            ];
        legs = λ j h l edge to f e g m is.
            elim (cases_lt j k) as (λ w. MatchBool (nat_lt to later) (Contains more edge) (Holds v cells t2 edge)) [
              | inl less ↦
                  leg_stays v cells k later to t t2 edges more edge within passed.falls above led.keeps e
                  (so.legs j h less edge to f e g m is)
              | inr over ↦
                  let same : j ≡ k = omega (arith, l, over) in
                  led.holds edge to (f ∙ same) e g m is
            ];
        are = led.are;
      }

pub ends_all : (v : LegsValue) → KeepsLaws v
    → (cells : List Cell) (k : ℕ) (t0 t : Costs) (sids : List ℕ) (steps count : ℕ) (changed : Bool) → steps ≡ v.steps
    → sids ≡ v.sids_at steps → length sids ≤ count → EndsSoFar v cells k t0 t sids count changed → EndsRelaxed v cells k t0 t changed
ends_all v laws cells k t0 t sids steps count changed e is h so =
    record {
      sound = so.sound;
      passed = so.passed;
      holds = λ edge f to is_edge.
          let place = end_place v laws cells edge sids steps e is to is_edge in
          let w = slice_get_within sids place.0 edge.sid place.1 in
          so.holds edge place.0 f to is_edge (omega (arith, h, w)) place.1;
    }

-- with some room left in front of it, a SID opens the same container
opens_by : (s : Shape) (room : ℕ) (next : Shape) (c : Csid) → new_room_by c s 1 next ≡ new_room_by c s (suc room) next
opens_by s room next Plain = refl
opens_by s room next Next = refl
opens_by s room next Replace = refl

opens_alike : (from : Option Shape) (room : ℕ) (next : Shape) → room_behind false from 1 next ≡ room_behind false from (suc room) next
opens_alike None room next = refl
opens_alike (Some s) room next = opens_by s room next s.csid

pub opened_same : (from : Option Shape) (room : ℕ) (next : Shape) → 1 ≤ room
    → room_behind false from 1 next ≡ room_behind false from room next
opened_same from zero next h = absurd (omega (arith, h))
opened_same from (suc room) next h = opens_alike from room next
