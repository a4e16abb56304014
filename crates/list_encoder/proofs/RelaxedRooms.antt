-- Lowering by an edge room by room, and what holds of an edge that is lowered.
use Rattle.std.proofs.Common.{◌≡◌, ℕ, ◌+◌, ◌*◌, ◌<◌, ◌≤◌, inl, inr, Bool, true, false, ◌||◌, ◌&&◌, if◌then◌else◌, List, Option, Some, None, slice_get, get_or, sym, ◌∙◌, ap, subst, arith}
use Rattle.std.specs.Option.{option_map}
use Rattle.std.proofs.lemmas.Bool.{cases_lt}
use Rattle.std.proofs.lemmas.Option.{none-some, slice_get_within}
use Rattle.list_pack.specs.declared.types.Cost.{Cost}
use Rattle.list_pack.specs.declared.types.Leg.{Leg}
use Rattle.list_pack.specs.declared.types.Shape.{Shape}
use Rattle.list_pack.specs.LegsValue.{LegsValue}
use Rattle.list_pack.specs.Rooms.{room_behind}
use Rattle.list_pack.specs.Costs.{Move, move_cost, room_to, bars, Under}
use Rattle.list_pack.specs.CostsTerms.{nothing}
use Rattle.list_pack.proofs.PublicLaws.{under_itself, under_trans, under_plus}
use Rattle.list_encoder.specs.declared.cells.Cell.{Cell}
use Rattle.list_encoder.specs.declared.cell_table.CellEdge.{CellEdge}
use Rattle.list_encoder.specs.Cells.{cell_at, IsCell, AreCells}
use Rattle.list_encoder.specs.CellTable.{Costs, at, entry, rest_at, offer, LeadsTo, IsCellEdge, IsSound, EdgeHolds, Holds, RoomHolds, RoomRelaxed, RoomsRelaxed, Relaxed, LeavesRoom, IsShapeOf, move_by}
use Rattle.list_encoder.proofs.SearchCelling.{some_same, cell_read}
use Rattle.list_encoder.proofs.StayRooms.{stays_less, room_left}
use Rattle.list_encoder.proofs.SearchTables.{kept_passed, passed_then}

-- what is left after an edge falls where the table does
pub rest_falls : (before after : Costs) (to : Option ℕ) (left : ℕ) → ((i : ℕ) → Under (at after i) (at before i))
    → Under (rest_at after to left) (rest_at before to left)
rest_falls before after None left h = under_itself (Some nothing)
rest_falls before after (Some to) left h = h (8 * to + left)

pub offer_falls : (sid_cost : ℕ) (stays : Bool) (hops : ℕ) (a b : Option Cost) → Under a b
    → Under (offer sid_cost stays hops a) (offer sid_cost stays hops b)
offer_falls sid_cost stays hops a b h = under_plus (move_cost sid_cost stays hops) a b h

-- what holds of a room holds where its room is known
room_holds : (v : LegsValue) (o : Option Cost) (stays : Bool) (edge : CellEdge) (t : Costs) (p : Option ℕ) (left : ℕ) → p ≡ Some left
    → RoomHolds v o stays edge t p
    → Under o (offer v.sid_cost stays edge.hops (rest_at t edge.to left))
room_holds v o stays edge t p left e h = subst (λ (q : Option ℕ). RoomHolds v o stays edge t q) e h

pub room_rooms : (v : LegsValue) (cells : List Cell) (edge : CellEdge) (stays : Bool) (room : ℕ) (p : Option ℕ) (t t1 : Costs) (x : Bool)
    → RoomRelaxed v cells edge t t1 stays room p x → LeavesRoom v cells edge stays room p
    → RoomsRelaxed v cells edge stays room (room + 1) t t1 x
room_rooms v cells edge stays room p t t1 x relaxed leaves =
    record {
      sound = relaxed.sound;
      passed = relaxed.passed;
      holds = λ cell r left e l h f.
          let same : room ≡ r = omega (arith, l, h) in
          let g : room_to v cell.via room (move_by edge stays) ≡ Some left =
          ap (λ (k : ℕ). room_to v cell.via k (move_by edge stays)) same ∙ f in
          subst (λ (k : ℕ). Under (entry t1 edge.from k) (offer v.sid_cost stays edge.hops (rest_at t edge.to left))) same
          (room_holds v (entry t1 edge.from room) stays edge t p left (leaves cell e ∙ g) relaxed.holds);
    }

-- some rooms, and then those that follow
pub rooms_join : (v : LegsValue) (cells : List Cell) (edge : CellEdge) (stays : Bool) (low mid high : ℕ) (t t1 t2 : Costs) (x y : Bool)
    → RoomsRelaxed v cells edge stays low mid t t1 x → RoomsRelaxed v cells edge stays mid high t1 t2 y
    → RoomsRelaxed v cells edge stays low high t t2 (x || y)
rooms_join v cells edge stays low mid high t t1 t2 x y first second =
    record {
      sound = second.sound;
      passed = passed_then (edge.from + 1) t t1 t2 x y first.passed second.passed;
      holds = λ cell r left e l h f.
          elim (cases_lt r mid) as (λ w. Under (entry t2 edge.from r) (offer v.sid_cost stays edge.hops (rest_at t edge.to left))) [
            | inl less ↦
                under_trans (entry t2 edge.from r) (entry t1 edge.from r) (offer v.sid_cost stays edge.hops (rest_at t edge.to left))
                (second.passed.falls _) (first.holds cell r left e l less f)
            | inr more ↦
                under_trans (entry t2 edge.from r) (offer v.sid_cost stays edge.hops (rest_at t1 edge.to left))
                (offer v.sid_cost stays edge.hops (rest_at t edge.to left)) (second.holds cell r left e more h f)
                (offer_falls v.sid_cost stays edge.hops (rest_at t1 edge.to left) (rest_at t edge.to left)
                (rest_falls t t1 edge.to left first.passed.falls))
          ];
    }

pub rooms_more : (v : LegsValue) (cells : List Cell) (edge : CellEdge) (stays : Bool) (low room : ℕ) (p : Option ℕ) (t t1 t2 : Costs)
    (x y : Bool)
    → RoomsRelaxed v cells edge stays low room t t1 x → RoomRelaxed v cells edge t1 t2 stays room p y → LeavesRoom v cells edge stays room p
    → RoomsRelaxed v cells edge stays low (room + 1) t t2 (x || y)
rooms_more v cells edge stays low room p t t1 t2 x y begun relaxed leaves =
    rooms_join v cells edge stays low room (room + 1) t t1 t2 x y begun (room_rooms v cells edge stays room p t1 t2 y relaxed leaves)

-- by a new container from each room, and in the same one
pub ways_join : (v : LegsValue) (cells : List Cell) (edge : CellEdge) (t t1 t2 : Costs) (x y : Bool)
    → RoomsRelaxed v cells edge false 0 8 t t1 x → RoomsRelaxed v cells edge true 0 8 t1 t2 y → Relaxed v cells edge t t2 (x || y)
ways_join v cells edge t t1 t2 x y opened stayed =
    record {
      sound = stayed.sound;
      passed = passed_then (edge.from + 1) t t1 t2 x y opened.passed stayed.passed;
      holds = holds;
    }
  where
    holds : (cell : Cell) (stays : Bool) (r left : ℕ) → slice_get cells edge.from ≡ Some cell → r < 8
        → room_to v cell.via r (move_by edge stays) ≡ Some left
        → Under (entry t2 edge.from r) (offer v.sid_cost stays edge.hops (rest_at t edge.to left))
    holds cell true r left e h f =
        under_trans (entry t2 edge.from r) (offer v.sid_cost true edge.hops (rest_at t1 edge.to left))
        (offer v.sid_cost true edge.hops (rest_at t edge.to left)) (stayed.holds cell r left e (omega arith) h f)
        (offer_falls v.sid_cost true edge.hops (rest_at t1 edge.to left) (rest_at t edge.to left)
        (rest_falls t t1 edge.to left opened.passed.falls))
    holds cell false r left e h f =
        under_trans (entry t2 edge.from r) (entry t1 edge.from r) (offer v.sid_cost false edge.hops (rest_at t edge.to left))
        (stayed.passed.falls _)
        (opened.holds cell r left e (omega arith) h f)

-- an edge is not barred from its first cell
abbrev pub IsFree : LegsValue → List Cell → CellEdge → Bool → Type 0
IsFree v cells edge stays = (cell : Cell) → slice_get cells edge.from ≡ Some cell → (stays && bars v cell.via edge.sid) ≡ false

-- the room after a move that isn't barred
pub room_open : (v : LegsValue) (stays : Bool) (via : Option ℕ) (sid room : ℕ) (from : Option Shape) (next : Shape)
    → from ≡ option_map v.shape via → next ≡ v.shape sid → (stays && bars v via sid) ≡ false
    → room_behind stays from room next ≡ room_to v via room (record { stays = stays; sid = sid })
room_open v stays via sid room from next is_from is_next free =
    ap (λ (s : Option Shape). room_behind stays s room next) is_from
    ∙ ap (λ (s : Shape). room_behind stays (option_map v.shape via) room s) is_next
    ∙ sym (ap (λ (b : Bool). if b then None else room_behind stays (option_map v.shape via) room (v.shape sid)) free)

pub leaves : (v : LegsValue) (cells : List Cell) (edge : CellEdge) (stays : Bool) (room : ℕ) (from : Option Shape) (next : Shape)
    (p : Option ℕ) → IsShapeOf v cells edge.from from → next ≡ v.shape edge.sid → IsFree v cells edge stays → p
    ≡ room_behind stays from room next
    → LeavesRoom v cells edge stays room p
leaves v cells edge stays room from next p is_from is_next free e cell here =
    e ∙ room_open v stays cell.via edge.sid room from next (is_from cell here) is_next (free cell here)

-- an edge's first cell is one
pub edge_cell : (v : LegsValue) (cells : List Cell) (edge : CellEdge) → AreCells v cells → IsCellEdge v cells edge
    → IsCell v (get_or cells edge.from (record { position = 0; via = None }))
edge_cell v cells edge are is =
    are.real edge.from (get_or cells edge.from (record { position = 0; via = None }))
    (cell_read cells edge.from (slice_get_within cells edge.from is.cell is.from))

-- whether an edge is barred is told by its first cell
barred_is : (v : LegsValue) (cells : List Cell) (edge : CellEdge) (stays told : Bool) → IsCellEdge v cells edge
    → told ≡ (stays && bars v (get_or cells edge.from (record { position = 0; via = None })).via edge.sid)
    → (cell : Cell) → slice_get cells edge.from ≡ Some cell → (stays && bars v cell.via edge.sid) ≡ told
barred_is v cells edge stays told is e cell here =
    let read : slice_get cells edge.from ≡ Some (get_or cells edge.from (record { position = 0; via = None })) =
    cell_read cells edge.from (slice_get_within cells edge.from is.cell is.from) in
    let same : cell ≡ get_or cells edge.from (record { position = 0; via = None }) =
    some_same cell (get_or cells edge.from (record { position = 0; via = None })) (sym here ∙ read) in
    ap (λ (c : Cell). stays && bars v c.via edge.sid) same ∙ sym e

pub edge_free : (v : LegsValue) (cells : List Cell) (edge : CellEdge) (stays told : Bool) → IsCellEdge v cells edge
    → told ≡ (stays && bars v (get_or cells edge.from (record { position = 0; via = None })).via edge.sid) → told ≡ false
    → IsFree v cells edge stays
edge_free v cells edge stays told is e free cell here = barred_is v cells edge stays told is e cell here ∙ free

-- after a barred move there is no room
pub barred_none : (v : LegsValue) (via : Option ℕ) (room : ℕ) (m : Move) (left : ℕ) → (m.stays && bars v via m.sid) ≡ true
    → room_to v via room m ≡ Some left → ⊥
barred_none v via room m left barred h =
    none-some left
    (sym (ap (λ (b : Bool). if b then None else room_behind m.stays (option_map v.shape via) room (v.shape m.sid)) barred) ∙ h)

pub edge_barred : (v : LegsValue) (cells : List Cell) (edge : CellEdge) (stays told : Bool) → IsCellEdge v cells edge
    → told ≡ (stays && bars v (get_or cells edge.from (record { position = 0; via = None })).via edge.sid) → told ≡ true
    → (cell : Cell) (room left : ℕ) → slice_get cells edge.from ≡ Some cell → room_to v cell.via room (move_by edge stays) ≡ Some left → ⊥
edge_barred v cells edge stays told is e barred cell room left here h =
    barred_none v cell.via room (move_by edge stays) left (barred_is v cells edge stays told is e cell here ∙ barred) h

-- a barred edge lowers nothing
pub rooms_barred : (v : LegsValue) (cells : List Cell) (edge : CellEdge) (stays told : Bool) (low high : ℕ) (t : Costs)
    → IsCellEdge v cells edge → told ≡ (stays && bars v (get_or cells edge.from (record { position = 0; via = None })).via edge.sid) → told
    ≡ true → IsSound v cells t
    → RoomsRelaxed v cells edge stays low high t t false
rooms_barred v cells edge stays told low high t is e barred sound =
    record {
      sound = sound;
      passed = kept_passed (edge.from + 1) t;
      holds = λ cell room left here l h leaves. absurd (edge_barred v cells edge stays told is e barred cell room left here leaves);
    }

-- an edge that can't stay with the most room that there may be lowers nothing by staying
pub rooms_shut : (v : LegsValue) (cells : List Cell) (edge : CellEdge) (from : Option Shape) (next : Shape) (t : Costs)
    → IsShapeOf v cells edge.from from → next ≡ v.shape edge.sid → IsSound v cells t → room_behind true from 7 next ≡ None
    → RoomsRelaxed v cells edge true 0 8 t t false
rooms_shut v cells edge from next t is_from is_next sound none =
    record {
      sound = sound;
      passed = kept_passed (edge.from + 1) t;
      holds = λ cell room left here l h leaves.
          absurd (stays_less from room left next h none
          (room_left v true cell.via edge.sid room left from next (is_from cell here) is_next leaves));
    }

-- what holds of an edge between two tables holds in a later one that leaves what is after the edge as it was
pub holds_later : (v : LegsValue) (cells : List Cell) (edge : CellEdge) (a b c : Costs) → EdgeHolds v cells edge a b
    → ((i : ℕ) → Under (at c i) (at b i))
    → ((left : ℕ) → rest_at c edge.to left ≡ rest_at a edge.to left) → Holds v cells c edge
holds_later v cells edge a b c h falls same cell stays room left e l r =
    under_trans (entry c edge.from room) (entry b edge.from room) (offer v.sid_cost stays edge.hops (rest_at c edge.to left))
    (falls (8 * edge.from + room))
    (subst (λ (o : Option Cost). Under (entry b edge.from room) (offer v.sid_cost stays edge.hops o)) (sym (same left)) (h cell stays room left e l r))

pub rest_end : (a b : Costs) (to : Option ℕ) (left : ℕ) → to ≡ None → rest_at b to left ≡ rest_at a to left
rest_end a b to left e = ap (λ (o : Option ℕ). rest_at b o left) e ∙ sym (ap (λ (o : Option ℕ). rest_at a o left) e)

pub rest_far : (later : ℕ) (a b : Costs) (to : Option ℕ) (j left : ℕ) → ((i : ℕ) → 8 * later ≤ i → at b i ≡ at a i) → to ≡ Some j
    → later ≤ j
    → rest_at b to left ≡ rest_at a to left
rest_far later a b to j left above e h =
    ap (λ (o : Option ℕ). rest_at b o left) e ∙ above (8 * j + left) (omega (arith, h)) ∙ sym (ap (λ (o : Option ℕ). rest_at a o left) e)

pub edge_same : (a b : CellEdge) → a.from ≡ b.from → a.to ≡ b.to → a.sid ≡ b.sid → a.hops ≡ b.hops → a ≡ b
edge_same a b e f g h =
    ap (λ (x : ℕ). let l : CellEdge = record { from = x; to = a.to; sid = a.sid; hops = a.hops } in l) e
    ∙ ap (λ (x : Option ℕ). let l : CellEdge = record { from = b.from; to = x; sid = a.sid; hops = a.hops } in l) f
    ∙ ap (λ (x : ℕ). let l : CellEdge = record { from = b.from; to = b.to; sid = x; hops = a.hops } in l) g
    ∙ ap (λ (x : ℕ). let l : CellEdge = record { from = b.from; to = b.to; sid = b.sid; hops = x } in l) h

-- a finish is one, and so is a leg into a cell
pub end_one : (v : LegsValue) (cells : List Cell) (a b : CellEdge) (cell : Cell) → slice_get cells a.from ≡ Some cell
    → v.finish cell.position cell.via a.sid ≡ Some a.hops
    → a.to ≡ None → b.from ≡ a.from → b.to ≡ None → b.sid ≡ a.sid → IsCellEdge v cells b → a ≡ b
end_one v cells a b cell here is to from to_b sid is_b =
    let same : is_b.cell ≡ cell = some_same is_b.cell cell (sym is_b.from ∙ ap (slice_get cells) from ∙ here) in
    let leads : v.finish is_b.cell.position is_b.cell.via b.sid ≡ Some b.hops =
    subst (λ (o : Option ℕ). LeadsTo v cells is_b.cell b.sid b.hops o) to_b is_b.leads in
    let there : v.finish cell.position cell.via a.sid ≡ Some b.hops =
    ap (λ (n : ℕ). v.finish cell.position cell.via n) (sym sid)
    ∙ ap (λ (c : Cell). v.finish c.position c.via b.sid) (sym same) ∙ leads in
    let hops : a.hops ≡ b.hops = some_same a.hops b.hops (sym is ∙ there) in
    edge_same a b (sym from) (to ∙ sym to_b) (sym sid) hops

pub leg_parts : (v : LegsValue) (cells : List Cell) (b : CellEdge) (to : ℕ) → b.to ≡ Some to → (is : IsCellEdge v cells b)
    → LeadsTo v cells is.cell b.sid b.hops (Some to)
leg_parts v cells b to e is = subst (λ (o : Option ℕ). LeadsTo v cells is.cell b.sid b.hops o) e is.leads

pub leg_one : (v : LegsValue) (cells : List Cell) (a b : CellEdge) (to : ℕ) → a.to ≡ Some to → b.from ≡ a.from → b.to ≡ Some to
    → IsCellEdge v cells a → IsCellEdge v cells b
    → a ≡ b
leg_one v cells a b to to_a from to_b is_a is_b =
    let leads = leg_parts v cells a to to_a is_a in
    let also = leg_parts v cells b to to_b is_b in
    let cell : is_a.cell ≡ is_b.cell = some_same is_a.cell is_b.cell (sym is_a.from ∙ ap (slice_get cells) (sym from) ∙ is_b.from) in
    let at : cell_at leads.0 a.sid ≡ cell_at also.0 b.sid = some_same (cell_at leads.0 a.sid) (cell_at also.0 b.sid)
    (sym leads.1 ∙ also.1) in
    let sid : a.sid ≡ b.sid = some_same a.sid b.sid (ap (λ (c : Cell). c.via) at) in
    let first : Leg = record { to = leads.0; hops = a.hops } in
    let second : Leg = record { to = also.0; hops = b.hops } in
    let leg : v.leg is_a.cell.position is_a.cell.via a.sid ≡ Some second =
    ap (λ (c : Cell). v.leg c.position c.via a.sid) cell ∙ ap (λ (n : ℕ). v.leg is_b.cell.position is_b.cell.via n) sid ∙ also.2 in
    let hops : a.hops ≡ b.hops = ap (λ (l : Leg). l.hops) (some_same first second (sym leads.2 ∙ leg)) in
    edge_same a b (sym from) (to_a ∙ sym to_b) sid hops
