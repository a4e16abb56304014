-- Costs of a table lowered one at a time: what stays so, and what falls.
use Rattle.std.proofs.Common.{◌≡◌, ℕ, ◌+◌, ◌*◌, ◌/◌, ◌%◌, ◌^◌, ◌<◌, ◌≤◌, inl, inr, Bool, true, false, ◌||◌, List, [], ◌∷◌, length, set, Option, Some, None, slice_get, refl, sym, ◌∙◌, ap, subst, arith, get_or-set_same, get_or-set_other}
use Rattle.std.specs.Prelude.{cond, is_some}
use Rattle.std.proofs.lemmas.Bool.{false≢true, true≢false, cases_eq, cases_lt}
use Rattle.std.proofs.lemmas.List.{length-set}
use Rattle.std.proofs.lemmas.List.Sums.{sum_by-set, count_by-le-length}
use Rattle.std.proofs.lemmas.Option.{slice_get_within}
use Rattle.list_pack.specs.declared.types.Cost.{Cost}
use Rattle.list_pack.specs.declared.types.Leg.{Leg}
use Rattle.list_pack.specs.LegsValue.{LegsValue}
use Rattle.list_pack.specs.LegsValueTerms.{KeepsLaws, IsShape, IsSid}
use Rattle.list_pack.specs.Costs.{Move, plus, move_cost, room_to, Under, edge_by, last_of}
use Rattle.list_pack.specs.CostsTerms.{nothing}
use Rattle.list_pack.specs.Paths.{cost_with}
use Rattle.list_pack.specs.Least.{Attains}
use Rattle.list_pack.proofs.PublicLaws.{under_itself, under_trans, edge_made, last_made, attained}
use Rattle.list_encoder.specs.declared.cells.Cell.{Cell}
use Rattle.list_encoder.specs.declared.cell_table.CellEdge.{CellEdge}
use Rattle.list_encoder.specs.declared.cells.TheConstants.{MAX_CELLS}
use Rattle.list_encoder.specs.Cells.{cell_at, state_at, AreCells}
use Rattle.list_encoder.specs.CellTable.{Costs, at, entry, rest_at, offer, LeadsTo, IsCellEdge, move_by, filled, IsBounded, IsSound, Improves, IsLowered, IsKept, Lowers, rank, total, Passed, RoomHolds, RoomRelaxed, LeavesRoom, HasFewContainers, AreInRange}
use Rattle.list_encoder.proofs.SearchRooms.{stay_less, open_few, behind_few}

-- a cost that is below another, or of few containers, SIDs and hops
pub record IsFew (c : Cost) : Type 0 where
  pub containers : c.containers < 1000000
  pub sids : c.sids < 1000000
  pub hops : c.hops < 1000000000

pub rank_less : (o : Option Cost) (c : Cost) → Improves o c → IsFew c → rank (Some c) < rank o
rank_less None c h few = omega (arith, few.containers, few.sids, few.hops)
rank_less (Some d) c h few =
    elim (cases_lt c.containers d.containers) as (λ w. rank (Some c) < rank (Some d)) [
      | inl less ↦ omega (arith, less, few.sids, few.hops)
      | inr more ↦
          let e : c.containers ≡ d.containers = omega (arith, more, h.containers) in
          elim (cases_lt c.sids d.sids) as (λ w. rank (Some c) < rank (Some d)) [
            | inl less ↦ omega (arith, e, less, few.hops)
            | inr least ↦
                let f : c.sids ≡ d.sids = omega (arith, least, h.sids e) in
                omega (arith, e, f, h.hops e f)
          ]
    ]

improves_under : (o : Option Cost) (c : Cost) → Improves o c → Under (Some c) o
improves_under None c h = tt
improves_under (Some d) c h = record { containers = h.containers; sids = h.sids; hops = λ e f. omega (arith, h.hops e f) }

at_other : (t : Costs) (i j : ℕ) (o : Option Cost) → (j ≡ i → ⊥) → at (set t i o) j ≡ at t j
at_other t i j o ne = get_or-set_other t i j o None ne

at_same : (t : Costs) (i : ℕ) (o : Option Cost) → i < length t → at (set t i o) i ≡ o
at_same t i o h = get_or-set_same t i o None h

-- one entry lowered
module _ (t : Costs) (i : ℕ) (c : Cost) (within : i < length t) (improves : Improves (at t i) c) where
  set_falls : (j : ℕ) → Under (at (set t i (Some c)) j) (at t j)
  set_falls j =
      elim (cases_eq j i) as (λ w. Under (at (set t i (Some c)) j) (at t j)) [
        | inl same ↦
            subst (λ (k : ℕ). Under (at (set t i (Some c)) k) (at t k)) (sym same)
            (subst (λ (o : Option Cost). Under o (at t i)) (sym (at_same t i (Some c) within)) (improves_under (at t i) c improves))
        | inr other ↦ subst (λ (o : Option Cost). Under o (at t j)) (sym (at_other t i j (Some c) other)) (under_itself (at t j))
      ]

  set_smaller : IsFew c → total (set t i (Some c)) < total t
  set_smaller few =
      let sums : total (set t i (Some c)) + rank (at t i) ≡ total t + rank (Some c) = sum_by-set rank t i (Some c) None within in
      let less : rank (Some c) < rank (at t i) = rank_less (at t i) c improves few in
      less_by (total (set t i (Some c))) (rank (at t i)) (total t) (rank (Some c)) sums less
    where
      less_by : (a b d e : ℕ) → a + b ≡ d + e → e < b → a < d
      less_by a b d e h k = omega arith

  set_passed : (cell : ℕ) → i < 8 * cell → IsFew c → Passed cell t (set t i (Some c)) true
  set_passed cell low few =
      record {
        falls = set_falls;
        later = λ j h. at_other t i j (Some c) (λ e. absurd (omega (arith, e, h, low)));
        same = λ e. absurd (true≢false e);
        smaller = λ e. set_smaller few;
      }

  -- the number of costs grows where there was none
  set_filled : filled t ≤ filled (set t i (Some c))
  set_filled =
      let sums : filled (set t i (Some c)) + cond {A = ℕ} (is_some (at t i)) 1 0 ≡ filled t + 1 =
      sum_by-set (λ (o : Option Cost). cond {A = ℕ} (is_some o) 1 0) t i (Some c) None within in
      let few : cond {A = ℕ} (is_some (at t i)) 1 0 ≤ 1 = at_most_one (is_some (at t i)) in
      fewer (filled (set t i (Some c))) (cond {A = ℕ} (is_some (at t i)) 1 0) (filled t) sums few
    where
      at_most_one : (b : Bool) → cond {A = ℕ} b 1 0 ≤ 1
      at_most_one true = omega arith
      at_most_one false = omega arith

      fewer : (a b d : ℕ) → a + b ≡ d + 1 → b ≤ 1 → d ≤ a
      fewer a b d h k = omega arith

  set_grows : at t i ≡ None → filled t + 1 ≤ filled (set t i (Some c))
  set_grows e =
      let sums : filled (set t i (Some c)) + cond {A = ℕ} (is_some (at t i)) 1 0 ≡ filled t + 1 =
      sum_by-set (λ (o : Option Cost). cond {A = ℕ} (is_some o) 1 0) t i (Some c) None within in
      let none : cond {A = ℕ} (is_some (at t i)) 1 0 ≡ 0 = ap (λ (o : Option Cost). cond {A = ℕ} (is_some o) 1 0) e in
      fewer (filled (set t i (Some c))) (cond {A = ℕ} (is_some (at t i)) 1 0) (filled t) sums none
    where
      fewer : (a b d : ℕ) → a + b ≡ d + 1 → b ≡ 0 → d + 1 ≤ a
      fewer a b d h k = omega arith

pub kept_passed : (cell : ℕ) (t : Costs) → Passed cell t t false
kept_passed cell t =
    record { falls = λ i. under_itself (at t i); later = λ i h. refl; same = λ e. refl; smaller = λ e. absurd (false≢true e) }

-- one after the other
pub passed_then : (cell : ℕ) (a b c : Costs) (x y : Bool) → Passed cell a b x → Passed cell b c y → Passed cell a c (x || y)
passed_then cell a b c x y h k =
    record {
      falls = λ i. under_trans (at c i) (at b i) (at a i) (k.falls i) (h.falls i);
      later = λ i l. k.later i l ∙ h.later i l;
      same = both_same x y h.same k.same;
      smaller = either_smaller x y h.same k.same h.smaller k.smaller;
    }
  where
    both_same : (x y : Bool) → (x ≡ false → b ≡ a) → (y ≡ false → c ≡ b) → (x || y) ≡ false → c ≡ a
    both_same true y f g e = absurd (true≢false e)
    both_same false y f g e = g e ∙ f refl

    either_smaller : (x y : Bool) → (x ≡ false → b ≡ a) → (y ≡ false → c ≡ b) → (x ≡ true → total b < total a)
        → (y ≡ true → total c < total b)
        → (x || y) ≡ true → total c < total a
    either_smaller false y f g l m e = subst (λ (s : Costs). total c < total s) (f refl) (m e)
    either_smaller true false f g l m e = subst (λ (s : Costs). total s < total a) (sym (g refl)) (l refl)
    either_smaller true true f g l m e = let p = l refl in let q = m refl in omega (arith, p, q)

-- places of a table
same_place : (j k r s : ℕ) → r < 8 → s < 8 → 8 * j + r ≡ 8 * k + s → (j ≡ k) × (r ≡ s)
same_place j k r s h l e = (omega (arith, h, l, e), omega (arith, h, l, e))

place_within : (k r n : ℕ) → k < n → r < 8 → 8 * k + r < 8 * n
place_within k r n h l = omega (arith, h, l)

-- a sum that stays within its bounds
bounded_stays : (n left room sid_cost hops : ℕ) (d : Cost) → IsBounded n left d → left < room → sid_cost ≤ 1 → hops ≤ 1000
    → IsBounded (n + 1) room (plus (move_cost sid_cost true hops) d)
bounded_stays n left room sid_cost hops d h less one few =
    record {
      containers = omega (arith, h.containers);
      sids = omega (arith, h.sids, less, one);
      hops = omega (arith, h.hops, less, few);
    }

bounded_opens : (n left room sid_cost hops : ℕ) (d : Cost) → IsBounded n left d → left ≤ 7 → sid_cost ≤ 1 → hops ≤ 1000
    → IsBounded (n + 1) room (plus (move_cost sid_cost false hops) d)
bounded_opens n left room sid_cost hops d h less one few =
    record {
      containers = omega (arith, h.containers);
      sids = omega (arith, h.sids, less, one);
      hops = omega (arith, h.hops, less, few);
    }

bounded_nothing : (n left : ℕ) → IsBounded n left nothing
bounded_nothing n left = record { containers = omega arith; sids = omega arith; hops = omega arith }

pub plus_nothing : (c : Cost) → plus c nothing ≡ c
plus_nothing c =
    let e : c.containers + 0 ≡ c.containers = omega arith in
    let f : c.sids + 0 ≡ c.sids = omega arith in
    let g : c.hops + 0 ≡ c.hops = omega arith in
    ap (λ (x : ℕ). cost_with x (c.sids + 0) (c.hops + 0)) e ∙ ap (λ (y : ℕ). cost_with c.containers y (c.hops + 0)) f
    ∙ ap (λ (z : ℕ). cost_with c.containers c.sids z) g

module _ (v : LegsValue) (laws : KeepsLaws v) (cells : List Cell) where
  leads_sid : (cell : Cell) (sid hops : ℕ) (to : Option ℕ) → LeadsTo v cells cell sid hops to → IsSid v sid × (hops ≤ 1000)
  leads_sid cell sid hops None h =
      let is = laws.finish cell.position cell.via sid hops h in
      ((v.steps, omega arith, is.is_next), is.hops)
  leads_sid cell sid hops (Some to) h =
      let is = laws.leg cell.position cell.via sid (record { to = h.0; hops = hops }) h.2 in
      ((h.0, is.within, is.is_next), is.hops)

  pub edge_shape : (edge : CellEdge) → IsCellEdge v cells edge → IsShape (v.shape edge.sid)
  edge_shape edge is = laws.shapes edge.sid (leads_sid is.cell edge.sid edge.hops edge.to is.leads).0

  pub edge_hops : (edge : CellEdge) → IsCellEdge v cells edge → edge.hops ≤ 1000
  edge_hops edge is = (leads_sid is.cell edge.sid edge.hops edge.to is.leads).1

  pub to_range : (t : Costs) (cell : Cell) (sid hops left : ℕ) (to : Option ℕ) → length t ≡ 8 * length cells
      → LeadsTo v cells cell sid hops to → left < 8
      → AreInRange t to left
  to_range t cell sid hops left None long h l = tt
  to_range t cell sid hops left (Some to) long h l =
      let w : to < length cells = slice_get_within cells to (cell_at h.0 sid) h.1 in
      let p : 8 * to + left < 8 * length cells = place_within to left (length cells) w l in
      omega (arith, p, long)

  pub edge_range : (t : Costs) (edge : CellEdge) (left : ℕ) → IsSound v cells t → IsCellEdge v cells edge → left < 8
      → AreInRange t edge.to left
  edge_range t edge left sound is h = to_range t is.cell edge.sid edge.hops left edge.to sound.long is.leads h

  rest_bounded : (t : Costs) (to : Option ℕ) (left : ℕ) (d : Cost) → IsSound v cells t → left < 8 → rest_at t to left ≡ Some d
      → IsBounded (filled t) left d
  rest_bounded t None left d sound h e =
      let same : nothing ≡ d = cc in
      subst (λ (x : Cost). IsBounded (filled t) left x) same (bounded_nothing (filled t) left)
  rest_bounded t (Some to) left d sound h e = sound.bounded to left d h e

  bounded_behind : (n left room hops : ℕ) (stays : Bool) (d : Cost) (o : Option ℕ) (edge : CellEdge) → IsCellEdge v cells edge → edge.hops
      ≡ hops
      → room < 8
      → room_to v o room (move_by edge stays) ≡ Some left → IsBounded n left d
      → IsBounded (n + 1) room (plus (move_cost v.sid_cost stays hops) d)
  bounded_behind n left room hops true d o edge is e h r b =
      bounded_stays n left room v.sid_cost hops d b (stay_less v o room edge.sid left (edge_shape edge is) r) laws.sid_cost
      (subst (λ (x : ℕ). x ≤ 1000) e (edge_hops edge is))
  bounded_behind n left room hops false d o edge is e h r b =
      bounded_opens n left room v.sid_cost hops d b (open_few v o room edge.sid left (edge_shape edge is) r) laws.sid_cost
      (subst (λ (x : ℕ). x ≤ 1000) e (edge_hops edge is))

  -- after an edge, what is left is that of a path, and so it is in front
  edge_attains : (t : Costs) (cell : Cell) (sid hops : ℕ) (to : Option ℕ) (stays : Bool) (room left : ℕ) (d : Cost) → IsSound v cells t
      → LeadsTo v cells cell sid hops to → left < 8 → room_to v cell.via room (record { stays = stays; sid = sid }) ≡ Some left
      → rest_at t to left ≡ Some d → Attains v (state_at cell room) (Some (plus (move_cost v.sid_cost stays hops) d))
  edge_attains t cell sid hops None stays room left d sound leads h r e =
      let m : Move = record { stays = stays; sid = sid } in
      let last : last_of v (state_at cell room) m ≡ Some (move_cost v.sid_cost stays hops) = last_made v (state_at cell room) m left hops r leads in
      let same : nothing ≡ d = cc in
      let sum : move_cost v.sid_cost stays hops ≡ plus (move_cost v.sid_cost stays hops) d =
      sym (plus_nothing (move_cost v.sid_cost stays hops)) ∙ ap (plus (move_cost v.sid_cost stays hops)) same in
      (m ∷ [], last ∙ ap Some sum)
  edge_attains t cell sid hops (Some to) stays room left d sound leads h r e =
      let m : Move = record { stays = stays; sid = sid } in
      let leg : Leg = record { to = leads.0; hops = hops } in
      let rest = sound.attained to left (cell_at leads.0 sid) d leads.1 h e in
      let edge_fact = edge_made v (state_at cell room) m left leg r leads.2 in
      (m ∷ rest.0, attained v (state_at cell room) m (edge_by v m left leg) rest.0 d edge_fact rest.1)

  -- one entry lowered to the cost of a path
  module _ (t : Costs) (k room : ℕ) (cell : Cell) (c : Cost) (sound : IsSound v cells t) (here : slice_get cells k ≡ Some cell)
      (low : room < 8)
      (improves : Improves (entry t k room) c) (attains : Attains v (state_at cell room) (Some c))
      (bounded : IsBounded (filled t + 1) room c) where
    set_within : 8 * k + room < length t
    set_within =
        let w : k < length cells = slice_get_within cells k cell here in
        let p : 8 * k + room < 8 * length cells = place_within k room (length cells) w low in
        omega (arith, p, sound.long)

    few_costs : c.containers ≤ filled (set t (8 * k + room) (Some c))
    few_costs =
        by (entry t k room) refl improves
      where
        by : (o : Option Cost) → entry t k room ≡ o → Improves o c → c.containers ≤ filled (set t (8 * k + room) (Some c))
        by None e i =
            let more = set_grows t (8 * k + room) c set_within improves e in
            let few = bounded.containers in
            omega (arith, more, few)
        by (Some d) e i =
            let more = set_filled t (8 * k + room) c set_within improves in
            let few = (sound.bounded k room d low e).containers in
            let less = i.containers in
            omega (arith, more, few, less)

    attained_at : (j r : ℕ) (other : Cell) (d : Cost) → slice_get cells j ≡ Some other → r < 8
        → entry (set t (8 * k + room) (Some c)) j r ≡ Some d → Attains v (state_at other r) (Some d)
    attained_at j r other d there l e =
        elim (cases_eq (8 * j + r) (8 * k + room)) as (λ w. Attains v (state_at other r) (Some d)) [
          | inl same ↦
              let places = same_place j k r room l low same in
              let new : at (set t (8 * k + room) (Some c)) (8 * j + r) ≡ Some c =
              ap (at (set t (8 * k + room) (Some c))) same ∙ at_same t (8 * k + room) (Some c) set_within in
              let is_c : c ≡ d = cc in
              let is_cell : cell ≡ other = some_same (sym here ∙ ap (slice_get cells) (sym places.0) ∙ there) in
              subst (λ (x : Cost). Attains v (state_at other r) (Some x)) is_c
              (subst (λ (x : Cell). Attains v (state_at x r) (Some c)) is_cell
              (subst (λ (x : ℕ). Attains v (state_at cell x) (Some c)) (sym places.1) attains))
          | inr differ ↦
              sound.attained j r other d there l (sym (at_other t (8 * k + room) (8 * j + r) (Some c) differ) ∙ e)
        ]
      where
        some_same : {X : Type 0} {x y : X} → Some x ≡ Some y → x ≡ y
        some_same h = cc

    bounded_at : (j r : ℕ) (d : Cost) → r < 8 → entry (set t (8 * k + room) (Some c)) j r ≡ Some d
        → IsBounded (filled (set t (8 * k + room) (Some c))) r d
    bounded_at j r d l e =
        elim (cases_eq (8 * j + r) (8 * k + room)) as (λ w. IsBounded (filled (set t (8 * k + room) (Some c))) r d) [
          | inl same ↦
              let places = same_place j k r room l low same in
              let new : at (set t (8 * k + room) (Some c)) (8 * j + r) ≡ Some c =
              ap (at (set t (8 * k + room) (Some c))) same ∙ at_same t (8 * k + room) (Some c) set_within in
              let is_c : c ≡ d = cc in
              let is : IsBounded (filled (set t (8 * k + room) (Some c))) room c =
              record { containers = few_costs; sids = bounded.sids; hops = bounded.hops } in
              subst (λ (x : Cost). IsBounded (filled (set t (8 * k + room) (Some c))) r x) is_c
              (subst (λ (x : ℕ). IsBounded (filled (set t (8 * k + room) (Some c))) x c) (sym places.1) is)
          | inr differ ↦
              let old = sound.bounded j r d l (sym (at_other t (8 * k + room) (8 * j + r) (Some c) differ) ∙ e) in
              let more = set_filled t (8 * k + room) c set_within improves in
              let few = old.containers in
              record { containers = omega (arith, few, more); sids = old.sids; hops = old.hops }
        ]

    sound_set : IsSound v cells (set t (8 * k + room) (Some c))
    sound_set =
        record { long = length-set t (8 * k + room) (Some c) ∙ sound.long; attained = attained_at; bounded = bounded_at }

  costs_few : (t : Costs) (room : ℕ) (c : Cost) → IsSound v cells t → length cells ≤ MAX_CELLS → room < 8 → IsBounded (filled t + 1) room c
      → IsFew c
  costs_few t room c sound few low bounded =
      let many : filled t ≤ length t = count_by-le-length is_some t in
      let long = sound.long in
      let containers : c.containers ≤ 50185 = omega (arith, many, long, few, bounded.containers) in
      record {
        containers = omega (arith, containers);
        sids = omega (arith, bounded.sids, containers, low);
        hops = omega (arith, bounded.hops, containers, low);
      }

  pub sound_few : (t : Costs) → length cells ≤ MAX_CELLS → IsSound v cells t → HasFewContainers t
  sound_few t few sound i c e =
      let place : 8 * (i / 8) + i % 8 ≡ i = omega arith in
      let bound = (sound.bounded (i / 8) (i % 8) c (omega arith) (ap (at t) place ∙ e)).containers in
      let many : filled t ≤ length t = count_by-le-length is_some t in
      omega (arith, bound, many, sound.long, few)

  -- lowering a room of an edge's first cell by what is left after the edge
  module _ (are : AreCells v cells) (t : Costs) (edge : CellEdge) (stays : Bool) (room : ℕ) (o : Option ℕ) (left : ℕ)
      (is : IsCellEdge v cells edge)
      (sound : IsSound v cells t) (low : room < 8) (leaves : LeavesRoom v cells edge stays room o) (some : o ≡ Some left) where
    pub room_is : room_to v is.cell.via room (move_by edge stays) ≡ Some left
    room_is = sym (leaves is.cell is.from) ∙ some

    pub left_few : left < 8
    left_few = behind_few v is.cell.via room (move_by edge stays) left (edge_shape edge is) low room_is

    pub left_range : AreInRange t edge.to left
    left_range = edge_range t edge left sound is left_few

    pub from_within : 8 * edge.from + room < length t
    from_within =
        let w : edge.from < length cells = slice_get_within cells edge.from is.cell is.from in
        let p : 8 * edge.from + room < 8 * length cells = place_within edge.from room (length cells) w low in
        omega (arith, p, sound.long)

    pub from_few : 8 * edge.from + room < 2 ^ 64
    from_few =
        let w = from_within in
        omega (arith, w, sound.long, are.few)

    sum_bounded : (rest : Cost) → rest_at t edge.to left ≡ Some rest → IsBounded (filled t + 1) room (plus (move_cost v.sid_cost stays edge.hops) rest)
    sum_bounded rest e =
        bounded_behind (filled t) left room edge.hops stays rest is.cell.via edge is refl low room_is
        (rest_bounded t edge.to left rest sound left_few e)

    pub sum_few : (rest : Cost) → rest_at t edge.to left ≡ Some rest → IsFew (plus (move_cost v.sid_cost stays edge.hops) rest)
    sum_few rest e = costs_few t room (plus (move_cost v.sid_cost stays edge.hops) rest) sound are.few low (sum_bounded rest e)

    holds_some : (after : Costs) (rest : Cost) → rest_at t edge.to left ≡ Some rest
        → Under (entry after edge.from room) (Some (plus (move_cost v.sid_cost stays edge.hops) rest))
        → RoomHolds v (entry after edge.from room) stays edge t o
    holds_some after rest e h =
        subst (λ (p : Option ℕ). RoomHolds v (entry after edge.from room) stays edge t p) (sym some)
        (subst (λ (q : Option Cost). Under (entry after edge.from room) (offer v.sid_cost stays edge.hops q)) (sym e) h)

    lowered : (after : Costs) (rest : Cost) → rest_at t edge.to left ≡ Some rest
        → IsLowered t after (8 * edge.from + room) (plus (move_cost v.sid_cost stays edge.hops) rest)
        → RoomRelaxed v cells edge t after stays room o true
    lowered after rest e h =
        let c : Cost = plus (move_cost v.sid_cost stays edge.hops) rest in
        let i : ℕ = 8 * edge.from + room in
        let few = sum_few rest e in
        let attains = edge_attains t is.cell edge.sid edge.hops edge.to stays room left rest sound is.leads left_few room_is e in
        let is_sound = sound_set t edge.from room is.cell c sound is.from low h.improves attains (sum_bounded rest e) in
        let before : i < 8 * (edge.from + 1) = omega (arith, low) in
        let passed = set_passed t i c from_within h.improves (edge.from + 1) before few in
        let here : at (set t i (Some c)) i ≡ Some c = at_same t i (Some c) from_within in
        let under : Under (at (set t i (Some c)) i) (Some c) = subst (λ (q : Option Cost). Under q (Some c)) (sym here)
        (under_itself (Some c)) in
        subst (λ (x : Costs). RoomRelaxed v cells edge t x stays room o true) (sym h.is)
        (record { sound = is_sound; passed = passed; holds = holds_some (set t i (Some c)) rest e under })

    kept : (after : Costs) (rest : Cost) → rest_at t edge.to left ≡ Some rest
        → IsKept t after (8 * edge.from + room) (plus (move_cost v.sid_cost stays edge.hops) rest)
        → RoomRelaxed v cells edge t after stays room o false
    kept after rest e h =
        subst (λ (x : Costs). RoomRelaxed v cells edge t x stays room o false) (sym h.is)
        (record { sound = sound; passed = kept_passed (edge.from + 1) t; holds = holds_some t rest e h.under })

    pub room_relaxed : (after : Costs) (rest : Cost) (changed : Bool) → rest_at t edge.to left ≡ Some rest
        → Lowers t after (8 * edge.from + room) (plus (move_cost v.sid_cost stays edge.hops) rest) changed
        → RoomRelaxed v cells edge t after stays room o changed
    room_relaxed after rest true e h = lowered after rest e h
    room_relaxed after rest false e h = kept after rest e h
