-- A position whose edges hold is settled, and positions are from the last to the first.
use Rattle.std.proofs.Common.{◌≡◌, ℕ, zero, suc, ◌+◌, ◌*◌, ◌<◌, ◌≤◌, inl, inr, List, length, get_or, replicate, Option, Some, None, slice_get, Contains, refl, sym, ◌∙◌, ap, subst, arith}
use Rattle.std.specs.Option.{option_map}
use Rattle.std.proofs.lemmas.Bool.{cases_lt}
use Rattle.std.proofs.lemmas.Option.{none-some, slice_get-get_or, slice_get_within}
use Rattle.std.proofs.lemmas.List.{length-replicate}
use Rattle.list_pack.specs.declared.types.Cost.{Cost}
use Rattle.list_pack.specs.declared.types.Shape.{Shape}
use Rattle.list_pack.specs.LegsValue.{LegsValue}
use Rattle.list_pack.specs.LegsValueTerms.{KeepsLaws}
use Rattle.list_pack.specs.Costs.{Under}
use Rattle.list_pack.proofs.PublicLaws.{under_trans}
use Rattle.list_encoder.specs.declared.cells.Cell.{Cell}
use Rattle.list_encoder.specs.declared.cell_table.CellEdge.{CellEdge}
use Rattle.list_encoder.specs.Cells.{cell_at, IsCellBy, AreCells, IsFirst}
use Rattle.list_encoder.specs.CellTable.{Costs, at, entry, rest_at, offer, LeadsTo, IsCellEdge, IsSound, Holds, AreCellEdges, Gathers, Settled, IsOnward, HoldFrom, IsShapeOf}
use Rattle.list_encoder.specs.Grouped.{Groups, AreGrouped}
use Rattle.list_encoder.specs.Settling.{LeadToCells, SettlesAll}
use Rattle.list_encoder.proofs.SearchCelling.{some_same, contains_at, cell_read}
use Rattle.list_encoder.proofs.RelaxedRooms.{holds_later, rest_end}
use Rattle.list_encoder.proofs.Relaxing.{leg_stays, at_near, at_far}

-- lower costs of the states of a position leave what was gathered
pub gathers_later : (v : LegsValue) (cells : List Cell) (first later : ℕ) (t0 t t1 : Costs) (edges : List CellEdge)
    → Gathers v cells first later t0 t edges → IsSound v cells t1 → ((i : ℕ) → Under (at t1 i) (at t i))
    → ((i : ℕ) → 8 * later ≤ i → at t1 i ≡ at t i) → Gathers v cells first later t0 t1 edges
gathers_later v cells first later t0 t t1 edges g sound falls past =
    record {
      sound = sound;
      falls = λ i. under_trans (at t1 i) (at t i) (at t0 i) (falls i) (g.falls i);
      above = λ i h. past i h ∙ g.above i h;
      ends = λ k h l edge f e is. holds_later v cells edge t t t1 (g.ends k h l edge f e is) falls (λ left. rest_end t t1 edge.to left e);
      legs = λ k h l edge to f e m n is.
          leg_stays v cells k later to t t1 edges edges edge l falls past (λ y c. c) e (g.legs k h l edge to f e m n is);
      are = g.are;
    }

-- where the edges within a position hold, all its edges do
edge_settles : (v : LegsValue) (cells : List Cell) (first later : ℕ) (t0 t : Costs) (edges : List CellEdge)
    → Gathers v cells first later t0 t edges
    → ((edge : CellEdge) (to : ℕ) → Contains edges edge → edge.to ≡ Some to → to < later → Holds v cells t edge)
    → (edge : CellEdge) → first ≤ edge.from → edge.from < later → IsCellEdge v cells edge
    → (to : Option ℕ) → edge.to ≡ to → IsOnward first to → Holds v cells t edge
edge_settles v cells first later t0 t edges g near-holds edge h l is None e on = g.ends edge.from h l edge refl e is
edge_settles v cells first later t0 t edges g near-holds edge h l is (Some to) e on =
    let leads = subst (λ (o : Option ℕ). LeadsTo v cells is.cell edge.sid edge.hops o) e is.leads in
    let w = slice_get_within cells to (cell_at leads.0 edge.sid) leads.1 in
    let known = g.legs edge.from h l edge to refl e on w is in
    elim (cases_lt to later) as (λ w. Holds v cells t edge) [
      | inl near ↦ near-holds edge to (at_near (Contains edges edge) (Holds v cells t edge) to later near known) e near
      | inr far ↦ at_far (Contains edges edge) (Holds v cells t edge) to later far known
    ]

settles_by : (v : LegsValue) (cells : List Cell) (first later : ℕ) (t0 t : Costs) (edges : List CellEdge)
    → Gathers v cells first later t0 t edges
    → ((edge : CellEdge) (to : ℕ) → Contains edges edge → edge.to ≡ Some to → to < later → Holds v cells t edge)
    → Settled v cells first later t0 t
settles_by v cells first later t0 t edges g near-holds =
    record {
      sound = g.sound;
      above = g.above;
      holds = λ edge h l is on. edge_settles v cells first later t0 t edges g near-holds edge h l is edge.to refl on;
    }

-- without edges within it a position is settled by what was gathered
pub settles_bare : (v : LegsValue) (cells : List Cell) (first later : ℕ) (t0 t : Costs) (edges : List CellEdge) → length edges ≡ 0
    → Gathers v cells first later t0 t edges → Settled v cells first later t0 t
settles_bare v cells first later t0 t edges none g =
    settles_by v cells first later t0 t edges g (λ edge to among e near. absurd (omega (arith, among.1, none)))

pub settles : (v : LegsValue) (cells : List Cell) (first later : ℕ) (t0 t t1 : Costs) (edges : List CellEdge) (groups : Groups)
    → Gathers v cells first later t0 t edges → AreGrouped edges later groups → SettlesAll v cells groups t t1
    → Settled v cells first later t0 t1
settles v cells first later t0 t t1 edges groups g grouped all =
    let long = grouped.long in
    let done = gathers_later v cells first later t0 t t1 edges g all.sound all.falls (λ i h. all.past i (omega (arith, h, long))) in
    settles_by v cells first later t0 t1 edges done (λ edge to among e near. all.holds to edge (grouped.each to edge among e near))

-- the edges into a cell start from cells that have a group
pub lead_to_cells : (v : LegsValue) (cells : List Cell) (later : ℕ) (edges : List CellEdge) (groups : Groups)
    → AreCellEdges v cells later edges
    → AreGrouped edges later groups → LeadToCells v cells groups
lead_to_cells v cells later edges groups are grouped to edge is =
    let it = grouped.only to edge is in
    let edge_fact = are edge it.0 in
    let long = grouped.long in
    (edge_fact.0, it.1, omega (arith, edge_fact.1, long))

-- edges lead to their own position or a later one
onward_by : (v : LegsValue) → KeepsLaws v → (cells : List Cell) (position first : ℕ) → IsFirst cells position first → (cell : Cell)
    → position ≤ cell.position
    → (sid hops : ℕ) (to : Option ℕ) → LeadsTo v cells cell sid hops to → IsOnward first to
onward_by v laws cells position first is cell h sid hops None leads = tt
onward_by v laws cells position first is cell h sid hops (Some to) leads =
    let forward = (laws.leg cell.position cell.via sid (record { to = leads.0; hops = hops }) leads.2).forward in
    elim (cases_lt to first) as (λ w. first ≤ to) [
      | inl less ↦
          let before = is.earlier to (cell_at leads.0 sid) less leads.1 in
          absurd (omega (arith, before, forward, h))
      | inr more ↦ more
    ]

pub onward : (v : LegsValue) → KeepsLaws v → (cells : List Cell) (position first : ℕ) → IsFirst cells position first → (edge : CellEdge)
    → first ≤ edge.from
    → IsCellEdge v cells edge → IsOnward first edge.to
onward v laws cells position first is edge h is_edge =
    onward_by v laws cells position first is is_edge.cell (is.later edge.from is_edge.cell h is_edge.from) edge.sid edge.hops edge.to
    is_edge.leads

-- the costs of the positions from one on are settled
pub record Tabled (v : LegsValue) (cells : List Cell) (position later : ℕ) (t : Costs) : Type 0 where
  pub sound : IsSound v cells t
  pub first : IsFirst cells position later
  pub hold : HoldFrom v cells t later

rest_onward : (later : ℕ) (a b : Costs) (to : Option ℕ) (left : ℕ) → ((i : ℕ) → 8 * later ≤ i → at b i ≡ at a i) → IsOnward later to
    → rest_at b to left ≡ rest_at a to left
rest_onward later a b None left above on = refl
rest_onward later a b (Some j) left above on = above (8 * j + left) (omega (arith, on))

-- what holds of an edge from a later position stays so
later_stays : (v : LegsValue) (cells : List Cell) (later : ℕ) (a b : Costs) (edge : CellEdge) → later ≤ edge.from → IsOnward later edge.to
    → ((i : ℕ) → 8 * later ≤ i → at b i ≡ at a i) → Holds v cells a edge → Holds v cells b edge
later_stays v cells later a b edge h on above holds cell stays room left e l r =
    let here : entry b edge.from room ≡ entry a edge.from room = above (8 * edge.from + room) (omega (arith, h)) in
    let there = rest_onward later a b edge.to left above on in
    subst (λ (o : Option Cost). Under o (offer v.sid_cost stays edge.hops (rest_at b edge.to left))) (sym here)
    (subst (λ (o : Option Cost). Under (entry a edge.from room) (offer v.sid_cost stays edge.hops o)) (sym there) (holds cell stays room left e l r))

pub tabled_more : (v : LegsValue) → KeepsLaws v → (cells : List Cell) (p q first later : ℕ) (t t1 : Costs) → IsFirst cells q first
    → Tabled v cells p later t → Settled v cells first later t t1 → Tabled v cells q first t1
tabled_more v laws cells p q first later t t1 is so settled =
    record {
      sound = settled.sound;
      first = is;
      hold = λ edge h is_edge.
          elim (cases_lt edge.from later) as (λ w. Holds v cells t1 edge) [
            | inl less ↦ settled.holds edge h less is_edge (onward v laws cells q first is edge h is_edge)
            | inr more ↦
                later_stays v cells later t t1 edge more (onward v laws cells p later so.first edge more is_edge) settled.above
                (so.hold edge more is_edge)
          ];
    }

at_empty : (n i : ℕ) → at (replicate n None) i ≡ None
at_empty zero i = refl
at_empty (suc n) zero = refl
at_empty (suc n) (suc i) = at_empty n i

pub empty_sound : (v : LegsValue) (cells : List Cell) → IsSound v cells (replicate (8 * length cells) None)
empty_sound v cells =
    record {
      long = length-replicate (8 * length cells) None;
      attained = λ k room cell c here h e. absurd (none-some c (sym (at_empty (8 * length cells) (8 * k + room)) ∙ e));
      bounded = λ k room c h e. absurd (none-some c (sym (at_empty (8 * length cells) (8 * k + room)) ∙ e));
    }

within_steps : (v : LegsValue) (position : ℕ) (via : Option ℕ) → IsCellBy v position via → position ≤ v.steps
within_steps v position None is = omega (arith, is)
within_steps v position (Some n) is = is.0

pub tabled_none : (v : LegsValue) (cells : List Cell) (p later : ℕ) (t : Costs) → AreCells v cells → p ≡ v.steps + 1
    → later ≡ length cells
    → t ≡ replicate (8 * length cells) None → Tabled v cells p later t
tabled_none v cells p later t are e len is =
    record {
      sound = subst (λ (s : Costs). IsSound v cells s) (sym is) (empty_sound v cells);
      first =
          record {
            within = omega (arith, len);
            earlier = λ j cell h at. let w = within_steps v cell.position cell.via (are.real j cell at) in omega (arith, w, e);
            later = λ j cell h at. let w = slice_get_within cells j cell at in absurd (omega (arith, h, w, len));
          };
      hold = λ edge h is_edge. let w = slice_get_within cells edge.from is_edge.cell is_edge.from in absurd (omega (arith, h, w, len));
    }

-- at position 0 all edges hold
pub tabled_all : (v : LegsValue) (cells : List Cell) (p later : ℕ) (t : Costs) → p ≡ 0 → Tabled v cells p later t → HoldFrom v cells t 0
tabled_all v cells p later t e so edge h is_edge =
    elim (cases_lt edge.from later) as (λ w. Holds v cells t edge) [
      | inl less ↦ let before = so.first.earlier edge.from is_edge.cell less is_edge.from in absurd (omega (arith, before, e))
      | inr more ↦ so.hold edge more is_edge
    ]

pub edge_read : (edges : List CellEdge) (k : ℕ) → k < length edges
    → slice_get edges k ≡ Some (get_or edges k (record { from = 0; to = None; sid = 0; hops = 0 }))
edge_read edges k h = slice_get-get_or edges k (record { from = 0; to = None; sid = 0; hops = 0 }) h

pub edge_among : (edges : List CellEdge) (k : ℕ) → k < length edges
    → Contains edges (get_or edges k (record { from = 0; to = None; sid = 0; hops = 0 }))
edge_among edges k h = contains_at edges (get_or edges k (record { from = 0; to = None; sid = 0; hops = 0 })) k (edge_read edges k h)

pub shape_read : (v : LegsValue) (cells : List Cell) (k : ℕ) (shape : Option Shape) → k < length cells
    → shape ≡ option_map v.shape (get_or cells k (record { position = 0; via = None })).via → IsShapeOf v cells k shape
shape_read v cells k shape h e cell here =
    let same : get_or cells k (record { position = 0; via = None }) ≡ cell =
    some_same (get_or cells k (record { position = 0; via = None })) cell (sym (cell_read cells k h) ∙ here) in
    e ∙ ap (λ (c : Cell). option_map v.shape c.via) same

pub first_order : (cells : List Cell) (q p first later : ℕ) → q ≤ p → IsFirst cells q first → IsFirst cells p later → first ≤ later
first_order cells q p first later h is_first is_later =
    elim (cases_lt later first) as (λ w. first ≤ later) [
      | inl less ↦
          let w : later < length cells = omega (arith, less, is_first.within) in
          let here = cell_read cells later w in
          let before = is_first.earlier later (get_or cells later (record { position = 0; via = None })) less here in
          let behind = is_later.later later (get_or cells later (record { position = 0; via = None })) (omega arith) here in
          absurd (omega (arith, before, behind, h))
      | inr more ↦ more
    ]
