-- A first tight move, and then the first least path, is the first least path.
use Rattle.std.proofs.Common.{◌≡◌, ℕ, ◌+◌, ◌<◌, inl, inr, Bool, true, false, List, [], ◌∷◌, map, Option, Some, None, slice_get, refl, sym, ◌∙◌, ap, subst, arith, cond}
use Rattle.std.specs.Prelude.{is_some}
use Rattle.std.proofs.lemmas.Bool.{or_left, or_right, cases_Bool}
use Rattle.std.proofs.lemmas.Option.{none-some}
use Rattle.v6_addr.specs.Address.{PrefixValue}
use Rattle.list_pack.specs.declared.types.Cost.{Cost}
use Rattle.list_pack.specs.declared.types.Leg.{Leg}
use Rattle.list_pack.specs.declared.types.PathStep.{PathStep}
use Rattle.list_pack.specs.LegsValue.{LegsValue}
use Rattle.list_pack.specs.LegsValueTerms.{KeepsLaws, comes_to}
use Rattle.list_pack.specs.Costs.{Move, plus, move_cost, room_to, edge_by, last_of, cost_of, Under}
use Rattle.list_pack.specs.CostsTerms.{nothing}
use Rattle.list_pack.specs.Paths.{cost_with}
use Rattle.list_pack.specs.Least.{IsFirstLeast, step_of, path_key, path_before}
use Rattle.list_pack.proofs.PublicLaws.{edge_made, last_made, attained}
use Rattle.list_encoder.specs.declared.cells.Cell.{Cell}
use Rattle.list_encoder.specs.declared.cell_table.CellEdge.{CellEdge}
use Rattle.list_encoder.specs.declared.picks.Pick.{Pick}
use Rattle.list_encoder.specs.declared.picks.CostedState.{CostedState}
use Rattle.list_encoder.specs.Cells.{cell_at, state_at, AreCells}
use Rattle.list_encoder.specs.CellTable.{Costs, rest_at, LeadsTo, IsCellEdge, move_by, AreLeast}
use Rattle.list_encoder.specs.Picks.{IsCostedState, IsTight, IsPick, Covers, edge_step}
use Rattle.list_pack.proofs.ListOrders.{lex_itself, lex_not_both, lex_same, lex_longer, lex_after}
use Rattle.list_encoder.proofs.SearchCelling.{some_same}
use Rattle.list_encoder.proofs.SearchTables.{plus_nothing}
use Rattle.list_encoder.proofs.Heading.{Behind, head_of}

turn_same : (a b : Bool) → cond {A = ℕ} a 0 1 ≡ cond b 0 1 → a ≡ b
turn_same true true e = refl
turn_same true false e = absurd (omega (arith, e))
turn_same false true e = absurd (omega (arith, e))
turn_same false false e = refl

-- two steps of one key are one
key_parts : (p q : PathStep) → path_key (p ∷ []) ≡ path_key (q ∷ []) → (p.prefix ≡ q.prefix) × (p.stays ≡ q.stays)
key_parts p q e =
    let value : p.prefix.value ≡ q.prefix.value = cc in
    let len : p.prefix.len ≡ q.prefix.len = cc in
    let turn : cond {A = ℕ} p.stays 0 1 ≡ cond q.stays 0 1 = cc in
    let step : (x : ℕ) → PrefixValue = λ x. record { value = x; len = p.prefix.len } in
    (ap step value ∙ ap (λ (y : ℕ). record { value = q.prefix.value; len = y }) len, turn_same p.stays q.stays turn)

-- a path is not before one whose first step is not after its own, unless the steps are one and the rest is before
pub not_before : (p q : PathStep) (ps qs : List PathStep) → path_before (p ∷ []) (q ∷ []) ≡ false
    → (p.prefix ≡ q.prefix → p.stays ≡ q.stays → path_before ps qs ≡ false) → path_before (p ∷ ps) (q ∷ qs) ≡ false
not_before p q ps qs h rest =
    elim (cases_Bool (path_before (q ∷ []) (p ∷ []))) as (λ w. path_before (p ∷ ps) (q ∷ qs) ≡ false) [
      | inl less ↦
          lex_not_both (path_key (q ∷ qs)) (path_key (p ∷ ps))
          (lex_longer (path_key (q ∷ [])) (path_key (p ∷ [])) (path_key qs) (path_key ps) refl less)
      | inr also ↦
          let e = lex_same (path_key (p ∷ [])) (path_key (q ∷ [])) h also in
          let parts = key_parts p q e in
          lex_after (path_key (p ∷ [])) (path_key (q ∷ [])) (path_key ps) (path_key qs) e (rest parts.0 parts.1)
    ]

-- edges from one cell
same_cell : (v : LegsValue) (cells : List Cell) (a b : CellEdge) (is_a : IsCellEdge v cells a) (is_b : IsCellEdge v cells b) → a.from
    ≡ b.from
    → is_a.cell ≡ is_b.cell
same_cell v cells a b is_a is_b e = some_same is_a.cell is_b.cell (sym is_a.from ∙ ap (slice_get cells) e ∙ is_b.from)

comes_by : (v : LegsValue) (cells : List Cell) (cell : Cell) (sid hops : ℕ) (to : Option ℕ) → LeadsTo v cells cell sid hops to
    → comes_to v cell.position cell.via sid ≡ true
comes_by v cells cell sid hops None h =
    or_right (is_some (v.leg cell.position cell.via sid)) (is_some (v.finish cell.position cell.via sid)) (ap is_some h)
comes_by v cells cell sid hops (Some to) h =
    or_left (is_some (v.leg cell.position cell.via sid)) (is_some (v.finish cell.position cell.via sid)) (ap is_some h.2)

pub sids_same : (v : LegsValue) → KeepsLaws v → (cells : List Cell) (a b : CellEdge) → IsCellEdge v cells a → IsCellEdge v cells b → a.from
    ≡ b.from
    → (v.shape a.sid).prefix ≡ (v.shape b.sid).prefix → a.sid ≡ b.sid
sids_same v laws cells a b is_a is_b from e =
    let cell = same_cell v cells a b is_a is_b from in
    let one = comes_by v cells is_a.cell a.sid a.hops a.to is_a.leads in
    let two = comes_by v cells is_b.cell b.sid b.hops b.to is_b.leads in
    laws.one_of_prefix is_a.cell.position is_a.cell.via a.sid b.sid one
    (subst (λ (c : Cell). comes_to v c.position c.via b.sid ≡ true) (sym cell) two) e

-- a finish and a leg of one SID are not both tight
not_both_tight : (v : LegsValue) (cells : List Cell) → KeepsLaws v → (cell : Cell) (sid a b to : ℕ) (stays : Bool) (rest c : Cost)
    → v.finish cell.position cell.via sid ≡ Some a → LeadsTo v cells cell sid b (Some to) → plus (move_cost v.sid_cost stays a) nothing ≡ c
    → plus (move_cost v.sid_cost stays b) rest ≡ c → ⊥
not_both_tight v cells laws cell sid a b to stays rest c finish leg e f =
    let above : a < b = laws.above_finish cell.position cell.via sid (record { to = leg.0; hops = b }) a leg.2 finish in
    let one : a + 0 ≡ c.hops = ap (λ (x : Cost). x.hops) e in
    let two : b + rest.hops ≡ c.hops = ap (λ (x : Cost). x.hops) f in
    absurd (omega (arith, above, one, two))

-- the move that a pick stands for
abbrev pub pick_move : (pick : Pick) (sid : ℕ) → Move
pick_move pick sid = record { stays = pick.step.stays; sid = sid }

-- what is after a pick: nothing, or the first least path from there
abbrev pub FirstBehind : LegsValue → List Cell → Pick → List Move → Option ℕ → Type 0
FirstBehind v cells pick rest None = rest ≡ []
FirstBehind v cells pick rest (Some j) = (cell : Cell) × (slice_get cells j ≡ Some cell) × IsFirstLeast v (state_at cell pick.room)
    pick.rest rest

module _ (v : LegsValue) (laws : KeepsLaws v) (cells : List Cell) (are : AreCells v cells) (t : Costs) (least : AreLeast v cells t)
    (costed_state : CostedState)
    (is : IsCostedState cells t costed_state) (pick : Pick) (picked : IsPick v cells t costed_state pick)
    (covers : (edge : CellEdge) → edge.from ≡ costed_state.place → IsCellEdge v cells edge
    → (stays : Bool) (left : ℕ) (rest : Cost) → IsTight v t costed_state edge stays left rest → Covers (Some pick) (edge_step v edge stays)) where
  pick_step : pick.step ≡ edge_step v picked.edge pick.step.stays
  pick_step = ap (λ (x : PrefixValue). let s : PathStep = record { stays = pick.step.stays; prefix = x } in s) picked.prefix_is

  -- what an edge leads to, from the picked edge's cell
  leads_here : (edge : CellEdge) (to : Option ℕ) (is_edge : IsCellEdge v cells edge) → edge.from ≡ costed_state.place → edge.to ≡ to
      → LeadsTo v cells picked.is_edge.cell edge.sid edge.hops to
  leads_here edge to is_edge from e =
      subst (λ (c : Cell). LeadsTo v cells c edge.sid edge.hops to)
      (same_cell v cells edge picked.edge is_edge picked.is_edge (from ∙ sym picked.from))
      (subst (λ (o : Option ℕ). LeadsTo v cells is_edge.cell edge.sid edge.hops o) e is_edge.leads)

  -- two tight moves of one SID leave the same room
  lefts_same : (a : CellEdge) (stays : Bool) (left : ℕ) (d : Cost) → a.sid ≡ picked.edge.sid → stays ≡ pick.step.stays
      → IsTight v t costed_state a stays left d
      → left ≡ pick.room
  lefts_same a stays left d sid same tight =
      some_same left pick.room (sym tight.room_is
      ∙ ap (λ (n : ℕ). room_to v costed_state.cell.via costed_state.room (record { stays = stays; sid = n })) sid
      ∙ ap (λ (b : Bool). room_to v costed_state.cell.via costed_state.room (move_by picked.edge b)) same ∙ picked.tight.room_is)

  end_nothing : (a : CellEdge) (stays : Bool) (left : ℕ) (d : Cost) → a.to ≡ None → IsTight v t costed_state a stays left d
      → plus (move_cost v.sid_cost stays a.hops) nothing ≡ costed_state.cost
  end_nothing a stays left d e tight =
      let same : nothing ≡ d = some_same nothing d (sym (ap (λ (o : Option ℕ). rest_at t o left) e) ∙ tight.rest_is) in
      ap (plus (move_cost v.sid_cost stays a.hops)) same ∙ tight.cost_is

  picked_cost : (stays : Bool) → stays ≡ pick.step.stays → plus (move_cost v.sid_cost stays picked.edge.hops) pick.rest ≡ costed_state.cost
  picked_cost stays same = ap (λ (b : Bool). plus (move_cost v.sid_cost b picked.edge.hops) pick.rest) same ∙ picked.tight.cost_is

  -- two legs of one SID from one cell
  legs_same : (edge : CellEdge) (i j : ℕ) (a b : Cell) (is_edge : IsCellEdge v cells edge) → edge.from ≡ costed_state.place → edge.to ≡ Some i
      → picked.edge.to ≡ Some j
      → edge.sid ≡ picked.edge.sid → slice_get cells i ≡ Some a → slice_get cells j ≡ Some b → (a ≡ b) × (edge.hops ≡ picked.edge.hops)
  legs_same edge i j a b is_edge from e f sid at_a at_b =
      let leads = leads_here edge (Some i) is_edge from e in
      let also = leads_here picked.edge (Some j) picked.is_edge picked.from f in
      let first : Leg = record { to = leads.0; hops = edge.hops } in
      let second : Leg = record { to = also.0; hops = picked.edge.hops } in
      let leg : first ≡ second =
      some_same first second (sym leads.2
      ∙ ap (λ (n : ℕ). v.leg picked.is_edge.cell.position picked.is_edge.cell.via n) sid ∙ also.2) in
      let is_a : a ≡ cell_at leads.0 edge.sid = some_same a (cell_at leads.0 edge.sid) (sym at_a ∙ leads.1) in
      let is_b : cell_at also.0 picked.edge.sid ≡ b = some_same (cell_at also.0 picked.edge.sid) b (sym also.1 ∙ at_b) in
      let places : cell_at leads.0 edge.sid ≡ cell_at also.0 picked.edge.sid =
      ap (λ (l : Leg). cell_at l.to edge.sid) leg ∙ ap (cell_at also.0) sid in
      (is_a ∙ places ∙ is_b, ap (λ (l : Leg). l.hops) leg)

  compare_legs : (edge : CellEdge) (stays : Bool) (left : ℕ) (d : Cost) (more rest : List Move) (i j : ℕ) → edge.to ≡ Some i
      → picked.edge.to ≡ Some j
      → edge.from ≡ costed_state.place → IsCellEdge v cells edge → edge.sid ≡ picked.edge.sid → stays ≡ pick.step.stays
      → IsTight v t costed_state edge stays left d
      → Behind v cells left more d (Some i) → FirstBehind v cells pick rest (Some j)
      → path_before (map (step_of v) more) (map (step_of v) rest) ≡ false
  compare_legs edge stays left d more rest i j e f from is_edge sid same tight behind first =
      let both = legs_same edge i j behind.0 first.0 is_edge from e f sid behind.1 first.1 in
      let room = lefts_same edge stays left d sid same tight in
      let cost : plus (move_cost v.sid_cost stays edge.hops) d ≡ plus (move_cost v.sid_cost stays picked.edge.hops) pick.rest = tight.cost_is
      ∙ sym (picked_cost stays same) in
      let containers = ap (λ (x : Cost). x.containers) cost in
      let sids = ap (λ (x : Cost). x.sids) cost in
      let hops = ap (λ (x : Cost). x.hops) cost in
      let c : d.containers ≡ pick.rest.containers = omega (arith, containers) in
      let s : d.sids ≡ pick.rest.sids = omega (arith, sids) in
      let h : d.hops ≡ pick.rest.hops = omega (arith, hops, both.1) in
      let is_rest : d ≡ pick.rest =
      ap (λ (x : ℕ). cost_with x d.sids d.hops) c ∙ ap (λ (y : ℕ). cost_with pick.rest.containers y d.hops) s
      ∙ ap (λ (z : ℕ). cost_with pick.rest.containers pick.rest.sids z) h in
      let its : cost_of v (state_at first.0 pick.room) more ≡ Some pick.rest =
      ap (λ (r : ℕ). cost_of v (state_at first.0 r) more) (sym room) ∙ ap (λ (x : Cell). cost_of v (state_at x left) more) (sym both.0)
      ∙ behind.2
      ∙ ap (λ (x : Cost). Some x) is_rest in
      first.2.first more its

  compare : (edge : CellEdge) (stays : Bool) (left : ℕ) (d : Cost) (more rest : List Move) (to into : Option ℕ) → edge.to ≡ to
      → picked.edge.to ≡ into
      → edge.from ≡ costed_state.place → IsCellEdge v cells edge → edge.sid ≡ picked.edge.sid → stays ≡ pick.step.stays
      → IsTight v t costed_state edge stays left d
      → Behind v cells left more d to → FirstBehind v cells pick rest into
      → path_before (map (step_of v) more) (map (step_of v) rest) ≡ false
  compare edge stays left d more rest None None e f from is_edge sid same tight behind first =
      let none : more ≡ rest = behind ∙ sym first in
      ap (λ (ms : List Move). path_before (map (step_of v) ms) (map (step_of v) rest)) none ∙ lex_itself (path_key (map (step_of v) rest))
  compare edge stays left d more rest None (Some j) e f from is_edge sid same tight behind first =
      let finish = leads_here edge None is_edge from e in
      let leg = subst (λ (n : ℕ). LeadsTo v cells picked.is_edge.cell n picked.edge.hops (Some j)) (sym sid)
      (leads_here picked.edge (Some j) picked.is_edge picked.from f) in
      absurd (not_both_tight v cells laws picked.is_edge.cell edge.sid edge.hops picked.edge.hops j stays pick.rest costed_state.cost finish leg
      (end_nothing edge stays left d e tight) (picked_cost stays same))
  compare edge stays left d more rest (Some i) None e f from is_edge sid same tight behind first =
      let finish = leads_here picked.edge None picked.is_edge picked.from f in
      let leg = subst (λ (n : ℕ). LeadsTo v cells picked.is_edge.cell n edge.hops (Some i)) sid (leads_here edge (Some i) is_edge from e) in
      let nothing_left = end_nothing picked.edge pick.step.stays pick.room pick.rest f picked.tight in
      absurd (not_both_tight v cells laws picked.is_edge.cell picked.edge.sid picked.edge.hops edge.hops i pick.step.stays d costed_state.cost
      finish leg
      nothing_left (ap (λ (b : Bool). plus (move_cost v.sid_cost b edge.hops) d) (sym same) ∙ tight.cost_is))
  compare edge stays left d more rest (Some i) (Some j) e f from is_edge sid same tight behind first =
      compare_legs edge stays left d more rest i j e f from is_edge sid same tight behind first

  -- no path of the least cost comes before
  first_of_all : (rest other : List Move) → FirstBehind v cells pick rest picked.edge.to
      → cost_of v (state_at costed_state.cell costed_state.room) other ≡ Some costed_state.cost
      → path_before (map (step_of v) other) (pick.step ∷ map (step_of v) rest) ≡ false
  first_of_all rest [] first h = absurd (none-some costed_state.cost h)
  first_of_all rest (n ∷ more) first h =
      let head = head_of v laws cells are t least costed_state n more is h in
      let its : step_of v n ≡ edge_step v head.edge n.stays =
      ap (λ (m : ℕ). let s : PathStep = record { stays = n.stays; prefix = (v.shape m).prefix } in s) (sym head.sid) in
      let after : path_before (step_of v n ∷ []) (pick.step ∷ []) ≡ false =
      ap (λ (s : PathStep). path_before (s ∷ []) (pick.step ∷ [])) its
      ∙ covers head.edge head.from head.is_edge n.stays head.left head.rest head.tight in
      not_before (step_of v n) pick.step (map (step_of v) more) (map (step_of v) rest) after (λ prefix stays.
      let e : (v.shape head.edge.sid).prefix ≡ (v.shape picked.edge.sid).prefix =
      ap (λ (s : PathStep). s.prefix) (sym its) ∙ prefix ∙ picked.prefix_is in
      let sid = sids_same v laws cells head.edge picked.edge head.is_edge picked.is_edge (head.from ∙ sym picked.from) e in
      compare head.edge n.stays head.left head.rest more rest head.edge.to picked.edge.to refl refl head.from head.is_edge sid stays
      head.tight
      head.behind first)

  cost_behind : (rest : List Move) (to : Option ℕ) → picked.edge.to ≡ to → FirstBehind v cells pick rest to
      → cost_of v (state_at costed_state.cell costed_state.room) (pick_move pick picked.edge.sid ∷ rest) ≡ Some costed_state.cost
  cost_behind rest None e first =
      let m : Move = pick_move pick picked.edge.sid in
      let finish : v.finish picked.is_edge.cell.position picked.is_edge.cell.via picked.edge.sid ≡ Some picked.edge.hops =
      leads_here picked.edge None picked.is_edge picked.from e in
      let here : picked.is_edge.cell ≡ costed_state.cell =
      some_same picked.is_edge.cell costed_state.cell (sym picked.is_edge.from ∙ ap (slice_get cells) picked.from ∙ is.here) in
      let its : v.finish costed_state.cell.position costed_state.cell.via picked.edge.sid ≡ Some picked.edge.hops =
      subst (λ (c : Cell). v.finish c.position c.via picked.edge.sid ≡ Some picked.edge.hops) here finish in
      let last : last_of v (state_at costed_state.cell costed_state.room) m ≡ Some (move_cost v.sid_cost pick.step.stays picked.edge.hops) =
      last_made v (state_at costed_state.cell costed_state.room) m pick.room picked.edge.hops picked.tight.room_is its in
      ap (λ (ms : List Move). cost_of v (state_at costed_state.cell costed_state.room) (m ∷ ms)) first ∙ last
      ∙ ap (λ (c : Cost). Some c) (sym (plus_nothing (move_cost v.sid_cost pick.step.stays picked.edge.hops))
      ∙ end_nothing picked.edge pick.step.stays pick.room pick.rest e picked.tight)
  cost_behind rest (Some j) e first =
      let m : Move = pick_move pick picked.edge.sid in
      let leads = leads_here picked.edge (Some j) picked.is_edge picked.from e in
      let here : picked.is_edge.cell ≡ costed_state.cell =
      some_same picked.is_edge.cell costed_state.cell (sym picked.is_edge.from ∙ ap (slice_get cells) picked.from ∙ is.here) in
      let leg : Leg = record { to = leads.0; hops = picked.edge.hops } in
      let its : v.leg costed_state.cell.position costed_state.cell.via picked.edge.sid ≡ Some leg =
      subst (λ (c : Cell). v.leg c.position c.via picked.edge.sid ≡ Some leg) here leads.2 in
      let edge_fact = edge_made v (state_at costed_state.cell costed_state.room) m pick.room leg picked.tight.room_is its in
      let there : cell_at leads.0 picked.edge.sid ≡ first.0 = some_same (cell_at leads.0 picked.edge.sid) first.0 (sym leads.1 ∙ first.1) in
      let behind : cost_of v (state_at (cell_at leads.0 picked.edge.sid) pick.room) rest ≡ Some pick.rest =
      ap (λ (c : Cell). cost_of v (state_at c pick.room) rest) there ∙ first.2.cost in
      attained v (state_at costed_state.cell costed_state.room) m (edge_by v m pick.room leg) rest pick.rest edge_fact behind
      ∙ ap (λ (c : Cost). Some c) picked.tight.cost_is

  pub first_least : (rest : List Move) → FirstBehind v cells pick rest picked.edge.to
      → IsFirstLeast v (state_at costed_state.cell costed_state.room) costed_state.cost (pick_move pick picked.edge.sid ∷ rest)
  first_least rest first =
      record {
        cost = cost_behind rest picked.edge.to refl first;
        least = λ other.
            subst (λ (o : Option Cost). Under o (cost_of v (state_at costed_state.cell costed_state.room) other)) is.is
            ((least costed_state.place costed_state.room costed_state.cell is.here is.few).least other);
        first = λ other h.
            subst (λ (s : PathStep). path_before (map (step_of v) other) (s ∷ map (step_of v) rest) ≡ false) pick_step
            (first_of_all rest other first h);
      }
