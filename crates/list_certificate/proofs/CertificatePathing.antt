-- Where the lines of a path lead, and what they cost.
use Rattle.std.proofs.Common.{◌≡◌, ℕ, zero, suc, ◌+◌, ◌*◌, ◌<◌, ◌≤◌, inl, inr, Bool, true, false, List, [], ◌∷◌, ◌++◌, map, length, take, drop, Option, Some, None, slice_get, Contains, append_assoc, refl, sym, ◌∙◌, ap, subst, arith}
use Rattle.std.specs.Option.{option_map}
use Rattle.std.proofs.lemmas.Bool.{cases_lt}
use Rattle.std.proofs.lemmas.Option.{none-some, same_Some}
use Rattle.list_pack.specs.declared.types.Cost.{Cost}
use Rattle.list_pack.specs.declared.types.State.{State}
use Rattle.list_pack.specs.declared.types.PathStep.{PathStep}
use Rattle.list_pack.specs.declared.types.Leg.{Leg}
use Rattle.list_pack.specs.LegsValue.{LegsValue}
use Rattle.list_pack.specs.LegsValueTerms.{KeepsLaws}
use Rattle.list_pack.specs.Costs.{Move, Edge, plus, move_cost, room_of, edge_by, edge_of, last_of, behind, cost_of, start, IsState}
use Rattle.list_pack.specs.Paths.{cost_with}
use Rattle.list_pack.specs.Least.{step_of}
use Rattle.list_pack.proofs.PublicLaws.{edge_parts, edge_made, last_parts, last_made}
use Rattle.list_pack.proofs.Costing.{edge_state}
use Rattle.list_certificate.specs.declared.certificate_types.PathLine.{PathLine}
use Rattle.list_certificate.specs.declared.path_lines.Reached.{Reached}
use Rattle.list_certificate.specs.declared.path_lines.Spent.{Spent}
use Rattle.list_certificate.specs.Verdicts.{GoesAlong, Leads, IsAstray, steps_of, BreaksAt, PathCosts}
use Rattle.list_certificate.specs.Tests.{edge_value, IsEdgeOf, IsEdgeTo, IsEdgeBy, IsLastBy, IsLastOf, IsSmall, Run, spent_value, Adds, move_of}
use Rattle.list_certificate.proofs.MovesPassing.{place_in}

cost_one : (sids : ℕ) (stays : Bool) (hops : ℕ) → (move_cost sids stays hops).containers ≤ 1
cost_one sids true hops = omega arith
cost_one sids false hops = omega arith

-- what a move costs is small
cost_small : (v : LegsValue) → KeepsLaws v → (stays : Bool) (hops : ℕ) (cost : Cost) → hops ≤ 1000 → cost ≡ move_cost v.sid_cost stays hops
    → IsSmall cost
cost_small v laws stays hops cost few is =
    subst IsSmall (sym is) (record { containers = cost_one v.sid_cost stays hops; sids = laws.sid_cost; hops = few })

-- a move that was found
pub edge_stands : (v : LegsValue) → KeepsLaws v → (s : State) (step : PathStep) (to n room : ℕ) (leg : Leg) (cost : Cost) → IsState v s
    → (v.shape n).prefix ≡ step.prefix
    → v.leg s.position s.via n ≡ Some leg → leg.to ≡ to → room_of v s (move_of n step.stays) ≡ Some room
    → cost ≡ move_cost v.sid_cost step.stays leg.hops
    → IsEdgeBy v s step to n (Some (record { state = record { position = to; via = Some n; room = room }; cost = cost }))
edge_stands v laws s step to n room leg cost is_s prefix is_leg at is_room is_cost =
    let m : Move = move_of n step.stays in
    let e : Edge = record { to = record { position = to; via = Some n; room = room }; cost = cost } in
    let made : edge_of v s m ≡ Some (edge_by v m room leg) = edge_made v s m room leg is_room is_leg in
    let same : edge_by v m room leg ≡ e =
    ap (λ (x : ℕ). let y : Edge = record {
      to = record { position = x; via = Some n; room = room };
      cost = move_cost v.sid_cost step.stays leg.hops;
    } in y) at
    ∙ ap (λ (x : Cost). let y : Edge = record { to = record { position = to; via = Some n; room = room }; cost = x } in y) (sym is_cost) in
    let edge : edge_of v s m ≡ Some e = made ∙ ap (λ (x : Edge). Some x) same in
    let is_step : step_of v m ≡ step =
    ap (λ (p : _). let y : PathStep = record { stays = step.stays; prefix = p } in y) prefix in
    let along : GoesAlong v s step e = record { move = m; is_step = is_step; edge = edge } in
    let hops = (laws.leg s.position s.via n leg is_leg).hops in
    (along, edge_state v laws s m e is_s edge, cost_small v laws step.stays leg.hops cost hops is_cost)

pub last_stands : (v : LegsValue) → KeepsLaws v → (s : State) (step : PathStep) (n room hops : ℕ) (cost : Cost)
    → (v.shape n).prefix ≡ step.prefix
    → v.finish s.position s.via n ≡ Some hops → room_of v s (move_of n step.stays) ≡ Some room
    → cost ≡ move_cost v.sid_cost step.stays hops
    → IsLastBy v s step n (Some cost)
last_stands v laws s step n room hops cost prefix is_finish is_room is_cost =
    let m : Move = move_of n step.stays in
    let last : last_of v s m ≡ Some cost =
    last_made v s m room hops is_room is_finish ∙ ap (λ (x : Cost). Some x) (sym is_cost) in
    let is_step : step_of v m ≡ step =
    ap (λ (p : _). let y : PathStep = record { stays = step.stays; prefix = p } in y) prefix in
    let low = (laws.finish s.position s.via n hops is_finish).hops in (
      record { move = m; is_step = is_step; last = last },
      cost_small v laws step.stays hops cost low is_cost,
    )

module _ (v : LegsValue) (s : State) (step : PathStep) where
  -- none of the first SIDs of a position has the step's edge
  abbrev pub NoEdgeTo : ℕ → List ℕ → ℕ → Type 0
  NoEdgeTo to sids count = (i n : ℕ) → i < count → slice_get sids i ≡ Some n → IsEdgeBy v s step to n None

  pub no_edge_more : (to : ℕ) (sids : List ℕ) (count n : ℕ) → slice_get sids count ≡ Some n → IsEdgeBy v s step to n None
      → NoEdgeTo to sids count
      → NoEdgeTo to sids (count + 1)
  no_edge_more to sids count n e here so i k h f =
      elim (cases_lt i count) as (λ w. IsEdgeBy v s step to k None) [
        | inl less ↦ so i k less f
        | inr more ↦
            let same : i ≡ count = omega (arith, h, more) in
            let is : n ≡ k = same_Some n k (sym e ∙ ap (slice_get sids) (sym same) ∙ f) in
            subst (λ (x : ℕ). IsEdgeBy v s step to x None) is here
      ]

  pub no_edge_all : KeepsLaws v → (to : ℕ) (sids : List ℕ) (count : ℕ) → sids ≡ v.sids_at to → length sids ≤ count
      → NoEdgeTo to sids count
      → IsEdgeTo v s step to None
  no_edge_all laws to sids count sids_are h so e along at =
      let parts = edge_parts v s along.move e along.edge in
      let is_next = (laws.leg s.position s.via along.move.sid parts.leg parts.leg_is).is_next in
      let there : parts.leg.to ≡ to = ap (λ (x : Edge). x.to.position) parts.is ∙ at in
      let place = place_in sids along.move.sid
      (subst (λ (xs : List ℕ). Contains xs along.move.sid) (ap v.sids_at there ∙ sym sids_are) is_next) in
      so place.0 along.move.sid (omega (arith, place.1, h)) place.2 e along.move along.is_step refl along.edge at

  -- the step has no edge to a position below one
  abbrev pub NoEdgeBelow : ℕ → Type 0
  NoEdgeBelow to = (e : Edge) → GoesAlong v s step e → e.to.position < to → ⊥

  pub below_first : KeepsLaws v → NoEdgeBelow s.position
  below_first laws e along h =
      let parts = edge_parts v s along.move e along.edge in
      let forward = (laws.leg s.position s.via along.move.sid parts.leg parts.leg_is).forward in
      let there : parts.leg.to ≡ e.to.position = ap (λ (x : Edge). x.to.position) parts.is in
      omega (arith, forward, there, h)

  pub below_last : KeepsLaws v → (to : ℕ) → v.steps < to → NoEdgeBelow to → IsEdgeOf v s step None
  below_last laws to h so e along =
      let parts = edge_parts v s along.move e along.edge in
      let within = (laws.leg s.position s.via along.move.sid parts.leg parts.leg_is).within in
      let there : parts.leg.to ≡ e.to.position = ap (λ (x : Edge). x.to.position) parts.is in
      so e along (omega (arith, within, there, h))

  -- with none of the first SIDs of the last position the step finishes
  abbrev pub NoLast : List ℕ → ℕ → Type 0
  NoLast sids count = (i n : ℕ) → i < count → slice_get sids i ≡ Some n → IsLastBy v s step n None

  pub no_last_more : (sids : List ℕ) (count n : ℕ) → slice_get sids count ≡ Some n → IsLastBy v s step n None → NoLast sids count
      → NoLast sids (count + 1)
  no_last_more sids count n e here so i k h f =
      elim (cases_lt i count) as (λ w. IsLastBy v s step k None) [
        | inl less ↦ so i k less f
        | inr more ↦
            let same : i ≡ count = omega (arith, h, more) in
            let is : n ≡ k = same_Some n k (sym e ∙ ap (slice_get sids) (sym same) ∙ f) in
            subst (λ (x : ℕ). IsLastBy v s step x None) is here
      ]

  pub no_last_all : KeepsLaws v → (sids : List ℕ) (steps count : ℕ) → steps ≡ v.steps → sids ≡ v.sids_at steps → length sids ≤ count
      → NoLast sids count
      → IsLastOf v s step None
  no_last_all laws sids steps count e sids_are h so c last =
      let parts = last_parts v s last.move c last.last in
      let is_next = (laws.finish s.position s.via last.move.sid parts.hops parts.finish_is).is_next in
      let place = place_in sids last.move.sid
      (subst (λ (xs : List ℕ). Contains xs last.move.sid) (ap v.sids_at (sym e) ∙ sym sids_are) is_next) in
      so place.0 last.move.sid (omega (arith, place.1, h)) place.2 c last.move last.is_step refl last.last

-- lists, cut at a place
pub cut_at : {X : Type 0} (xs : List X) (k : ℕ) (x : X) → slice_get xs k ≡ Some x → xs ≡ take k xs ++ x ∷ drop (k + 1) xs
cut_at [] k x e = absurd (none-some x e)
cut_at (y ∷ ys) zero x e = ap (λ z. z ∷ ys) (same_Some y x e)
cut_at (y ∷ ys) (suc k) x e =
    let next : suc (k + 1) ≡ suc k + 1 = omega arith in
    ap (λ zs. y ∷ zs) (cut_at ys k x e) ∙ ap (λ n. y ∷ (take k ys ++ x ∷ drop n (y ∷ ys))) next

pub take_one : {X : Type 0} (xs : List X) (k : ℕ) (x : X) → slice_get xs k ≡ Some x → take (k + 1) xs ≡ take k xs ++ x ∷ []
take_one [] k x e = absurd (none-some x e)
take_one (y ∷ ys) zero x e = ap (λ z. z ∷ []) (same_Some y x e)
take_one (y ∷ ys) (suc k) x e =
    let next : suc k + 1 ≡ suc (k + 1) = omega arith in
    ap (λ n. take n (y ∷ ys)) next ∙ ap (λ zs. y ∷ zs) (take_one ys k x e)

map_end : {X Y : Type 0} (f : X → Y) (xs : List X) (x : X) → map f (xs ++ x ∷ []) ≡ map f xs ++ f x ∷ []
map_end f [] x = refl
map_end f (y ∷ ys) x = ap (λ zs. f y ∷ zs) (map_end f ys x)

-- sums of costs
plus_three : (a b : Cost) (o : Option Cost) → option_map (plus a) (option_map (plus b) o) ≡ option_map (plus (plus a b)) o
plus_three a b None = refl
plus_three a b (Some c) =
    let left = plus a (plus b c) in
    let right = plus (plus a b) c in
    let one : left.containers ≡ right.containers = omega arith in
    let two : left.sids ≡ right.sids = omega arith in
    let three : left.hops ≡ right.hops = omega arith in
    ap (λ (x : ℕ). Some (cost_with x left.sids left.hops)) one ∙ ap (λ (x : ℕ). Some (cost_with right.containers x left.hops)) two
    ∙ ap (λ (x : ℕ). Some (cost_with right.containers right.sids x)) three

leads_more : (v : LegsValue) (s t : State) (steps : List PathStep) (step : PathStep) (e : Edge) → Leads v s steps t → GoesAlong v t step e
    → Leads v s (steps ++ step ∷ []) e.to
leads_more v s t [] step e h along = (e, subst (λ (x : State). GoesAlong v x step e) (sym h) along, refl)
leads_more v s t (p ∷ ps) step e h along = (h.0, h.1, leads_more v h.0.to t ps step e h.2 along)

pub run_more : (v : LegsValue) (s t : State) (steps : List PathStep) (spent : Cost) (step : PathStep) (e : Edge) → Run v s steps spent t
    → GoesAlong v t step e
    → Run v s (steps ++ step ∷ []) (plus spent e.cost) e.to
run_more v s t steps spent step e run along =
    record {
      moves = run.moves ++ along.move ∷ [];
      steps_are =
          map_end (step_of v) run.moves along.move ∙ ap (λ (xs : List PathStep). xs ++ step_of v along.move ∷ []) run.steps_are
          ∙ ap (λ (x : PathStep). steps ++ x ∷ []) along.is_step;
      leads = leads_more v s t steps step e run.leads along;
      goes_on = λ m more.
          ap (cost_of v s) (append_assoc run.moves (along.move ∷ []) (m ∷ more))
          ∙ run.goes_on along.move (m ∷ more)
          ∙ ap (λ (o : Option Edge). option_map (plus spent) (behind o (λ (x : State). cost_of v x (m ∷ more)))) along.edge
          ∙ plus_three spent e.cost (cost_of v e.to (m ∷ more));
    }

-- what is known of a path up to a line
pub record Walking (v : LegsValue) (lines : List PathLine) (k : ℕ) (state : State) (spent : Spent) : Type 0 where
  pub run : Run v start (steps_of (take k lines)) (spent_value spent) state
  pub is_state : IsState v state
  pub containers : spent.containers ≤ k
  pub sids : spent.sids ≤ k
  pub hops : spent.hops ≤ 1000 * k

steps_one : (lines : List PathLine) (k : ℕ) (l : PathLine) → slice_get lines k ≡ Some l
    → steps_of (take (k + 1) lines) ≡ steps_of (take k lines) ++ l.step ∷ []
steps_one lines k l e = ap steps_of (take_one lines k l e) ∙ map_end (λ (x : PathLine). x.step) (take k lines) l

pub walking_more : (v : LegsValue) (lines : List PathLine) (k : ℕ) (l : PathLine) (state : State) (spent after : Spent) (r : Reached)
    → slice_get lines k ≡ Some l
    → Walking v lines k state spent → IsEdgeOf v state l.step (Some r) → Adds spent r.cost after
    → Walking v lines (k + 1) r.state after
walking_more v lines k l state spent after r e so edge adds =
    let more = run_more v start state (steps_of (take k lines)) (spent_value spent) l.step (edge_value r) so.run edge.0 in
    let containers : after.containers ≡ spent.containers + r.cost.containers = ap (λ (c : Cost). c.containers) adds in
    let sids : after.sids ≡ spent.sids + r.cost.sids = ap (λ (c : Cost). c.sids) adds in
    let hops : after.hops ≡ spent.hops + r.cost.hops = ap (λ (c : Cost). c.hops) adds in
    record {
      run =
          subst (λ (xs : List PathStep). Run v start xs (spent_value after) r.state) (sym (steps_one lines k l e))
          (subst (λ (c : Cost). Run v start (steps_of (take k lines) ++ l.step ∷ []) c r.state) (sym adds) more);
      is_state = edge.1;
      containers = omega (arith, so.containers, containers, edge.2.containers);
      sids = omega (arith, so.sids, sids, edge.2.sids);
      hops = omega (arith, so.hops, hops, edge.2.hops);
    }

-- a line that goes astray
astray_inner : (v : LegsValue) (s : State) (step : PathStep) (ls : List PathLine) → 0 < length ls → IsEdgeOf v s step None
    → IsAstray v s step ls
astray_inner v s step [] h none = absurd (omega (arith, h))
astray_inner v s step (l ∷ ls) h none = none

astray_last : (v : LegsValue) (s : State) (step : PathStep) (ls : List PathLine) → length ls ≡ 0 → IsLastOf v s step None
    → IsAstray v s step ls
astray_last v s step [] h none = λ m c e f. none c (record { move = m; is_step = e; last = f })
astray_last v s step (l ∷ ls) h none = absurd (omega (arith, h))

drop_size : {X : Type 0} (xs : List X) (n : ℕ) → n ≤ length xs → length (drop n xs) + n ≡ length xs
drop_size xs zero h = omega arith
drop_size [] (suc n) h = absurd (omega (arith, h))
drop_size (x ∷ xs) (suc n) h =
    let rest = drop_size xs n (omega (arith, h)) in
    omega (arith, rest)

pub breaks_inner : (v : LegsValue) (lines : List PathLine) (k : ℕ) (l : PathLine) (state : State) (spent : Spent) → slice_get lines k
    ≡ Some l
    → k + 1 < length lines
    → Walking v lines k state spent → IsEdgeOf v state l.step None → BreaksAt v start lines l.line
breaks_inner v lines k l state spent e h so none =
    let size = drop_size lines (k + 1) (omega (arith, h)) in
    record {
      before = take k lines;
      bad = l;
      behind = drop (k + 1) lines;
      parts = cut_at lines k l e;
      reached = state;
      leads = so.run.leads;
      astray = astray_inner v state l.step (drop (k + 1) lines) (omega (arith, size, h)) none;
      line_is = refl;
    }

pub breaks_last : (v : LegsValue) (lines : List PathLine) (k : ℕ) (l : PathLine) (state : State) (spent : Spent) → slice_get lines k
    ≡ Some l
    → k + 1 ≡ length lines
    → Walking v lines k state spent → IsLastOf v state l.step None → BreaksAt v start lines l.line
breaks_last v lines k l state spent e h so none =
    let size = drop_size lines (k + 1) (omega (arith, h)) in
    record {
      before = take k lines;
      bad = l;
      behind = drop (k + 1) lines;
      parts = cut_at lines k l e;
      reached = state;
      leads = so.run.leads;
      astray = astray_last v state l.step (drop (k + 1) lines) (omega (arith, size, h)) none;
      line_is = refl;
    }

take_whole : {X : Type 0} (xs : List X) (k : ℕ) → length xs ≤ k → take k xs ≡ xs
take_whole [] zero h = refl
take_whole [] (suc k) h = refl
take_whole (x ∷ xs) zero h = absurd (omega (arith, h))
take_whole (x ∷ xs) (suc k) h = ap (λ zs. x ∷ zs) (take_whole xs k (omega (arith, h)))

pub walked_all : (v : LegsValue) (lines : List PathLine) (k : ℕ) (l : PathLine) (state : State) (spent after : Spent) (c : Cost)
    → slice_get lines k ≡ Some l
    → k + 1 ≡ length lines → Walking v lines k state spent → IsLastOf v state l.step (Some c) → Adds spent c after
    → PathCosts v start lines (spent_value after)
walked_all v lines k l state spent after c e h so last adds =
    let whole : take (k + 1) lines ≡ lines = take_whole lines (k + 1) (omega (arith, h)) in
    record {
      moves = so.run.moves ++ last.0.move ∷ [];
      steps_are =
          map_end (step_of v) so.run.moves last.0.move ∙ ap (λ (xs : List PathStep). xs ++ step_of v last.0.move ∷ []) so.run.steps_are
          ∙ ap (λ (x : PathStep). steps_of (take k lines) ++ x ∷ []) last.0.is_step ∙ sym (steps_one lines k l e) ∙ ap steps_of whole;
      cost_is =
          so.run.goes_on last.0.move [] ∙ ap (option_map (plus (spent_value spent))) last.0.last
          ∙ ap (λ (x : Cost). Some x) (sym adds);
    }
