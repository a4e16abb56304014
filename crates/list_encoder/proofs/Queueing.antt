-- The states of a position are settled one by one, from the least cost up.
use Rattle.std.proofs.Common.{◌≡◌, ℕ, ◌+◌, ◌*◌, ◌/◌, ◌%◌, ◌<◌, ◌≤◌, inl, inr, Bool, true, false, List, [], length, set, Option, Some, None, slice_get, Contains, Vec, Global, refl, sym, ◌∙◌, ap, subst, arith, count_by}
use Rattle.std.specs.Prelude.{not, cond}
use Rattle.std.specs.Ordering.{is_eq}
use Rattle.std.specs.List.{list_any}
use Rattle.std.specs.BTreeSet.{BTreeSet}
use Rattle.std.specs.BTreeSet as tree
use Rattle.std.proofs.lemmas.Bool.{cases_Bool, cases_eq, both_ways}
use Rattle.std.proofs.lemmas.List.{length-set}
use Rattle.std.proofs.lemmas.List.Sums.{sum_by-set}
use Rattle.std.proofs.lemmas.Option.{slice_get_within}
use Rattle.list_pack.specs.declared.types.Cost.{Cost}
use Rattle.list_pack.specs.LegsValue.{LegsValue}
use Rattle.list_pack.specs.LegsValueTerms.{KeepsLaws}
use Rattle.list_pack.specs.Costs.{plus, move_cost, room_to, Under}
use Rattle.list_pack.specs.CostsTerms.{nothing}
use Rattle.list_pack.proofs.PublicLaws.{under_none, under_itself, under_trans}
use Rattle.list_encoder.specs.declared.cells.Cell.{Cell}
use Rattle.list_encoder.specs.declared.cell_table.CellEdge.{CellEdge}
use Rattle.list_encoder.specs.declared.waiting.Waiting.{Waiting}
use Rattle.list_encoder.specs.CellTable.{Costs, at, entry, rest_at, offer, move_by, IsSound}
use Rattle.list_encoder.specs.Waiting.{waiting_cmp, waiting_at, cost_of, Waits, is_done, IsOpen, IsFront}
use Rattle.list_encoder.specs.Offers.{IsSettledAt, LeadInto, OffersAll}
use Rattle.list_encoder.specs.Grouped.{Groups, IsIn}
use Rattle.list_encoder.specs.Settling.{LeadToCells, HoldsDone, SettlesSoFar, SettlesAll}
use Rattle.list_encoder.proofs.SearchCelling.{some_same, place_of}
use Rattle.list_encoder.proofs.SearchRooms.{behind_few}
use Rattle.list_encoder.proofs.SearchTables.{edge_shape}
use Rattle.list_encoder.proofs.SearchFronts.{first_open, front_settled, done_same, done_other}

-- how many states aren't settled
abbrev pub open_count : List Bool → ℕ
open_count done = count_by not done

pub open_fewer : (done : List Bool) (i : ℕ) → i < length done → is_done done i ≡ false → open_count (set done i true) < open_count done
open_fewer done i within unset =
    let sums : open_count (set done i true) + cond {A = ℕ} (not (is_done done i)) 1 0 ≡ open_count done + 0 =
    sum_by-set (λ (b : Bool). cond {A = ℕ} (not b) 1 0) done i true false within in
    let one : cond {A = ℕ} (not (is_done done i)) 1 0 ≡ 1 = ap (λ (b : Bool). cond {A = ℕ} (not b) 1 0) unset in
    fewer (open_count (set done i true)) (cond {A = ℕ} (not (is_done done i)) 1 0) (open_count done) sums one
  where
    fewer : (a b d : ℕ) → a + b ≡ d + 0 → b ≡ 1 → a < d
    fewer a b d h k = omega arith

pub settles_start : (v : LegsValue) (cells : List Cell) (groups : Groups) (t : Costs) (waiting : BTreeSet Waiting) (done : List Bool)
    → IsSound v cells t → IsFront t waiting done nothing → ((i : ℕ) → is_done done i ≡ false) → length done ≡ 8 * length groups
    → SettlesSoFar v cells groups t t waiting done
settles_start v cells groups t waiting done sound front unset long = record {
  sound = sound;
  top = nothing;
  front = front;
  long = long;
  falls = λ i. under_itself (at t i);
  past = λ i h. refl;
  hold = λ to edge is cell stays room left here low few leaves settled. absurd (both_ways _ (unset (8 * to + left)) settled);
}

module _ (v : LegsValue) (cells : List Cell) (groups : Groups) (t0 t : Costs) (waiting rest : BTreeSet Waiting) (done : List Bool)
    (k : Waiting)
    (so : SettlesSoFar v cells groups t0 t waiting done) (first : Waits waiting k) (least : tree.IsLowerBound waiting_cmp waiting k)
    (update : tree.Updates waiting_cmp waiting rest k false) where
  open_first : IsOpen t done k
  open_first = first_open t waiting rest done so.top k so.front first least update

  place_is : 8 * (k.place / 8) + k.place % 8 ≡ k.place
  place_is = omega arith

  pub front_next : IsFront t rest (set done k.place true) (cost_of k)
  front_next = front_settled t waiting rest done so.top k so.front first least update

  pub first_within : k.place / 8 < length groups
  first_within = let h = open_first.early in let long = so.long in omega (arith, h, long)

  pub first_fewer : open_count (set done k.place true) < open_count done
  first_fewer = open_fewer done k.place open_first.early open_first.unsettled

  pub lead : LeadToCells v cells groups → (group : Vec CellEdge Global) → slice_get groups (k.place / 8) ≡ Some group
      → LeadInto v cells t rest (set done k.place true) group.items (k.place % 8) (cost_of k)
  lead edge_facts group here = (
    so.sound,
    front_next,
    λ edge among.
        let edge_fact = edge_facts (k.place / 8) edge (group, here, among) in
        record {
          is_edge = edge_fact.0;
          sound = so.sound;
          front = front_next;
          early = let from = edge_fact.2 in let long = so.long in let same =
              length-set done k.place true in omega (arith, from, long, same);
          rest_is = ap (λ (o : Option ℕ). rest_at t o (k.place % 8)) edge_fact.1 ∙ (ap (at t) place_is ∙ open_first.has);
          settled = subst (λ (o : Option ℕ). IsSettledAt (set done k.place true) o (k.place % 8)) (sym edge_fact.1)
              (ap (is_done (set done k.place true)) place_is ∙ done_same done k.place open_first.early);
        },
  )

  module _ (group : Vec CellEdge Global) (here : slice_get groups (k.place / 8) ≡ Some group) (n : ℕ) (t1 : Costs) (w1 : BTreeSet Waiting)
      (done1 : List Bool) (all : length group.items ≤ n)
      (offers : OffersAll v cells group.items n (k.place % 8) (cost_of k) t (set done k.place true) t1 w1 done1) where
    still_first : at t1 k.place ≡ Some (cost_of k)
    still_first = offers.advances.still k.place (done_same done k.place open_first.early) ∙ open_first.has

    hold_first : (edge : CellEdge) → Contains group.items edge → (cell : Cell) (stays : Bool) (room : ℕ)
        → slice_get cells edge.from ≡ Some cell
        → room < 8 → room_to v cell.via room (move_by edge stays) ≡ Some (k.place % 8)
        → Under (entry t1 edge.from room) (offer v.sid_cost stays edge.hops (at t1 k.place))
    hold_first edge among cell stays room here low leaves =
        let place = place_of group.items edge among in
        let within = slice_get_within group.items place.0 edge place.1 in
        let takes : Under (entry t1 edge.from room) (Some (plus (move_cost v.sid_cost stays edge.hops) (cost_of k))) =
        offers.takes edge place.0 stays room (omega (arith, within, all)) place.1 low (cell, here, leaves) in
        subst (λ (o : Option Cost). Under (entry t1 edge.from room) (offer v.sid_cost stays edge.hops o)) (sym still_first) takes

    hold_next : (to : ℕ) (edge : CellEdge) → IsIn groups to edge → HoldsDone v cells t1 done1 edge to
    hold_next to edge is cell stays room left at_cell low few leaves settled =
        let now : is_done (set done k.place true) (8 * to + left) ≡ true =
        ap (λ (d : List Bool). is_done d (8 * to + left)) (sym offers.advances.same) ∙ settled in
        elim (cases_eq (8 * to + left) k.place) [
          | inl same ↦
              let cell_is : to ≡ k.place / 8 = omega (arith, same, few) in
              let room_is : left ≡ k.place % 8 = omega (arith, same, few) in
              let one : is.0 ≡ group = some_same is.0 group (sym is.1 ∙ ap (slice_get groups) cell_is ∙ here) in
              let among : Contains group.items edge = subst (λ (g : Vec CellEdge Global). Contains g.items edge) one is.2 in
              subst (λ (i : ℕ). Under (entry t1 edge.from room) (offer v.sid_cost stays edge.hops (at t1 i))) (sym same)
              (hold_first edge among cell stays room at_cell low (leaves ∙ ap Some room_is))
          | inr other ↦
              let before = so.hold to edge is cell stays room left at_cell low few leaves (sym (done_other done k.place (8 * to + left)
              other) ∙ now) in
              let kept : entry t1 to left ≡ entry t to left = offers.advances.still (8 * to + left) now in
              subst (λ (o : Option Cost). Under (entry t1 edge.from room) (offer v.sid_cost stays edge.hops o)) (sym kept)
              (under_trans (entry t1 edge.from room) (entry t edge.from room) (offer v.sid_cost stays edge.hops (entry t to left))
              (offers.advances.falls (8 * edge.from + room)) before)
        ]

    pub settles_more : SettlesSoFar v cells groups t0 t1 w1 done1
    settles_more = record {
      sound = offers.advances.sound;
      top = cost_of k;
      front = offers.advances.front;
      long = ap length offers.advances.same ∙ (length-set done k.place true ∙ so.long);
      falls = λ i. under_trans (at t1 i) (at t i) (at t0 i) (offers.advances.falls i) (so.falls i);
      past = λ i h.
          let long = so.long in
          let same = length-set done k.place true in
          offers.advances.past i (omega (arith, h, long, same)) ∙ so.past i h;
      hold = hold_next;
    }

  -- the same by what the calls leave
  module _ (now : List Bool) (now_is : now ≡ set done k.place true) (group : Vec CellEdge Global) (here : slice_get groups (k.place /
      8) ≡ Some group)
      (ls : List CellEdge) (ls_is : ls ≡ group.items) (cost : Cost) (cost_is : cost ≡ cost_of k) where
    pub lead_by : LeadToCells v cells groups → LeadInto v cells t rest now ls (k.place % 8) cost
    lead_by edge_facts =
        subst (λ (d : List Bool). LeadInto v cells t rest d ls (k.place % 8) cost) (sym now_is)
        (subst (λ (xs : List CellEdge). LeadInto v cells t rest (set done k.place true) xs (k.place % 8) cost) (sym ls_is)
        (subst (λ (x : Cost). LeadInto v cells t rest (set done k.place true) group.items (k.place % 8) x) (sym cost_is)
        (lead edge_facts group here)))

    module _ (t1 : Costs) (w1 : BTreeSet Waiting) (done1 : List Bool)
        (offers : OffersAll v cells ls (length ls) (k.place % 8) cost t now t1 w1 done1) where
      pub settles_by_offers : SettlesSoFar v cells groups t0 t1 w1 done1
      settles_by_offers =
          let same : OffersAll v cells group.items (length group.items) (k.place % 8) (cost_of k) t (set done k.place true) t1 w1 done1 =
          subst (λ (x : Cost). OffersAll v cells group.items (length group.items) (k.place % 8) x t (set done k.place true) t1 w1
          done1) cost_is
          (subst (λ (xs : List CellEdge). OffersAll v cells xs (length xs) (k.place % 8) cost t (set done k.place true) t1 w1 done1) ls_is
          (subst (λ (d : List Bool). OffersAll v cells ls (length ls) (k.place % 8) cost t d t1 w1 done1) now_is offers)) in
          settles_more group here (length group.items) t1 w1 done1 (omega arith) same

      pub fewer_by_offers : open_count done1 < open_count done
      fewer_by_offers = subst (λ (d : List Bool). open_count d < open_count done) (sym (offers.advances.same ∙ now_is)) first_fewer

-- ---- none waits

waits_none : (waiting : BTreeSet Waiting) (k : Waiting) → waiting.keys ≡ [] → Waits waiting k → ⊥
waits_none waiting k none waits = both_ways _ (ap (list_any (λ q. is_eq (waiting_cmp k q))) none) waits

module _ (v : LegsValue) (laws : KeepsLaws v) (cells : List Cell) (groups : Groups) (t0 t : Costs) (waiting : BTreeSet Waiting)
    (done : List Bool)
    (so : SettlesSoFar v cells groups t0 t waiting done) (none : waiting.keys ≡ []) (edge_facts : LeadToCells v cells groups) where
  settled_all : (i : ℕ) (c : Cost) → i < length done → at t i ≡ Some c → is_done done i ≡ true
  settled_all i c within has = elim (cases_Bool (is_done done i)) [
    | inl is ↦ is
    | inr unset ↦ absurd (waits_none waiting (waiting_at c i) none (so.front.waits i c within has unset))
  ]

  hold_all : (to : ℕ) (edge : CellEdge) → IsIn groups to edge → (cell : Cell) (stays : Bool) (room left : ℕ)
      → slice_get cells edge.from ≡ Some cell
      → room < 8 → left < 8 → room_to v cell.via room (move_by edge stays) ≡ Some left → (o : Option Cost)
      → entry t to left ≡ o → Under (entry t edge.from room) (offer v.sid_cost stays edge.hops (entry t to left))
  hold_all to edge is cell stays room left here low few leaves None has =
      subst (λ (o : Option Cost). Under (entry t edge.from room) (offer v.sid_cost stays edge.hops o)) (sym has) (under_none (entry t edge.from
      room))
  hold_all to edge is cell stays room left here low few leaves (Some c) has =
      let within = slice_get_within groups to is.0 is.1 in
      let long = so.long in
      so.hold to edge is cell stays room left here low few leaves (settled_all (8 * to + left) c (omega (arith, within, long, few)) has)

  pub settles_all : SettlesAll v cells groups t0 t
  settles_all = record {
    sound = so.sound;
    falls = so.falls;
    past = so.past;
    holds = λ to edge is cell stays room left here low leaves.
        let edge_fact = edge_facts to edge is in
        let few = behind_few v cell.via room (move_by edge stays) left (edge_shape v laws cells edge edge_fact.0) low leaves in
        subst (λ (o : Option ℕ). Under (entry t edge.from room) (offer v.sid_cost stays edge.hops (rest_at t o left))) (sym edge_fact.1)
        (hold_all to edge is cell stays room left here low few leaves (entry t to left) refl);
  }
