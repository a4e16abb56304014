-- What a settled state offers lowers the states in front of it, edge by edge.
use Rattle.std.proofs.Common.{◌≡◌, ℕ, ◌+◌, ◌*◌, ◌<◌, inl, inr, Bool, true, false, ◌&&◌, List, length, Option, Some, None, slice_get, get_or, Contains, refl, sym, ◌∙◌, ap, subst, arith}
use Rattle.std.specs.Prelude.{IsTrue}
use Rattle.std.specs.Option.{option_map}
use Rattle.std.specs.BTreeSet.{BTreeSet}
use Rattle.std.proofs.lemmas.Bool.{cases_lt, false≢true}
use Rattle.list_pack.specs.declared.types.Cost.{Cost}
use Rattle.list_pack.specs.declared.types.Shape.{Shape}
use Rattle.list_pack.specs.LegsValue.{LegsValue}
use Rattle.list_pack.specs.Rooms.{room_behind}
use Rattle.list_pack.specs.Costs.{AtMost, plus, move_cost, room_to, bars, Under}
use Rattle.list_pack.proofs.PublicLaws.{under_itself, under_trans}
use Rattle.list_encoder.specs.declared.cells.Cell.{Cell}
use Rattle.list_encoder.specs.declared.cell_table.CellEdge.{CellEdge}
use Rattle.list_encoder.specs.declared.waiting.Waiting.{Waiting}
use Rattle.list_encoder.specs.declared.offers.Offer.{Offer}
use Rattle.list_encoder.specs.CellTable.{Costs, at, entry, rest_at, RoomHolds, RoomRelaxed, LeavesRoom, IsShapeOf, move_by}
use Rattle.list_encoder.specs.Waiting.{is_done, IsLoweredAt}
use Rattle.list_encoder.specs.Offers.{IsSettledAt, IsOffer, Advances, Takes, OffersRoom, LeavesIt, OffersWay, OffersEdge, offer_of, LeadInto, OffersAll}
use Rattle.list_encoder.proofs.SearchCelling.{some_same}
use Rattle.list_encoder.proofs.StayRooms.{room_left}
use Rattle.list_encoder.proofs.RelaxedRooms.{edge_barred}

pub at_most_more : (m d : Cost) → AtMost d (plus m d)
at_most_more m d = record { containers = omega arith; sids = λ e. omega arith; hops = λ e f. omega arith }

-- ---- costs that were lowered

pub advances_then : (v : LegsValue) (cells : List Cell) (t t1 t2 : Costs) (done done1 done2 : List Bool) (w1 w2 : BTreeSet Waiting)
    (top : Cost)
    → Advances v cells t done t1 w1 done1 top → Advances v cells t1 done1 t2 w2 done2 top → Advances v cells t done t2 w2 done2 top
advances_then v cells t t1 t2 done done1 done2 w1 w2 top first second = record {
  sound = second.sound;
  front = second.front;
  same = second.same ∙ first.same;
  falls = λ i. under_trans (at t2 i) (at t1 i) (at t i) (second.falls i) (first.falls i);
  still = λ i is. second.still i (ap (λ (d : List Bool). is_done d i) first.same ∙ is) ∙ first.still i is;
  past = λ i h. let long = ap length first.same in second.past i (omega (arith, h, long)) ∙ first.past i h;
}

rest_still : (t t1 : Costs) (done : List Bool) (to : Option ℕ) (left : ℕ) → IsSettledAt done to left
    → ((i : ℕ) → is_done done i ≡ true → at t1 i ≡ at t i) → rest_at t1 to left ≡ rest_at t to left
rest_still t t1 done None left is still = refl
rest_still t t1 done (Some to) left is still = still (8 * to + left) is

settled_later : (done done1 : List Bool) (to : Option ℕ) (left : ℕ) → done1 ≡ done → IsSettledAt done to left → IsSettledAt done1 to left
settled_later done done1 to left same is = subst (λ (d : List Bool). IsSettledAt d to left) (sym same) is

pub offer_later : (v : LegsValue) (cells : List Cell) (t t1 : Costs) (w w1 : BTreeSet Waiting) (done done1 : List Bool) (offer : Offer)
    → IsOffer v cells t w done offer → Advances v cells t done t1 w1 done1 offer.rest → IsOffer v cells t1 w1 done1 offer
offer_later v cells t t1 w w1 done done1 offer is advances = record {
  is_edge = is.is_edge;
  sound = advances.sound;
  front = advances.front;
  early = let long = ap length advances.same in omega (arith, is.early, long);
  rest_is = rest_still t t1 done offer.edge.to offer.left is.settled advances.still ∙ is.rest_is;
  settled = settled_later done done1 offer.edge.to offer.left advances.same is.settled;
}

-- ---- no room

-- costs that stay as they are
kept_advances : (v : LegsValue) (cells : List Cell) (t : Costs) (w : BTreeSet Waiting) (done : List Bool) (offer : Offer)
    → IsOffer v cells t w done offer → Advances v cells t done t w done offer.rest
kept_advances v cells t w done offer is = record {
  sound = is.sound;
  front = is.front;
  same = refl;
  falls = λ i. under_itself (at t i);
  still = λ i settled. refl;
  past = λ i h. refl;
}

pub way_barred : (v : LegsValue) (cells : List Cell) (t : Costs) (w : BTreeSet Waiting) (done : List Bool) (offer : Offer) (told : Bool)
    → IsOffer v cells t w done offer
    → told ≡ (offer.stays && bars v (get_or cells offer.edge.from (record { position = 0; via = None })).via offer.edge.sid) → told ≡ true
    → OffersWay v cells offer 8 t done t w done
way_barred v cells t w done offer told is e barred = record {
  advances = kept_advances v cells t w done offer is;
  takes = λ room h it.
      absurd (edge_barred v cells offer.edge offer.stays told is.is_edge e barred it.0 room offer.left it.1 it.2);
}

-- no room of the edge's first cell may leave the offer's
pub way_shut : (v : LegsValue) (cells : List Cell) (t : Costs) (w : BTreeSet Waiting) (done : List Bool) (offer : Offer)
    (from : Option Shape) (next : Shape) (told : Bool) → IsOffer v cells t w done offer → IsShapeOf v cells offer.edge.from from
    → next ≡ v.shape offer.edge.sid
    → ((room : ℕ) → room < 8 → room_behind offer.stays from room next ≡ Some offer.left → IsTrue told) → told ≡ false
    → OffersWay v cells offer 8 t done t w done
way_shut v cells t w done offer from next told is is_from is_next may shut = record {
  advances = kept_advances v cells t w done offer is;
  takes = λ room h it.
      absurd (false≢true (sym shut ∙ may room h
      (room_left v offer.stays it.0.via offer.edge.sid room offer.left from next (is_from it.0 it.1) is_next it.2)));
}

-- ---- one room

module _ (v : LegsValue) (cells : List Cell) (t : Costs) (w : BTreeSet Waiting) (done : List Bool) (offer : Offer) (is : IsOffer v
    cells t w done offer)
    (room : ℕ) (left : Option ℕ) where
  pub room_lowered : (after : ℕ) (t1 : Costs) (w1 : BTreeSet Waiting) (done1 : List Bool) (changed : Bool) → left ≡ Some after
      → after ≡ offer.left
      → done1 ≡ done → room < 8
      → RoomRelaxed v cells offer.edge t t1 offer.stays room left changed
      → IsLoweredAt t t1 w1 done1 offer.rest (8 * offer.edge.from + room) (plus (move_cost v.sid_cost offer.stays offer.edge.hops) offer.rest)
      changed
      → OffersRoom v cells offer room left t done t1 w1 done1
  room_lowered after t1 w1 done1 changed has same done_is low relaxed lowered = record {
    advances = record {
      sound = relaxed.sound;
      front = lowered.front;
      same = done_is;
      falls = relaxed.passed.falls;
      still = λ i settled. lowered.still i (ap (λ (d : List Bool). is_done d i) done_is ∙ settled);
      past = λ i h. relaxed.passed.later i (omega (arith, h, is.early));
    };
    takes = λ some.
        let holds : Under (entry t1 offer.edge.from room) (option_map (plus (move_cost v.sid_cost offer.stays offer.edge.hops)) (rest_at t
        offer.edge.to offer.left)) =
        subst (λ (o : Option ℕ). RoomHolds v (entry t1 offer.edge.from room) offer.stays offer.edge t o) some relaxed.holds in
        subst (λ (o : Option Cost). Under (entry t1 offer.edge.from room) (option_map (plus (move_cost v.sid_cost offer.stays offer.edge.hops))
        o)) is.rest_is holds;
  }

takes_later : (v : LegsValue) (offer : Offer) (stays : Bool) (t t1 : Costs) (room : ℕ) → ((i : ℕ) → Under (at t1 i) (at t i))
    → Takes v offer stays t room
    → Takes v offer stays t1 room
takes_later v offer stays t t1 room falls takes =
    under_trans (entry t1 offer.edge.from room) (entry t offer.edge.from room) (Some (plus (move_cost v.sid_cost stays offer.edge.hops) offer.rest))
    (falls (8 * offer.edge.from + room)) takes

-- ---- the rooms

module _ (v : LegsValue) (cells : List Cell) (offer : Offer) (t0 t t1 : Costs) (was done done1 : List Bool) (w w1 : BTreeSet Waiting)
  where
    pub way_more : (room : ℕ) (left : Option ℕ) → LeavesRoom v cells offer.edge offer.stays room left
        → OffersWay v cells offer room t0 was t w done
        → OffersRoom v cells offer room left t done t1 w1 done1 → OffersWay v cells offer (room + 1) t0 was t1 w1 done1
    way_more room left leaves so more = record {
      advances = advances_then v cells t0 t t1 was done done1 w w1 offer.rest so.advances more.advances;
      takes = λ r h it. elim (cases_lt r room) [
        | inl less ↦ takes_later v offer offer.stays t t1 r more.advances.falls (so.takes r less it)
        | inr past ↦
            let same : r ≡ room = omega (arith, h, past) in
            let some : left ≡ Some offer.left =
            leaves it.0 it.1 ∙ subst (λ (n : ℕ). room_to v it.0.via n (move_by offer.edge offer.stays) ≡ Some offer.left) same it.2 in
            subst (Takes v offer offer.stays t1) (sym same) (more.takes some)
      ];
    }

-- ---- both ways

module _ (v : LegsValue) (cells : List Cell) (offer opens stays : Offer) (t t1 t2 : Costs) (was done done1 : List Bool)
    (w1 w2 : BTreeSet Waiting)
    (opens_is : opens ≡ record { edge = offer.edge; stays = false; left = offer.left; rest = offer.rest })
    (stays_is : stays ≡ record { edge = offer.edge; stays = true; left = offer.left; rest = offer.rest }) where
  pub edge_both : OffersWay v cells opens 8 t was t1 w1 done → OffersWay v cells stays 8 t1 done t2 w2 done1
      → OffersEdge v cells offer t was t2 w2 done1
  edge_both first second =
      let opened = subst (λ (o : Offer). OffersWay v cells o 8 t was t1 w1 done) opens_is first in
      let stayed = subst (λ (o : Offer). OffersWay v cells o 8 t1 done t2 w2 done1) stays_is second in
      record {
        advances = advances_then v cells t t1 t2 was done done1 w1 w2 offer.rest opened.advances stayed.advances;
        takes = both opened stayed;
      }
    where
      both : OffersWay v cells (record { edge = offer.edge; stays = false; left = offer.left; rest = offer.rest }) 8 t was t1 w1 done
          → OffersWay v cells (record { edge = offer.edge; stays = true; left = offer.left; rest = offer.rest }) 8 t1 done t2 w2 done1
          → (s : Bool) (room : ℕ) → room < 8 → LeavesIt v cells offer s room → Takes v offer s t2 room
      both opened stayed true room h it = stayed.takes room h it
      both opened stayed false room h it = takes_later v offer false t1 t2 room stayed.advances.falls (opened.takes room h it)

-- ---- all edges

module _ (v : LegsValue) (cells : List Cell) (edges : List CellEdge) (left : ℕ) (rest : Cost) (t0 t t1 : Costs)
    (was done done1 : List Bool)
    (w0 w w1 : BTreeSet Waiting) where
  pub all_offer : (edge : CellEdge) → Contains edges edge → LeadInto v cells t0 w0 was edges left rest
      → Advances v cells t0 was t w done rest → IsOffer v cells t w done (offer_of edge left rest)
  all_offer edge among lead advances = offer_later v cells t0 t w0 w was done (offer_of edge left rest) (lead.2 edge among) advances

  pub all_more : (n : ℕ) (edge : CellEdge) → slice_get edges n ≡ Some edge → OffersAll v cells edges n left rest t0 was t w done
      → OffersEdge v cells (offer_of edge left rest) t done t1 w1 done1 → OffersAll v cells edges (n + 1) left rest t0 was t1 w1 done1
  all_more n edge here so more = record {
    advances = advances_then v cells t0 t t1 was done done1 w w1 rest so.advances more.advances;
    takes = λ l i stays room h is low it. elim (cases_lt i n) [
      | inl less ↦ takes_later v (offer_of l left rest) stays t t1 room more.advances.falls (so.takes l i stays room less is low it)
      | inr past ↦
          let same : n ≡ i = omega (arith, h, past) in
          let one : edge ≡ l = some_same edge l (sym here ∙ ap (slice_get edges) same ∙ is) in
          subst (λ (x : CellEdge). LeavesIt v cells (offer_of x left rest) stays room → Takes v (offer_of x left rest) stays t1 room) one
          (more.takes stays room low) it
    ];
  }
