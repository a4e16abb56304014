-- Costs: at most is an order that sums keep, and what an edge and a last move are made of.
use Rattle.std.proofs.Common.{◌≡◌, ℕ, ◌≤◌, Bool, Option, Some, None, refl, sym, ◌∙◌, ap, subst, arith}
use Rattle.std.specs.Option.{option_map, option_and_then}
use Rattle.std.proofs.lemmas.Option.{none-some}
use Rattle.list_pack.specs.declared.types.Cost.{Cost}
use Rattle.list_pack.specs.declared.types.State.{State}
use Rattle.list_pack.specs.declared.types.Leg.{Leg}
use Rattle.list_pack.specs.LegsValue.{LegsValue}
use Rattle.list_pack.specs.LegsValueTerms.{KeepsLaws, IsSid}
use Rattle.list_pack.specs.Rooms.{room_behind, top_room}
use Rattle.list_pack.specs.Costs.{Move, Edge, AtMost, plus, move_cost, room_of, edge_by, edge_of, last_of, Under, IsState, IsStateBy}
use Rattle.list_pack.specs.Paths.{cost_with}
use Rattle.list_pack.proofs.Rooming.{behind_top, begin_top}
use Rattle.list_pack.proofs.Barring.{room_kept}

pub at_most_itself : (a : Cost) → AtMost a a
at_most_itself a = record { containers = omega arith; sids = λ e. omega arith; hops = λ e f. omega arith }

pub at_most_trans : (a b c : Cost) → AtMost a b → AtMost b c → AtMost a c
at_most_trans a b c h k =
    record {
      containers = omega (arith, h.containers, k.containers);
      sids = λ e. omega (arith, h.containers, k.containers, h.sids, k.sids);
      hops = λ e f. omega (arith, h.containers, k.containers, h.sids, k.sids, h.hops, k.hops);
    }

pub at_most_plus : (k a b : Cost) → AtMost a b → AtMost (plus k a) (plus k b)
at_most_plus k a b h =
    record {
      containers = omega (arith, h.containers);
      sids = λ e. omega (arith, h.containers, h.sids);
      hops = λ e f. omega (arith, h.containers, h.sids, h.hops);
    }

pub at_most_both : (a b : Cost) → AtMost a b → AtMost b a → a ≡ b
at_most_both a b h k =
    let e : a.containers ≡ b.containers = omega (arith, h.containers, k.containers) in
    let f : a.sids ≡ b.sids = omega (arith, h.sids e, k.sids (sym e)) in
    let g : a.hops ≡ b.hops = omega (arith, h.hops e f, k.hops (sym e) (sym f)) in
    ap (λ (x : ℕ). cost_with x a.sids a.hops) e ∙ ap (λ (y : ℕ). cost_with b.containers y a.hops) f
    ∙ ap (λ (z : ℕ). cost_with b.containers b.sids z) g

pub under_none : (o : Option Cost) → Under o None
under_none None = tt
under_none (Some c) = tt

pub under_itself : (o : Option Cost) → Under o o
under_itself None = tt
under_itself (Some c) = at_most_itself c

pub under_trans : (a b c : Option Cost) → Under a b → Under b c → Under a c
under_trans a b None h k = under_none a
under_trans a None (Some z) h k = absurd k
under_trans None (Some y) (Some z) h k = absurd h
under_trans (Some x) (Some y) (Some z) h k = at_most_trans x y z h k

pub under_plus : (k : Cost) (a b : Option Cost) → Under a b → Under (option_map (plus k) a) (option_map (plus k) b)
under_plus k a None h = under_none (option_map (plus k) a)
under_plus k None (Some y) h = absurd h
under_plus k (Some x) (Some y) h = at_most_plus k x y h

-- what an edge is made of
pub record EdgeParts (v : LegsValue) (s : State) (m : Move) (e : Edge) : Type 0 where
  pub room : ℕ
  pub leg : Leg
  pub room_is : room_of v s m ≡ Some room
  pub leg_is : v.leg s.position s.via m.sid ≡ Some leg
  pub is : edge_by v m room leg ≡ e

edge_in : (v : LegsValue) (s : State) (m : Move) (e : Edge) (o : Option ℕ) (l : Option Leg) → room_of v s m ≡ o
    → v.leg s.position s.via m.sid ≡ l
    → option_and_then (λ (room : ℕ). option_map (edge_by v m room) l) o ≡ Some e → EdgeParts v s m e
edge_in v s m e None l x y h = absurd (none-some e h)
edge_in v s m e (Some room) None x y h = absurd (none-some e h)
edge_in v s m e (Some room) (Some leg) x y h =
    let same : edge_by v m room leg ≡ e = cc in
    record { room = room; leg = leg; room_is = x; leg_is = y; is = same }

pub edge_parts : (v : LegsValue) (s : State) (m : Move) (e : Edge) → edge_of v s m ≡ Some e → EdgeParts v s m e
edge_parts v s m e h = edge_in v s m e (room_of v s m) (v.leg s.position s.via m.sid) refl refl h

pub edge_made : (v : LegsValue) (s : State) (m : Move) (room : ℕ) (leg : Leg) → room_of v s m ≡ Some room
    → v.leg s.position s.via m.sid ≡ Some leg → edge_of v s m ≡ Some (edge_by v m room leg)
edge_made v s m room leg x y =
    ap (λ (o : Option ℕ). option_and_then (λ (r : ℕ). option_map (edge_by v m r) (v.leg s.position s.via m.sid)) o) x
    ∙ ap (λ (l : Option Leg). option_map (edge_by v m room) l) y

-- what a last move is made of
pub record LastParts (v : LegsValue) (s : State) (m : Move) (c : Cost) : Type 0 where
  pub room : ℕ
  pub hops : ℕ
  pub room_is : room_of v s m ≡ Some room
  pub finish_is : v.finish s.position s.via m.sid ≡ Some hops
  pub is : move_cost v.sid_cost m.stays hops ≡ c

last_in : (v : LegsValue) (s : State) (m : Move) (c : Cost) (o : Option ℕ) (l : Option ℕ) → room_of v s m ≡ o
    → v.finish s.position s.via m.sid ≡ l
    → option_and_then (λ (room : ℕ). option_map (move_cost v.sid_cost m.stays) l) o ≡ Some c → LastParts v s m c
last_in v s m c None l x y h = absurd (none-some c h)
last_in v s m c (Some room) None x y h = absurd (none-some c h)
last_in v s m c (Some room) (Some hops) x y h =
    let same : move_cost v.sid_cost m.stays hops ≡ c = cc in
    record { room = room; hops = hops; room_is = x; finish_is = y; is = same }

pub last_parts : (v : LegsValue) (s : State) (m : Move) (c : Cost) → last_of v s m ≡ Some c → LastParts v s m c
last_parts v s m c h = last_in v s m c (room_of v s m) (v.finish s.position s.via m.sid) refl refl h

pub last_made : (v : LegsValue) (s : State) (m : Move) (room hops : ℕ) → room_of v s m ≡ Some room
    → v.finish s.position s.via m.sid ≡ Some hops → last_of v s m ≡ Some (move_cost v.sid_cost m.stays hops)
last_made v s m room hops x y =
    ap (λ (o : Option ℕ). option_and_then (λ (r : ℕ). option_map (move_cost v.sid_cost m.stays) (v.finish s.position s.via m.sid)) o) x
    ∙ ap (λ (l : Option ℕ). option_map (move_cost v.sid_cost m.stays) l) y

-- an edge leads from a state to a state
room_top : (v : LegsValue) (laws : KeepsLaws v) (position : ℕ) (via : Option ℕ) (room : ℕ) (stays : Bool) (n q : ℕ) → position ≤ v.steps
    → IsStateBy v position via room → IsSid v n → room_behind stays (option_map v.shape via) room (v.shape n) ≡ Some q
    → q ≤ top_room (v.shape n)
room_top v laws position None room stays n q h is_s is_n r = begin_top stays (v.shape n) room q r
room_top v laws position (Some k) room stays n q h is_s is_n r =
    let is_k : IsSid v k = (position, h, is_s.1) in
    behind_top stays (v.shape k) (v.shape n) room q (laws.shapes k is_k) (laws.shapes n is_n) (laws.blocks k n is_k is_n) is_s.3 r

pub edge_state : (v : LegsValue) → KeepsLaws v → (s : State) (m : Move) (e : Edge) → IsState v s → edge_of v s m ≡ Some e → IsState v e.to
edge_state v laws s m e is_s h =
    let parts = edge_parts v s m e h in
    let leg = laws.leg s.position s.via m.sid parts.leg parts.leg_is in
    let top = room_top v laws s.position s.via s.room m.stays m.sid parts.room leg.start is_s (parts.leg.to, leg.within, leg.is_next)
    (room_kept v s.via s.room m parts.room parts.room_is) in
    let is_to : IsState v (edge_by v m parts.room parts.leg).to = (leg.within, leg.is_next, leg.middle, top) in
    subst (λ (x : Edge). IsState v x.to) parts.is is_to
