-- Which moves pass, and what it says of a state that all of them do.
use Rattle.std.proofs.Common.{◌≡◌, ℕ, ◌+◌, ◌<◌, ◌≤◌, inl, inr, Bool, true, false, ◌&&◌, if◌then◌else◌, List, length, Option, Some, None, slice_get, Contains, get_or, sym, ◌∙◌, ap, subst, arith}
use Rattle.std.specs.Option.{option_map}
use Rattle.std.proofs.lemmas.Bool.{cases_lt}
use Rattle.std.proofs.lemmas.Option.{none-some, same_Some, slice_get_within, slice_get-get_or}
use Rattle.list_pack.specs.declared.types.Cost.{Cost}
use Rattle.list_pack.specs.declared.types.State.{State}
use Rattle.list_pack.specs.declared.types.Shape.{Shape}
use Rattle.list_pack.specs.declared.types.Leg.{Leg}
use Rattle.list_pack.specs.LegsValue.{LegsValue}
use Rattle.list_pack.specs.LegsValueTerms.{KeepsLaws}
use Rattle.list_pack.specs.Rooms.{room_behind}
use Rattle.list_pack.specs.Costs.{Edge, bars, room_of, edge_of, last_of, behind, Under}
use Rattle.list_pack.specs.Least.{IsGoodAt}
use Rattle.list_pack.proofs.PublicLaws.{under_behind, under_last, edge_parts, last_parts}
use Rattle.list_certificate.specs.declared.certificate_types.PotentialLine.{PotentialLine}
use Rattle.list_certificate.specs.Certs.{potential_at}
use Rattle.list_certificate.specs.Tests.{PassesMove, PassesLast, move_of, PassLegsTo, PassLegs, PassEnds}

-- an item by its place
pub place_in : (xs : List ℕ) (n : ℕ) → Contains xs n → (k : ℕ) × (k < length xs) × (slice_get xs k ≡ Some n)
place_in xs n h = (h.0, h.1, slice_get-get_or xs h.0 n h.1 ∙ ap (λ (x : ℕ). Some x) h.2)

pub item_in : (xs : List ℕ) (k n : ℕ) → slice_get xs k ≡ Some n → Contains xs n
item_in xs k n e =
    let within = slice_get_within xs k n e in
    (k, within, same_Some (get_or xs k n) n (sym (slice_get-get_or xs k n within) ∙ e))

-- both ways of standing in a container
pub both_stays : (P : Bool → Type 0) → P true → P false → (stays : Bool) → P stays
both_stays P h k true = h
both_stays P h k false = k

module _ (v : LegsValue) (lines : List PotentialLine) (s : State) where
  pub room_is : (n : ℕ) (stays : Bool) (from : Option Shape) (next : Shape) (o p : Option ℕ) → from ≡ option_map v.shape s.via
      → next ≡ v.shape n → (stays && bars v s.via n) ≡ false
      → o ≡ room_behind stays from s.room next → o ≡ p → room_of v s (move_of n stays) ≡ p
  room_is n stays from next o p e f free h k =
      ap (λ (b : Bool). if b then None else room_behind stays (option_map v.shape s.via) s.room (v.shape n)) free
      ∙ sym (h ∙ ap (λ (x : Option Shape). room_behind stays x s.room next) e
      ∙ ap (λ (x : Shape). room_behind stays (option_map v.shape s.via) s.room x) f) ∙ k

  -- a state passes exactly where its moves by legs do and those to the end
  pub good_legs : IsGoodAt v (potential_at lines) s → PassLegs v lines s
  good_legs good m = under_behind v (potential_at lines s) (edge_of v s m) (potential_at lines) (good.edges m)

  -- moves by legs to some of the SIDs of a position
  abbrev pub SomeLegsTo : ℕ → List ℕ → ℕ → Type 0
  SomeLegsTo to sids count = (i n : ℕ) (leg : Leg) (stays : Bool) → i < count → slice_get sids i ≡ Some n
      → v.leg s.position s.via n ≡ Some leg → leg.to ≡ to
      → PassesMove v lines s (move_of n stays)

  pub legs_more : (to : ℕ) (sids : List ℕ) (count n : ℕ) → slice_get sids count ≡ Some n
      → ((leg : Leg) (stays : Bool) → v.leg s.position s.via n ≡ Some leg → leg.to ≡ to → PassesMove v lines s (move_of n stays))
      → SomeLegsTo to sids count → SomeLegsTo to sids (count + 1)
  legs_more to sids count n e pass so i k leg stays h f g l =
      elim (cases_lt i count) as (λ w. PassesMove v lines s (move_of k stays)) [
        | inl less ↦ so i k leg stays less f g l
        | inr more ↦
            let same : i ≡ count = omega (arith, h, more) in
            let is : n ≡ k = same_Some n k (sym e ∙ ap (slice_get sids) (sym same) ∙ f) in
            subst (λ (x : ℕ). PassesMove v lines s (move_of x stays)) is
            (pass leg stays (ap (v.leg s.position s.via) is ∙ g) l)
      ]

  pub legs_all_to : KeepsLaws v → (to : ℕ) (sids : List ℕ) (count : ℕ) → sids ≡ v.sids_at to → length sids ≤ count
      → SomeLegsTo to sids count
      → PassLegsTo v lines s to
  legs_all_to laws to sids count e h so n leg stays f l =
      let is_next = (laws.leg s.position s.via n leg f).is_next in
      let sids_are : v.sids_at leg.to ≡ sids = ap v.sids_at l ∙ sym e in
      let place = place_in sids n (subst (λ (xs : List ℕ). Contains xs n) sids_are is_next) in
      so place.0 n leg stays (omega (arith, place.1, h)) place.2 f l

  -- moves by legs to positions below one
  abbrev pub LegsBelow : ℕ → Type 0
  LegsBelow to = (n : ℕ) (leg : Leg) (stays : Bool) → v.leg s.position s.via n ≡ Some leg → leg.to < to
      → PassesMove v lines s (move_of n stays)

  pub below_all : KeepsLaws v → (to : ℕ) → v.steps < to → LegsBelow to → PassLegs v lines s
  below_all laws to h so m =
      under_behind v (potential_at lines s) (edge_of v s m) (potential_at lines) (λ e k.
      let parts = edge_parts v s m e k in
      let within = (laws.leg s.position s.via m.sid parts.leg parts.leg_is).within in
      subst (λ (o : Option Edge). Under (potential_at lines s) (behind o (potential_at lines))) k
      (so m.sid parts.leg m.stays parts.leg_is (omega (arith, within, h))))

  -- moves to the end by some of the SIDs of the last position
  abbrev pub SomeEnds : List ℕ → ℕ → Type 0
  SomeEnds sids count = (i n : ℕ) (stays : Bool) → i < count → slice_get sids i ≡ Some n → PassesLast v lines s (move_of n stays)

  pub ends_more : (sids : List ℕ) (count n : ℕ) → slice_get sids count ≡ Some n
      → ((stays : Bool) → PassesLast v lines s (move_of n stays))
      → SomeEnds sids count → SomeEnds sids (count + 1)
  ends_more sids count n e pass so i k stays h f =
      elim (cases_lt i count) as (λ w. PassesLast v lines s (move_of k stays)) [
        | inl less ↦ so i k stays less f
        | inr more ↦
            let same : i ≡ count = omega (arith, h, more) in
            let is : n ≡ k = same_Some n k (sym e ∙ ap (slice_get sids) (sym same) ∙ f) in
            subst (λ (x : ℕ). PassesLast v lines s (move_of x stays)) is (pass stays)
      ]

  pub ends_by : (n : ℕ) → v.finish s.position s.via n ≡ None → (stays : Bool) → PassesLast v lines s (move_of n stays)
  ends_by n e stays =
      under_last (potential_at lines s) (last_of v s (move_of n stays)) (λ c h.
      let parts = last_parts v s (move_of n stays) c h in
      absurd (none-some parts.hops (sym e ∙ parts.finish_is)))

  pub ends_all : KeepsLaws v → (sids : List ℕ) (steps count : ℕ) → steps ≡ v.steps → sids ≡ v.sids_at steps → length sids ≤ count
      → SomeEnds sids count
      → PassEnds v lines s
  ends_all laws sids steps count e f h so m =
      under_last (potential_at lines s) (last_of v s m) (λ c k.
      let parts = last_parts v s m c k in
      let is_next = (laws.finish s.position s.via m.sid parts.hops parts.finish_is).is_next in
      let sids_are : v.sids_at v.steps ≡ sids = ap v.sids_at (sym e) ∙ sym f in
      let place = place_in sids m.sid (subst (λ (xs : List ℕ). Contains xs m.sid) sids_are is_next) in
      subst (λ (o : Option Cost). Under (potential_at lines s) o) k (so place.0 m.sid m.stays (omega (arith, place.1, h)) place.2))
