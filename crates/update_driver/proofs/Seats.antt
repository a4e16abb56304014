-- What is so of packets and seats stays so.
use Rattle.std.proofs.Common.{◌≡◌, ◌⊎◌, inl, inr, ℕ, zero, suc, ◌+◌, ◌^◌, ◌<◌, ◌≤◌, List, [], ◌∷◌, length, length-append, slice_get, slice_set, Option, Some, None, refl, sym, ap, ◌∙◌, arith}
use Rattle.std.proofs.lemmas.List.{length-set}
use Rattle.net_model.specs.Network.{Network}
use Rattle.walk_rules.specs.declared.place.Ended.{Ended}
use Rattle.packet_walk.specs.Flight.{InFlight, Packets, packet_in, staged, turned, turned_by, turned_where, with_packet, within}
use Rattle.packet_walk.specs.FlightTerms.{IsNumber}
use Rattle.update_plan.specs.UpdateState.{tables_now}
use Rattle.run_commands.specs.Admission.{Admission, EndsEarly, Admitted}
use Rattle.update_driver.specs.declared.seat.Seat.{Seat}
use Rattle.update_driver.specs.declared.seat.Seat.TheVariants as seats
use Rattle.update_driver.specs.Going.{IsMoving, coming_in, to_come}
use Rattle.update_driver.specs.Moving.{Doing, Moving, Sides, after_entering, after_staying, as_in_flight, coming_by, entered_count, turning}

-- ---- lists of which one element is another

pub get_set : {X : Type 0} → (xs : List X) (i j : ℕ) (y z : X) → slice_get (slice_set xs i y) j ≡ Some z
    → (y ≡ z) ⊎ (slice_get xs j ≡ Some z)
get_set [] i j y z h = inr h
get_set (x ∷ xs) zero zero y z h = inl (cc)
get_set (x ∷ xs) zero (suc j) y z h = inr h
get_set (x ∷ xs) (suc i) zero y z h = inr h
get_set (x ∷ xs) (suc i) (suc j) y z h = get_set xs i j y z h

pub set_set : {X : Type 0} → (xs : List X) (i : ℕ) (y z : X) → slice_set (slice_set xs i y) i z ≡ slice_set xs i z
set_set [] i y z = refl
set_set (x ∷ xs) zero y z = refl
set_set {X} (x ∷ xs) (suc i) y z = ap (λ (more : List X). x ∷ more) (set_set xs i y z)

pub set_same : {X : Type 0} → (xs : List X) (i : ℕ) (x : X) → slice_get xs i ≡ Some x → slice_set xs i x ≡ xs
set_same [] i x h = refl
set_same {X} (x ∷ xs) zero y h = let same : x ≡ y = cc in ap (λ (z : X). z ∷ xs) (sym same)
set_same {X} (x ∷ xs) (suc i) y h = ap (λ (more : List X). x ∷ more) (set_same xs i y h)

-- ---- how many are to come

to_come_set : (xs : List Seat) (i : ℕ) (x y : Seat) → slice_get xs i ≡ Some x → coming_in x ≡ coming_in y
    → to_come (slice_set xs i y) ≡ to_come xs
to_come_set [] i x y h same = refl
to_come_set (s ∷ xs) zero x y h same =
    let is : s ≡ x = cc in ap (λ (n : ℕ). n + to_come xs) (sym same ∙ ap coming_in (sym is))
to_come_set (s ∷ xs) (suc i) x y h same = ap (λ (n : ℕ). coming_in s + n) (to_come_set xs i x y h same)

gone_less : (xs : List Seat) (i : ℕ) → to_come (slice_set xs i seats.Gone) ≤ to_come xs
gone_less [] i = omega arith
gone_less (s ∷ xs) zero = omega arith
gone_less (s ∷ xs) (suc i) = let less = gone_less xs i in omega (arith, less)

pub gone_one : (xs : List Seat) (i n : ℕ) (x : Seat) → slice_get xs i ≡ Some x → coming_in x ≡ 1
    → to_come (slice_set xs i seats.Gone) + 1 ≡ to_come xs
gone_one [] i n x h one = absurd (cc)
gone_one (s ∷ xs) zero n x h one =
    let is : s ≡ x = cc in let c : coming_in s ≡ 1 = ap coming_in is ∙ one in omega (arith, c)
gone_one (s ∷ xs) (suc i) n x h one = let less = gone_one xs i n x h one in omega (arith, less)

-- ---- turns

length_with : (k : ℕ) (ps : List InFlight) (x : InFlight) → length (with_packet ps k x) ≡ length ps
length_with zero ps x = refl
length_with (suc before) ps x = length-set ps before x

length_where : (net : Network) (k : ℕ) (all : Packets) (p : InFlight) (e : Option Ended)
    → length (turned_where k (within net all) p e).packets ≡ length all.packets
length_where net k all p None = length_with k all.packets (staged net p)
length_where net k all p (Some end) = refl

pub length_by : (net : Network) (k : ℕ) (all : Packets) (o : Option InFlight)
    → length (turned_by k (within net all) o).packets ≡ length all.packets
length_by net k all None = refl
length_by net k all (Some p) = length_where net k all p p.ended

pub number_longer : (ps qs : List InFlight) (k : ℕ) → length ps ≤ length qs → IsNumber ps k → IsNumber qs k
number_longer ps qs k long h = record { first = h.first; last = omega (arith, h.last, long) }

-- ---- what is so between events

module _ (net : Network) (sides : Sides) (m : Moving) (h : IsMoving net sides m) where
  abbrev those : List InFlight
  those = m.update.transition.packets.packets

  pub moving_turned : (number k : ℕ) → IsMoving net sides (turning number k m).after
  moving_turned number k =
      let same : length (turned k (within (tables_now m.update) m.update.transition.packets)).packets ≡ length those =
      length_by (tables_now m.update) k m.update.transition.packets (packet_in those k) in
      record {
        nodes = h.nodes;
        links = h.links;
        within_old = h.within_old;
        within_new = h.within_new;
        short = h.short;
        few = omega (arith, h.few, same);
        numbered = λ at packet there. number_longer those
            (turned k (within (tables_now m.update) m.update.transition.packets)).packets packet
            (omega (arith, same)) (h.numbered at packet there);
      }

  gone_numbered : (at other packet : ℕ) → slice_get (slice_set m.seats at seats.Gone) other ≡ Some (seats.Entered packet)
      → IsNumber those packet
  gone_numbered at other packet there = by (get_set m.seats at other seats.Gone (seats.Entered packet) there)
    where
      by : (seats.Gone ≡ seats.Entered packet) ⊎ (slice_get m.seats other ≡ Some (seats.Entered packet)) → IsNumber those packet
      by (inl same) = absurd (cc)
      by (inr there) = h.numbered other packet there

  pub moving_stayed : (at : ℕ) → IsMoving net sides (after_staying at m)
  moving_stayed at =
      let less = gone_less m.seats at in
      record {
        nodes = h.nodes;
        links = h.links;
        within_old = h.within_old;
        within_new = h.within_new;
        short = let n = length-set m.seats at seats.Gone in omega (arith, h.short, n);
        few = omega (arith, h.few, less);
        numbered = gone_numbered at;
      }

  module _ (at : ℕ) (p : InFlight) (there : slice_get m.seats at ≡ Some seats.Gone)
      (room : length m.update.transition.packets.packets + (to_come m.seats + 1) < 2 ^ 32) where
    abbrev after : Moving
    after = after_entering at p m

    one_more : length after.update.transition.packets.packets ≡ length those + 1
    one_more = length-append those _

    entered_numbered : (other packet : ℕ) → slice_get after.seats other ≡ Some (seats.Entered packet)
        → IsNumber after.update.transition.packets.packets packet
    entered_numbered other packet found = by (get_set m.seats at other (seats.Entered (entered_count m + 1)) (seats.Entered packet) found)
      where
        by : (seats.Entered (entered_count m + 1) ≡ seats.Entered packet) ⊎ (slice_get m.seats other ≡ Some (seats.Entered packet))
            → IsNumber after.update.transition.packets.packets packet
        by (inl same) =
            let is : entered_count m + 1 ≡ packet = cc in
            let n : length after.update.transition.packets.packets ≡ entered_count m + 1 = one_more in
            record { first = omega (arith, is); last = omega (arith, is, n) }
        by (inr old) = number_longer those after.update.transition.packets.packets packet (omega (arith, one_more))
            (h.numbered other packet old)

    pub moving_entered : IsMoving net sides after
    moving_entered =
        let same = to_come_set m.seats at seats.Gone (seats.Entered (entered_count m + 1)) there refl in
        record {
          nodes = h.nodes;
          links = h.links;
          within_old = h.within_old;
          within_new = h.within_new;
          short = let n = length-set m.seats at (seats.Entered (entered_count m + 1)) in omega (arith, h.short, n);
          few = omega (arith, room, one_more, same);
          numbered = entered_numbered;
        }

-- a packet whose seat was taken from it comes as it would have
pub coming_stayed : (at : ℕ) (m : Moving) (e : Admission) → coming_by at (after_staying at m) e ≡ coming_by at m e
coming_stayed at m (EndsEarly stays) =
    ap (λ (xs : List Seat). coming_by at (record m { seats = xs }) (EndsEarly stays)) (refl)
    ∙ ap (λ (xs : List Seat). left xs) (set_set m.seats at seats.Gone seats.Gone)
  where
    left : List Seat → Doing
    left xs = record { happens = (coming_by at m (EndsEarly stays)).happens; after = record m { seats = xs } }
coming_stayed at m (Admitted comes) =
    ap (λ (xs : List Seat). left xs) (set_set m.seats at seats.Gone (seats.Entered (entered_count m + 1)))
  where
    left : List Seat → Doing
    left xs = turning (suc at) (entered_count m + 1) (record (after_entering at (as_in_flight comes) m) { seats = xs })
