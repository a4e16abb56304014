-- Packets that have ended take no stage, and what is asked for of all packets and edits.
use Rattle.std.proofs.Common.{◌≡◌, ℕ, zero, suc, ◌+◌, ◌<◌, drop, true, is_some, List, [], ◌∷◌, ◌++◌, length, length-append, map, slice_get, Option, Some, None, refl, ap, ◌∙◌, arith}
use Rattle.std.specs.Prelude.{replicate}
use Rattle.std.specs.List.{flat_map}
use Rattle.std.proofs.lemmas.List.{length-map}
use Rattle.walk_rules.specs.declared.limits.TheConstants.{MAX_STAGES}
use Rattle.walk_rules.specs.declared.place.Ended.{Ended}
use Rattle.packet_walk.specs.Flight.{InFlight, packet_in, turned_by, within}
use Rattle.update_flight.specs.declared.table_edit.Edit.TheVariants.{Added, Switched, Removed}
use Rattle.net_model.specs.declared.net.EntryId.{EntryId}
use Rattle.update_flight.specs.Transition.{edits, packets_of}
use Rattle.update_plan.specs.UpdateState.{tables_now}
use Rattle.update_driver.specs.declared.seat.Seat.{Seat}
use Rattle.update_driver.specs.declared.seat.Seat.TheVariants as seats
use Rattle.update_driver.specs.Events.{numbers_behind, to_their_ends}
use Rattle.update_driver.specs.Going.{ended_in, has_ended}
use Rattle.update_driver.specs.Moving.{Doing, Moving, Sides, doing, happening, nothing, stepping, happenings_of_turn}

-- a turn of one that has ended, or of none
abbrev turning_by : ℕ → ℕ → Moving → Option InFlight → Doing
turning_by number k m o = record {
  happens = happenings_of_turn number m.update o;
  after = record m {
    update = record m.update {
      transition = record m.update.transition {
        packets = packets_of (turned_by k (within (tables_now m.update) m.update.transition.packets) o);
      };
    };
  };
}

idle_where : (number k : ℕ) (m : Moving) (p : InFlight) (e : Option Ended) → p.ended ≡ e → is_some e ≡ true
    → turning_by number k m (Some p) ≡ nothing m
idle_where number k m p None is over = absurd (cc)
idle_where number k m p (Some end) is over = rw is refl

idle_by : (number k : ℕ) (m : Moving) (o : Option InFlight) → ended_in o ≡ true → turning_by number k m o ≡ nothing m
idle_by number k m None over = refl
idle_by number k m (Some p) over = idle_where number k m p p.ended refl over

idle_seat : (sides : Sides) (at : ℕ) (m : Moving) (o : Option Seat) → has_ended m.update o ≡ true → stepping sides at m o ≡ nothing m
idle_seat sides at m None over = refl
idle_seat sides at m (Some (seats.ToCome body)) over = absurd (cc)
idle_seat sides at m (Some (seats.Entered packet)) over =
    idle_by (suc at) packet m (packet_in m.update.transition.packets.packets packet) over
idle_seat sides at m (Some seats.Gone) over = refl

pub idle : (sides : Sides) (at : ℕ) (m : Moving) → has_ended m.update (slice_get m.seats at) ≡ true → doing sides (suc at) m ≡ nothing m
idle sides at m over = idle_seat sides at m (slice_get m.seats at) over

-- events that do nothing
module _ (sides : Sides) (event : ℕ) (m : Moving) (none : doing sides event m ≡ nothing m) where
  pub idle_all : (n : ℕ) (more : List ℕ) → happening sides m (replicate n event ++ more) ≡ happening sides m more
  idle_all zero more = refl
  idle_all (suc n) more =
      ap (λ (d : Doing). d.happens ++ happening sides d.after (replicate n event ++ more)) none ∙ idle_all n more

  pub idle_none : (n : ℕ) → happening sides m (replicate n event) ≡ []
  idle_none zero = refl
  idle_none (suc n) = ap (λ (d : Doing). d.happens ++ happening sides d.after (replicate n event)) none ∙ idle_none n

-- how many edits there are
pub edits_count : (added removed : List EntryId) → length (edits added removed) ≡ length added + length removed + 1
edits_count added removed =
    let a : length (edits added removed) ≡ length (map Added added) + length (Switched ∷ map Removed removed) =
    length-append (map Added added) (Switched ∷ map Removed removed) in
    let b : length (map Added added) ≡ length added = length-map added Added in
    let c : length (map Removed removed) ≡ length removed = length-map removed Removed in
    omega (arith, a, b, c)

-- as many packets have the same numbers

numbers_same : {X Y : Type 0} → (n : ℕ) (xs : List X) (ys : List Y) → length xs ≡ length ys → numbers_behind n xs ≡ numbers_behind n ys
numbers_same n [] [] same = refl
numbers_same n [] (y ∷ ys) same = absurd (omega (arith, same))
numbers_same n (x ∷ xs) [] same = absurd (omega (arith, same))
numbers_same n (x ∷ xs) (y ∷ ys) same = ap (λ (more : List ℕ). suc n ∷ more) (numbers_same (suc n) xs ys (omega (arith, same)))

pub ends_same : {X Y : Type 0} → (xs : List X) (ys : List Y) → length xs ≡ length ys → to_their_ends xs ≡ to_their_ends ys
ends_same xs ys same = ap (flat_map (λ number. replicate MAX_STAGES number)) (numbers_same 0 xs ys same)

-- the stages that are asked for of the packets behind the first ones, so many
abbrev pub ends_from : {X : Type 0} → ℕ → List X → List ℕ
ends_from n xs = flat_map (λ number. replicate MAX_STAGES number) (numbers_behind n (drop n xs))

ends_list : {X : Type 0} → (n k : ℕ) (xs : List X) → n < length xs
    → numbers_behind k (drop n xs) ≡ suc k ∷ numbers_behind (suc k) (drop (suc n) xs)
ends_list n k [] within = absurd (omega (arith, within))
ends_list zero k (x ∷ xs) within = refl
ends_list (suc n) k (x ∷ xs) within = ends_list n k xs (omega (arith, within))

pub ends_step : {X : Type 0} → (n : ℕ) (xs : List X) → n < length xs → ends_from n xs ≡ replicate MAX_STAGES (suc n) ++ ends_from (suc n) xs
ends_step n xs within = ap (flat_map (λ number. replicate MAX_STAGES number)) (ends_list n n xs within)
