-- What is so of packets and their seats at each moment, and how many stages they may have yet.
use Rattle.std.proofs.Common.{◌≡◌, ◌⊎◌, inl, inr, ℕ, zero, suc, ◌+◌, ◌<◌, ◌≤◌, Bool, true, false, if◌then◌else◌, List, [], ◌∷◌, length, length-append, slice_get, slice_set, Option, Some, None, refl, sym, ap, ◌∙◌, subst, arith}
use Rattle.std.specs.Prelude.{⊤}
use Rattle.std.proofs.lemmas.List.{length-set}
use Rattle.pcap_io.specs.declared.frame.Body.{Body}
use Rattle.walk_rules.specs.declared.limits.TheConstants.{MAX_STAGES}
use Rattle.packet_walk.specs.Flight.{InFlight, packet_in}
use Rattle.packet_walk.specs.FlightTerms.{IsCounted, IsNumber}
use Rattle.update_flight.specs.Transition.{edit_count, is_before_switch}
use Rattle.update_plan.specs.UpdateState.{tables_now}
use Rattle.update_driver.specs.declared.seat.Seat.{Seat}
use Rattle.update_driver.specs.declared.seat.Seat.TheVariants as seats
use Rattle.update_driver.specs.Going.{ended_in, has_ended}
use Rattle.update_driver.specs.Moving.{Moving, after_entering, after_staying, after_turn, entered_count, turning}
use Rattle.update_driver.proofs.EventPackets.{get_same}
use Rattle.update_driver.proofs.Seats.{length_by, number_longer}
use Rattle.update_driver.proofs.Tracks.{AllCounted, LeftIn, get_behind, get_front, left_most, none_left, set_cases, turned_counted, turned_over}

pub lt_or : (a b : ℕ) → a < suc b → (a < b) ⊎ (b ≡ a)
lt_or zero zero h = inr refl
lt_or zero (suc b) h = inl (omega arith)
lt_or (suc a) zero h = absurd (omega (arith, h))
lt_or (suc a) (suc b) h = up (lt_or a b (omega (arith, h)))
  where
    up : (a < b) ⊎ (b ≡ a) → (suc a < suc b) ⊎ (suc b ≡ suc a)
    up (inl less) = inl (omega (arith, less))
    up (inr same) = inr (ap suc same)

pub less_or : (a b : ℕ) → (a < b) ⊎ (b ≤ a)
less_or a zero = inr (omega arith)
less_or zero (suc b) = inl (omega arith)
less_or (suc a) (suc b) = up (less_or a b)
  where
    up : (a < b) ⊎ (b ≤ a) → (suc a < suc b) ⊎ (suc b ≤ suc a)
    up (inl less) = inl (omega (arith, less))
    up (inr most) = inr (omega (arith, most))

pub within_of : {X : Type 0} → (xs : List X) (i : ℕ) (x : X) → slice_get xs i ≡ Some x → i < length xs
within_of [] i x h = absurd (cc)
within_of (y ∷ xs) zero x h = omega arith
within_of (y ∷ xs) (suc i) x h = let less = within_of xs i x h in omega (arith, less)

pub past_of : {X : Type 0} → (xs : List X) (i : ℕ) → slice_get xs i ≡ None → length xs ≤ i
past_of [] i h = omega arith
past_of (x ∷ xs) zero h = absurd (cc)
past_of (x ∷ xs) (suc i) h = let less = past_of xs i h in omega (arith, less)

abbrev pub those : Moving → List InFlight
those m = m.update.transition.packets.packets

-- what is so of packets and seats: each packet that entered has one seat, and no packet goes on for ever
pub record IsTracked (count total : ℕ) (m : Moving) : Type 0 where
  pub many : length m.seats ≡ count
  pub all : edit_count m.update.transition ≡ total
  pub numbered : (at k : ℕ) → slice_get m.seats at ≡ Some (seats.Entered k) → IsNumber (those m) k
  pub covered : (k : ℕ) → IsNumber (those m) k → (at : ℕ) × (slice_get m.seats at ≡ Some (seats.Entered k))
  pub counted : AllCounted (those m)

abbrev pub IsEnded : Moving → ℕ → Type 0
IsEnded m i = has_ended m.update (slice_get m.seats i) ≡ true

-- the packet of a seat may have so many stages yet, at most
abbrev pub LeftAt : ℕ → Moving → Option Seat → Type 0
LeftAt n m None = ⊤
LeftAt n m (Some (seats.ToCome body)) = MAX_STAGES ≤ n
LeftAt n m (Some (seats.Entered k)) = LeftIn n (packet_in (those m) k)
LeftAt n m (Some seats.Gone) = ⊤

pub left_first : (most : ℕ) → MAX_STAGES ≤ most → (m : Moving) (o : Option Seat) → LeftAt most m o
left_first most enough m None = tt
left_first most enough m (Some (seats.ToCome body)) = enough
left_first most enough m (Some (seats.Entered k)) = left_most most enough (packet_in (those m) k)
left_first most enough m (Some seats.Gone) = tt

pub left_last : (m : Moving) (o : Option Seat) → AllCounted (those m) → LeftAt 0 m o → has_ended m.update o ≡ true
left_last m None counted left = refl
left_last m (Some (seats.ToCome body)) counted left = absurd (omega (arith, left))
left_last m (Some (seats.Entered k)) counted left = none_left (those m) k counted left
left_last m (Some seats.Gone) counted left = refl

module _ (count total : ℕ) (m : Moving) (t : IsTracked count total m) where
  -- ---- a turn
  pub tracked_turned : (number k : ℕ) → IsTracked count total (turning number k m).after
  tracked_turned number k =
      let same : length (those (turning number k m).after) ≡ length (those m) =
      length_by (tables_now m.update) k m.update.transition.packets (packet_in (those m) k) in
      record {
        many = t.many;
        all = t.all;
        numbered = λ at j there. number_longer (those m) (those (turning number k m).after) j (omega (arith, same)) (t.numbered at j there);
        covered = λ j given. t.covered j (number_longer (those (turning number k m).after) (those m) j (omega (arith, same)) given);
        counted = turned_counted (tables_now m.update) k m.update.transition.packets t.counted;
      }

  pub turned_seat : (k : ℕ) (o : Option Seat) → has_ended m.update o ≡ true → has_ended (after_turn k m).update o ≡ true
  turned_seat k None over = refl
  turned_seat k (Some (seats.ToCome body)) over = absurd (cc)
  turned_seat k (Some (seats.Entered j)) over = turned_over (tables_now m.update) k m.update.transition.packets j over
  turned_seat k (Some seats.Gone) over = refl

  -- ---- one that was to come
  module _ (at : ℕ) (body : Body) (there : slice_get m.seats at ≡ Some (seats.ToCome body)) where
    room : at < length m.seats
    room = within_of m.seats at (seats.ToCome body) there

    -- another seat is as it was
    other : (x : Seat) (i k : ℕ) → slice_get m.seats i ≡ Some (seats.Entered k) → slice_get (slice_set m.seats at x) i ≡ Some
        (seats.Entered k)
    other x i k h = by (set_cases m.seats at i x)
      where
        by : (slice_get (slice_set m.seats at x) i ≡ slice_get m.seats i) ⊎ ((at ≡ i) × (slice_get (slice_set m.seats at x) i ≡ Some x))
            → slice_get (slice_set m.seats at x) i ≡ Some (seats.Entered k)
        by (inl same) = same ∙ h
        by (inr e) =
            let both : Some (seats.ToCome body) ≡ Some (seats.Entered k) = sym there ∙ (ap (slice_get m.seats) e.0 ∙ h) in absurd (cc)

    pub tracked_stayed : IsTracked count total (after_staying at m)
    tracked_stayed = record {
      many = length-set m.seats at seats.Gone ∙ t.many;
      all = t.all;
      numbered = numbered;
      covered = λ k given. let c = t.covered k given in (c.0, other seats.Gone c.0 k c.1);
      counted = t.counted;
    }
      where
        numbered : (i k : ℕ) → slice_get (slice_set m.seats at seats.Gone) i ≡ Some (seats.Entered k) → IsNumber (those m) k
        numbered i k h = by (set_cases m.seats at i seats.Gone)
          where
            by : (slice_get (slice_set m.seats at seats.Gone) i ≡ slice_get m.seats i)
                ⊎ ((at ≡ i) × (slice_get (slice_set m.seats at seats.Gone) i ≡ Some seats.Gone)) → IsNumber (those m) k
            by (inl same) = t.numbered i k (sym same ∙ h)
            by (inr e) = let both : Some seats.Gone ≡ Some (seats.Entered k) = sym e.1 ∙ h in absurd (cc)

    -- an ended seat is another one, and is as it was
    ended_other : (x : Seat) (i : ℕ) → IsEnded m i → slice_get (slice_set m.seats at x) i ≡ slice_get m.seats i
    ended_other x i over = by (set_cases m.seats at i x)
      where
        by : (slice_get (slice_set m.seats at x) i ≡ slice_get m.seats i) ⊎ ((at ≡ i) × (slice_get (slice_set m.seats at x) i ≡ Some x))
            → slice_get (slice_set m.seats at x) i ≡ slice_get m.seats i
        by (inl same) = same
        by (inr e) =
            let seat : slice_get m.seats i ≡ Some (seats.ToCome body) = ap (slice_get m.seats) (sym e.0) ∙ there in
            let no : has_ended m.update (Some (seats.ToCome body)) ≡ true =
            subst (λ (o : Option Seat). has_ended m.update o ≡ true) seat over in absurd (cc)

    pub stayed_over : (i : ℕ) → IsEnded m i → IsEnded (after_staying at m) i
    stayed_over i over = subst (λ (o : Option Seat). has_ended m.update o ≡ true) (sym (ended_other seats.Gone i over)) over

    -- it enters
    module _ (p : InFlight) (one : IsCounted p) where
      abbrev mid : Moving
      mid = after_entering at p m

      abbrev number : ℕ
      number = entered_count m + 1

      abbrev last : InFlight
      last = if is_before_switch m.update.transition then p else p

      last_is : (c : Bool) → (if c then p else p) ≡ p
      last_is true = refl
      last_is false = refl

      longer : length (those mid) ≡ length (those m) + 1
      longer = length-append (those m) (last ∷ [])

      entered_counted : AllCounted (those mid)
      entered_counted i q h = by (get_behind (those m) last q i h)
        where
          by : (slice_get (those m) i ≡ Some q) ⊎ (last ≡ q) → IsCounted q
          by (inl old) = t.counted i q old
          by (inr new) = subst IsCounted (sym (last_is (is_before_switch m.update.transition)) ∙ new) one

      here : slice_get mid.seats at ≡ Some (seats.Entered number)
      here = get_same m.seats at (seats.Entered number) room

      entered_numbered : (i k : ℕ) → slice_get mid.seats i ≡ Some (seats.Entered k) → IsNumber (those mid) k
      entered_numbered i k h = by (set_cases m.seats at i (seats.Entered number))
        where
          by : (slice_get mid.seats i ≡ slice_get m.seats i) ⊎ ((at ≡ i) × (slice_get mid.seats i ≡ Some (seats.Entered number)))
              → IsNumber (those mid) k
          by (inl same) = number_longer (those m) (those mid) k (omega (arith, longer)) (t.numbered i k (sym same ∙ h))
          by (inr e) =
              let both : Some (seats.Entered number) ≡ Some (seats.Entered k) = sym e.1 ∙ h in
              let is : number ≡ k = cc in
              record { first = omega (arith, is); last = omega (arith, is, longer) }

      entered_covered : (k : ℕ) → IsNumber (those mid) k → (i : ℕ) × (slice_get mid.seats i ≡ Some (seats.Entered k))
      entered_covered k given = by (lt_or k number (let most = given.last in omega (arith, most, longer)))
        where
          by : (k < number) ⊎ (number ≡ k) → (i : ℕ) × (slice_get mid.seats i ≡ Some (seats.Entered k))
          by (inl less) =
              let c = t.covered k (record { first = given.first; last = omega (arith, less) }) in
              (c.0, other (seats.Entered number) c.0 k c.1)
          by (inr is) = (at, here ∙ ap (λ (j : ℕ). Some (seats.Entered j)) is)

      pub tracked_entered : IsTracked count total mid
      tracked_entered = record {
        many = length-set m.seats at (seats.Entered number) ∙ t.many;
        all = t.all;
        numbered = entered_numbered;
        covered = entered_covered;
        counted = entered_counted;
      }

      entered_packet : (k : ℕ) → IsNumber (those m) k → packet_in (those mid) k ≡ packet_in (those m) k
      entered_packet zero given = refl
      entered_packet (suc i) given = let less = given.last in get_front (those m) (last ∷ []) i (omega (arith, less))

      entered_seat : (i : ℕ) (o : Option Seat) → slice_get m.seats i ≡ o → has_ended m.update o ≡ true → has_ended mid.update o ≡ true
      entered_seat i None is over = refl
      entered_seat i (Some (seats.ToCome b)) is over = absurd (cc)
      entered_seat i (Some (seats.Entered k)) is over = ap ended_in (entered_packet k (t.numbered i k is)) ∙ over
      entered_seat i (Some seats.Gone) is over = refl

      pub entered_over : (i : ℕ) → IsEnded m i → IsEnded mid i
      entered_over i over = subst (λ (o : Option Seat). has_ended mid.update o ≡ true) (sym (ended_other (seats.Entered number) i over))
          (entered_seat i (slice_get m.seats i) refl over)
