-- A packet that is to come stays, or enters and takes its first stage.
use Rattle.std.proofs.Common.{◌≡◌, ℕ, suc, ◌+◌, ◌<◌, ◌^◌, List, [], ◌∷◌, ◌++◌, length, slice_get, slice_set, Some, None, Result, Ok, Err, refl, sym, ap, ap₂, ◌∙◌, subst, arith}
use Rattle.std.specs.Prelude.{OnOk}
use Rattle.net_model.specs.Network.{Network}
use Rattle.node_stage.specs.Fronted.{FrontedContent, fronted}
use Rattle.packet_walk.specs.Flight.{InFlight, entering, with_front}
use Rattle.srv6_rules.specs.Packet.{Content}
use Rattle.update_flight.specs.Transition.{Transition, entered}
use Rattle.update_flight.specs.TransitionTerms.{EntersAs}
use Rattle.srx_edge.specs.CallSteps.{Ending}
use Rattle.command_output.specs.GatheredTerms.{Goes, Pooled}
use Rattle.run_commands.specs.declared.enters.Entrant.{Entrant}
use Rattle.run_commands.specs.declared.enters.EarlyEnd.{EarlyEnd}
use Rattle.run_commands.specs.Admission.{Admission, EndsEarly, Admitted, entrant_of, early_end_of}
use Rattle.update_driver.specs.declared.moving.Moving as code
use Rattle.update_driver.specs.declared.seat.Seat.{Seat}
use Rattle.update_driver.specs.declared.seat.Seat.TheVariants as seats
use Rattle.update_driver.specs.Events.{pieces_of}
use Rattle.update_driver.specs.Going.{GoesOnAs, HasEntered, IsGoing, IsMoving, StandsOn, moving_of, to_come}
use Rattle.update_driver.specs.Moving.{Doing, Happening, Moving, Sides, as_in_flight, coming_by, entered_count, first_member, happening, turning}
use Rattle.update_driver.specs.MovingTerms.{GoAlike}
use Rattle.update_driver.proofs.EventFronts.{alike_on, entered_on}
use Rattle.update_driver.proofs.Seats.{moving_entered, moving_turned, set_same}

-- what became of it, by what is told of it

pub staying_is : (e : Admission) (s : EarlyEnd) → early_end_of e ≡ Some s → e ≡ EndsEarly s
staying_is (EndsEarly t) s h = let same : t ≡ s = cc in ap (λ (x : EarlyEnd). EndsEarly x) same
staying_is (Admitted comes) s h = absurd (cc)

pub entering_is : (e : Admission) (c : Entrant) → entrant_of e ≡ Some c → e ≡ Admitted c
entering_is (EndsEarly t) c h = absurd (cc)
entering_is (Admitted comes) c h = let same : comes ≡ c = cc in ap (λ (x : Entrant). Admitted x) same

pub neither : (e : Admission) → early_end_of e ≡ None → entrant_of e ≡ None → ⊥
neither (EndsEarly t) one other = cc
neither (Admitted comes) one other = cc

-- how it entered

abbrev moving_with : Network → Transition → List Seat → List ℕ → Moving
moving_with joined t all numbers = record { update = record { joined = joined; transition = t }; seats = all; numbers = numbers }

module _ (at : ℕ) (m new : Moving) (comes : Entrant) (c : FrontedContent) (choices : List ℕ) (content : c.content ≡ comes.content)
    (picks : choices ≡ first_member) where
  abbrev p : InFlight
  p = entering c comes.place choices

  abbrev q : InFlight
  q = with_front c.front (as_in_flight comes)

  same_packet : p ≡ q
  same_packet = ap₂ (λ (x : Content) (ns : List ℕ). entering (fronted x c.front) comes.place ns) content picks

  pub entered_as : (k number : ℕ) → EntersAs m.update.transition p p (Ok k) new.update.transition
      → new.update.joined ≡ m.update.joined → new.seats ≡ slice_set m.seats at (seats.Entered k)
      → new.numbers ≡ m.numbers ++ number ∷ [] → number ≡ at + 1 → HasEntered at comes m new
  entered_as k number enters joined all numbers is =
      let n : number ≡ suc at = omega (arith, is) in (
        c.front,
        ap₂ (λ (net : Network) (t : Transition). moving_with net t new.seats new.numbers) joined
            (enters.1 ∙ ap (λ (x : InFlight). entered m.update.transition x x) same_packet)
            ∙ ap₂ (λ (xs : List Seat) (ns : List ℕ). moving_with m.update.joined (entered m.update.transition q q) xs ns)
            (all ∙ ap (λ (i : ℕ). slice_set m.seats at (seats.Entered i)) enters.0)
            (numbers ∙ ap (λ (i : ℕ). m.numbers ++ i ∷ []) n),
      )

module _ (sides : Sides) (net : Network) (m : Moving) (at number : ℕ) (is : IsMoving net sides m) (n : number ≡ suc at)
    (there : slice_get m.seats at ≡ Some seats.Gone) where
  -- it stays
  pub stays_alike : (s : EarlyEnd) (new : Moving) → new ≡ m → GoAlike sides (coming_by at m (EndsEarly s)).after new
  stays_alike s new same events =
      ap (λ (xs : List Seat). happening sides (record m { seats = xs }) events) (set_same m.seats at seats.Gone there)
      ∙ ap (λ (k : Moving). happening sides k events) (sym same)

  -- it entered
  module _ (comes : Entrant) (mid : Moving) (has : HasEntered at comes m mid) (packet : ℕ) (k : packet ≡ entered_count m + 1)
      (room : length m.update.transition.packets.packets + (to_come m.seats + 1) < 2 ^ 32) where
    pub mid_moving : IsMoving net sides mid
    mid_moving = subst (IsMoving net sides) (sym has.1)
        (moving_entered net sides m is at (with_front has.0 (as_in_flight comes)) there room)

    abbrev doing_then : Doing
    doing_then = turning number packet mid

    alike_then : (doing_then.happens ≡ (coming_by at m (Admitted comes)).happens)
        × GoAlike sides (coming_by at m (Admitted comes)).after doing_then.after
    alike_then =
        let one = entered_on sides at has.0 comes m mid has.1 in
        let same : doing_then ≡ turning (suc at) (entered_count m + 1) mid = ap₂ (λ (i j : ℕ). turning i j mid) n k in (
          ap (λ (d : Doing). d.happens) same ∙ one.told,
          λ events. sym (alike_on sides (turning (suc at) (entered_count m + 1) mid).after
              (coming_by at m (Admitted comes)).after one.left events)
              ∙ ap (λ (d : Doing). happening sides d.after events) (sym same),
        )

    pub comes_alike : (new : Moving) → new ≡ doing_then.after → GoAlike sides (coming_by at m (Admitted comes)).after new
    comes_alike new same events = alike_then.1 events ∙ ap (λ (x : Moving). happening sides x events) (sym same)

    pub comes_moving : (new : Moving) → new ≡ doing_then.after → IsMoving net sides new
    comes_moving new same = subst (IsMoving net sides) (sym same) (moving_turned net sides mid mid_moving number packet)

    pub comes_wrote : (ending : Ending) (o q : Pooled) → Goes ending (pieces_of net doing_then.happens) o q
        → Goes ending (pieces_of net (coming_by at m (Admitted comes)).happens) o q
    comes_wrote ending o q wrote = subst (λ (all : List Happening). Goes ending (pieces_of net all) o q) alike_then.0 wrote

-- what is so where both went well
pub ok_both : {X E : Type 0} (r : Result X E) (A B C : Type 0) → (A → B → C) → OnOk r A → OnOk r B → OnOk r C
ok_both (Ok x) A B C f a b = f a b
ok_both (Err e) A B C f a b = tt

pub stands_both : (a b c : code.Moving) → StandsOn a b → StandsOn b c → StandsOn a c
stands_both a b c one two =
    record { net = two.net ∙ one.net; choices = two.choices ∙ one.choices; seats = two.seats ∙ one.seats }

-- what the code holds is on its way
pub still_going : (sides : Sides) (a b : code.Moving) → StandsOn a b → IsMoving a.net.now sides (moving_of b) → IsGoing sides a
    → IsGoing sides b
still_going sides a b stands moving going = (
  subst (λ (net : Network). IsMoving net sides (moving_of b)) (sym stands.net) moving,
  stands.choices ∙ going.1,
)

-- it stayed
pub stays_done : (sides : Sides) (old new : code.Moving) (at : ℕ) (s : EarlyEnd) (e : Admission) → e ≡ EndsEarly s → IsGoing sides old
    → slice_get old.seats.items at ≡ Some seats.Gone → StandsOn old new → moving_of new ≡ moving_of old
    → GoesOnAs sides (coming_by at (moving_of old) e) old new
stays_done sides old new at s e is going there stands same = record {
  stands = stands;
  going = still_going sides old new stands (subst (IsMoving old.net.now sides) (sym same) going.0) going;
  alike = subst (λ (x : Admission). GoAlike sides (coming_by at (moving_of old) x).after (moving_of new)) (sym is)
      (stays_alike sides old.net.now (moving_of old) at (suc at) going.0 refl there s (moving_of new) same);
}

-- it entered and took its first stage
module _ (sides : Sides) (old mid new : code.Moving) (at number packet : ℕ) (comes : Entrant) (going : IsGoing sides old)
    (n : number ≡ suc at)
    (there : slice_get old.seats.items at ≡ Some seats.Gone) (has : HasEntered at comes (moving_of old) (moving_of mid))
    (k : packet ≡ entered_count (moving_of old) + 1)
    (room : length old.update.transition.packets.packets + (to_come old.seats.items + 1) < 2 ^ 32) (e : Admission)
    (is : e ≡ Admitted comes) where
  pub comes_done : StandsOn old mid → StandsOn mid new → moving_of new ≡ (turning number packet (moving_of mid)).after
      → GoesOnAs sides (coming_by at (moving_of old) e) old new
  comes_done one two same = record {
    stands = stands_both old mid new one two;
    going = still_going sides old new (stands_both old mid new one two)
        (comes_moving sides old.net.now (moving_of old) at number going.0 n there comes (moving_of mid) has packet k room
        (moving_of new) same)
        going;
    alike = subst (λ (x : Admission). GoAlike sides (coming_by at (moving_of old) x).after (moving_of new)) (sym is)
        (comes_alike sides old.net.now (moving_of old) at number going.0 n there comes (moving_of mid) has packet k room
        (moving_of new) same);
  }

  pub comes_went : StandsOn old mid → (ending : Ending) (o q : Pooled)
      → Goes ending (pieces_of mid.net.now (turning number packet (moving_of mid)).happens) o q
      → Goes ending (pieces_of old.net.now (coming_by at (moving_of old) e).happens) o q
  comes_went one ending o q wrote =
      subst (λ (x : Admission). Goes ending (pieces_of old.net.now (coming_by at (moving_of old) x).happens) o q) (sym is)
      (comes_wrote sides old.net.now (moving_of old) at number going.0 n there comes (moving_of mid) has packet k room ending o q
      (subst (λ (net : Network). Goes ending (pieces_of net (turning number packet (moving_of mid)).happens) o q) one.net wrote))
