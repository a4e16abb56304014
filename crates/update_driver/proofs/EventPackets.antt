-- What an event does for the packet of a frame.
use Rattle.std.proofs.Common.{◌≡◌, ℕ, zero, suc, ◌-◌, ◌≤◌, ◌<◌, List, [], ◌∷◌, length, slice_get, slice_set, Option, Some, None, refl, sym, ap, ◌∙◌, subst, arith}
use Rattle.std.proofs.lemmas.Option.{slice_get_past}
use Rattle.pcap_io.specs.declared.frame.Body.{Body}
use Rattle.net_model.specs.Network.{Network}
use Rattle.srx_edge.specs.CallSteps.{Ending, Whole}
use Rattle.command_output.specs.GatheredTerms.{Goes, Pooled}
use Rattle.command_output.proofs.PublicLaws.{goes_nowhere}
use Rattle.update_driver.specs.declared.moving.Moving as code
use Rattle.update_driver.specs.declared.seat.Seat.{Seat}
use Rattle.update_driver.specs.declared.seat.Seat.TheVariants as seats
use Rattle.update_driver.specs.Events.{pieces_of}
use Rattle.update_driver.specs.Going.{GoesOn, GoesOnAs, IsGoing, IsMoving, StandsOn, moving_of, written}
use Rattle.update_driver.specs.Moving.{Doing, Moving, Sides, after_staying, coming_by, doing, nothing, side_of, stepping}
use Rattle.update_driver.specs.MovingTerms.{GoAlike}
use Rattle.update_driver.proofs.EventComing.{stands_both, still_going}
use Rattle.update_driver.proofs.Seats.{coming_stayed, set_same}
use Rattle.update_driver.proofs.EventSteps.{alike_one, doing_number, one_on, one_went}

pub get_same : {X : Type 0} → (xs : List X) (i : ℕ) (y : X) → i < length xs → slice_get (slice_set xs i y) i ≡ Some y
get_same [] i y within = absurd (omega (arith, within))
get_same (x ∷ xs) zero y within = refl
get_same (x ∷ xs) (suc i) y within = get_same xs i y (omega (arith, within))

module _ (sides : Sides) (old : code.Moving) (number : ℕ) (first : 1 ≤ number) where
  abbrev at : ℕ
  at = number - 1

  abbrev m : Moving
  m = moving_of old

  does : (o : Option Seat) → slice_get old.seats.items at ≡ o → doing sides number m ≡ stepping sides at m o
  does o there = doing_number sides number m first ∙ ap (stepping sides at m) there

  idle_went : doing sides number m ≡ nothing m → (pool : Pooled) → Goes Whole (written sides old (number ∷ [])) pool pool
  idle_went none pool = one_went sides number old Whole pool pool
      (subst (λ (d : Doing). Goes Whole (pieces_of old.net.now d.happens) pool pool) (sym none) (goes_nowhere pool))

  pub none_went : length old.seats.items ≤ number - 1 → (pool : Pooled) → Goes Whole (written sides old (number ∷ [])) pool pool
  none_went past pool = idle_went (does None (slice_get_past old.seats.items at past)) pool

  module _ (new : code.Moving) (there : slice_get old.seats.items (number - 1) ≡ Some seats.Gone) where
    pub gone_on : StandsOn old new → moving_of new ≡ after_staying (number - 1) m → IsGoing sides old → GoesOn sides (number ∷ []) old new
    gone_on stands is going =
        let same : moving_of new ≡ m =
        is ∙ ap (λ (xs : List Seat). record m { seats = xs }) (set_same old.seats.items at seats.Gone there) in
        one_on sides number old new stands (still_going sides old new stands (subst (IsMoving old.net.now sides) (sym same) going.0) going)
        (same ∙ sym (ap (λ (d : Doing). d.after) (does (Some seats.Gone) there)))

    pub gone_went : (pool : Pooled) → Goes Whole (written sides old (number ∷ [])) pool pool
    gone_went pool = idle_went (does (Some seats.Gone) there) pool

  module _ (mid new : code.Moving) (body : Body) (k : ℕ) (same_number : k ≡ number)
      (there : slice_get old.seats.items (number - 1) ≡ Some (seats.ToCome body)) (one : StandsOn old mid)
      (is : moving_of mid ≡ after_staying (number - 1) m) where
    same_doing : coming_by (k - 1) (moving_of mid) (side_of sides mid.update body) ≡ doing sides number m
    same_doing =
        ap (λ (n : ℕ). coming_by (n - 1) (moving_of mid) (side_of sides mid.update body)) same_number
        ∙ (ap (λ (x : Moving). coming_by at x (side_of sides x.update body)) is
        ∙ (coming_stayed at m (side_of sides old.update body)
        ∙ sym (does (Some (seats.ToCome body)) there)))

    pub coming_on : GoesOnAs sides (coming_by (k - 1) (moving_of mid) (side_of sides mid.update body)) mid new
        → GoesOn sides (number ∷ []) old new
    coming_on h = alike_one sides number old new (stands_both old mid new one h.stands) h.going
        (subst (λ (d : Doing). GoAlike sides d.after (moving_of new)) same_doing h.alike)

    pub coming_went : (ending : Ending) (o q : Pooled)
        → Goes ending (pieces_of mid.net.now (coming_by (k - 1) (moving_of mid) (side_of sides mid.update body)).happens) o q
        → Goes ending (written sides old (number ∷ [])) o q
    coming_went ending o q wrote = one_went sides number old ending o q
        (subst (λ (d : Doing). Goes ending (pieces_of old.net.now d.happens) o q) same_doing
        (subst (λ (net : Network). Goes ending
        (pieces_of net (coming_by (k - 1) (moving_of mid) (side_of sides mid.update body)).happens) o q) one.net wrote))
