-- Need not be believed: helps proofs and other laws.
-- What is there after events.
use Rattle.std.specs.Prelude.{◌≡◌, ℕ, true, List, [], ◌∷◌, slice_get}
use Rattle.update_flight.specs.declared.table_edit.Edit.TheVariants.{Finished}
use Rattle.update_flight.specs.Transition.{next_edit}
use Rattle.update_driver.specs.Going.{has_ended}
use Rattle.update_driver.specs.Moving.{Moving, Sides, doing}

-- after events, one after the other

abbrev pub after_all : Sides → Moving → List ℕ → Moving
after_all sides m [] = m
after_all sides m (event ∷ events) = after_all sides (doing sides event m).after events

-- nothing is left: no packet is to come or in flight, and no edit is to be done
pub record IsOver (m : Moving) : Type 0 where
  pub packets : (at : ℕ) → has_ended m.update (slice_get m.seats at) ≡ true
  pub edits : next_edit m.update.transition ≡ Finished
