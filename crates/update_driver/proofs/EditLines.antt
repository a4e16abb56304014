-- What an edit writes.
use Rattle.std.proofs.Common.{◌≡◌, ℕ, List, [], ◌∷◌, Result, Ok, Err, refl, sym, subst}
use Rattle.net_model.specs.Network.{Network}
use Rattle.update_flight.specs.declared.table_edit.Busy.{Busy}
use Rattle.update_flight.specs.declared.table_edit.Edit.{Edit}
use Rattle.update_flight.specs.Transition.{answer_of}
use Rattle.srx_edge.specs.CallSteps.{Ending}
use Rattle.command_output.specs.GatheredTerms.{Goes, Pooled}
use Rattle.command_output.specs.OutputPieces.{Piece, ForErr}
use Rattle.update_driver.specs.Events.{pieces_of}
use Rattle.update_driver.specs.EventsTerms.{line_of_answer}
use Rattle.update_driver.specs.Moving.{Moving, editing, happenings_of_edit}

told_pieces : (net : Network) (numbers : List ℕ) (answer : Result Edit Busy)
    → pieces_of net (happenings_of_edit numbers answer) ≡ ForErr (line_of_answer numbers answer) ∷ []
told_pieces net numbers (Ok edit) = refl
told_pieces net numbers (Err busy) = refl

pub edit_went : (net : Network) (m : Moving) (line : List ℕ) (ending : Ending) (o q : Pooled)
    → line ≡ line_of_answer m.numbers (answer_of m.update.transition) → Goes ending (ForErr line ∷ []) o q
    → Goes ending (pieces_of net (editing m).happens) o q
edit_went net m line ending o q is went =
    subst (λ (pieces : List Piece). Goes ending pieces o q) (sym (told_pieces net m.numbers (answer_of m.update.transition)))
    (subst (λ (bytes : List ℕ). Goes ending (ForErr bytes ∷ []) o q) is went)

pub ruleset edits = (edit_went)
