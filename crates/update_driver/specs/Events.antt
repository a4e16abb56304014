-- What `update` writes: its events in order, and what is left after them.
use Rattle.std.specs.Prelude.{ℕ, suc, List, [], ◌∷◌, ◌++◌, codes, map, replicate}
use Rattle.std.specs.List.{flat_map}
use Rattle.std.specs.Fmt.{decimal}
use Rattle.pcap_io.specs.declared.frame.Frame.{Frame}
use Rattle.pcap_io.specs.Capture.{written_head_bytes}
use Rattle.net_model.specs.Network.{Network}
use Rattle.walk_rules.specs.declared.limits.TheConstants.{MAX_STAGES}
use Rattle.update_flight.specs.declared.table_edit.Edit.{Edit}
use Rattle.update_flight.specs.declared.table_edit.Edit.TheVariants as edits
use Rattle.update_flight.specs.Transition.{edit_count}
use Rattle.update_plan.specs.UpdateState.{Plan, starting_by}
use Rattle.command_output.specs.OutputLines.{entry_text, line}
use Rattle.command_output.specs.OutputPieces.{Piece, ForOut, ForErr}
use Rattle.run_commands.specs.WrittenCapture.{frame_of_gave}
use Rattle.run_commands.specs.Admission.{line_of_early_end}
use Rattle.run_commands.specs.Scheduled.{line_by}
use Rattle.update_driver.specs.Arriving.{line_of_early, seat_of}
use Rattle.update_driver.specs.Moving.{Happening, Staged, Stayed, Edited, Waits, Moving, Sides, happening}

-- the line of an edit; an entry has its number in the network that has the entries of both descriptions. None where no edit was left.

unfoldable pub edit_line : Edit → List ℕ
edit_line (edits.Added entry) = line (codes "edit add " ++ entry_text entry)
edit_line edits.Switched = line (codes "edit switch")
edit_line (edits.Removed entry) = line (codes "edit remove " ++ entry_text entry)
edit_line edits.Finished = []

-- of a removal that waits for the packet of a number
unfoldable pub busy_line : ℕ → List ℕ
busy_line number = line (codes "edit busy " ++ decimal number)

-- the line of what an edit answers, where packets have these frames' numbers

-- what happens, as it is written when it does; the network's names of nodes and links are those of both descriptions
abbrev pub pieces_of_happening : Network → Happening → List Piece
pieces_of_happening net (Staged number stage ended) =
    ForOut (frame_of_gave number stage.gave) ∷ ForErr (line_by net number ended) ∷ []
pieces_of_happening net (Stayed number stays) = ForErr (line_of_early_end net number stays) ∷ []
pieces_of_happening net (Edited edit) = ForErr (edit_line edit) ∷ []
pieces_of_happening net (Waits number) = ForErr (busy_line number) ∷ []

abbrev pub pieces_of : Network → List Happening → List Piece
pieces_of net all = flat_map (pieces_of_happening net) all

-- before the first event
abbrev pub starting : Sides → Plan → List Frame → Moving
starting sides plan frames = record { update = starting_by plan; seats = map (seat_of sides.old) frames; numbers = [] }

-- numbers one after the other, so many, behind a first one
abbrev pub numbers_behind : {X : Type 0} → ℕ → List X → List ℕ
numbers_behind n [] = []
numbers_behind n (x ∷ more) = suc n ∷ numbers_behind (suc n) more

-- after the events each packet that is left goes to its end, in the order of their numbers: as many stages as a walk may have are asked for
abbrev pub to_their_ends : {X : Type 0} → List X → List ℕ
to_their_ends packets = flat_map (λ number. replicate MAX_STAGES number) (numbers_behind 0 packets)

-- then the edits that are left: as many as there are in all are asked for
abbrev pub edits_left : Moving → List ℕ
edits_left m = replicate (edit_count m.update.transition) 0

abbrev pub events_and_rest : Moving → List Frame → List ℕ → List ℕ
events_and_rest start frames events = events ++ (to_their_ends frames ++ edits_left start)

-- the head of the capture, the lines of the packets that stay before the first event, and what happens then
abbrev pub update_pieces : Network → Sides → Plan → List Frame → List ℕ → List Piece
update_pieces net sides plan frames events =
    ForOut written_head_bytes ∷ ForErr (flat_map (line_of_early net sides.old) frames) ∷ pieces_of net
    (happening sides (starting sides plan frames) (events_and_rest (starting sides plan frames) frames events))
