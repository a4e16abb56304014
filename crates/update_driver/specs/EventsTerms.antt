-- Need not be believed: helps proofs and other laws.
-- Terms beside those of `specs/Events.antt`.
use Rattle.std.specs.Prelude.{ℕ, List, Result, Ok, Err}
use Rattle.packet_walk.specs.Schedule.{frame_of}
use Rattle.update_flight.specs.declared.table_edit.Busy.{Busy}
use Rattle.update_flight.specs.declared.table_edit.Edit.{Edit}
use Rattle.update_driver.specs.Events.{edit_line, busy_line}

-- the line of what an edit answers, where packets have these frames' numbers

abbrev pub line_of_answer : List ℕ → Result Edit Busy → List ℕ
line_of_answer numbers (Ok edit) = edit_line edit
line_of_answer numbers (Err busy) = busy_line (frame_of numbers busy.packet)
