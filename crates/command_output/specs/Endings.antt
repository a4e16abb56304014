-- How a call ended, and what it took of the files and of the input.
use Rattle.std.specs.Prelude.{◌≡◌, ◌⊎◌, ◌==◌, true, false, not, [], length, Option, IfSome, ⊤}
use Rattle.srx_edge.specs.FilesRead.{FilesSeen}
use Rattle.srx_edge.specs.Sources.{SourceSeen}
use Rattle.srx_edge.specs.CallSteps.{Ending, Whole, Fault, Memory}
use Rattle.command_output.specs.declared.status.Status.{Status}
use Rattle.command_output.specs.declared.status.Status.TheVariants as statuses
use Rattle.command_output.specs.Outside.{Asks, Reads, ReadsAs}
use Rattle.command_output.specs.OutputPieces.{Output, Sinks, ToOut, ToErr, Stop, Never, AtFiles, AtInput, At, Elsewhere}
use Rattle.command_output.specs.CommandSpec.{Held, CommandSpec, IfTold}

-- how a call ended, by its status
abbrev pub ending_of_status : Status → Ending
ending_of_status statuses.Done = Whole
ending_of_status statuses.Refused = Whole
ending_of_status statuses.Usage = Whole
ending_of_status statuses.NoAnswer = Whole
ending_of_status statuses.SaysNo = Whole
ending_of_status statuses.OutsideFault = Fault
ending_of_status statuses.NoMemory = Memory

-- P, where it ended whole
abbrev pub OnWhole : Ending → Type 0 → Type 0
OnWhole Whole P = P
OnWhole Fault P = ⊤
OnWhole Memory P = ⊤

-- P, or nothing at all goes out, which is so only where the call stopped
abbrev pub OrNothing : Stop → Output → Type 0 → Type 0
OrNothing Never output P = P
OrNothing AtFiles output P = (output.pieces ≡ []) ⊎ P
OrNothing AtInput output P = (output.pieces ≡ []) ⊎ P
OrNothing (At sink how) output P = P
OrNothing Elsewhere output P = (output.pieces ≡ []) ⊎ P

-- where `out` was stopped, `err` has received nothing
abbrev pub LinesLast : Stop → Sinks → Sinks → Type 0
LinesLast Never old new = ⊤
LinesLast AtFiles old new = ⊤
LinesLast AtInput old new = ⊤
LinesLast (At ToOut how) old new = new.err ≡ old.err
LinesLast (At ToErr how) old new = ⊤
LinesLast Elsewhere old new = ⊤

-- an input that the command reads, and doesn't end before, is read whole, unless the call stopped before or within that
abbrev pub ReadsIts : CommandSpec → Option Held → Stop → SourceSeen → SourceSeen → Type 0
ReadsIts spec told stop old new = IfTold (not (length spec.files == 0)) [] told
    (λ held. (¬ spec.leaves_input held) → spec.reads ≡ true → ReadsAs stop old new)

-- what a call takes of the files and of the input
pub record Takes (spec : CommandSpec) (stop : Stop) (files_old files_new : FilesSeen) (input_old input_new : SourceSeen) : Type 0 where
  pub asks : Asks spec stop files_old files_new
  pub reads : Reads stop input_old input_new
  -- The input stays as it was where the command ends before it is read, or reads none.
  pub unread : IfSome files_old.told (λ held. spec.leaves_input held → input_new ≡ input_old)
  pub reads_none : spec.reads ≡ false → input_new ≡ input_old
  -- An input that it comes to is read to its end, or one byte past the limit, also where it is refused then.
  pub reads_its : ReadsIts spec files_old.told stop input_old input_new
