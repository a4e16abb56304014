-- What a call of `serve` leaves.
use Rattle.std.specs.Prelude.{◌≡◌, true}
use Rattle.srx_edge.specs.Sources.{drained}
use Rattle.command_output.specs.declared.status.Status.{Status}
use Rattle.command_output.specs.declared.status.Status.TheVariants as statuses
use Rattle.command_output.specs.Endings.{ending_of_status, OnWhole, OrNothing, LinesLast, Takes}
use Rattle.command_output.specs.Outside.{Outside}
use Rattle.command_output.specs.Gathered.{InGroups}
use Rattle.command_output.specs.OutputPieces.{Output, Stop, ending_by}
use Rattle.command_output.specs.CommandSpec.{WantedOf, IsOneOf}
use Rattle.srv6_cli.specs.Commands.{spec_of}
use Rattle.srv6_cli.specs.Complete.{FilesAreSure, HadFaultBeside}
use Rattle.srv6_cli.specs.CommandWords.{Command}

-- what a call of `serve` leaves, by its status
pub record Serves (command : Command) (status : Status) (old new : Outside) : Type 0 where
  -- The call ended whole, or it stopped at one place, with one fault or want of memory: what comes before that place in
  -- the order files, input, pieces was done, and nothing that follows it there.
  pub stop : Stop
  pub ending : ending_by stop ≡ ending_of_status status
  -- What was written is one of the outputs that are wanted of what the files and the input tell: all of it, or up to the
  -- place where the call stopped. It may go out in groups, of which none is long, and of each what is for `out` comes first.
  -- Where the command's lines stand after all of `out`, none went out before that.
  pub output : Output
  pub wanted : OrNothing stop output (WantedOf (spec_of command) old.files.told old.input.left output)
  pub went : InGroups stop output.pieces old.sinks new.sinks
  pub lines_last : (spec_of command).lines_last ≡ true → LinesLast stop old.sinks new.sinks
  -- With a status other than OutsideFault and NoMemory, it is the one that is wanted, and one of the command's.
  pub status_wanted : OnWhole (ending_of_status status) (output.status ≡ status)
  pub status_own : OnWhole (ending_of_status status) (IsOneOf (spec_of command).statuses status)
  -- The command's files are asked for, in order, as far as it comes, and none after one whose read failed; an input that it
  -- comes to is read to its end, or one byte past the limit, and it is read to its end where the command is done.
  pub takes : Takes (spec_of command) stop old.files new.files old.input new.input
  pub read_to_end : status ≡ statuses.Done → (spec_of command).reads ≡ true → new.input ≡ drained old.input
  -- With files that are sure and hold what the command comes to, a fault is one of the input or of a sink.
  pub complete : FilesAreSure (spec_of command) old.files → status ≡ statuses.OutsideFault → HadFaultBeside old new
