-- How the program ends.
use Rattle.std.specs.Prelude.{◌≡◌, ◌≢◌, ◌⊎◌, ℕ, List, [], drop, String, Result, Ok, Err}
use Rattle.std.specs.IoError.{error_kind}
use Rattle.std.specs.Process.{exit_status}
use Rattle.std.specs.Vec.Iter.{into_iter_items}
use Rattle.std.specs.declared.alloc.Global.{Global}
use Rattle.std.specs.declared.io.Error.{Error}
use Rattle.std.specs.declared.io.ErrorKind.TheVariants as kinds
use Rattle.std.specs.declared.process.ExitCode.{ExitCode}
use Rattle.std.specs.declared.vec.IntoIter.{IntoIter}
use Rattle.command_output.specs.Outside.{Outside}
use Rattle.command_output.specs.Verbs.{words_of}
use Rattle.command_output.specs.declared.status.Status.{Status}
use Rattle.command_output.specs.declared.status.Status.TheVariants as statuses
use Rattle.srv6_cli.specs.Commands.{command_of}
use Rattle.srv6_cli.specs.Serves.{Serves}

-- the exit status of each status
abbrev pub exit_number : Status → ℕ
exit_number statuses.Done = 0
exit_number statuses.Refused = 1
exit_number statuses.Usage = 2
exit_number statuses.NoAnswer = 3
exit_number statuses.SaysNo = 4
exit_number statuses.OutsideFault = 5
exit_number statuses.NoMemory = 6

-- the command of all words but the first, which is the program's name, was served, and the exit status is its status's
pub record Served (all : List (String Global)) (code : ExitCode) (old new : Outside) : Type 0 where
  pub status : Status
  pub number : exit_status code ≡ exit_number status
  pub serves : Serves (command_of (words_of (drop 1 all))) status old new

-- memory was wanting for these words, and nothing was done
pub record Wanted (code : ExitCode) (old new : Outside) : Type 0 where
  pub number : exit_status code ≡ exit_number statuses.NoMemory
  pub same : new ≡ old

abbrev pub Ends : List (String Global) → ExitCode → Outside → Outside → Type 0
Ends all code old new = Served all code old new ⊎ Wanted code old new

-- ---- what the system told of its words

-- want of memory for them, or that they are no texts: then none were served, for which no memory is wanted
pub record Untold (error : Error) (code : ExitCode) (old new : Outside) : Type 0 where
  pub memory : error_kind error ≡ kinds.OutOfMemory → Wanted code old new
  pub no_texts : error_kind error ≢ kinds.OutOfMemory → Served [] code old new

abbrev pub Answers : Result (IntoIter (String Global) Global) Error → ExitCode → Outside → Outside → Type 0
Answers (Ok all) code old new = Ends (into_iter_items all) code old new
Answers (Err error) code old new = Untold error code old new
