-- Need not be believed: helps proofs and other laws.
-- What the steps of a command answer, by cases.
use Rattle.std.specs.Prelude.{◌≡◌, ℕ, true, List, [], ◌∷◌, ◌++◌, IfSome, IsSomeAnd, Result, Ok, Err, ⊤}
use Rattle.srx_edge.specs.Edge.{file_named}
use Rattle.srx_edge.specs.FilesRead.{FilesSeen, FailsAt, asked_for, failed}
use Rattle.srx_edge.specs.Sources.{SourceSeen, DrawnUpTo, drained, failed as input_failed}
use Rattle.srx_edge.specs.Sinks.{SinkSeen}
use Rattle.srx_edge.specs.CallSteps.{Ending, Whole, Fault, Memory}
use Rattle.srx_edge.specs.CallStepsTerms.{Wrote}
use Rattle.command_output.specs.declared.halt.Failure.{Failure}
use Rattle.command_output.specs.declared.halt.Failure.TheVariants as failures
use Rattle.command_output.specs.declared.halt.Halt.{Halt}
use Rattle.command_output.specs.declared.halt.Halt.TheVariants as halts
use Rattle.command_output.specs.declared.limits.TheConstants.{MAX_INPUT_BYTES}
use Rattle.command_output.specs.declared.refusal.Refusal.{Refusal}
use Rattle.command_output.specs.declared.status.Status.{Status}
use Rattle.command_output.specs.declared.status.Status.TheVariants as statuses
use Rattle.command_output.specs.declared.conclusion.Conclusion.{Conclusion}
use Rattle.command_output.specs.OutputLines.{refusal_line}
use Rattle.command_output.specs.OutputLinesTerms.{bytes_of_text}
use Rattle.command_output.specs.Outside.{Outside, outside, ReadsToEnd, ReadsWhole}
use Rattle.command_output.specs.OutsideTerms.{AsksForFront}
use Rattle.command_output.specs.Gathered.{InGroups}
use Rattle.command_output.specs.OutputPieces.{ForErr, Piece, Output, Sinks, Stop, ending_by, gone}
use Rattle.command_output.specs.Endings.{ending_of_status, OnWhole, OrNothing, LinesLast, Takes}
use Rattle.command_output.specs.CommandSpec.{CommandSpec, WantedOf, IsOneOf}

-- how a step ended

abbrev pub ending_of_failure : Failure → Ending
ending_of_failure failures.Fault = Fault
ending_of_failure failures.NoMemory = Memory

abbrev pub ending_of_step : {X : Type 0} → Result X Failure → Ending
ending_of_step (Ok x) = Whole
ending_of_step (Err failure) = ending_of_failure failure

abbrev pub ending_of_answer : {X : Type 0} → Result X Halt → Ending
ending_of_answer (Ok x) = Whole
ending_of_answer (Err (halts.Refused refusal)) = Whole
ending_of_answer (Err (halts.Failed failure)) = ending_of_failure failure

-- what a read of a file and a judgement of its text give; with want of memory the name was asked for or not

abbrev pub FileGives : {A : Type 0} → (List ℕ → Result A Refusal) → List ℕ → Result A Refusal → FilesSeen → Type 0
FileGives judge name judged files = IfSome files.told (λ held. IsSomeAnd (file_named held name) (λ text. judge text ≡ judged))

abbrev pub JudgesFile : {A : Type 0} → (List ℕ → Result A Refusal) → List ℕ → Result A Halt → FilesSeen → FilesSeen → Type 0
JudgesFile judge name (Ok a) old new = FileGives judge name (Ok a) old × (new ≡ asked_for name old)
JudgesFile judge name (Err (halts.Refused refusal)) old new = FileGives judge name (Err refusal) old × (new ≡ asked_for name old)
JudgesFile judge name (Err (halts.Failed failures.Fault)) old new = FailsAt name old × (new ≡ failed (asked_for name old))
JudgesFile judge name (Err (halts.Failed failures.NoMemory)) old new = AsksForFront (name ∷ []) old new

-- what a judgement of a text gives; with want of memory it says nothing
abbrev pub JudgesText : {A : Type 0} → (List ℕ → Result A Refusal) → List ℕ → Result A Halt → Type 0
JudgesText judge text (Ok a) = judge text ≡ Ok a
JudgesText judge text (Err (halts.Refused refusal)) = judge text ≡ Err refusal
JudgesText judge text (Err (halts.Failed failures.Fault)) = ⊥
JudgesText judge text (Err (halts.Failed failures.NoMemory)) = ⊤

-- what a read of the input to its end and a judgement of it give; an input that has too many bytes is read one byte past the limit
abbrev pub JudgesInput : {A : Type 0} → (List ℕ → Result A Refusal) → Result A Halt → SourceSeen → SourceSeen → Type 0
JudgesInput judge (Ok a) old new = IfSome old.left (λ input. judge input ≡ Ok a) × ReadsToEnd old new
JudgesInput judge (Err (halts.Refused refusal)) old new = IfSome old.left (λ input. judge input ≡ Err refusal) × ReadsWhole old new
JudgesInput judge (Err (halts.Failed failures.Fault)) old new = DrawnUpTo MAX_INPUT_BYTES input_failed old new
JudgesInput judge (Err (halts.Failed failures.NoMemory)) old new = DrawnUpTo MAX_INPUT_BYTES (λ source. source) old new

-- a command's pieces went out but for its last line, which goes with this status
pub record EndsWith (last : List ℕ) (status : Status) (output : Output) (old new : Sinks) : Type 0 where
  pub before : List Piece
  pub is : output ≡ record { pieces = before ++ ForErr last ∷ []; status = status }
  pub went : new ≡ gone before old
  pub whole : ending_of_status status ≡ Whole

-- what a command leaves of the sinks, by its answer
abbrev pub CommandWent : Result Conclusion Halt → Stop → Output → Sinks → Sinks → Type 0
CommandWent (Ok told) stop output old new = EndsWith (bytes_of_text told.line) told.status output old new
CommandWent (Err (halts.Refused refusal)) stop output old new = EndsWith (refusal_line refusal) statuses.Refused output old new
CommandWent (Err (halts.Failed failure)) stop output old new = InGroups stop output.pieces old new

-- P of the status with which the answer goes, if it is one
abbrev pub IfEnds : Result Conclusion Halt → (Status → Type 0) → Type 0
IfEnds (Ok told) P = P told.status
IfEnds (Err (halts.Refused refusal)) P = P statuses.Refused
IfEnds (Err (halts.Failed failure)) P = ⊤

-- what a command of a spec leaves before its last line is written: where it stopped, which output is wanted of what the files
-- and the input tell and how far it went out, its status, and what it took of the files and of the input
pub record Commands (spec : CommandSpec) (answer : Result Conclusion Halt) (old new : Outside) : Type 0 where
  pub stop : Stop
  pub ending : ending_by stop ≡ ending_of_answer answer
  pub output : Output
  pub wanted : OrNothing stop output (WantedOf spec old.files.told old.input.left output)
  pub went : CommandWent answer stop output old.sinks new.sinks
  pub lines_last : spec.lines_last ≡ true → LinesLast stop old.sinks new.sinks
  pub status_own : IfEnds answer (IsOneOf spec.statuses)
  pub takes : Takes spec stop old.files new.files old.input new.input
  pub read_to_end : IfEnds answer (λ status. status ≡ statuses.Done → spec.reads ≡ true → new.input ≡ drained old.input)

-- the same of a command that writes `out` alone, whatever `err` is
abbrev pub CommandsOut : CommandSpec → Result Conclusion Halt → FilesSeen → FilesSeen → SourceSeen → SourceSeen → SinkSeen → SinkSeen → Type 0
CommandsOut spec answer files_old files_new input_old input_new out_old out_new =
    (err : SinkSeen) → Commands spec answer (outside files_old input_old out_old err) (outside files_new input_new out_new err)

-- the same of one that reads no input, whatever that is
abbrev pub CommandsUnread : CommandSpec → Result Conclusion Halt → FilesSeen → FilesSeen → SinkSeen → SinkSeen → Type 0
CommandsUnread spec answer files_old files_new out_old out_new =
    (input : SourceSeen) → CommandsOut spec answer files_old files_new input input out_old out_new

-- the same of one that reads no files, whatever they are
abbrev pub CommandsOfInput : CommandSpec → Result Conclusion Halt → SourceSeen → SourceSeen → SinkSeen → SinkSeen → Type 0
CommandsOfInput spec answer input_old input_new out_old out_new =
    (files : FilesSeen) → CommandsOut spec answer files files input_old input_new out_old out_new

-- the same of one that reads neither files nor input
abbrev pub CommandsAlone : CommandSpec → Result Conclusion Halt → SinkSeen → SinkSeen → Type 0
CommandsAlone spec answer out_old out_new =
    (files : FilesSeen) (input : SourceSeen) → CommandsOut spec answer files files input input out_old out_new

-- what a line on `err` leaves: it went out whole, with its own status, or in part
pub record Tells (last : List ℕ) (own status : Status) (old new : SinkSeen) : Type 0 where
  pub wrote : Wrote (ending_of_status status) last old new
  pub whole : OnWhole (ending_of_status status) (status ≡ own)

-- what the end of a command leaves of `err`, and with which status
abbrev pub Concludes : Result Conclusion Halt → Status → SinkSeen → SinkSeen → Type 0
Concludes (Ok told) status old new = Tells (bytes_of_text told.line) told.status status old new
Concludes (Err (halts.Refused refusal)) status old new = Tells (refusal_line refusal) statuses.Refused status old new
Concludes (Err (halts.Failed failures.Fault)) status old new = (status ≡ statuses.OutsideFault) × (new ≡ old)
Concludes (Err (halts.Failed failures.NoMemory)) status old new = (status ≡ statuses.NoMemory) × (new ≡ old)
