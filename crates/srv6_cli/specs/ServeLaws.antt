-- Need not be believed: helps proofs and other laws.
-- What `Serves` says of each fault and of each want of memory in a sink by itself.
use Rattle.std.specs.Prelude.{◌≡◌, ◌≢◌, ◌⊎◌, ℕ, true, IsTrue, List, []}
use Rattle.srx_edge.specs.Edge.{next_count}
use Rattle.srx_edge.specs.Fakes.{FilesState, SureSinkState, SureSourceState, sure_sink_seen, sure_source_seen}
use Rattle.srx_edge.specs.FilesFake.{files_seen}
use Rattle.srx_edge.specs.Sinks.{SinkSeen}
use Rattle.command_output.specs.declared.status.Status.{Status}
use Rattle.command_output.specs.declared.status.Status.TheVariants as statuses
use Rattle.srv6_cli.specs.Commands.{spec_of}
use Rattle.srv6_cli.specs.Complete.{AreHeld}
use Rattle.srv6_cli.specs.CommandWords.{Command}
use Rattle.command_output.specs.Outside.{Outside, ReadsWhole, outside}
use Rattle.command_output.specs.OutputPieces.{Output}
use Rattle.command_output.specs.CommandSpec.{Held, names_of}
use Rattle.srv6_cli.specs.Serves.{Serves}

-- a sink had one fault, or one want, and no call that did anything came after it

abbrev pub HadFault : SinkSeen → SinkSeen → Type 0
HadFault old new = (new.faults ≡ next_count old.faults) × (new.wants ≡ old.wants) × IsTrue new.stopped

abbrev pub HadWant : SinkSeen → SinkSeen → Type 0
HadWant old new = (new.wants ≡ next_count old.wants) × (new.faults ≡ old.faults) × IsTrue new.stopped

-- after a fault of the files no name was asked for, and the input and the sinks are as they were; after one of the input no
-- read that did anything came, and the sinks are as they were; where `out` was stopped, `err` had no fault and no want, and
-- received nothing where the command's lines stand after all of `out`

abbrev pub AfterFilesFault : Outside → Outside → Type 0
AfterFilesFault old new = (new.files.faults ≡ next_count old.files.faults) × IsTrue new.files.stopped × (new.input ≡ old.input)
    × (new.sinks ≡ old.sinks)

abbrev pub AfterInputFault : Outside → Outside → Type 0
AfterInputFault old new = (new.input.faults ≡ next_count old.input.faults) × IsTrue new.input.stopped × (new.sinks ≡ old.sinks)

abbrev pub AfterOut : Command → SinkSeen → SinkSeen → Type 0
AfterOut command old new = (new.faults ≡ old.faults) × (new.wants ≡ old.wants) × ((spec_of command).lines_last ≡ true → new ≡ old)

abbrev pub AfterOutFault : Command → Outside → Outside → Type 0
AfterOutFault command old new = HadFault old.sinks.out new.sinks.out × AfterOut command old.sinks.err new.sinks.err

abbrev pub AfterOutWant : Command → Outside → Outside → Type 0
AfterOutWant command old new = HadWant old.sinks.out new.sinks.out × AfterOut command old.sinks.err new.sinks.err

-- the counts that are as they were

abbrev pub NoFault : Outside → Outside → Type 0
NoFault old new = (new.files.faults ≡ old.files.faults) × (new.input.faults ≡ old.input.faults)
    × (new.sinks.out.faults ≡ old.sinks.out.faults) × (new.sinks.err.faults ≡ old.sinks.err.faults)

abbrev pub NoWant : Outside → Outside → Type 0
NoWant old new = (new.sinks.out.wants ≡ old.sinks.out.wants) × (new.sinks.err.wants ≡ old.sinks.err.wants)

-- at least one of the four counts of faults went on by one
abbrev pub OneFault : Outside → Outside → Type 0
OneFault old new = (new.files.faults ≡ next_count old.files.faults) ⊎ ((new.input.faults ≡ next_count old.input.faults)
    ⊎ ((new.sinks.out.faults ≡ next_count old.sinks.out.faults) ⊎ (new.sinks.err.faults ≡ next_count old.sinks.err.faults)))

-- the counts of an input and of sinks that are sure

abbrev pub StandAtZero : Outside → Type 0
StandAtZero new = (new.input.faults ≡ 0) × (new.sinks.out.faults ≡ 0) × (new.sinks.err.faults ≡ 0)

-- files in memory of which no read fails, and that hold each name that a command comes to
abbrev pub HoldAll : Command → FilesState → Type 0
HoldAll command files = (files.fails ≡ []) × AreHeld files.files (names_of (spec_of command) files.files)

abbrev pub sure_outside : FilesState → SureSourceState → SureSinkState → SureSinkState → Outside
sure_outside files input out err = outside (files_seen files) (sure_source_seen input) (sure_sink_seen out) (sure_sink_seen err)

-- over such files, a sure source and sure sinks no call ends with OutsideFault
abbrev pub NoneFailsOverSure : Type 0
NoneFailsOverSure =
    (command : Command) (status : Status) (f g : FilesState) (s t : SureSourceState) (o p e q : SureSinkState) → HoldAll command f
    → Serves command status (sure_outside f s o e) (sure_outside g t p q) → status ≢ statuses.OutsideFault

-- the input is as it was, or it was read to its end, or one byte past the limit and no more
abbrev pub InputIsWhole : Outside → Outside → Type 0
InputIsWhole old new = (new.input ≡ old.input) ⊎ ReadsWhole old.input new.input

-- with one content of the files and one input, a command has one output
abbrev pub HasOneOutput : Command → Type 0
HasOneOutput command = (held : Held) (input : List ℕ) (a b : Output) → (spec_of command).wants held input a
    → (spec_of command).wants held input b → a ≡ b

-- of what `serve` leaves
abbrev pub OfServe : (Command → Status → Outside → Outside → Type 0) → Type 0
OfServe P = (command : Command) (status : Status) (old new : Outside) → Serves command status old new → P command status old new
