-- Files, the input and the sinks round a call, by where it stopped.
use Rattle.std.specs.Prelude.{◌≡◌, ◌⊎◌, ℕ, ◌+◌, ◌<◌, ◌≤◌, List, [], ◌∷◌, ◌++◌, length, IfSome, ⊤}
use Rattle.srx_edge.specs.FilesRead.{FilesSeen, FailsAt, asked_for, failed}
use Rattle.srx_edge.specs.Sources.{SourceSeen, DrawnUpTo, drained, taken, failed as input_failed}
use Rattle.srx_edge.specs.Sinks.{SinkSeen}
use Rattle.command_output.specs.declared.limits.TheConstants.{MAX_INPUT_BYTES}
use Rattle.command_output.specs.OutputPieces.{Sinks, Stop, Never, AtFiles, AtInput, At, Elsewhere}
use Rattle.command_output.specs.CommandSpec.{CommandSpec, names_of}

-- what is seen of all that is outside
pub record Outside : Type 0 where
  pub files : FilesSeen
  pub input : SourceSeen
  pub sinks : Sinks

abbrev pub outside : FilesSeen → SourceSeen → SinkSeen → SinkSeen → Outside
outside files input out err = record { files = files; input = input; sinks = record { out = out; err = err } }

-- the files once these names were asked for, one after the other
abbrev pub asked_for_all : List (List ℕ) → FilesSeen → FilesSeen
asked_for_all [] files = files
asked_for_all (name ∷ names) files = asked_for_all names (asked_for name files)

-- a fault of the files is one more; it is that of the last name that was asked for

abbrev pub files_left_by : Stop → FilesSeen → FilesSeen
files_left_by Never files = files
files_left_by AtFiles files = failed files
files_left_by AtInput files = files
files_left_by (At sink how) files = files
files_left_by Elsewhere files = files

-- the last of these names is one at which the files may fail
abbrev pub FailsAtLast : List (List ℕ) → FilesSeen → Type 0
FailsAtLast [] files = ⊥
FailsAtLast (name ∷ []) files = FailsAt name files
FailsAtLast (name ∷ next ∷ names) files = FailsAtLast (next ∷ names) files

abbrev pub FailsBy : Stop → List (List ℕ) → FilesSeen → Type 0
FailsBy Never names files = ⊤
FailsBy AtFiles names files = FailsAtLast names files
FailsBy AtInput names files = ⊤
FailsBy (At sink how) names files = ⊤
FailsBy Elsewhere names files = ⊤

-- the names that were asked for, by where the call stopped: all that are, or a front of them

pub record IsFrontOf (wanted names : List (List ℕ)) : Type 0 where
  pub rest : List (List ℕ)
  pub whole : names ++ rest ≡ wanted

abbrev pub AsksAs : Stop → List (List ℕ) → List (List ℕ) → Type 0
AsksAs Never wanted names = names ≡ wanted
AsksAs AtFiles wanted names = IsFrontOf wanted names
AsksAs AtInput wanted names = names ≡ wanted
AsksAs (At sink how) wanted names = names ≡ wanted
AsksAs Elsewhere wanted names = IsFrontOf wanted names

-- the command's files are asked for in order, each once, and no other name; where the files are told, those that it
-- comes to; where a read failed, it is that of the last name, and none was asked for after it
pub record Asks (spec : CommandSpec) (stop : Stop) (old new : FilesSeen) : Type 0 where
  pub names : List (List ℕ)
  pub in_order : IsFrontOf spec.files names
  pub those : IfSome old.told (λ held. AsksAs stop (names_of spec held) names)
  pub fails : FailsBy stop names old
  pub seen : new ≡ files_left_by stop (asked_for_all names old)

-- the input is read to its end, or, where it has more bytes than it may, one byte past the limit and no more

abbrev pub ReadsToEnd : SourceSeen → SourceSeen → Type 0
ReadsToEnd old new = IfSome old.left (λ input. length input ≤ MAX_INPUT_BYTES) × (new ≡ drained old)

abbrev pub ReadsPastLimit : SourceSeen → SourceSeen → Type 0
ReadsPastLimit old new = IfSome old.left (λ input. MAX_INPUT_BYTES < length input) × (new ≡ taken (MAX_INPUT_BYTES + 1) old)

abbrev pub ReadsWhole : SourceSeen → SourceSeen → Type 0
ReadsWhole old new = ReadsToEnd old new ⊎ ReadsPastLimit old new

-- the input is read whole, or left as it was; a fault of it is one, after at most the limit, and no read came after it; none is
-- read after a fault of the files; where memory was wanting, a front of it may have been read, of at most the limit
abbrev pub Reads : Stop → SourceSeen → SourceSeen → Type 0
Reads Never old new = (new ≡ old) ⊎ ReadsWhole old new
Reads AtFiles old new = new ≡ old
Reads AtInput old new = DrawnUpTo MAX_INPUT_BYTES input_failed old new
Reads (At sink how) old new = (new ≡ old) ⊎ ReadsWhole old new
Reads Elsewhere old new = (new ≡ old) ⊎ (ReadsWhole old new ⊎ DrawnUpTo MAX_INPUT_BYTES (λ source. source) old new)

-- what a call that comes to the input reads of it, unless it stopped before or within that
abbrev pub ReadsAs : Stop → SourceSeen → SourceSeen → Type 0
ReadsAs Never old new = ReadsWhole old new
ReadsAs AtFiles old new = ⊤
ReadsAs AtInput old new = ⊤
ReadsAs (At sink how) old new = ReadsWhole old new
ReadsAs Elsewhere old new = ⊤
