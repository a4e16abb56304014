-- Need not be believed: helps proofs and other laws.
-- Terms beside those of `specs/TraceReading.antt`.
use Rattle.std.specs.Prelude.{◌≡◌, ◌≤◌, ℕ, List, [], length, Some, None, Result, Ok, Err}
use Rattle.net_model.specs.Network.{Network}
use Rattle.net_model.specs.declared.limits.TheConstants.{MAX_TEXT_BYTES}
use Rattle.trace_replay.specs.declared.line.Line.TheVariants as lines
use Rattle.trace_replay.specs.declared.trace_reading.Phase.TheVariants as phases
use Rattle.trace_replay.specs.declared.trace_reading.TraceFault.{TraceFault}
use Rattle.trace_replay.specs.declared.trace_reading.TraceFault.TheVariants as faults
use Rattle.trace_replay.specs.TraceReading.{lines_of, bad_from, bad_line}

-- how far a trace has come after a line, if the line may stand there

-- lines that make a trace where a line feed ends each; they are not more than a text has bytes
pub record IsTrace (net : Network) (lines : List (List ℕ)) : Type 0 where
  pub good : bad_from net phases.Begins 1 [] lines ≡ None
  pub few : length lines ≤ MAX_TEXT_BYTES

-- a trace with the text's lines, the first bad line, or want of memory
abbrev pub Reads : Network → List ℕ → Result (List (List ℕ)) TraceFault → Type 0
Reads net text (Ok lines) = (bad_line net text ≡ None) × (lines ≡ lines_of text) × IsTrace net lines
Reads net text (Err (faults.BadTrace line)) = bad_line net text ≡ Some line
Reads net text (Err faults.NoMemory) = Unit {0}
