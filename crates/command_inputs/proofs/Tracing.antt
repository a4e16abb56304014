-- What the file of a trace gives, as it was judged.
use Rattle.std.proofs.Common.{◌≡◌, ℕ, ◌≤◌, false, List, length, nat_lt, Option, None, Some, IfSome, Result, Ok, Err, refl, sym, ap, ◌∙◌}
use Rattle.std.proofs.lemmas.Bool.{le-ltb}
use Rattle.srx_edge.specs.Edge.{file_named}
use Rattle.srx_edge.specs.FilesRead.{FilesSeen, asked_for}
use Rattle.net_model.specs.Network.{Network}
use Rattle.trace_replay.specs.declared.trace_reading.TraceFault.{TraceFault}
use Rattle.trace_replay.specs.declared.trace_reading.TraceFault.TheVariants as faults
use Rattle.trace_replay.specs.TraceReading.{bad_line}
use Rattle.trace_replay.specs.TraceReadingTerms.{Reads}
use Rattle.net_model.specs.declared.limits.TheConstants.{MAX_TEXT_BYTES}
use Rattle.command_output.specs.declared.refusal.Refusal.{Refusal}
use Rattle.command_output.specs.declared.refusal.Refusal.TheVariants as refusals
use Rattle.command_output.specs.CommandAnswers.{JudgesFile}
use Rattle.command_output.specs.HaltsTerms.{halt_of_trace}
use Rattle.command_inputs.specs.Judgements.{trace_by, trace_in}
use Rattle.command_inputs.proofs.InputJudging.{judged_text, asks_one}

-- a text within the limit that is a trace, or has a bad line

pub trace_small : (net : Network) (text : List ℕ) (bad : Option ℕ) (read : Result (List (List ℕ)) Refusal) → length text ≤ MAX_TEXT_BYTES
    → bad_line net text ≡ bad → trace_by text bad ≡ read → trace_in net text ≡ read
trace_small net text bad read fits is by =
    let small : nat_lt MAX_TEXT_BYTES (length text) ≡ false = le-ltb MAX_TEXT_BYTES (length text) fits in
    rw small (ap (trace_by text) is ∙ by)

pub trace_judged : (net : Network) (lines : List (List ℕ)) (text name : List ℕ) (old new : FilesSeen) → length text ≤ MAX_TEXT_BYTES
    → IfSome old.told (λ files. file_named files name ≡ Some text) → new ≡ asked_for name old
    → Reads net text (Ok lines)
    → JudgesFile (trace_in net) name (Ok lines) old new
trace_judged net lines text name old new fits reads seen h = (
  judged_text (trace_in net) (Ok lines) text name old.told reads
      (trace_small net text None (Ok lines) fits h.0 (ap Ok (sym h.1))),
  seen,
)

pub trace_refused : (net : Network) (fault : TraceFault) (text name : List ℕ) (old new : FilesSeen) → length text ≤ MAX_TEXT_BYTES
    → IfSome old.told (λ files. file_named files name ≡ Some text) → new ≡ asked_for name old
    → Reads net text (Err fault)
    → JudgesFile (trace_in net) name (Err (halt_of_trace fault)) old new
trace_refused net (faults.BadTrace line) text name old new fits reads seen h = (
  judged_text (trace_in net) (Err (refusals.BadTrace line)) text name old.told reads
      (trace_small net text (Some line) (Err (refusals.BadTrace line)) fits h refl),
  seen,
)
trace_refused net faults.NoMemory text name old new fits reads seen h = asks_one name old new seen

pub ruleset traces = (trace_judged, trace_refused)
