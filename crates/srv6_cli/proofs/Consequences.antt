-- What `Serves` says of each fault and want.
use Rattle.std.proofs.Common.{◌≡◌, ◌≢◌, inl, inr, ℕ, true, List, refl, sym, ap, ◌∙◌}
use Rattle.std.specs.List.{flat_map}
use Rattle.srx_edge.specs.FilesRead.{FilesSeen}
use Rattle.srx_edge.specs.Sources.{SourceSeen}
use Rattle.srx_edge.specs.CallSteps.{Fault, Memory, Failing, Wanting}
use Rattle.command_output.specs.declared.status.Status.{Status}
use Rattle.command_output.specs.declared.status.Status.TheVariants as statuses
use Rattle.srv6_cli.specs.Commands.{spec_of}
use Rattle.srv6_cli.specs.Serves.{Serves}
use Rattle.srv6_cli.specs.CommandWords.{Command}
use Rattle.srv6_cli.specs.ServeLaws.{HadFault, HadWant, AfterFilesFault, AfterInputFault, AfterOut, AfterOutFault, AfterOutWant, NoFault, NoWant, OneFault, OfServe}
use Rattle.command_output.specs.Gathered.{gathered}
use Rattle.command_output.specs.Outside.{Outside, Reads, asked_for_all, files_left_by}
use Rattle.command_output.specs.OutputPieces.{Piece, ToOut, ToErr, Sinks, Stop, Never, AtFiles, AtInput, At, Elsewhere, ending_by, Went}
use Rattle.command_output.specs.Endings.{ending_of_status, LinesLast}
use Rattle.srv6_cli.proofs.ServeStops.{count_stop, files_stop, input_stop}

-- a count that changed is that of the stop

out_fault : (command : Command) (stop : Stop) (pieces : List Piece) (old new : Sinks) → Went stop pieces old new
    → ((spec_of command).lines_last ≡ true → LinesLast stop old new)
    → new.out.faults ≢ old.out.faults → HadFault old.out new.out × AfterOut command old.err new.err
out_fault command Never pieces old new w last changed =
    absurd (changed (count_stop Never ToOut Failing pieces old new w))
out_fault command AtFiles pieces old new w last changed =
    absurd (changed (count_stop AtFiles ToOut Failing pieces old new w))
out_fault command AtInput pieces old new w last changed =
    absurd (changed (count_stop AtInput ToOut Failing pieces old new w))
out_fault command (At ToOut Failing) pieces old new w last changed = (
  (
    count_stop (At ToOut Failing) ToOut Failing pieces old new w,
    count_stop (At ToOut Failing) ToOut Wanting pieces old new w,
    ap (λ (q : Sinks). q.out.stopped) w.sinks,
  ),
  (count_stop (At ToOut Failing) ToErr Failing pieces old new w, count_stop (At ToOut Failing) ToErr Wanting pieces old new w, last),
)
out_fault command (At ToOut Wanting) pieces old new w last changed =
    absurd (changed (count_stop (At ToOut Wanting) ToOut Failing pieces old new w))
out_fault command (At ToErr Failing) pieces old new w last changed =
    absurd (changed (count_stop (At ToErr Failing) ToOut Failing pieces old new w))
out_fault command (At ToErr Wanting) pieces old new w last changed =
    absurd (changed (count_stop (At ToErr Wanting) ToOut Failing pieces old new w))
out_fault command Elsewhere pieces old new w last changed =
    absurd (changed (count_stop Elsewhere ToOut Failing pieces old new w))

out_want : (command : Command) (stop : Stop) (pieces : List Piece) (old new : Sinks) → Went stop pieces old new
    → ((spec_of command).lines_last ≡ true → LinesLast stop old new)
    → new.out.wants ≢ old.out.wants → HadWant old.out new.out × AfterOut command old.err new.err
out_want command Never pieces old new w last changed =
    absurd (changed (count_stop Never ToOut Wanting pieces old new w))
out_want command AtFiles pieces old new w last changed =
    absurd (changed (count_stop AtFiles ToOut Wanting pieces old new w))
out_want command AtInput pieces old new w last changed =
    absurd (changed (count_stop AtInput ToOut Wanting pieces old new w))
out_want command (At ToOut Failing) pieces old new w last changed =
    absurd (changed (count_stop (At ToOut Failing) ToOut Wanting pieces old new w))
out_want command (At ToOut Wanting) pieces old new w last changed = (
  (
    count_stop (At ToOut Wanting) ToOut Wanting pieces old new w,
    count_stop (At ToOut Wanting) ToOut Failing pieces old new w,
    ap (λ (q : Sinks). q.out.stopped) w.sinks,
  ),
  (count_stop (At ToOut Wanting) ToErr Failing pieces old new w, count_stop (At ToOut Wanting) ToErr Wanting pieces old new w, last),
)
out_want command (At ToErr Failing) pieces old new w last changed =
    absurd (changed (count_stop (At ToErr Failing) ToOut Wanting pieces old new w))
out_want command (At ToErr Wanting) pieces old new w last changed =
    absurd (changed (count_stop (At ToErr Wanting) ToOut Wanting pieces old new w))
out_want command Elsewhere pieces old new w last changed =
    absurd (changed (count_stop Elsewhere ToOut Wanting pieces old new w))

err_fault : (stop : Stop) (pieces : List Piece) (old new : Sinks) → Went stop pieces old new
    → new.err.faults ≢ old.err.faults → HadFault old.err new.err
err_fault Never pieces old new w changed = absurd (changed (count_stop Never ToErr Failing pieces old new w))
err_fault AtFiles pieces old new w changed = absurd (changed (count_stop AtFiles ToErr Failing pieces old new w))
err_fault AtInput pieces old new w changed = absurd (changed (count_stop AtInput ToErr Failing pieces old new w))
err_fault (At ToOut Failing) pieces old new w changed = absurd (changed (count_stop (At ToOut Failing) ToErr Failing pieces old new w))
err_fault (At ToOut Wanting) pieces old new w changed = absurd (changed (count_stop (At ToOut Wanting) ToErr Failing pieces old new w))
err_fault (At ToErr Failing) pieces old new w changed = (
  count_stop (At ToErr Failing) ToErr Failing pieces old new w,
  count_stop (At ToErr Failing) ToErr Wanting pieces old new w,
  ap (λ (q : Sinks). q.err.stopped) w.sinks,
)
err_fault (At ToErr Wanting) pieces old new w changed = absurd (changed (count_stop (At ToErr Wanting) ToErr Failing pieces old new w))
err_fault Elsewhere pieces old new w changed = absurd (changed (count_stop Elsewhere ToErr Failing pieces old new w))

err_want : (stop : Stop) (pieces : List Piece) (old new : Sinks) → Went stop pieces old new
    → new.err.wants ≢ old.err.wants → HadWant old.err new.err
err_want Never pieces old new w changed = absurd (changed (count_stop Never ToErr Wanting pieces old new w))
err_want AtFiles pieces old new w changed = absurd (changed (count_stop AtFiles ToErr Wanting pieces old new w))
err_want AtInput pieces old new w changed = absurd (changed (count_stop AtInput ToErr Wanting pieces old new w))
err_want (At ToOut Failing) pieces old new w changed = absurd (changed (count_stop (At ToOut Failing) ToErr Wanting pieces old new w))
err_want (At ToOut Wanting) pieces old new w changed = absurd (changed (count_stop (At ToOut Wanting) ToErr Wanting pieces old new w))
err_want (At ToErr Failing) pieces old new w changed = absurd (changed (count_stop (At ToErr Failing) ToErr Wanting pieces old new w))
err_want (At ToErr Wanting) pieces old new w changed = (
  count_stop (At ToErr Wanting) ToErr Wanting pieces old new w,
  count_stop (At ToErr Wanting) ToErr Failing pieces old new w,
  ap (λ (q : Sinks). q.err.stopped) w.sinks,
)
err_want Elsewhere pieces old new w changed = absurd (changed (count_stop Elsewhere ToErr Wanting pieces old new w))

files_fault : (stop : Stop) (pieces : List Piece) (names : List (List ℕ)) (old new : Outside)
    → new.files ≡ files_left_by stop (asked_for_all names old.files)
    → Reads stop old.input new.input → Went stop pieces old.sinks new.sinks → new.files.faults ≢ old.files.faults → AfterFilesFault old new
files_fault Never pieces names old new seen reads w changed = absurd (changed (files_stop Never names old.files new.files seen))
files_fault AtFiles pieces names old new seen reads w changed =
    (files_stop AtFiles names old.files new.files seen, ap (λ (f : FilesSeen). f.stopped) seen, reads, w)
files_fault AtInput pieces names old new seen reads w changed = absurd (changed (files_stop AtInput names old.files new.files seen))
files_fault (At sink how) pieces names old new seen reads w changed =
    absurd (changed (files_stop (At sink how) names old.files new.files seen))
files_fault Elsewhere pieces names old new seen reads w changed = absurd (changed (files_stop Elsewhere names old.files new.files seen))

input_fault : (stop : Stop) (pieces : List Piece) (old new : Outside) → Reads stop old.input new.input
    → Went stop pieces old.sinks new.sinks
    → new.input.faults ≢ old.input.faults → AfterInputFault old new
input_fault Never pieces old new reads w changed = absurd (changed (input_stop Never old.input new.input reads))
input_fault AtFiles pieces old new reads w changed = absurd (changed (input_stop AtFiles old.input new.input reads))
input_fault AtInput pieces old new reads w changed =
    (input_stop AtInput old.input new.input reads, ap (λ (s : SourceSeen). s.stopped) reads.seen, w)
input_fault (At sink how) pieces old new reads w changed = absurd (changed (input_stop (At sink how) old.input new.input reads))
input_fault Elsewhere pieces old new reads w changed = absurd (changed (input_stop Elsewhere old.input new.input reads))

-- the pieces as they went out, by groups
abbrev groups_of : {command : Command} {status : Status} {old new : Outside} → Serves command status old new → List Piece
groups_of s = flat_map gathered s.went.groups

pub after_files_fault : OfServe (λ command status old new. new.files.faults ≢ old.files.faults → AfterFilesFault old new)
after_files_fault command status old new s changed =
    files_fault s.stop (groups_of s) s.takes.asks.names old new s.takes.asks.seen s.takes.reads s.went.went changed

pub after_input_fault : OfServe (λ command status old new. new.input.faults ≢ old.input.faults → AfterInputFault old new)
after_input_fault command status old new s changed = input_fault s.stop (groups_of s) old new s.takes.reads s.went.went changed

pub after_out_fault : OfServe (λ command status old new. new.sinks.out.faults ≢ old.sinks.out.faults → AfterOutFault command old new)
after_out_fault command status old new s changed =
    out_fault command s.stop (groups_of s) old.sinks new.sinks s.went.went s.lines_last changed

pub after_err_fault : OfServe (λ command status old new. new.sinks.err.faults ≢ old.sinks.err.faults → HadFault old.sinks.err new.sinks.err)
after_err_fault command status old new s changed = err_fault s.stop (groups_of s) old.sinks new.sinks s.went.went changed

pub after_out_want : OfServe (λ command status old new. new.sinks.out.wants ≢ old.sinks.out.wants → AfterOutWant command old new)
after_out_want command status old new s changed = out_want command s.stop (groups_of s) old.sinks new.sinks s.went.went s.lines_last changed

pub after_err_want : OfServe (λ command status old new. new.sinks.err.wants ≢ old.sinks.err.wants → HadWant old.sinks.err new.sinks.err)
after_err_want command status old new s changed = err_want s.stop (groups_of s) old.sinks new.sinks s.went.went changed

-- the counts go with the status

no_fault_law : (stop : Stop) (pieces : List Piece) (names : List (List ℕ)) (old new : Outside)
    → new.files ≡ files_left_by stop (asked_for_all names old.files)
    → Reads stop old.input new.input → Went stop pieces old.sinks new.sinks → (ending_by stop ≡ Fault → ⊥) → NoFault old new
no_fault_law Never pieces names old new seen reads w calm = (
  files_stop Never names old.files new.files seen,
  input_stop Never old.input new.input reads,
  count_stop Never ToOut Failing pieces old.sinks new.sinks w,
  count_stop Never ToErr Failing pieces old.sinks new.sinks w,
)
no_fault_law AtFiles pieces names old new seen reads w calm = absurd (calm refl)
no_fault_law AtInput pieces names old new seen reads w calm = absurd (calm refl)
no_fault_law (At ToOut Failing) pieces names old new seen reads w calm = absurd (calm refl)
no_fault_law (At ToOut Wanting) pieces names old new seen reads w calm = (
  files_stop (At ToOut Wanting) names old.files new.files seen,
  input_stop (At ToOut Wanting) old.input new.input reads,
  count_stop (At ToOut Wanting) ToOut Failing pieces old.sinks new.sinks w,
  count_stop (At ToOut Wanting) ToErr Failing pieces old.sinks new.sinks w,
)
no_fault_law (At ToErr Failing) pieces names old new seen reads w calm = absurd (calm refl)
no_fault_law (At ToErr Wanting) pieces names old new seen reads w calm = (
  files_stop (At ToErr Wanting) names old.files new.files seen,
  input_stop (At ToErr Wanting) old.input new.input reads,
  count_stop (At ToErr Wanting) ToOut Failing pieces old.sinks new.sinks w,
  count_stop (At ToErr Wanting) ToErr Failing pieces old.sinks new.sinks w,
)
no_fault_law Elsewhere pieces names old new seen reads w calm = (
  files_stop Elsewhere names old.files new.files seen,
  input_stop Elsewhere old.input new.input reads,
  count_stop Elsewhere ToOut Failing pieces old.sinks new.sinks w,
  count_stop Elsewhere ToErr Failing pieces old.sinks new.sinks w,
)

no_want_law : (stop : Stop) (pieces : List Piece) (old new : Sinks) → Went stop pieces old new → (ending_by stop ≡ Memory → ⊥)
    → (new.out.wants ≡ old.out.wants) × (new.err.wants ≡ old.err.wants)
no_want_law Never pieces old new w calm = (count_stop Never ToOut Wanting pieces old new w, count_stop Never ToErr Wanting pieces old new w)
no_want_law AtFiles pieces old new w calm = (
  count_stop AtFiles ToOut Wanting pieces old new w,
  count_stop AtFiles ToErr Wanting pieces old new w,
)
no_want_law AtInput pieces old new w calm = (
  count_stop AtInput ToOut Wanting pieces old new w,
  count_stop AtInput ToErr Wanting pieces old new w,
)
no_want_law (At ToOut Failing) pieces old new w calm = (
  count_stop (At ToOut Failing) ToOut Wanting pieces old new w,
  count_stop (At ToOut Failing) ToErr Wanting pieces old new w,
)
no_want_law (At ToOut Wanting) pieces old new w calm = absurd (calm refl)
no_want_law (At ToErr Failing) pieces old new w calm = (
  count_stop (At ToErr Failing) ToOut Wanting pieces old new w,
  count_stop (At ToErr Failing) ToErr Wanting pieces old new w,
)
no_want_law (At ToErr Wanting) pieces old new w calm = absurd (calm refl)
no_want_law Elsewhere pieces old new w calm = absurd (calm refl)

one_fault_law : (stop : Stop) (pieces : List Piece) (names : List (List ℕ)) (old new : Outside)
    → new.files ≡ files_left_by stop (asked_for_all names old.files)
    → Reads stop old.input new.input → Went stop pieces old.sinks new.sinks → ending_by stop ≡ Fault → OneFault old new
one_fault_law Never pieces names old new seen reads w is = cc
one_fault_law AtFiles pieces names old new seen reads w is = inl (files_stop AtFiles names old.files new.files seen)
one_fault_law AtInput pieces names old new seen reads w is = inr (inl (input_stop AtInput old.input new.input reads))
one_fault_law (At ToOut Failing) pieces names old new seen reads w is =
    inr (inr (inl (count_stop (At ToOut Failing) ToOut Failing pieces old.sinks new.sinks w)))
one_fault_law (At ToOut Wanting) pieces names old new seen reads w is = cc
one_fault_law (At ToErr Failing) pieces names old new seen reads w is =
    inr (inr (inr (count_stop (At ToErr Failing) ToErr Failing pieces old.sinks new.sinks w)))
one_fault_law (At ToErr Wanting) pieces names old new seen reads w is = cc
one_fault_law Elsewhere pieces names old new seen reads w is = cc

-- only OutsideFault and NoMemory are no statuses of a whole call

pub fault_status : (status : Status) → ending_of_status status ≡ Fault → status ≡ statuses.OutsideFault
fault_status statuses.Done e = cc
fault_status statuses.Refused e = cc
fault_status statuses.Usage e = cc
fault_status statuses.NoAnswer e = cc
fault_status statuses.SaysNo e = cc
fault_status statuses.OutsideFault e = refl
fault_status statuses.NoMemory e = cc

pub memory_status : (status : Status) → ending_of_status status ≡ Memory → status ≡ statuses.NoMemory
memory_status statuses.Done e = cc
memory_status statuses.Refused e = cc
memory_status statuses.Usage e = cc
memory_status statuses.NoAnswer e = cc
memory_status statuses.SaysNo e = cc
memory_status statuses.OutsideFault e = cc
memory_status statuses.NoMemory e = refl

pub one_fault : OfServe (λ command status old new. status ≡ statuses.OutsideFault → OneFault old new)
one_fault command status old new s is =
    one_fault_law s.stop (groups_of s) s.takes.asks.names old new s.takes.asks.seen s.takes.reads s.went.went
    (s.ending ∙ ap ending_of_status is)

pub no_fault : OfServe (λ command status old new. status ≢ statuses.OutsideFault → NoFault old new)
no_fault command status old new s other =
    no_fault_law s.stop (groups_of s) s.takes.asks.names old new s.takes.asks.seen s.takes.reads s.went.went
    (λ fault. other (fault_status status (sym s.ending ∙ fault)))

pub no_want : OfServe (λ command status old new. status ≢ statuses.NoMemory → NoWant old new)
no_want command status old new s other =
    no_want_law s.stop (groups_of s) old.sinks new.sinks s.went.went (λ want. other (memory_status status (sym s.ending ∙ want)))
