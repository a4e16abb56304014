-- Need not be believed: helps proofs and other laws.
-- Terms beside those of `specs/Halts.antt`.
use Rattle.srx_edge.specs.declared.file_access.FileFault.{FileFault}
use Rattle.srx_edge.specs.declared.file_access.FileFault.TheVariants as files
use Rattle.srx_edge.specs.declared.input.DrawFault.{DrawFault}
use Rattle.srx_edge.specs.declared.input.DrawFault.TheVariants as draws
use Rattle.srx_edge.specs.declared.output.PourFault.{PourFault}
use Rattle.srx_edge.specs.declared.output.PourFault.TheVariants as pours
use Rattle.text_faults.specs.declared.fault.TextFault.{TextFault}
use Rattle.text_faults.specs.declared.fault.OrNoMemory.{OrNoMemory}
use Rattle.text_faults.specs.declared.fault.OrNoMemory.TheVariants as reads
use Rattle.intent_reader.specs.declared.fault.IntentFault.{IntentFault}
use Rattle.list_certificate.specs.declared.certificate_types.CertFault.{CertFault}
use Rattle.list_certificate.specs.declared.certificate_types.CertFault.TheVariants as certs
use Rattle.trace_replay.specs.declared.trace_reading.TraceFault.{TraceFault}
use Rattle.trace_replay.specs.declared.trace_reading.TraceFault.TheVariants as traces
use Rattle.command_output.specs.declared.halt.Failure.{Failure}
use Rattle.command_output.specs.declared.halt.Failure.TheVariants as failures
use Rattle.command_output.specs.declared.halt.Halt.{Halt}
use Rattle.command_output.specs.declared.halt.Halt.TheVariants as halts
use Rattle.command_output.specs.declared.refusal.Refusal.{Refusal}
use Rattle.command_output.specs.declared.refusal.Refusal.TheVariants as refusals

abbrev pub memory_fails : Failure
memory_fails = failures.NoMemory

abbrev pub failure_of_pour : PourFault → Failure
failure_of_pour (pours.Failed written) = failures.Fault
failure_of_pour (pours.NoMemory written) = failures.NoMemory

abbrev pub halt_of_failure : Failure → Halt
halt_of_failure failure = halts.Failed failure

abbrev pub halt_of_refusal : Refusal → Halt
halt_of_refusal refusal = halts.Refused refusal

abbrev pub halt_of_file : FileFault → Halt
halt_of_file files.Failed = halts.Failed failures.Fault
halt_of_file (files.TooBig limit) = halts.Refused (refusals.TooBig limit)
halt_of_file files.NoMemory = halts.Failed failures.NoMemory

abbrev pub halt_of_draw : DrawFault → Halt
halt_of_draw draws.Failed = halts.Failed failures.Fault
halt_of_draw (draws.TooBig limit) = halts.Refused (refusals.TooBig limit)
halt_of_draw draws.NoMemory = halts.Failed failures.NoMemory

abbrev pub halt_of_net : OrNoMemory TextFault → Halt
halt_of_net (reads.Fault fault) = halts.Refused (refusals.Net fault)
halt_of_net reads.NoMemory = halts.Failed failures.NoMemory

abbrev pub halt_of_intent : OrNoMemory IntentFault → Halt
halt_of_intent (reads.Fault fault) = halts.Refused (refusals.Intent fault)
halt_of_intent reads.NoMemory = halts.Failed failures.NoMemory

abbrev pub halt_of_cert : CertFault → Halt
halt_of_cert (certs.BadCert line) = halts.Refused (refusals.BadCert line)
halt_of_cert certs.NoMemory = halts.Failed failures.NoMemory

abbrev pub halt_of_trace : TraceFault → Halt
halt_of_trace (traces.BadTrace line) = halts.Refused (refusals.BadTrace line)
halt_of_trace traces.NoMemory = halts.Failed failures.NoMemory
