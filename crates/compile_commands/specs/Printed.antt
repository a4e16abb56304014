-- Need not be believed: helps proofs and other laws.
-- What `check` says of what `compile` printed.
use Rattle.std.specs.Prelude.{◌≡◌, ◌↔◌, ℕ, ◌≤◌, List, [], length, Some, Result, Ok, Err, IsSomeAnd}
use Rattle.net_model.specs.Network.{Network}
use Rattle.intent_reader.specs.declared.intent.Intent.{Intent}
use Rattle.path_compiler.specs.declared.compiled.Compiled.{Compiled}
use Rattle.path_compiler.specs.declared.compiled.CompileFault.{CompileFault}
use Rattle.path_compiler.specs.declared.compiled.CompileFault.TheVariants as faults
use Rattle.srx_edge.specs.Edge.{file_named}
use Rattle.net_model.specs.declared.limits.TheConstants.{MAX_TEXT_BYTES}
use Rattle.command_output.specs.declared.status.Status.TheVariants as statuses
use Rattle.compile_commands.specs.CheckCommand.{check_spec, least_line, no_list_line}
use Rattle.compile_commands.specs.CompileCommand.{AnswerWants, NetworkWants, compile_spec}
use Rattle.command_output.specs.Halts.{flat_refusal}
use Rattle.command_output.specs.Outputs.{reported, refused}
use Rattle.command_inputs.specs.Judgements.{network_in}
use Rattle.command_output.specs.OutputPieces.{Output, bytes_for_out}
use Rattle.command_output.specs.CommandSpec.{Held}

-- a command finds in its files the texts of the description and the intent as another did, and for the certificate what that one printed,
-- which has no more bytes than a file may have
pub record HoldsPrinted (old new : Held) (file intent cert : List ℕ) (printed : Output) : Type 0 where
  pub described : file_named new file ≡ file_named old file
  pub intended : file_named new intent ≡ file_named old intent
  pub certified : file_named new cert ≡ Some (bytes_for_out printed.pieces)
  pub small : length (bytes_for_out printed.pieces) ≤ MAX_TEXT_BYTES

-- the output of `check` by the compiler's answer: `least` with the list's containers and need, and between them its SIDs where the intent
-- prefers few, also where the list is over a bound of the intent; `none` where there is none; a network that is not flat is refused by both
-- commands
abbrev pub ConfirmsList : Intent → Compiled → Output → Type 0
ConfirmsList intent c output = output ≡ reported (least_line intent.prefer c.containers c.sids c.need) [] statuses.Done

abbrev pub ConfirmsAnswer : Network → Intent → Result Compiled CompileFault → Output → Type 0
ConfirmsAnswer net intent (Ok c) output = ConfirmsList intent c output
ConfirmsAnswer net intent (Err (faults.NotFlat why)) output = output ≡ refused (flat_refusal net why)
ConfirmsAnswer net intent (Err (faults.NoList solution)) output = output ≡ reported no_list_line [] statuses.Done
ConfirmsAnswer net intent (Err (faults.TooLong found)) output = ConfirmsList intent found output
ConfirmsAnswer net intent (Err (faults.HopLimit found)) output = ConfirmsList intent found output
ConfirmsAnswer net intent (Err faults.NoMemory) output = ⊥

-- what was printed is what is wanted of `compile` for an answer of the compiler, and the output of `check` is that answer's
abbrev pub ConfirmsPrinted : Output → Network → Intent → Result Compiled CompileFault → Output → Type 0
ConfirmsPrinted printed net intent answer output = AnswerWants net intent answer printed × ConfirmsAnswer net intent answer output

-- of an output that is wanted of `compile`, exactly these are wanted of `check` with what was printed; where the description or the
-- intent is refused, both are that refusal
abbrev pub CheckConfirmsCompile : Type 0
CheckConfirmsCompile =
    (old new : Held) (file intent cert input other : List ℕ) (printed output : Output) → HoldsPrinted old new file intent cert printed
    → (compile_spec file intent).wants old input printed
    → (check_spec file intent cert).wants new other output
    ↔ IsSomeAnd (file_named old file)
    (λ text. NetworkWants (ConfirmsPrinted printed) (network_in text) (file_named old intent) output)
