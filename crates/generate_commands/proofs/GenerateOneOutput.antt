-- `gen` has one output.
use Rattle.std.proofs.Common.{◌≡◌, ℕ, Some, Result, Ok, Err, sym, ◌∙◌}
use Rattle.net_generator.specs.Networks.{net_text}
use Rattle.net_generator.specs.Intents.{intent_text}
use Rattle.net_model.specs.Network.{Network}
use Rattle.intent_reader.specs.declared.intent.Intent.{Intent}
use Rattle.path_compiler.specs.declared.compiled.Compiled.{Compiled}
use Rattle.path_compiler.specs.declared.compiled.CompileFault.{CompileFault}
use Rattle.generate_commands.specs.declared.gen_command.Made.{Made}
use Rattle.generate_commands.specs.declared.gen_command.Made.TheVariants as mades
use Rattle.command_output.specs.OutputPieces.{Output}
use Rattle.walk_commands.proofs.PublicLaws.{files_one, no_list_one}
use Rattle.generate_commands.specs.GenCommand.{GenWants, SumWants}

answer_one : (net : Network) (intent : Intent) (answer : Result Compiled CompileFault) (a b : Output) → SumWants net intent answer a
    → SumWants net intent answer b → a ≡ b
answer_one net intent (Ok c) a b one two = one ∙ sym two
answer_one net intent (Err fault) a b one two = no_list_one net fault a b one two

pub gen_one : (n : ℕ) (made : Made) (a b : Output) → GenWants n made a → GenWants n made b → a ≡ b
gen_one n mades.Net a b one two = one ∙ sym two
gen_one n mades.Intent a b one two = one ∙ sym two
gen_one n mades.Sum a b one two =
    files_one SumWants (record { one = answer_one; some = λ net intent output is. is }) (Some (net_text n)) (Some (intent_text n))
    a b one two
