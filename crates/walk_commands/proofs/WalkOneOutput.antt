-- `walk` has one output.
use Rattle.std.proofs.Common.{◌≡◌, ℕ, List, Result, Ok, Err, sym, ◌∙◌}
use Rattle.net_model.specs.Network.{Network}
use Rattle.intent_reader.specs.declared.intent.Intent.{Intent}
use Rattle.path_compiler.specs.declared.compiled.Compiled.{Compiled}
use Rattle.path_compiler.specs.declared.compiled.CompileFault.{CompileFault}
use Rattle.path_compiler.specs.declared.compiled.CompileFault.TheVariants as faults
use Rattle.srx_edge.specs.Edge.{file_named}
use Rattle.command_output.specs.OutputPieces.{Output}
use Rattle.command_output.specs.CommandSpec.{Held}
use Rattle.compile_commands.proofs.PublicLaws.{files_one}
use Rattle.walk_commands.specs.WalkCommand.{NoListWants, WalkWants, walk_spec}

pub no_list_one : (net : Network) (fault : CompileFault) (a b : Output) → NoListWants net fault a → NoListWants net fault b → a ≡ b
no_list_one net (faults.NotFlat why) a b one two = one ∙ sym two
no_list_one net (faults.NoList solution) a b one two = one ∙ sym two
no_list_one net (faults.TooLong found) a b one two = one ∙ sym two
no_list_one net (faults.HopLimit found) a b one two = one ∙ sym two
no_list_one net faults.NoMemory a b one two = absurd one

answer_one : (choices schedule input : List ℕ) (net : Network) (intent : Intent) (answer : Result Compiled CompileFault) (a b : Output)
    → WalkWants choices schedule input net intent answer a → WalkWants choices schedule input net intent answer b → a ≡ b
answer_one choices schedule input net intent (Ok c) a b one two = one.0 ∙ sym two.0
answer_one choices schedule input net intent (Err fault) a b one two = no_list_one net fault a b one two

pub walk_one : (file intent choices schedule : List ℕ) (held : Held) (input : List ℕ) (a b : Output)
    → (walk_spec file intent choices schedule).wants held input a → (walk_spec file intent choices schedule).wants held input b → a ≡ b
walk_one file intent choices schedule held input a b one two =
    files_one (WalkWants choices schedule input)
    (record { one = answer_one choices schedule input; some = λ net intent output is. is }) (file_named held file) (file_named held intent)
    a b one two
