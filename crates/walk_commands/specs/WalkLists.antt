-- What an intent is compiled to, and what is wanted of it, for the commands that stand on it.
pub use Rattle.compile_commands.specs.CompiledLists.{IntentAnswers, IsCompiledFor, IsLeastFor, NoneLessFor, BindsNothing, IsSmallFor, KeepsToSteps}
pub use Rattle.compile_commands.specs.CompileCommand.{CompiledWants, IntentWants, NetworkWants, hop_limit_line, none_line, too_long_line}
