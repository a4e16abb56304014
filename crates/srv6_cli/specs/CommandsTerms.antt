-- Need not be believed: helps proofs and other laws.
-- Terms beside those of `specs/Commands.antt`.
use Rattle.std.specs.Prelude.{◌≡◌, ◌<◌, length, Result, Ok, Err, ⊤}
use Rattle.command_output.specs.declared.halt.Halt.{Halt}
use Rattle.command_output.specs.declared.status.Status.TheVariants as statuses
use Rattle.command_output.specs.declared.conclusion.Conclusion.{Conclusion}
use Rattle.srv6_cli.specs.declared.commands.Asked.{Asked}
use Rattle.srv6_cli.specs.declared.commands.Asked.TheVariants as asked
use Rattle.command_output.specs.OutputLines.{line}
use Rattle.command_output.specs.OutputLinesTerms.{bytes_of_text}
use Rattle.srv6_cli.specs.CommandWords.{Command}
use Rattle.srv6_cli.specs.CommandWords as commands
use Rattle.run_commands.specs.RunCommandTerms.{run_words_seen}
use Rattle.compile_commands.specs.CompileCommandTerms.{compile_words_seen}
use Rattle.compile_commands.specs.CheckCommandTerms.{check_words_seen}
use Rattle.walk_commands.specs.WalkCommandTerms.{walk_words_seen}
use Rattle.trace_commands.specs.TraceCommandTerms.{trace_words_seen}
use Rattle.trace_commands.specs.ReplayCommandTerms.{replay_words_seen}
use Rattle.update_commands.specs.UpdateCommandTerms.{update_words_seen}
use Rattle.generate_commands.specs.GenCommandTerms.{gen_words_seen}
use Rattle.srv6_cli.specs.Commands.{run_by, compile_by, check_by, walk_by, trace_by, replay_by, gen_by, update_by, usage_line}

-- the commands, by their words

-- the command as the code names it
abbrev pub command_seen : Asked → Command
command_seen (asked.Run words) = run_by (run_words_seen words)
command_seen (asked.Compile words) = compile_by (compile_words_seen words)
command_seen (asked.Check words) = check_by (check_words_seen words)
command_seen (asked.Walk words) = walk_by (walk_words_seen words)
command_seen (asked.Trace words) = trace_by (trace_words_seen words)
command_seen (asked.Replay words) = replay_by (replay_words_seen words)
command_seen (asked.Gen words) = gen_by (gen_words_seen words)
command_seen (asked.Update words) = update_by (update_words_seen words)
command_seen asked.Show = commands.Show
command_seen asked.Unknown = commands.Unknown

-- a run, a walk and a trace have at least one choice
abbrev pub HasChoices : Asked → Type 0
HasChoices (asked.Run words) = 0 < length words.choices.items
HasChoices (asked.Compile words) = ⊤
HasChoices (asked.Check words) = ⊤
HasChoices (asked.Walk words) = 0 < length words.choices.items
HasChoices (asked.Trace words) = 0 < length words.choices.items
HasChoices (asked.Replay words) = ⊤
HasChoices (asked.Gen words) = ⊤
HasChoices (asked.Update words) = ⊤
HasChoices asked.Show = ⊤
HasChoices asked.Unknown = ⊤

-- words that are no command have that line
abbrev pub UsageTold : Result Conclusion Halt → Type 0
UsageTold (Ok told) = (bytes_of_text told.line ≡ usage_line) × (told.status ≡ statuses.Usage)
UsageTold (Err halt) = ⊥
