-- The words of the command line, and the specs of the commands that they name.
use Rattle.std.specs.Prelude.{◌≡◌, ℕ, false, if◌then◌else◌, List, [], ◌∷◌, codes, Option, Some, None, ⊤, true}
use Rattle.command_output.specs.declared.status.Status.TheVariants as statuses
use Rattle.command_output.specs.OutputLines.{line}
use Rattle.command_output.specs.OutputPieces.{ForErr}
use Rattle.command_output.specs.CommandSpec.{CommandSpec}
use Rattle.srv6_cli.specs.CommandWords.{Command}
use Rattle.srv6_cli.specs.CommandWords as commands
use Rattle.run_commands.specs.RunCommand.{RunWords, run_spec, run_words}
use Rattle.compile_commands.specs.CompileCommand.{CompileWords, compile_spec, compile_words}
use Rattle.compile_commands.specs.CheckCommand.{CheckWords, check_spec, check_words}
use Rattle.walk_commands.specs.WalkCommand.{WalkWords, walk_spec, walk_words}
use Rattle.trace_commands.specs.TraceCommand.{TraceWords, trace_spec, trace_words}
use Rattle.trace_commands.specs.ReplayCommand.{ReplayWords, replay_spec, replay_words}
use Rattle.run_commands.specs.ShowCommand.{is_show, show_spec}
use Rattle.update_commands.specs.UpdateCommand.{UpdateWords, update_spec, update_words}
use Rattle.generate_commands.specs.GenCommand.{GenWords, gen_spec, gen_words}

-- a command whose words these are, or else what comes after it in the list of the commands
abbrev pub or_else : {A : Type 0} → (A → Command) → Option A → Command → Command
or_else command None others = others
or_else command (Some words) others = command words

-- the commands, by their words

abbrev pub run_by : RunWords → Command
run_by words = commands.Run words.file words.node words.choices words.schedule

abbrev pub compile_by : CompileWords → Command
compile_by words = commands.Compile words.file words.intent

abbrev pub check_by : CheckWords → Command
check_by words = commands.Check words.file words.intent words.cert

abbrev pub walk_by : WalkWords → Command
walk_by words = commands.Walk words.file words.intent words.choices words.schedule

abbrev pub trace_by : TraceWords → Command
trace_by words = commands.Trace words.file words.node words.choices

abbrev pub replay_by : ReplayWords → Command
replay_by words = commands.Replay words.file words.trace

abbrev pub gen_by : GenWords → Command
gen_by words = commands.Gen words.size words.made

abbrev pub update_by : UpdateWords → Command
update_by words = commands.Update words.old words.new words.intent words.events

-- the list of the commands; their verbs differ, so that its order says nothing
abbrev pub command_of : List (List ℕ) → Command
command_of words =
    or_else run_by (run_words words)
    (or_else compile_by (compile_words words)
    (or_else check_by (check_words words)
    (or_else walk_by (walk_words words)
    (or_else trace_by (trace_words words)
    (or_else replay_by (replay_words words)
    (or_else gen_by (gen_words words)
    (or_else update_by (update_words words)
    (if is_show words then commands.Show
    else commands.Unknown))))))))

-- the line that says how the program is called
unfoldable pub usage_line : List ℕ
usage_line = line (codes "usage: srv6 compile|check|walk|run|trace|replay|show|gen|update")

-- words that are no command have the line that says how the program is called
abbrev pub usage_spec : CommandSpec
usage_spec = record {
  files = [];
  goes_on = λ texts. false;
  reads = false;
  leaves_input = λ held. ⊤;
  lines_last = true;
  statuses = statuses.Usage ∷ [];
  wants = λ held input output. output ≡ record { pieces = ForErr usage_line ∷ []; status = statuses.Usage };
}

abbrev pub spec_of : Command → CommandSpec
spec_of (commands.Run file node choices schedule) = run_spec file node choices schedule
spec_of (commands.Compile file intent) = compile_spec file intent
spec_of (commands.Check file intent cert) = check_spec file intent cert
spec_of (commands.Walk file intent choices schedule) = walk_spec file intent choices schedule
spec_of (commands.Trace file node choices) = trace_spec file node choices
spec_of (commands.Replay file trace) = replay_spec file trace
spec_of (commands.Update old new intent events) = update_spec old new intent events
spec_of commands.Show = show_spec
spec_of (commands.Gen n made) = gen_spec n made
spec_of commands.Unknown = usage_spec
