-- Need not be believed: helps proofs and other laws.
-- Terms beside those of `specs/ReplayCommand.antt`.
use Rattle.std.specs.Prelude.{Option, Some, None}
use Rattle.trace_commands.specs.declared.replay_command.ReplayWords as code
use Rattle.trace_commands.specs.ReplayCommand.{ReplayWords}

-- as the code has them
abbrev pub replay_words_seen : code.ReplayWords → ReplayWords
replay_words_seen words = record { file = words.file.now; trace = words.trace.now }

abbrev pub replay_asked : Option code.ReplayWords → Option ReplayWords
replay_asked None = None
replay_asked (Some words) = Some (replay_words_seen words)
