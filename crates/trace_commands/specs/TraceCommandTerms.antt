-- Need not be believed: helps proofs and other laws.
-- Terms beside those of `specs/TraceCommand.antt`.
use Rattle.std.specs.Prelude.{Option, Some, None}
use Rattle.trace_commands.specs.declared.trace_command.TraceWords as code
use Rattle.trace_commands.specs.TraceCommand.{TraceWords}

-- as the code has them
abbrev pub trace_words_seen : code.TraceWords → TraceWords
trace_words_seen words = record { file = words.file.now; node = words.node.now; choices = words.choices.items }

abbrev pub trace_asked : Option code.TraceWords → Option TraceWords
trace_asked None = None
trace_asked (Some words) = Some (trace_words_seen words)
