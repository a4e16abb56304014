-- Need not be believed: helps proofs and other laws.
-- Terms beside those of `specs/Verbs.antt`.
use Rattle.std.specs.Prelude.{Option, Some, None}
use Rattle.command_output.specs.declared.verbs.TwoWords as code
use Rattle.command_output.specs.Verbs.{words_of, TwoWords}

-- as the code has them
abbrev pub two_words_seen : Option code.TwoWords → Option TwoWords
two_words_seen None = None
two_words_seen (Some words) =
    Some (record { first = words.first.now; second = words.second.now; more = words_of words.more.now })
