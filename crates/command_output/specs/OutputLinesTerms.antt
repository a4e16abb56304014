-- Need not be believed: helps proofs and other laws.
-- Terms beside those of `specs/OutputLines.antt`.
use Rattle.std.specs.Prelude.{ℕ, List, string_bytes}
use Rattle.command_output.specs.declared.conclusion.Text.{Text}
use Rattle.command_output.specs.declared.conclusion.Text.TheVariants as texts

-- the bytes of a text
abbrev pub bytes_of_text : Text → List ℕ
bytes_of_text (texts.Fixed bytes) = bytes.now
bytes_of_text (texts.Made text) = string_bytes text
bytes_of_text (texts.Bytes bytes) = bytes.items
