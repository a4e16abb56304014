-- A text as a document, by whether its bytes are UTF-8.
use Rattle.std.proofs.Common.{◌≡◌, ℕ, Bool, true, false, List, None, refl}
use Rattle.std.proofs.lemmas.Str.{IsUtf8-from_is_utf8, is_utf8-from_IsUtf8}
use Rattle.std.specs.Str.{IsUtf8, is_utf8}
use Rattle.toml.specs.Parse.{parse_document}
use Rattle.toml_reader.specs.TomlReading.{document_of}

test_fails : (text : List ℕ) (b : Bool) → is_utf8 text ≡ b → ¬ IsUtf8 text → is_utf8 text ≡ false
test_fails text true e other = absurd (other (IsUtf8-from_is_utf8 text e))
test_fails text false e other = e

pub document_of_no_text : (text : List ℕ) → ¬ IsUtf8 text → document_of text ≡ None
document_of_no_text text other = rw (test_fails text (is_utf8 text) refl other)

pub document_of_text : (text : List ℕ) → IsUtf8 text → document_of text ≡ parse_document text
document_of_text text is = rw (is_utf8-from_IsUtf8 text is)
