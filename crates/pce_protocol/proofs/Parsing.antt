-- What a line is read as.
use Rattle.std.proofs.Common.{◌≡◌, ℕ, Bool, true, false, List, None, Some, if◌then◌else◌, refl, sym, ap, ◌∙◌}
use Rattle.std.proofs.lemmas.Str.{IsUtf8-from_is_utf8, is_utf8-from_IsUtf8}
use Rattle.std.specs.Str.{is_utf8, IsUtf8}
use Rattle.serde_json.specs.Data.{Data}
use Rattle.serde_json.specs.Read.{read}
use Rattle.pce_protocol.specs.Requests.{parsed}

pub parsed_some : (line : List ℕ) (value : Data) → IsUtf8 line → read line ≡ Some value → Some value ≡ parsed line
parsed_some line value utf8 e =
    sym (ap (λ (b : Bool). if b then read line else None) (is_utf8-from_IsUtf8 line utf8) ∙ e)

parsed_by : (line : List ℕ) (b : Bool) → is_utf8 line ≡ b → (IsUtf8 line → read line ≡ None) → None ≡ parsed line
parsed_by line true is e = sym (ap (λ (b : Bool). if b then read line else None) is ∙ e (IsUtf8-from_is_utf8 line is))
parsed_by line false is e = sym (ap (λ (b : Bool). if b then read line else None) is)

pub parsed_none : (line : List ℕ) → (IsUtf8 line → read line ≡ None) → None ≡ parsed line
parsed_none line e = parsed_by line (is_utf8 line) refl e
