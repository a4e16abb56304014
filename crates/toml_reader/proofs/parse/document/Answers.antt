use Rattle.std.proofs.Common.{◌≡◌, refl, sym, ap, ◌∙◌}
use Rattle.std.specs.Prelude.{Err}
use Rattle.toml_reader.proofs.Documents.{document_of_no_text, document_of_text}
use Rattle.toml_reader.proofs.parse.document.Goals as goal

pub returns-in_default : goal.returns-in_default
returns-in_default c = λ fault same.
    let is : c.fault.result ≡ fault = cc in
    rw (document_of_no_text c.args.text.now c.in_default.ensures.cases.0) (ap Err (sym c.fault.ensures ∙ is))

pub returns-in-Ok-table_from_str : goal.returns-in-Ok-table_from_str
returns-in-Ok-table_from_str c =
    let same = c.in-Ok.ensures.cases in
    rw (document_of_text c.args.text.now same.1, rw same.0 at c.in-Ok-table_from_str.ensures.ok) refl
