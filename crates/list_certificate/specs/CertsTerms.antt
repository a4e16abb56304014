-- Need not be believed: helps proofs and other laws.
-- Terms beside those of `specs/Certs.antt`.
use Rattle.std.specs.Prelude.{◌≡◌, ℕ, ◌+◌, ◌<◌, List, [], ◌∷◌, length, Option, Some, None, All, AllPairs}
use Rattle.list_pack.specs.declared.types.PathStep.{PathStep}
use Rattle.list_pack.specs.declared.types.Potential.{Potential}
use Rattle.list_pack.specs.declared.types.Solution.{Solution}
use Rattle.list_pack.specs.LegsValue.{LegsValue}
use Rattle.list_pack.specs.Costs.{IsState}
use Rattle.list_pack.specs.Least.{IsBefore}
use Rattle.list_certificate.specs.declared.certificate_types.PotentialLine.{PotentialLine}
use Rattle.list_certificate.specs.declared.certificate_types.PathLine.{PathLine}
use Rattle.list_certificate.specs.declared.certificate_types.Cert.{Cert}

-- there is a path, or a line says that there is none
abbrev pub IsWritten : Option ℕ → List PathLine → Type 0
IsWritten None path = 0 < length path
IsWritten (Some line) path = path ≡ []

-- what a check takes: the listed states are states of the legs, each once and in order
pub record IsCert (v : LegsValue) (c : Cert) : Type 0 where
  pub states : All (λ (l : PotentialLine). IsState v l.potential.state) c.potentials
  pub order : AllPairs (λ (l m : PotentialLine). IsBefore v l.potential.state m.potential.state) c.potentials
  pub written : IsWritten c.none c.path

-- lines that follow one another from a number on
abbrev pub potential_lines : ℕ → List Potential → List PotentialLine
potential_lines line [] = []
potential_lines line (q ∷ qs) = record { potential = q; line = line } ∷ potential_lines (line + 1) qs

abbrev pub path_lines : ℕ → List PathStep → List PathLine
path_lines line [] = []
path_lines line (p ∷ ps) = record { step = p; line = line } ∷ path_lines (line + 1) ps

-- the certificate of a solution, whose head stands in a line
abbrev pub none_line : ℕ → List PathStep → Option ℕ
none_line line [] = Some line
none_line line (p ∷ ps) = None

-- how many lines say the path, or that there is none
abbrev pub way_count : List PathStep → ℕ
way_count [] = 1
way_count (p ∷ ps) = length (p ∷ ps)

abbrev pub certificate_of : ℕ → Solution → Cert
certificate_of head s =
    record {
      head = head;
      potentials = potential_lines (head + 1) s.potentials;
      path = path_lines (head + 1 + length s.potentials) s.path;
      none = none_line (head + 1 + length s.potentials) s.path;
      end = head + 1 + length s.potentials + way_count s.path;
    }
