-- The spec of a command: what it reads, and what is wanted of it.
use Rattle.std.specs.Prelude.{◌≡◌, ◌⊎◌, ℕ, Bool, true, false, ◌==◌, not, if◌then◌else◌, List, [], ◌∷◌, ◌++◌, length, Option, None, Some, ⊤}
use Rattle.srx_edge.specs.Edge.{file_named}
use Rattle.command_output.specs.declared.status.Status.{Status}
use Rattle.command_output.specs.OutputPieces.{Output}

-- files, as names with their bytes
abbrev pub Held : Type 0
Held = List (List ℕ × List ℕ)

pub record CommandSpec : Type 1 where
  pub files : List (List ℕ)  -- the names of its files, in the order in which they are read
  pub goes_on : List (List ℕ) → Bool  -- whether, with these texts of its first files, it asks for the next one
  pub reads : Bool  -- whether it reads the input
  pub leaves_input : Held → Type 0  -- it ends before the input is read
  pub lines_last : Bool  -- whether each line on `err` stands after all of `out`
  pub statuses : List Status  -- with which it may end, if nothing fails
  pub wants : Held → List ℕ → Output → Type 0  -- an output that is wanted of the files and the input

-- the texts of the first files with that of one more, which is there, and whether the command goes on
abbrev pub texts_with : List (List ℕ) → Option (List ℕ) → List (List ℕ)
texts_with texts None = texts
texts_with texts (Some text) = texts ++ text ∷ []

abbrev pub goes_on_with : (List (List ℕ) → Bool) → List (List ℕ) → Option (List ℕ) → Bool
goes_on_with goes_on texts None = false
goes_on_with goes_on texts (Some text) = goes_on (texts ++ text ∷ [])

-- the names that are asked for: each is judged before the next one is read
abbrev pub names_from : (List (List ℕ) → Bool) → Held → List (List ℕ) → List (List ℕ) → List (List ℕ)
names_from goes_on held texts [] = []
names_from goes_on held texts (name ∷ []) = name ∷ []
names_from goes_on held texts (name ∷ next ∷ names) =
    name ∷ (if goes_on_with goes_on texts (file_named held name)
    then names_from goes_on held (texts_with texts (file_named held name)) (next ∷ names) else [])

abbrev pub names_of : CommandSpec → Held → List (List ℕ)
names_of spec held = names_from spec.goes_on held [] spec.files

-- P of what is told, where it is read; what isn't read is none
abbrev pub IfTold : {X : Type 0} → Bool → X → Option X → (X → Type 0) → Type 0
IfTold false none told P = P none
IfTold true none None P = ⊤
IfTold true none (Some x) P = P x

-- the output is one that is wanted, where the files and the input that the command reads are told
abbrev pub WantedOf : CommandSpec → Option Held → Option (List ℕ) → Output → Type 0
WantedOf spec told left output =
    IfTold (not (length spec.files == 0)) [] told (λ held. IfTold spec.reads [] left (λ input. spec.wants held input output))

-- the status is one of these
abbrev pub IsOneOf : List Status → Status → Type 0
IsOneOf [] status = ⊥
IsOneOf (first ∷ more) status = (status ≡ first) ⊎ IsOneOf more status
