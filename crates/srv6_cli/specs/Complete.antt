-- A call over files that are sure and hold what the command comes to.
use Rattle.std.specs.Prelude.{◌≡◌, ◌⊎◌, ℕ, IsTrue, IsSome, IsSomeAnd, List, [], ◌∷◌, ⊤}
use Rattle.srx_edge.specs.Edge.{next_count, file_named}
use Rattle.srx_edge.specs.FilesRead.{FilesSeen}
use Rattle.command_output.specs.Outside.{Outside}
use Rattle.command_output.specs.CommandSpec.{Held, CommandSpec, names_of}

-- a file of each of these names is held
abbrev pub AreHeld : Held → List (List ℕ) → Type 0
AreHeld held [] = ⊤
AreHeld held (name ∷ names) = IsSome (file_named held name) × AreHeld held names

-- the command asks for no file; or the files are sure, and one is held of each name that it comes to
abbrev pub FilesAreSure : CommandSpec → FilesSeen → Type 0
FilesAreSure spec files =
    (spec.files ≡ []) ⊎ (IsTrue files.sure × IsSomeAnd files.told (λ held. AreHeld held (names_of spec held)))

-- the input or a sink had a fault
abbrev pub HadFaultBeside : Outside → Outside → Type 0
HadFaultBeside old new = (new.input.faults ≡ next_count old.input.faults)
    ⊎ ((new.sinks.out.faults ≡ next_count old.sinks.out.faults) ⊎ (new.sinks.err.faults ≡ next_count old.sinks.err.faults))
