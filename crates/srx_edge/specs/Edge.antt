-- Words on what files, sources and sinks tell of themselves. `None` tells nothing.
use Rattle.std.specs.Prelude.{ℕ, ◌+◌, ◌-◌, ◌^◌, ◌==◌, List, [], ◌∷◌, ◌++◌, drop, Option, None, Some, if◌then◌else◌}
use Rattle.std.specs.Str.{bytes_eq}

-- a count's next value; it stands still at its last one, 2^64 - 1
abbrev pub next_count : ℕ → ℕ
next_count count = if count == 2 ^ 64 - 1 then count else count + 1

-- what a sink holds once the bytes are appended
abbrev pub append_to : List ℕ → Option (List ℕ) → Option (List ℕ)
append_to bytes None = None
append_to bytes (Some held) = Some (held ++ bytes)

-- what was left of a source before the bytes were taken
abbrev pub prepend_to : List ℕ → Option (List ℕ) → Option (List ℕ)
prepend_to bytes None = None
prepend_to bytes (Some left) = Some (bytes ++ left)

-- what is left of a source once so many bytes are taken
abbrev pub drop_from : ℕ → Option (List ℕ) → Option (List ℕ)
drop_from count None = None
drop_from count (Some left) = Some (drop count left)

-- what is left of a source once it is taken to its end
abbrev pub emptied : Option (List ℕ) → Option (List ℕ)
emptied None = None
emptied (Some left) = Some []

-- the names asked for, oldest first, with one more
abbrev pub append_name : List ℕ → Option (List (List ℕ)) → Option (List (List ℕ))
append_name name None = None
append_name name (Some names) = Some (names ++ name ∷ [])

-- the bytes of the file of that name, in a list of names with their bytes
abbrev pub file_named : List (List ℕ × List ℕ) → List ℕ → Option (List ℕ)
file_named [] name = None
file_named (file ∷ files) name = if bytes_eq file.0 name then Some file.1 else file_named files name
