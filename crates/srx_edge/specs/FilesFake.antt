-- Need not be believed: helps proofs and other laws.
-- What a read of files in memory does.
use Rattle.std.specs.Prelude.{◌≡◌, ◌==◌, ℕ, ◌+◌, ◌<◌, ◌≤◌, ◌++◌, ◌∷◌, [], List, length, Bool, true, false, Contains, None, Some, IsSomeAnd, Result, Ok, Err}
use Rattle.std.specs.Global.{Vec}
use Rattle.srx_edge.specs.Edge.{next_count, file_named}
use Rattle.srx_edge.specs.Fakes.{FilesState}
use Rattle.srx_edge.specs.FilesRead.{FilesSeen}
use Rattle.srx_edge.specs.declared.file_access.FileFault.{FileFault}
use Rattle.srx_edge.specs.declared.file_access.FileFault.TheVariants.{Failed, TooBig, NoMemory}

-- the next read fails
abbrev pub FailsNext : FilesState → Type 0
FailsNext files = Contains files.fails (length files.asked + 1)

-- no read of a file that is held fails
abbrev pub is_sure : FilesState → Bool
is_sure files = length files.fails == 0

-- what is seen of files in memory
abbrev pub files_seen : FilesState → FilesSeen
files_seen files = record {
  told = Some files.files;
  asked = Some files.asked;
  faults = files.faults;
  stopped = files.stopped;
  sure = is_sure files;
}

-- the files after a read that gave the bytes, or refused too many
abbrev pub after_read : List ℕ → FilesState → FilesState
after_read name files = record files { asked = files.asked ++ name ∷ []; stopped = false }

-- the files after a read that failed
abbrev pub after_fault : List ℕ → FilesState → FilesState
after_fault name files = record files { asked = files.asked ++ name ∷ []; faults = next_count files.faults; stopped = true }

-- the answer to a read of this name: a fault only at a read that fails or a name that isn't held
abbrev pub Answers : List ℕ → ℕ → Result (Vec ℕ) FileFault → FilesState → Type 0
Answers name limit (Ok bytes) files =
    (¬ FailsNext files) × (file_named files.files name ≡ Some bytes.items) × (length bytes.items ≤ limit)
Answers name limit (Err Failed) files = ¬ FailsNext files → file_named files.files name ≡ None
Answers name limit (Err (TooBig most)) files =
    (most ≡ limit) × (¬ FailsNext files) × IsSomeAnd (file_named files.files name) (λ bytes. limit < length bytes)
Answers name limit (Err NoMemory) files = Unit {0}

-- what the read leaves: NoMemory leaves all as it was
abbrev pub Leaves : List ℕ → Result (Vec ℕ) FileFault → FilesState → FilesState → Type 0
Leaves name (Ok bytes) old new = new ≡ after_read name old
Leaves name (Err Failed) old new = new ≡ after_fault name old
Leaves name (Err (TooBig most)) old new = new ≡ after_read name old
Leaves name (Err NoMemory) old new = new ≡ old
