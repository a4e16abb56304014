-- What is seen of files, and what a read does.
use Rattle.std.specs.Prelude.{◌≡◌, ℕ, ◌<◌, ◌≤◌, Bool, true, false, List, length, Option, None, Some, IfSome, IsSomeAnd, IsTrue, Result, Ok, Err}
use Rattle.std.specs.Global.{Vec}
use Rattle.srx_edge.specs.declared.file_access.FileFault.{FileFault}
use Rattle.srx_edge.specs.declared.file_access.FileFault.TheVariants as faults
use Rattle.srx_edge.specs.Edge.{next_count, append_name, file_named}

-- what is seen of files
pub record FilesSeen : Type 0 where
  pub told : Option (List (List ℕ × List ℕ))  -- names with their bytes, where they are told; `file_named` looks one up
  pub asked : Option (List (List ℕ))  -- the names asked for so far, oldest first, where they are told
  pub faults : ℕ  -- the reads that failed
  pub stopped : Bool  -- whether the last read that asked for a name failed
  pub sure : Bool  -- whether a read of a file that is told never fails

-- the files after a read that was asked for this name
abbrev pub asked_for : List ℕ → FilesSeen → FilesSeen
asked_for name files = record files { asked = append_name name files.asked; stopped = false }

-- the files after a read that failed
abbrev pub failed : FilesSeen → FilesSeen
failed files = record files { faults = next_count files.faults; stopped = true }

-- sure files fail at no name of a file that they hold
abbrev pub FailsAt : List ℕ → FilesSeen → Type 0
FailsAt name files = IsTrue files.sure → IfSome files.told (λ held. file_named held name ≡ None)

-- a read gives the bytes of the file of this name, at most `limit` of them; it fails, which is one fault and stops the
-- files; it refuses a file that has more; or memory is wanting, and nothing was asked for
abbrev pub ReadsFile : List ℕ → ℕ → Result (Vec ℕ) FileFault → FilesSeen → FilesSeen → Type 0
ReadsFile name limit (Ok bytes) old new =
    (length bytes.items ≤ limit) × IfSome old.told (λ files. file_named files name ≡ Some bytes.items) × (new ≡ asked_for name old)
ReadsFile name limit (Err faults.Failed) old new =
    FailsAt name old × (new ≡ failed (asked_for name old))
ReadsFile name limit (Err (faults.TooBig most)) old new =
    (most ≡ limit) × IfSome old.told (λ files. IsSomeAnd (file_named files name) (λ bytes. limit < length bytes))
    × (new ≡ asked_for name old)
ReadsFile name limit (Err faults.NoMemory) old new = new ≡ old
