-- Need not be believed: helps proofs and other laws.
-- What opening a file gives, and what reading all of it does.
use Rattle.std.specs.Prelude.{◌≡◌, ℕ, ◌+◌, ◌≤◌, List, length, Option, Some, IfSome, IsSomeAnd, Result, Ok, Err, ⊤}
use Rattle.std.specs.Global.{Vec}
use Rattle.std.specs.Io.KnownBytes.{Consumes, IsAtEnd}
use Rattle.srx_edge.specs.declared.input.Failed.{Failed}
use Rattle.srx_edge.specs.declared.input.DrawFault.{DrawFault}
use Rattle.srx_edge.specs.declared.input.DrawFault.TheVariants as draws
use Rattle.srx_edge.specs.Edge.{file_named}

-- where files are told, only one that is held is opened, and all of its bytes are left
abbrev pub Opened : {R : Type 0} → List ℕ → Option (List (List ℕ × List ℕ)) → (R → Option (List ℕ)) → Result R Failed → Type 0
Opened name told left (Ok reader) = IfSome told (λ files. IsSomeAnd (file_named files name) (λ bytes. left reader ≡ Some bytes))
Opened name told left (Err fault) = ⊤

-- so many bytes, or fewer, were taken of a reader
abbrev pub TookUpTo : ℕ → Option (List ℕ) → Option (List ℕ) → Type 0
TookUpTo most old new = (bytes : List ℕ) × (length bytes ≤ most) × Consumes old new bytes

-- all that was left of a reader is given; or there is more than the limit, and one byte more was taken; or a read failed, or
-- memory was wanting
abbrev pub ReadsWhole : ℕ → Result (Vec ℕ) DrawFault → Option (List ℕ) → Option (List ℕ) → Type 0
ReadsWhole limit (Ok bytes) old new = (length bytes.items ≤ limit) × Consumes old new bytes.items × IsAtEnd new
ReadsWhole limit (Err draws.Failed) old new = TookUpTo limit old new
ReadsWhole limit (Err (draws.TooBig most)) old new =
    (most ≡ limit) × ((bytes : List ℕ) × (length bytes ≡ limit + 1) × Consumes old new bytes)
ReadsWhole limit (Err draws.NoMemory) old new = TookUpTo limit old new
