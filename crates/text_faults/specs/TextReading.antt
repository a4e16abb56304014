-- Need not be believed: helps proofs and other laws.
-- What reading a text gives: a value, or the first fault F.
use Rattle.std.specs.Prelude.{◌≡◌, Result, Ok, Err}
use Rattle.text_faults.specs.declared.fault.OrNoMemory.{OrNoMemory}
use Rattle.text_faults.specs.declared.fault.OrNoMemory.TheVariants.{Fault}

-- a result, as it is seen, is the one that is wanted; want of memory says nothing
abbrev pub Gives : {F X Y : Type 0} → (X → Y) → Result X (OrNoMemory F) → Result Y F → Type 0
Gives see (Ok x) wanted = wanted ≡ Ok (see x)
Gives {F = F} see (Err why) wanted = (fault : F) → why ≡ Fault fault → wanted ≡ Err fault
