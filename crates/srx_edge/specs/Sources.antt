-- What is seen of a source, and what its calls do.
use Rattle.std.specs.Prelude.{◌≡◌, ℕ, ◌<◌, ◌≤◌, Bool, true, false, ◌==◌, List, length, take, drop, Option, Result, Ok, Err, if◌then◌else◌}
use Rattle.std.specs.Io.KnownBytes.{IsAtEnd}
use Rattle.srx_edge.specs.declared.input.Failed.{Failed}
use Rattle.srx_edge.specs.Edge.{next_count, prepend_to, drop_from, emptied}

-- what is seen of a source
pub record SourceSeen : Type 0 where
  pub left : Option (List ℕ)  -- the bytes that are left, where they are told
  pub faults : ℕ  -- the reads that failed
  pub ends : ℕ  -- the reads into slices that weren't empty that found the end
  pub stopped : Bool  -- whether the last read into a slice that wasn't empty failed

-- the source after a read that failed
abbrev pub failed : SourceSeen → SourceSeen
failed source = record source { faults = next_count source.faults; stopped = true }

-- the source after a read that left this of it, and found the end or not
abbrev pub passed : Option (List ℕ) → Bool → SourceSeen → SourceSeen
passed left at_end source = record source { left = left; ends = if at_end then next_count source.ends else source.ends; stopped = false }

-- a read that gives bytes: they are the first that were left, and stand at the front of the slice, of which the rest
-- stays; none into a slice that isn't empty are the end; a read into an empty slice changes nothing
pub record Gives (into filled : List ℕ) (count : ℕ) (old new : SourceSeen) : Type 0 where
  pub within : count ≤ length into
  pub beyond : drop count filled ≡ drop count into
  pub taken : old.left ≡ prepend_to (take count filled) new.left
  pub at_end : count ≡ 0 → 0 < length into → IsAtEnd new.left
  pub others : new ≡ (if length into == 0 then old else passed new.left (count == 0) old)

-- a read gives bytes, or fails: then it takes and gives nothing, and is one fault, which stops the source
abbrev pub Reads : List ℕ → List ℕ → Result ℕ Failed → SourceSeen → SourceSeen → Type 0
Reads into filled (Ok count) old new = Gives into filled count old new
Reads into filled (Err fault) old new = (0 < length into) × (filled ≡ into) × (new ≡ failed old)

-- the source once all is taken that was left; the end was found once, and no read came after it
abbrev pub drained : SourceSeen → SourceSeen
drained source = passed (emptied source.left) true source

-- the source once so many bytes are taken
abbrev pub taken : ℕ → SourceSeen → SourceSeen
taken count source = passed (drop_from count source.left) false source

-- at most so many bytes were taken, and then the source was left so
pub record DrawnUpTo (limit : ℕ) (left_by : SourceSeen → SourceSeen) (old new : SourceSeen) : Type 0 where
  pub bytes : List ℕ
  pub whole : old.left ≡ prepend_to bytes new.left
  pub fits : length bytes ≤ limit
  pub seen : new ≡ left_by (passed new.left false old)
