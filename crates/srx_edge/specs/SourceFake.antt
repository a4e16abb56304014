-- Need not be believed: helps proofs and other laws.
-- What a read of a source in memory does.
use Rattle.std.specs.Prelude.{◌≡◌, ◌==◌, ℕ, true, false, ◌<◌, ◌++◌, List, take, drop, length, min, Contains, Result, Ok, Err, if◌then◌else◌}
use Rattle.srx_edge.specs.Edge.{next_count}
use Rattle.srx_edge.specs.Fakes.{SourceState, SureSourceState}
use Rattle.srx_edge.specs.declared.input.Failed.{Failed}

-- the next read fails
abbrev pub FailsNext : SourceState → Type 0
FailsNext source = Contains source.fails (next_count source.calls)

-- the count of reads that found the end, after a read of so many bytes
abbrev pub ends_after : ℕ → ℕ → ℕ
ends_after count ends = if count == 0 then next_count ends else ends

-- the source after a read of so many bytes; one into an empty slice isn't counted
abbrev pub after_read : ℕ → ℕ → SourceState → SourceState
after_read room count source = if room == 0 then source else record source {
  left = drop count source.left;
  calls = next_count source.calls;
  ends = ends_after count source.ends;
  stopped = false;
}

-- the source after a read that failed
abbrev pub after_fault : SourceState → SourceState
after_fault source = record source { calls = next_count source.calls; faults = next_count source.faults; stopped = true }

-- a read takes as many bytes as there are and fit
abbrev pub TakesAll : ℕ → List ℕ → List ℕ → List ℕ → Type 0
TakesAll count left into filled = (count ≡ min (length into) (length left)) × (filled ≡ take count left ++ drop count into)

-- a read takes what there is and fits, unless it is one of those that fail
abbrev pub MemReads : Result ℕ Failed → List ℕ → List ℕ → SourceState → SourceState → Type 0
MemReads (Ok count) into filled old new =
    TakesAll count old.left into filled × (new ≡ after_read (length into) count old) × (0 < length into → ¬ FailsNext old)
MemReads (Err fault) into filled old new = (0 < length into) × FailsNext old × (filled ≡ into) × (new ≡ after_fault old)

-- the sure source after a read of so many bytes
abbrev pub after_sure_read : ℕ → ℕ → SureSourceState → SureSourceState
after_sure_read room count source =
    if room == 0 then source else record { left = drop count source.left; ends = ends_after count source.ends }

-- a read of a sure source takes what there is and fits
abbrev pub SurelyReads : Result ℕ Failed → List ℕ → List ℕ → SureSourceState → SureSourceState → Type 0
SurelyReads (Ok count) into filled old new = TakesAll count old.left into filled × (new ≡ after_sure_read (length into) count old)
SurelyReads (Err fault) into filled old new = ⊥
