-- Need not be believed: helps proofs and other laws.
-- The frames of a file that stands in memory whole, one by one.
use Rattle.std.specs.Prelude.{◌≡◌, ℕ, ◌+◌, ◌≤◌, ◌<◌, List, [], ◌∷◌, length, Result, Ok, Err, ⊤}
use Rattle.base.specs.declared.no_memory.NoMemory.{NoMemory}
use Rattle.pcap_io.specs.declared.frame.Frame.{Frame}
use Rattle.pcap_io.specs.declared.numbers.TheConstants.{MAX_FRAMES}
use Rattle.pcapng_io.specs.declared.end.NgEnd.TheVariants.{Faulty}
use Rattle.pcapng_io.specs.declared.fault.NgFault.{NgFault}
use Rattle.pcapng_io.specs.declared.fault.NgFault.TheVariants as ng
use Rattle.pcapng_io.specs.declared.numbers.TheConstants.{MAX_INPUT}
use Rattle.pcapng_io.specs.declared.ng_pieces.Feeding.{Feeding}
use Rattle.pcapng_io.specs.declared.ng_pieces.NgNext.{NgNext}
use Rattle.pcapng_io.specs.declared.ng_pieces.NgNext.TheVariants as nexts
use Rattle.pcapng_io.specs.NgReading.{NgReading, with_front, ended}
use Rattle.pcapng_io.specs.Taking.{NgSeen, coming}

-- the frames that will come and how they end, and how many came
pub record NgComing : Type 0 where
  pub reading : NgReading
  pub taken : ℕ

-- before the first
abbrev pub all_of : NgReading → NgComing
all_of reading = record { reading = reading; taken = 0 }

-- what will come of a reader that is fed these bytes and no more
abbrev pub coming_of : NgSeen → List ℕ → NgComing
coming_of r more = record { reading = coming r more; taken = r.place.packets }

-- one more frame came: the first of those that were to come, with the next number
pub record GivesFrame (old : NgComing) (frame : Frame) (new : NgComing) : Type 0 where
  pub front : old.reading ≡ with_front (frame ∷ []) new.reading
  pub number : frame.number ≡ old.taken + 1
  pub taken : new.taken ≡ old.taken + 1
  pub few : new.taken ≤ MAX_FRAMES

-- what `next` gives: a frame, or that none is left
abbrev pub NextOf : NgComing → Result NgNext NoMemory → NgComing → Type 0
NextOf old (Ok (nexts.Frame frame)) new = GivesFrame old frame new
NextOf old (Ok (nexts.End end)) new = old.reading ≡ ended end
NextOf old (Err want) new = ⊤

-- a reader is fed no more than it may be
abbrev pub IsWithin : Feeding → Type 0
IsWithin f = f.reader.fed + length f.more.now ≤ MAX_INPUT

-- a piece was fed, and the same frames will come
pub record Feeds (old new : Feeding) : Type 0 where
  pub same : coming_of old.reader old.more.now ≡ coming_of new.reader new.more.now
  pub less : 0 < length old.more.now → length new.more.now < length old.more.now

-- a fault is the end, but want of memory is none
abbrev pub EndsAt : NgFault → Result NgNext NoMemory → Type 0
EndsAt fault (Ok (nexts.Frame frame)) = ⊥
EndsAt fault (Ok (nexts.End end)) = (end ≡ Faulty fault) × (fault ≡ ng.NoMemory → ⊥)
EndsAt fault (Err want) = fault ≡ ng.NoMemory
