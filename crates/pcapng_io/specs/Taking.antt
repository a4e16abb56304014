-- Need not be believed: helps proofs and other laws.
-- What is seen of a reader, and what its calls give.
use Rattle.std.specs.Prelude.{◌≡◌, ℕ, ◌+◌, List, [], ◌∷◌, ◌++◌, length, Option, Some, None, Result, Ok, Err}
use Rattle.pcap_io.specs.declared.frame.Frame.{Frame}
use Rattle.pcapng_io.specs.declared.fault.NgFault.{NgFault}
use Rattle.pcapng_io.specs.declared.fault.NgFault.TheVariants as ng
use Rattle.pcapng_io.specs.declared.end.NgEnd.TheVariants.{Faulty}
use Rattle.pcapng_io.specs.NgReading.{NgPlace, start, NgReading, Ends, end_at, step, with_front, ended, reading}

-- a reader: how many bytes were fed, those of them that no block has taken, what the blocks before say, and the fault met
pub record NgSeen : Type 0 where
  pub fed : ℕ
  pub rest : List ℕ
  pub place : NgPlace
  pub fault : Option NgFault

abbrev pub fresh : NgSeen
fresh = record { fed = 0; rest = []; place = start; fault = None }

abbrev pub after_feed : NgSeen → List ℕ → NgSeen
after_feed r piece = record { fed = r.fed + length piece; rest = r.rest ++ piece; place = r.place; fault = r.fault }

abbrev pub coming_with : Option NgFault → NgPlace → List ℕ → NgReading
coming_with (Some fault) place bytes = ended (Faulty fault)
coming_with None place bytes = reading place bytes

-- the frames and the end that come of a reader when these bytes are fed and no more
abbrev pub coming : NgSeen → List ℕ → NgReading
coming r more = coming_with r.fault r.place (r.rest ++ more)

-- Frames were taken: whatever else is fed, they come first of what came, and the rest comes as it did.
pub record Given (old new : NgSeen) (frames : List Frame) : Type 0 where
  pub fed : new.fed ≡ old.fed
  pub fault : new.fault ≡ old.fault
  pub packets : new.place.packets ≡ old.place.packets + length frames
  pub comes : (more : List ℕ) → coming old more ≡ with_front frames (coming new more)

-- no further whole block is there, and no fault
abbrev pub IsDone : NgSeen → Type 0
IsDone r = (r.fault ≡ None) × (step r.place r.rest ≡ Ends (end_at r.place r.rest))

-- A fault comes, whatever else is fed, before any frame; it is kept.
pub record Refused (old new : NgSeen) (fault : NgFault) : Type 0 where
  pub fed : new.fed ≡ old.fed
  pub met : new.fault ≡ Some fault
  pub comes : (more : List ℕ) → coming old more ≡ ended (Faulty fault)

-- one claim for want of memory, another for a fault of the bytes
abbrev pub ByFault : NgFault → Type 0 → Type 0 → Type 0
ByFault ng.NoMemory want fault = want
ByFault (ng.NgMagic n) want fault = fault
ByFault (ng.NgBlock n) want fault = fault
ByFault (ng.NgVersion n) want fault = fault
ByFault (ng.NgOldBlock n) want fault = fault
ByFault (ng.NgInterface n) want fault = fault
ByFault ng.FrameLimit want fault = fault

-- What `take` gives, and what it leaves.
abbrev pub Takes : NgSeen → NgSeen → Result (Option Frame) NgFault → Type 0
Takes old new (Ok (Some frame)) = Given old new (frame ∷ [])
Takes old new (Ok None) = Given old new [] × IsDone new
Takes old new (Err fault) = ByFault fault (new ≡ old) (Refused old new fault)
