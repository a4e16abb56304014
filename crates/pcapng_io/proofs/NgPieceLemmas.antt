-- What a reader that is fed a file in pieces gives.
use Rattle.std.proofs.Common.{◌≡◌, ◌≤◌, ◌+◌, ◌==◌, true, ℕ, List, [], ◌∷◌, length, add-zero, sym, ap, ◌∙◌, subst}
use Rattle.std.proofs.lemmas.Bool.{eqb-true}
use Rattle.std.proofs.lemmas.List.{append-nil, nil_from_length}
use Rattle.pcap_io.specs.declared.frame.Frame.{Frame}
use Rattle.pcap_io.specs.declared.numbers.TheConstants.{MAX_FRAMES}
use Rattle.pcapng_io.specs.declared.end.NgEnd.{NgEnd}
use Rattle.pcapng_io.specs.NgReading.{NgReading, end_at, ended}
use Rattle.pcapng_io.specs.NgReadingTerms.{AreFrom}
use Rattle.pcapng_io.specs.Taking.{Given, IsDone, NgSeen, coming, coming_with}
use Rattle.pcapng_io.specs.NgPieces.{GivesFrame, NgComing, coming_of}
use Rattle.pcapng_io.proofs.FrameNumbers.{numbered_coming}
use Rattle.pcapng_io.proofs.NgSteps.{reading_ends}

-- a frame that was taken is the next of a file
pub took_frame : (old new : NgSeen) (frame : Frame) (bytes : List ℕ) → Given old new (frame ∷ []) → new.place.packets ≤ MAX_FRAMES
    → GivesFrame (coming_of old bytes) frame (coming_of new bytes)
took_frame old new frame bytes given few = record {
  front = given.comes bytes;
  number = (subst (λ (read : NgReading). AreFrom (old.place.packets + 1) read.frames) (given.comes bytes) (numbered_coming old bytes)).0;
  taken = given.packets;
  few = few;
}

-- where none is there yet, the same will come
pub took_none : (old new : NgSeen) (bytes : List ℕ) → Given old new [] → coming_of old bytes ≡ coming_of new bytes
took_none old new bytes given =
    ap (λ (read : NgReading). let c : NgComing = record { reading = read; taken = old.place.packets } in c) (given.comes bytes)
    ∙ ap (λ (n : ℕ). let c : NgComing = record { reading = coming new bytes; taken = n } in c)
    (sym (given.packets ∙ add-zero old.place.packets))

-- where all is fed and none is there, the file ends
pub took_all : (r : NgSeen) → IsDone r → (coming_of r []).reading ≡ ended (end_at r.place r.rest)
took_all r done =
    ap (coming_with r.fault r.place) (append-nil r.rest)
    ∙ ap (λ fault. coming_with fault r.place r.rest) done.0
    ∙ reading_ends r.place r.rest (end_at r.place r.rest) done.1

pub all_fed : (first old new : NgSeen) (bytes more : List ℕ) (end : NgEnd) → coming_of first bytes ≡ coming_of old more
    → Given old new [] × IsDone new → (length more == 0) ≡ true → end ≡ end_at new.place new.rest
    → coming first bytes ≡ ended end
all_fed first old new bytes more end same took none is =
    let empty = nil_from_length more (eqb-true (length more) 0 none) in
    ap (λ (c : NgComing). c.reading) (same ∙ took_none old new more took.0)
    ∙ ap (coming new) empty
    ∙ took_all new took.1
    ∙ ap ended (sym is)
