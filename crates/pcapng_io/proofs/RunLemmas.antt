-- The calls of a reader give what all bytes at once come to.
use Rattle.std.proofs.Common.{◌≡◌, ℕ, List, [], ◌∷◌, ◌++◌, sym, ap, ◌∙◌}
use Rattle.std.proofs.lemmas.List.{append_assoc, append-nil}
use Rattle.pcapng_io.specs.declared.fault.NgFault.{NgFault}
use Rattle.pcapng_io.specs.declared.end.NgEnd.TheVariants.{Faulty}
use Rattle.pcapng_io.specs.NgReading.{NgReading, end_at, with_front, ng_capture_of}
use Rattle.pcapng_io.specs.Taking.{NgSeen, fresh, after_feed, coming_with, coming, IsDone, Refused}
use Rattle.pcapng_io.specs.Runs.{NgCall, Fed, Took, Waited, Runs, bytes_fed, frames_taken}
use Rattle.pcapng_io.proofs.NgSteps.{reading_ends}

pub feed_coming : (r : NgSeen) (piece more : List ℕ) → coming r (piece ++ more) ≡ coming (after_feed r piece) more
feed_coming r piece more = ap (coming_with r.fault r.place) (sym (append_assoc r.rest piece more))

abbrev GoesOn : NgSeen → List NgCall → NgSeen → Type 0
GoesOn old calls new =
    (more : List ℕ) → coming old (bytes_fed calls ++ more) ≡ with_front (frames_taken calls) (coming new more)

pub runs_coming : (old new : NgSeen) (calls : List NgCall) → Runs old calls new → GoesOn old calls new
runs_coming old new [] runs more = ap (λ r. coming r more) runs
runs_coming old new (Fed piece ∷ calls) runs more =
    ap (coming old) (append_assoc piece (bytes_fed calls) more)
    ∙ feed_coming old piece (bytes_fed calls ++ more)
    ∙ ap (λ r. coming r (bytes_fed calls ++ more)) (sym runs.1.0)
    ∙ runs_coming runs.0 new calls runs.1.1 more
runs_coming old new (Took frame ∷ calls) runs more =
    runs.1.0.comes (bytes_fed calls ++ more)
    ∙ ap (with_front (frame ∷ [])) (runs_coming runs.0 new calls runs.1.1 more)
runs_coming old new (Waited ∷ calls) runs more =
    runs.1.0.0.comes (bytes_fed calls ++ more) ∙ runs_coming runs.0 new calls runs.1.1 more

-- what was taken comes first of what all bytes come to
pub runs_told : (r : NgSeen) (calls : List NgCall) (more : List ℕ) → Runs fresh calls r
    → ng_capture_of (bytes_fed calls ++ more) ≡ with_front (frames_taken calls) (coming r more)
runs_told r calls more runs = runs_coming fresh r calls runs more

-- where nothing more is fed, it is all
pub runs_done : (r : NgSeen) (calls : List NgCall) → Runs fresh calls r → IsDone r
    → ng_capture_of (bytes_fed calls) ≡ record { frames = frames_taken calls; end = end_at r.place r.rest }
runs_done r calls runs done =
    ap ng_capture_of (sym (append-nil (bytes_fed calls)))
    ∙ runs_told r calls [] runs
    ∙ ap (λ bytes. with_front (frames_taken calls) (coming_with r.fault r.place bytes)) (append-nil r.rest)
    ∙ ap (λ fault. with_front (frames_taken calls) (coming_with fault r.place r.rest)) done.0
    ∙ ap (with_front (frames_taken calls)) (reading_ends r.place r.rest (end_at r.place r.rest) done.1)
    ∙ ap (λ frames. let made : NgReading = record { frames = frames; end = end_at r.place r.rest } in made)
    (append-nil (frames_taken calls))

-- where a fault comes, it is the end, whatever is fed later
pub runs_refused : (old new : NgSeen) (calls : List NgCall) (more : List ℕ) (fault : NgFault) → Runs fresh calls old → Refused old new fault
    → ng_capture_of (bytes_fed calls ++ more) ≡ record { frames = frames_taken calls; end = Faulty fault }
runs_refused old new calls more fault runs refused =
    runs_told old calls more runs
    ∙ ap (with_front (frames_taken calls)) (refused.comes more)
    ∙ ap (λ frames. let made : NgReading = record { frames = frames; end = Faulty fault } in made) (append-nil (frames_taken calls))
