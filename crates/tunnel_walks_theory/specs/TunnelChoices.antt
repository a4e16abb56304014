-- Need not be believed: helps proofs and other laws.
-- Walks for all choices, and the one walk without any.
use Rattle.std.specs.Prelude.{◌≡◌, ℕ, ◌%◌, ◌<◌, List, length, slice_index, Some}
use Rattle.binding_spec.specs.Machines.{Events, Move, End, end_of, left_by}
use Rattle.tunnel_walks_theory.specs.MachinesTerms.{Got, got_of}

-- a list of choices, which begins anew at its end
abbrev pub choice_at : List ℕ → ℕ → ℕ
choice_at choices d = slice_index choices (d % length choices)

-- under a row of choices the machine is done somewhere along some beginning of the steps
pub record Reaches {L E N T S R : Type 0} (events : Events L E T) (move : S → Move L E N S R) (ts : List T) (s : S) (pick : ℕ → ℕ)
    : Type 0 where
  pub fuel : ℕ
  pub got : Got E N R
  pub left : List T
  pub gives : got_of events move fuel s pick 0 ≡ Some got
  pub along : left_by events ts got.trace ≡ Some left

-- under every row of choices, each with an end of its own; and under every list of choices
abbrev pub ForAllRows : {L E N T S R : Type 0} → Events L E T → (S → Move L E N S R) → List T → S → Type 0
ForAllRows events move ts s = (pick : ℕ → ℕ) → Reaches events move ts s pick

abbrev pub ForAllChoices : {L E N T S R : Type 0} → Events L E T → (S → Move L E N S R) → List T → S → Type 0
ForAllChoices events move ts s = (choices : List ℕ) → 0 < length choices → Reaches events move ts s (choice_at choices)

-- the machine is done along a beginning of the steps, whichever link of a set is taken
pub record OneWalk {L E N T S R : Type 0} (events : Events L E T) (move : S → Move L E N S R) (ts : List T) (s : S) : Type 0 where
  pub fuel : ℕ
  pub end : End T N R
  pub gives : end_of events move fuel ts s ≡ Some end

-- with a given end
abbrev pub EndsWith : {L E N T S R : Type 0} → Events L E T → (S → Move L E N S R) → List T → S → End T N R → Type 0
EndsWith events move ts s end = (fuel : ℕ) × (end_of events move fuel ts s ≡ Some end)

-- a walk under choices ended as the one walk did
pub record SameEnd {L E N T S R : Type 0} {events : Events L E T} {move : S → Move L E N S R} {ts : List T} {s : S} {pick : ℕ → ℕ}
    (end : End T N R) (r : Reaches events move ts s pick) : Type 0 where
  pub left : r.left ≡ end.left
  pub sids : r.got.sids ≡ end.sids
  pub result : r.got.result ≡ end.result
