-- Need not be believed: helps proofs and other laws.
-- Terms beside those of `binding_spec/specs/Machines.antt`.
use Rattle.std.specs.Prelude.{◌≡◌, ℕ, zero, suc, ◌%◌, IsTrue, List, [], ◌∷◌, ◌++◌, length, Option, Some, None}
use Rattle.std.specs.List.{AllByRecursion}
use Rattle.std.specs.Option.{option_map, option_and_then}
use Rattle.binding_spec.specs.Machines.{Events, is_in, Move, Fork, Go, Done, Fail}

-- ---- under choices

-- a link of a set by its place, counted from 0; the last one where there are fewer
abbrev pub link_at : {L : Type 0} → L → List L → ℕ → L
link_at first rest zero = first
link_at first [] (suc n) = first
link_at first (next ∷ rest) (suc n) = link_at next rest n

-- the link of a set that a choice names
abbrev pub link_of : {L : Type 0} → L → List L → ℕ → L
link_of first rest choice = link_at first rest (choice % suc (length rest))

-- what a walk under choices gave: its events, the SIDs that it noted, and its result
pub record Got (E N R : Type 0) : Type 0 where
  pub trace : List E
  pub sids : List N
  pub result : R

abbrev pub got_after : {E N R : Type 0} → List E → List N → Got E N R → Got E N R
got_after events sids g = record { trace = events ++ g.trace; sids = sids ++ g.sids; result = g.result }

-- a walk goes on from a state under a row of choices, of which so many were taken before
abbrev pub Walking : (E N S R : Type 0) → Type 0
Walking E N S R = S → (ℕ → ℕ) → ℕ → Option (Got E N R)

abbrev pub got_over : {L E N T S R : Type 0} → Events L E T → Walking E N S R → (L → Option S) → L → (ℕ → ℕ) → ℕ → Option (Got E N R)
got_over events go to link pick taken =
    option_map (got_after (events.crossed link ∷ []) []) (option_and_then (λ next. go next pick (suc taken)) (to link))

abbrev pub got_by : {L E N T S R : Type 0} → Events L E T → Walking E N S R → Move L E N S R → (ℕ → ℕ) → ℕ → Option (Got E N R)
got_by events go (Fork first rest to) pick taken = got_over events go to (link_of first rest (pick taken)) pick taken
got_by events go (Go told sids next) pick taken = option_map (got_after told sids) (go next pick taken)
got_by events go (Done told sids result) pick taken = Some (record { trace = told; sids = sids; result = result })
got_by events go Fail pick taken = None

-- the walk of at most so many moves from a state, under a row of choices of which so many were taken before, if it is done then
unfoldable pub got_of : {L E N T S R : Type 0} → Events L E T → (S → Move L E N S R) → ℕ → S → (ℕ → ℕ) → ℕ → Option (Got E N R)
got_of events move zero s pick taken = None
got_of events move (suc more) s pick taken = got_by events (got_of events move more) (move s) pick taken

-- ---- joined links

-- the links of a set that lie in a step lead to one next state
abbrev pub LeadsOn : {L E N T S R : Type 0} → Events L E T → T → Move L E N S R → Type 0
LeadsOn events t (Fork first rest to) = (k l : _) → IsTrue (is_in events t k) → IsTrue (is_in events t l) → to k ≡ to l
LeadsOn events t (Go told sids next) = Unit {0}
LeadsOn events t (Done told sids result) = Unit {0}
LeadsOn events t Fail = Unit {0}

abbrev pub Joined : {L E N T S R : Type 0} → Events L E T → (S → Move L E N S R) → T → Type 0
Joined events move t = (s : _) → LeadsOn events t (move s)

-- so it is for each of the steps
abbrev pub AllJoined : {L E N T S R : Type 0} → Events L E T → (S → Move L E N S R) → List T → Type 0
AllJoined events move ts = AllByRecursion (Joined events move) ts
