-- Machines that go on by moves: their walks under choices, and their walks along steps without any choice.
use Rattle.std.specs.Prelude.{ℕ, zero, suc, Bool, if◌then◌else◌, List, [], ◌∷◌, ◌++◌, Option, Some, None}
use Rattle.std.specs.List.{list_all}
use Rattle.std.specs.Option.{option_map, option_and_then}

-- what a trace speaks of, and which steps it meets: the event of a link that is crossed, and whether an event meets a step
pub record Events (L E T : Type 0) : Type 0 where
  pub crossed : L → E
  pub meets : T → E → Bool

-- a link lies in a step
abbrev pub is_in : {L E T : Type 0} → Events L E T → T → L → Bool
is_in events t link = events.meets t (events.crossed link)

-- each of the links lies in the step
abbrev pub all_in : {L E T : Type 0} → Events L E T → T → List L → Bool
all_in events t links = list_all (is_in events t) links

-- the steps that are left after one event, which has to meet the first of them
abbrev pub advance : {L E T : Type 0} → Events L E T → List T → E → Option (List T)
advance events [] e = None
advance events (t ∷ ts) e = if events.meets t e then Some ts else None

-- and after events, one after the other
abbrev pub left_by : {L E T : Type 0} → Events L E T → List T → List E → Option (List T)
left_by events ts [] = Some ts
left_by events ts (e ∷ es) = option_and_then (λ us. left_by events us es) (advance events ts e)

-- what a machine does in a state: it takes a link of a set, which is not empty and is told as its first link and the others, and is
-- where that link leads, if it leads anywhere; or it goes on with events and SIDs that it notes, without a choice; or it is done, with
-- events, SIDs and a result; or it fails
pub data Move (L E N S R : Type 0) : Type 0 where
  Fork : L → List L → (L → Option S) → Move L E N S R
  Go : List E → List N → S → Move L E N S R
  Done : List E → List N → R → Move L E N S R
  Fail : Move L E N S R

-- ---- along steps, without choices

-- how a walk along steps ended: the steps left, the SIDs that it noted, and its result
pub record End (T N R : Type 0) : Type 0 where
  pub left : List T
  pub sids : List N
  pub result : R

abbrev pub end_after : {T N R : Type 0} → List N → End T N R → End T N R
end_after sids e = record { left = e.left; sids = sids ++ e.sids; result = e.result }

abbrev pub end_with : {T N R : Type 0} → List N → R → List T → End T N R
end_with sids result left = record { left = left; sids = sids; result = result }

-- over a set of links: each of them has to lie in the first step left, and the walk goes on from where the first link leads
abbrev pub end_over : {L E N T S R : Type 0} → Events L E T → (List T → S → Option (End T N R)) → L → List L → (L → Option S) → List T
    → Option (End T N R)
end_over events go first rest to [] = None
end_over events go first rest to (t ∷ ts) = if all_in events t (first ∷ rest) then option_and_then (go ts) (to first) else None

abbrev pub end_by : {L E N T S R : Type 0} → Events L E T → (List T → S → Option (End T N R)) → Move L E N S R → List T → Option (End T N R)
end_by events go (Fork first rest to) ts = end_over events go first rest to ts
end_by events go (Go told sids next) ts = option_map (end_after sids) (option_and_then (λ us. go us next) (left_by events ts told))
end_by events go (Done told sids result) ts = option_map (end_with sids result) (left_by events ts told)
end_by events go Fail ts = None

-- the walk of at most so many moves from a state along a beginning of the steps, if it is done then
unfoldable pub end_of : {L E N T S R : Type 0} → Events L E T → (S → Move L E N S R) → ℕ → List T → S → Option (End T N R)
end_of events move zero ts s = None
end_of events move (suc more) ts s = end_by events (end_of events move more) (move s) ts
